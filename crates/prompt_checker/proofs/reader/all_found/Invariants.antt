use Rattle.std.proofs.Common.{◌≡◌, map, take, Some}
use Rattle.prompt_checker.proofs.reader.all_found.Given as goal

abbrev pub invariant-loop-look : goal.invariant-loop-look
invariant-loop-look l = take l.look-index l.looks.items ≡ map Some l.step.items
