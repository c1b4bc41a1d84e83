use Rattle.std.proofs.Common.{◌≡◌, take}
use Rattle.priml_syntax.specs.Inputs.{read_lists}
use Rattle.priml_syntax.proofs.inputs.copies.Given as goal

abbrev pub invariant-loop-path : goal.invariant-loop-path
invariant-loop-path l = read_lists l.all.items ≡ read_lists (take l.path-index l.lists)
