use Rattle.std.proofs.Common.{map}
use Rattle.inputs_text.specs.PathText.{Pairwise}
use Rattle.prompt_checker.specs.Inside.Looks.{IsLook}
use Rattle.prompt_checker.proofs.reader.look_up_all.Given as goal

abbrev pub invariant-loop-word : goal.invariant-loop-word
invariant-loop-word l = Pairwise (IsLook l.graph) (map (λ x. x.now) l.yielded) l.looks.items
