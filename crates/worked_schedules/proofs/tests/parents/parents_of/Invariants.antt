use Rattle.std.proofs.Common.{◌≡◌, [], ◌∷◌, replicate}
use Rattle.std.specs.List.{range_with_len}
use Rattle.prompt_checker.specs.Read.{lists}
use Rattle.worked_schedules.proofs.tests.parents.parents_of.Given as goal

abbrev pub invariant-loop : goal.invariant-loop
invariant-loop l = lists l.parents.items ≡ [] ∷ (0 ∷ range_with_len 2 l.children) ∷ replicate l.counter (0 ∷ [])
