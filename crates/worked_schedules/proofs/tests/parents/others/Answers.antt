use Rattle.std.proofs.Common.{◌≡◌, ◌+◌, ◌++◌, ◌∷◌, [], add-one, sym, ap, ◌∙◌, arith}
use Rattle.std.specs.List.{range_with_len}
use Rattle.std.proofs.lemmas.Grind.{common_steps}
use Rattle.cost_graph.proofs.Ranges.{range_push}
use Rattle.worked_schedules.proofs.tests.parents.others.Goals as goal

pub loop-k-preserved : goal.loop-k-preserved
loop-k-preserved c =
    let k = c.loop-k.k in
    let next : c.push-in-loop-k.new.self.items ≡ c.loop-k.numbers.items ++ (2 + k) ∷ [] = grind (arith, common_steps, c.in_ok-push-2.ensures.items) in
    let more : range_with_len 2 (k + 1) ≡ range_with_len 2 k ++ (2 + k) ∷ [] = rw add-one (range_push 2 k) in
    next ∙ ap (λ l. l ++ (2 + k) ∷ []) c.loop-k.invariant ∙ ap (λ l. 0 ∷ l) (sym more)
