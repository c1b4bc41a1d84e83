use Rattle.std.proofs.Common.{◌≡◌, ◌++◌, ◌∷◌, [], sym, ap, ◌∙◌, arith}
use Rattle.std.proofs.lemmas.Grind.{common_steps}
use Rattle.std.proofs.lemmas.List.FromFn.{map-range_with_len_more}
use Rattle.worked_schedules.proofs.Gathered.{root, child}
use Rattle.worked_schedules.proofs.tests.parents.threads_of.Goals as goal

pub loop-k-preserved : goal.loop-k-preserved
loop-k-preserved c =
    let k = c.loop-k.k in
    let next : c.push-in-loop-k.new.self.items ≡ c.loop-k.threads.items ++ child k ∷ [] = grind (arith, common_steps, c.in_ok-push-2.ensures.items) in
    next ∙ ap (λ l. l ++ child k ∷ []) c.loop-k.invariant ∙ ap (λ l. root ∷ l) (sym (map-range_with_len_more child 0 k k (omega arith)))
