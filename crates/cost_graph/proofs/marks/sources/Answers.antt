use Rattle.std.proofs.Common.{◌≡◌, ◌==◌, ◌++◌, ◌∷◌, [], ℕ, length, List, Bool, arith, sym, ap, ◌∙◌, true, false}
use Rattle.std.specs.List.{filter, range_with_len}
use Rattle.std.proofs.lemmas.Grind.{common_steps}
use Rattle.std.proofs.lemmas.List.{append-nil}
use Rattle.std.proofs.lemmas.Bool.{cond-true, cond-false}
use Rattle.cost_graph.specs.Graph.{parents_at}
use Rattle.cost_graph.proofs.Ranges.{filter_range_more}
use Rattle.cost_graph.proofs.marks.sources.Goals as goal
use Rattle.cost_graph.proofs.marks.sources.Goals.{then-is_empty+in_ok-push, else-is_empty}

pub loop-vertex-preserved : goal.loop-vertex-preserved
loop-vertex-preserved c =
    let p : ℕ → Bool = λ v. length (parents_at c.args.graph.now v) == 0 in
    let n = c.loop-vertex.vertex in
    let said : c.is_empty.result ≡ p n = c.is_empty.ensures ∙ ap (λ (l : List ℕ). length l == 0) c.parents_of.ensures in
    let now = c.loop-vertex.invariant in
    elim c.if-is_empty.branch [
      | then-is_empty+in_ok-push w ↦
          let yes' : p n ≡ true = sym said ∙ w.if-is_empty.true in
          let next : c.if-is_empty.found.items ≡ c.loop-vertex.found.items ++ n ∷ [] = grind (arith, common_steps, w.in_ok-push.ensures.items, w.found-is) in
          next ∙ ap (λ l. l ++ n ∷ []) now ∙ ap (λ l. filter p (range_with_len 0 n) ++ l) (sym (cond-true (p n) (n ∷ []) [] yes')) ∙ sym (filter_range_more p n)
      | else-is_empty w ↦
          let no' : p n ≡ false = sym said ∙ w.if-is_empty.false in
          ap (λ f. f.items) w.found-is ∙ now ∙ sym (append-nil (filter p (range_with_len 0 n))) ∙ ap (λ l. filter p (range_with_len 0 n) ++ l) (sym (cond-false (p n) (n ∷ []) [] no')) ∙ sym (filter_range_more p n)
    ]
