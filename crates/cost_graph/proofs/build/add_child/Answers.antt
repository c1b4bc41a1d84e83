use Rattle.std.proofs.Common.{◌≡◌, ℕ, ◌<◌, ◌++◌, ◌∷◌, List, [], length, get_or, set, sym, ap, ◌∙◌, arith}
use Rattle.std.proofs.lemmas.List.{length-set}
use Rattle.cost_graph.specs.View.{short_lists}
use Rattle.cost_graph.proofs.Grown.{added_on, short_at, short_set, short_length}
use Rattle.cost_graph.proofs.build.add_child.Goals as goal

pub loop-parent-preserved : goal.loop-parent-preserved
loop-parent-preserved c =
    let ps = c.args.parents.now.items in
    let i = c.loop-parent.parent-index in
    let same = c.deref-parent-items.ensures.value in
    let p = get_or ps i 0 in
    let at : get_or c.deref-parent-items.result.now i 0 ≡ p = ap (λ (l : List ℕ). get_or l i 0) same in
    let lt : i < length ps = omega (arith, c.loop-parent-test.true, ap length same) in
    let now = c.loop-parent.children.items in
    let in_old : p < length c.args.children.now.items = c.requires.within i 0 lt in
    let in_now : p < length now = omega (arith, in_old, c.loop-parent.invariant.long) in
    let long = short_length now in
    let inside : p < length (short_lists now) = omega (arith, in_now, long) in
    let before : get_or (short_lists now) p [] ≡ c.index_mut.result.now.items = short_at now p c.index_mut.result.now in_now (c.index_mut.ensures.value ∙ ap (λ k. get_or now k c.index_mut.result.now) at) in
    let pushed : c.push.new.self.items ≡ get_or (short_lists now) p [] ++ c.args.v ∷ [] = c.in_ok-push.ensures.ok ∙ ap (λ l. l ++ c.args.v ∷ []) (sym before) in
    rw at (record {
      long = length-set now p c.push.new.self ∙ c.loop-parent.invariant.long;
      added = added_on (short_lists c.args.children.now.items) (short_lists now) (short_lists (set now p c.push.new.self)) ps i c.args.v c.requires.rising lt inside c.loop-parent.invariant.added
          (short_set now p c.push.new.self ∙ ap (set (short_lists now) p) pushed);
    })
