use Rattle.std.proofs.Common.{◌<◌, ◌++◌, ◌∷◌, [], length, get_or, cond, sym, ap, ◌∙◌, subst, arith}
use Rattle.std.specs.Prelude.{nat_eq}
use Rattle.std.specs.List.{list_any, Contains, filter, range_with_len}
use Rattle.std.specs.List.Sorted.{IsStrictlyIncreasing}
use Rattle.std.proofs.lemmas.List.Elements.{Contains-get_or}
use Rattle.cost_graph.specs.Graph.{is_edge}
use Rattle.cost_graph.specs.View.{lists}
use Rattle.cost_graph.proofs.Grown.{list_at}
use Rattle.cost_graph.proofs.Ranges.{filter_range_more}
use Rattle.cost_graph.proofs.build.turn.Goals as goal

pub add_child-requires-clause-within : goal.add_child-requires-clause-within
add_child-requires-clause-within c = λ k d lt.
    let ps = c.args.parents.now.items in
    let v = c.loop-v.v in
    let v_lt : v < length ps = omega (arith, c.loop-v-test.true, c.len-v-end.ensures) in
    let at = list_at ps v c.index.result.now v_lt c.index.ensures in
    let small = c.requires.ends (get_or c.index.result.now.items k d) v (subst (λ l. Contains l (get_or c.index.result.now.items k d)) (sym at) (Contains-get_or c.index.result.now.items k d lt)) in
    omega (arith, small, c.loop-v.invariant.long)

pub add_child-requires-clause-rising : goal.add_child-requires-clause-rising
add_child-requires-clause-rising c =
    let ps = c.args.parents.now.items in
    let v_lt : c.loop-v.v < length ps = omega (arith, c.loop-v-test.true, c.len-v-end.ensures) in
    subst IsStrictlyIncreasing (list_at ps c.loop-v.v c.index.result.now v_lt c.index.ensures) (c.requires.rising c.loop-v.v)

pub loop-v-preserved : goal.loop-v-preserved
loop-v-preserved c =
    let ps = c.args.parents.now.items in
    let v = c.loop-v.v in
    let v_lt : v < length ps = omega (arith, c.loop-v-test.true, c.len-v-end.ensures) in
    let at = list_at ps v c.index.result.now v_lt c.index.ensures in
    record {
      long = c.in_ok-add_child.ensures.long ∙ c.loop-v.invariant.long;
      are = λ u.
          c.in_ok-add_child.ensures.added u
          ∙ ap (λ l. l ++ cond (list_any (nat_eq u) c.index.result.now.items) (v ∷ []) []) (c.loop-v.invariant.are u)
          ∙ ap (λ l. filter (is_edge (record { threads = []; parents = lists ps }) u) (range_with_len 0 v) ++ cond (list_any (nat_eq u) l) (v ∷ []) []) (sym at)
          ∙ sym (filter_range_more (is_edge (record { threads = []; parents = lists ps }) u) v);
    }
