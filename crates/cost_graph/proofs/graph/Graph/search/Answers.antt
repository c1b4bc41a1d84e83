use Rattle.std.proofs.Common.{rules}
use Rattle.std.specs.Ordering.{nat_cmp}
use Rattle.std.specs.Cmp.Lexicographic.{slice_cmp}
use Rattle.std.proofs.lemmas.Fn.{always_returns_same}
use Rattle.cost_graph.specs.declared.graph.Thread.{Thread}
use Rattle.cost_graph.proofs.Threads.{thread_found, thread_absent}
use Rattle.cost_graph.proofs.graph.Graph.search.Goals as goal

pub returns-clause-found : goal.returns-clause-found
returns-clause-found c =
    let facts = c.binary_search_by.ensures in
    let by_path = facts.position (λ (y : Thread). slice_cmp nat_cmp y.path c.args.path.now) (always_returns_same _ _ _ (λ a r g called. (search rules, search rules))) in
    rw (← c.self.view_is, ← c.deref.ensures.value) (thread_found _ c.args.path.now _ facts.bound by_path)

pub returns-clause-absent : goal.returns-clause-absent
returns-clause-absent c =
    let facts = c.binary_search_by.ensures in
    let by_path = facts.position (λ (y : Thread). slice_cmp nat_cmp y.path c.args.path.now) (always_returns_same _ _ _ (λ a r g called. (search rules, search rules))) in
    rw (← c.self.view_is, ← c.deref.ensures.value) (thread_absent _ c.args.path.now _ (rw c.deref.ensures.value c.self.invariant.graph.in_order) by_path)
