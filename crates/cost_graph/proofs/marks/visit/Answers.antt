use Rattle.std.proofs.Common.{arith, ◌≡◌, ℕ, ◌<◌, ◌≤◌, length, get_or, [], List, ◌++◌, ◌∷◌, true, false, set, subst, sym, ap, ◌∙◌}
use Rattle.std.proofs.lemmas.Grind.{common_steps}
use Rattle.cost_graph.specs.Graph.{CostGraph, vertex_total, parents_at, children_at}
use Rattle.cost_graph.specs.Marks.{is_marked}
use Rattle.cost_graph.specs.Inside.Marks.{is_free}
use Rattle.cost_graph.proofs.Visits.{children_below, parents_below, free_at_end, not_free_before, seen_on, freed_yes, freed_no}
use Rattle.cost_graph.proofs.marks.visit.Goals as goal
use Rattle.cost_graph.proofs.marks.visit.Goals.{then-front-parents, else-front-parents}

-- the child of a turn is a vertex
child_in : (g : CostGraph) (u k : ℕ) (xs : List ℕ) → xs ≡ children_at g u → k < length xs → get_or xs k 0 < vertex_total g
child_in g u k xs e lt = subst (λ l. get_or l k 0 < vertex_total g) (sym e) (children_below g u k (subst (λ l. k < length l) e lt))

pub parents_of-parents-requires : goal.parents_of-parents-requires
parents_of-parents-requires c = child_in c.args.graph.now c.args.vertex c.loop-child.child-index c.children_of-child-items.result.now c.children_of-child-items.ensures (omega arith)

pub bounds-seen-child : goal.bounds-seen-child
bounds-seen-child c =
    let below = child_in c.args.graph.now c.args.vertex c.loop-child.child-index c.children_of-child-items.result.now c.children_of-child-items.ensures (omega arith) in
    omega (arith, below, c.loop-child.invariant.watched.seen_fit)

pub marked_front-front-requires-clause-within : goal.marked_front-front-requires-clause-within
marked_front-front-requires-clause-within c =
    rw (c.parents_of-parents.ensures, c.loop-child.invariant.watched.marks_fit) (parents_below c.args.graph.now (get_or c.children_of-child-items.result.now c.loop-child.child-index 0) c.vertex_count-count.ensures.kept)

pub bounds-seen-child-in-loop-child : goal.bounds-seen-child-in-loop-child
bounds-seen-child-in-loop-child c =
    let below = child_in c.args.graph.now c.args.vertex c.loop-child.child-index c.children_of-child-items.result.now c.children_of-child-items.ensures (omega arith) in
    omega (arith, below, c.loop-child.invariant.watched.seen_fit)

pub loop-child-preserved : goal.loop-child-preserved
loop-child-preserved c =
    let g = c.args.graph.now in
    let marks = set c.args.marks.now c.args.vertex true in
    let items = c.children_of-child-items.result.now in
    let child = get_or items c.loop-child.child-index 0 in
    let front = c.marked_front-front.result in
    let lt : c.loop-child.child-index < length items = omega arith in
    let below = child_in g c.args.vertex c.loop-child.child-index items c.children_of-child-items.ensures lt in
    let said = c.marked_front-front.ensures in
    let same = c.parents_of-parents.ensures in
    let known = subst (λ l. (k : ℕ) → k < front → is_marked marks (get_or l k 0) ≡ true) same said.marked in
    let fits = subst (λ l. front ≤ length l) same said.in_range in
    let watched = seen_on g marks c.loop-child.seen child front c.loop-child.invariant.watched below fits known in
    elim c.if-front-parents.branch [
      | then-front-parents w ↦
          let all = free_at_end g marks child front (w.if-front-parents.true ∙ ap length same) known in
          let next : c.if-front-parents.free.items ≡ c.loop-child.free.items ++ child ∷ [] = grind (arith, common_steps, w.push.ensures.items, w.free-is) in
          record {
            watched = watched;
            freed = freed_yes (is_free g marks) items c.loop-child.child-index c.args.free.now.items c.loop-child.free.items c.if-front-parents.free.items lt c.loop-child.invariant.freed all next;
            few = grind (arith, common_steps, w.push.ensures.upper_bound, w.free-is);
            capacity = grind (arith, common_steps, w.push.ensures.capacity, w.free-is);
          }
      | else-front-parents w ↦
          let less : front < length (parents_at g child) = omega (arith, fits, w.if-front-parents.false, ap length same) in
          let stops = subst (λ l. front < length l → is_marked marks (get_or l front 0) ≡ false) same said.stops less in
          let none = not_free_before g marks child front less stops in
          let still : c.if-front-parents.free.items ≡ c.loop-child.free.items = ap (λ f. f.items) w.free-is in
          record {
            watched = watched;
            freed = still ∙ freed_no (is_free g marks) items c.loop-child.child-index c.args.free.now.items c.loop-child.free.items lt c.loop-child.invariant.freed none;
            few = grind (arith, common_steps, w.free-is);
            capacity = grind (arith, common_steps, w.free-is);
          }
    ]
