use Rattle.std.proofs.Common.{◌≡◌, ◌↔◌, ℕ, List, Bool, ap, sym, ◌∙◌, subst}
use Rattle.std.specs.Prelude.{IsTrue}
use Rattle.std.specs.List.{list_all, Contains}
use Rattle.cost_graph.specs.Graph.{Edge}
use Rattle.cost_graph.specs.Marks.{is_marked}
use Rattle.cost_graph.specs.Inside.Marks.{is_free}
use Rattle.cost_graph.specs.Frontier.{Progress}
use Rattle.cost_graph.proofs.Visits.{parents_below}
use Rattle.cost_graph.proofs.ReadyNext.{free_parent, free_from}
use Rattle.cost_graph.proofs.frontier.Frontier.parents_have_run.Goals as goal

pub are_marked-requires : goal.are_marked-requires
are_marked-requires c = rw (c.parents_of.ensures, c.deref.ensures.value, c.self.invariant.done.size) (parents_below c.self.inside.graph.now c.args.vertex c.vertex_count-count.ensures.kept)

pub returns : goal.returns
returns c =
    let g = c.self.inside.graph.now in
    let marks = c.self.inside.marks.items in
    let v = c.args.vertex in
    let said : c.are_marked.result ≡ is_free g marks v =
    c.are_marked.ensures ∙ ap (λ (m : List Bool). list_all (is_marked m) c.parents_of.result.now) c.deref.ensures.value ∙ ap (list_all (is_marked marks)) c.parents_of.ensures in
    subst (λ (p : Progress). IsTrue c.are_marked.result ↔ ((u : ℕ) → Edge p.graph u v → Contains p.ran u)) c.self.view_is (
      λ yes u e. (c.self.invariant.done.agree u).0 (free_parent g marks v u (sym said ∙ yes) e),
      λ h. said ∙ free_from g marks v (λ u e. (c.self.invariant.done.agree u).1 (h u e)),
    )
