-- A flaw names vertices of the graph.
use Rattle.std.proofs.Common.{ℕ, ◌<◌, List, [], length, subst}
use Rattle.std.specs.List.{All}
use Rattle.cost_graph.specs.Graph.{CostGraph, vertex_total}
use Rattle.prompt_checker.specs.Schedule.{step_at}
use Rattle.prompt_checker.specs.Verdict.{IsFirstOf, StoodBefore, LacksParent, Overtakes, HasFlaw, IsVerdict}
use Rattle.prompt_checker.specs.declared.schedule.Flaw.{Flaw}
use Rattle.prompt_checker.specs.declared.schedule.FlawKind.{FlawKind}
use Rattle.prompt_checker.specs.declared.schedule.FlawKind.TheVariants.{EmptyStep, TooWide, Twice, NotReady, IdleCore, Inverted, Unfinished}
use Rattle.prompt_checker.specs.declared.schedule.Verdict.TheVariants as verdict
use Rattle.priml.specs.Lines.{NamesVertices}

module _ (g : CostGraph) (below : ℕ → ℕ → Type 0) (cores : ℕ) (steps : List (List ℕ)) (within : All (λ step. All (λ v. v < vertex_total g) step) steps) where
  in_line : (i v : ℕ) (P : ℕ → ℕ → Type 0) → i < length steps → IsFirstOf (step_at steps i) P v → v < vertex_total g
  in_line i v P lt first = subst (λ w. w < vertex_total g) first.2 (within i [] lt first.0 0 first.1)

  names : (i : ℕ) (kind : FlawKind) → HasFlaw g below cores steps i kind → NamesVertices g kind
  names i EmptyStep h = tt
  names i TooWide h = tt
  names i (Twice v) h = in_line i v (λ j w. StoodBefore g below cores steps i j w) h.0 h.1
  names i (NotReady v) h = in_line i v (λ j w. LacksParent g below cores steps i w) h.0 h.1
  names i (IdleCore u) h = h.2.0.0.vertex
  names i (Inverted v u) h = (in_line i v (λ j w. (x : ℕ) × Overtakes g below cores steps i w x) h.0 h.1, h.2.0.0.0.vertex)
  names i (Unfinished u) h = h.1.0.0

  pub names_vertices : (f : Flaw) → IsVerdict g below cores steps (verdict.Flaw f) → NamesVertices g f.kind
  names_vertices f v = names v.0 f.kind v.2.here
