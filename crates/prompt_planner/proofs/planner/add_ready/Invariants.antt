use Rattle.std.proofs.Common.{◌≡◌, ℕ, ◌↔◌, ◌⊎◌, take, get_or}
use Rattle.std.specs.List.{Contains}
use Rattle.prompt_planner.proofs.planner.add_ready.Given as goal

abbrev pub invariant-loop-vertex : goal.invariant-loop-vertex
invariant-loop-vertex l =
    (k : ℕ × ℕ) → Contains l.ready.keys k ↔ (Contains l.fn.ready.keys k ⊎ (Contains (take l.vertex-index l.vertices.items) k.1 × (k.0 ≡ get_or l.lanes k.1 0)))
