use Rattle.std.proofs.Common.{◌≡◌, ℕ, length, get_or, take}
use Rattle.std.specs.List.{Contains}
use Rattle.response_report.proofs.place.note.Given as goal

abbrev pub invariant-loop-vertex : goal.invariant-loop-vertex
invariant-loop-vertex l =
    record {
      long : length l.places.items ≡ length l.fn.places.items;
      here : (v : ℕ) → Contains (take l.vertex-index l.step.items) v → get_or l.places.items v 0 ≡ l.number;
      kept : (v : ℕ) → (Contains (take l.vertex-index l.step.items) v → ⊥) → get_or l.places.items v 0 ≡ get_or l.fn.places.items v 0;
    }
