use Rattle.std.proofs.Common.{◌≡◌, ◌++◌, drop}
use Rattle.std.specs.String.{string_bytes}
use Rattle.std.specs.List.{flat_map}
use Rattle.prompt_checker.specs.Text.{spaced}
use Rattle.prompt_checker.proofs.text.push_spaced.Given as goal

abbrev pub invariant-loop-vertex : goal.invariant-loop-vertex
invariant-loop-vertex l = string_bytes l.text ++ flat_map (spaced l.graph) (drop l.vertex-index l.vertices) ≡ string_bytes l.fn.text ++ flat_map (spaced l.graph) l.vertices
