-- The number of nodes of a type.
use Rattle.std.specs.Prelude.{ℕ, ◌+◌}
use Rattle.priml_syntax.specs.Tree.{Type', unit, bool, int, pair, sum, thread}

-- each use of one of the six forms is one node
abbrev pub type_nodes : Type' → ℕ
type_nodes unit = 1
type_nodes bool = 1
type_nodes int = 1
type_nodes (pair a b) = type_nodes a + type_nodes b + 1
type_nodes (sum a b) = type_nodes a + type_nodes b + 1
type_nodes (thread r a) = type_nodes a + 1
