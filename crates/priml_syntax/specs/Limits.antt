-- The most that there may be of each thing.
use Rattle.std.specs.Prelude.{ℕ}

-- declared priorities
abbrev pub most_priorities : ℕ
most_priorities = 16

-- declared pairs
abbrev pub most_pairs : ℕ
most_pairs = 256

-- procedures
abbrev pub most_procedures : ℕ
most_procedures = 256

-- nodes of a type
abbrev pub most_nodes : ℕ
most_nodes = 16

-- variables in scope at one place, hidden ones too
abbrev pub most_in_scope : ℕ
most_in_scope = 32

-- priority variables of a procedure
abbrev pub most_priority_variables : ℕ
most_priority_variables = 8

-- constraints of a procedure
abbrev pub most_constraints : ℕ
most_constraints = 16

-- parameters of a procedure
abbrev pub most_parameters : ℕ
most_parameters = 8

-- parts of a path
abbrev pub most_parts : ℕ
most_parts = 32

-- threads that one thread spawns
abbrev pub most_children : ℕ
most_children = 4294967295
