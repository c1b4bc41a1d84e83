-- A program with its inputs.
use Rattle.std.specs.Prelude.{ℕ, ℤ, List}
use Rattle.priml_syntax.specs.declared.program.Program.{Program}

-- the program, and what each thread reads, by its path
pub record WithInputs : Type 0 where
  pub program : Program
  pub inputs : List (List ℕ × List ℤ)
