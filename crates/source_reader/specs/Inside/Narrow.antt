-- Places as the reader keeps them, in numbers of u32.
use Rattle.std.specs.Prelude.{ℕ, ◌-◌, ◌^◌, min, Option, Some, None}
use Rattle.source_reader.specs.Names.{Env}

-- a place past the last value of u32 is kept as that value
abbrev pub narrow : Option ℕ → Option ℕ
narrow None = None
narrow (Some k) = Some (min k (2 ^ 32 - 1))

abbrev pub narrowed : Env → Env
narrowed env = record { prios = λ id. narrow (env.prios id); vars = env.vars; procs = λ id. narrow (env.procs id) }
