-- What the names stand for, as the reader keeps them.
use Rattle.source_reader.specs.Names.{lookup, Env}
use Rattle.source_reader.specs.Inside.Narrow.{narrow}
use Rattle.source_reader.specs.declared.names.Names.{Names}

abbrev pub env_in : Names → Env
env_in n = record { prios = λ id. narrow (lookup id n.priorities.ids.items); vars = n.vars.items; procs = λ id. narrow (lookup id n.procedures.ids.items) }
