-- What an evaluation of an expression answers, as a plain tree.
use Rattle.std.specs.Prelude.{Option}
use Rattle.std.specs.Option.{option_map}
use Rattle.priml_syntax.specs.declared.value.Outcome.{Outcome}
use Rattle.priml_syntax.specs.Values.{Outcome'}
use Rattle.priml_syntax.specs.Read.{read_outcome}

-- a value or a fault; none where a value of a wrong kind was met
abbrev pub read_result : Option Outcome → Option Outcome'
read_result = option_map read_outcome
