use Rattle.std.specs.Prelude.{map, string_bytes}
use Rattle.priml_io.proofs.OneCommand.{one_reading}
use Rattle.priml_io.proofs.words.read_words.Goals as goal

pub returns-clause-only : goal.returns-clause-only
returns-clause-only c = λ other is. one_reading (map string_bytes c.args.words.now) other c.read_line.result is c.read_line.ensures
