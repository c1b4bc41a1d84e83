use Rattle.std.proofs.Common.{◌≡◌, ◌++◌, drop, map}
use Rattle.std.specs.Option.{option_map}
use Rattle.priml_syntax.specs.Read.{read_record}
use Rattle.priml_syntax.specs.Values.{Entry}
use Rattle.std.specs.Prelude.{List}
use Rattle.trace_book.specs.Book.{entries_of}
use Rattle.trace_book.specs.Inside.Books.{seen}
use Rattle.trace_book.proofs.records.push_records.Given as goal

abbrev pub invariant-loop-log : goal.invariant-loop-log
invariant-loop-log l = option_map (λ (xs : List Entry). map read_record l.list.items ++ xs) (entries_of (seen (drop l.log-index l.logs))) ≡ option_map (λ (xs : List Entry). map read_record l.fn.list.items ++ xs) (entries_of (seen l.logs))
