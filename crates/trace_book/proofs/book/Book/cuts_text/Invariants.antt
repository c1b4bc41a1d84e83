use Rattle.std.proofs.Common.{◌≡◌, ◌++◌, drop}
use Rattle.std.specs.String.{string_bytes}
use Rattle.std.specs.List.{flat_map}
use Rattle.trace_book.specs.CutsText.{log_lines}
use Rattle.trace_book.specs.Inside.Books.{seen}
use Rattle.trace_book.proofs.book.Book.cuts_text.Given as goal

abbrev pub invariant-loop-log : goal.invariant-loop-log
invariant-loop-log l = string_bytes l.text ++ flat_map log_lines (seen (drop l.log-index l.log-items)) ≡ flat_map log_lines (seen l.log-items)
