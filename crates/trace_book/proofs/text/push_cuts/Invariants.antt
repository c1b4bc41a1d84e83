use Rattle.std.proofs.Common.{◌≡◌, ◌++◌, drop}
use Rattle.std.specs.String.{string_bytes}
use Rattle.std.specs.List.{flat_map}
use Rattle.trace_book.specs.CutsText.{cut_line}
use Rattle.trace_book.proofs.text.push_cuts.Given as goal

abbrev pub invariant-loop-cut : goal.invariant-loop-cut
invariant-loop-cut l = string_bytes l.text ++ flat_map (cut_line l.path) (drop l.cut-index l.cuts) ≡ string_bytes l.fn.text ++ flat_map (cut_line l.path) l.cuts
