use Rattle.std.proofs.Common.{◌≡◌, ℕ, ◌≤◌, List, ◌++◌, drop}
use Rattle.std.specs.List.{flat_map}
use Rattle.priml_io.specs.Ends.{Grows}
use Rattle.priml_syntax.specs.Text.{dotted}
use Rattle.priml.proofs.flaw.write_dotted.Given as goal

abbrev pub invariant-loop-number : goal.invariant-loop-number
invariant-loop-number g l = record {
  later : g.K.Sink.faults l.fn.sink ≤ g.K.Sink.faults l.sink;
  grown : (prefix : List ℕ) × (prefix ++ flat_map dotted (drop l.number-index l.numbers) ≡ flat_map dotted l.numbers) × Grows (g.K.Sink.written l.fn.sink) (g.K.Sink.written l.sink) prefix;
}
