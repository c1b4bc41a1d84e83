use Rattle.std.proofs.Common.{◌≡◌, ℕ, ◌≤◌, List, ◌++◌, length}
use Rattle.priml_io.specs.Ends.{Grows}
use Rattle.priml_io.proofs.whole.write_all.Given as goal

abbrev pub invariant-loop-rest : goal.invariant-loop-rest
invariant-loop-rest g l = record {
  later : g.K.Sink.faults l.fn.sink ≤ g.K.Sink.faults l.sink;
  grown : (prefix : List ℕ) × (l.fn.piece ≡ prefix ++ l.rest) × Grows (g.K.Sink.written l.fn.sink) (g.K.Sink.written l.sink) prefix;
}

abbrev pub decreases-loop-rest : goal.decreases-loop-rest
decreases-loop-rest g l = length l.rest
