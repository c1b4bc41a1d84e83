use Rattle.std.proofs.Common.{◌≡◌, ℕ, ◌+◌, ◌<◌, length}
use Rattle.std.specs.Prelude.{Some, slice_get, nat_eq}
use Rattle.priml_syntax.specs.declared.event.Event.{Event}
use Rattle.cost_graph.specs.Records.{parts_in}
use Rattle.cost_graph.specs.Inside.Finished.{Fits}
use Rattle.cost_graph.proofs.finished.are_events_fit.Given as goal

abbrev pub invariant-loop-n : goal.invariant-loop-n
invariant-loop-n l = (k : ℕ) (f : Event) → k < l.n → slice_get l.events k ≡ Some f → Fits (parts_in l.list) f (nat_eq k 0) (nat_eq (k + 1) (length l.events))
