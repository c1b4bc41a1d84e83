-- Segments as plain data.
use Rattle.std.specs.Prelude.{ℕ, List, Option}
use Rattle.priml_syntax.specs.declared.event.Event.{Event}
use Rattle.priml_syntax.specs.declared.value.Outcome.{Outcome}
use Rattle.trace_book.specs.declared.segment.Segment.{Segment}

pub record SegmentFields : Type 0 where
  pub path : List ℕ
  pub prio : ℕ
  pub from : ℕ
  pub events : List Event
  pub outcome : Option Outcome
  pub worker : ℕ

abbrev pub read_segment : Segment → SegmentFields
read_segment s = record { path = s.path; prio = s.prio; from = s.from; events = s.events.items; outcome = s.outcome; worker = s.worker }
