-- What becomes of a log to which a segment is appended.
use Rattle.std.specs.Prelude.{◌≡◌, ◌≢◌, [], ◌∷◌, ◌++◌, length, None, IsSome}
use Rattle.trace_book.specs.declared.log.AppendStop.{AppendStop}
use Rattle.trace_book.specs.declared.log.AppendStop.TheVariants.{Gap, Ended, OutOfMemory}
use Rattle.trace_book.specs.declared.segment.Cut.{Cut}
use Rattle.trace_book.specs.Log.{Log}
use Rattle.trace_book.specs.Segments.{SegmentFields}

-- the segment goes on where the log ends, and the thread has not ended
abbrev pub IsNext : Log → SegmentFields → Type 0
IsNext l s = (s.from ≡ length l.events) × (l.outcome ≡ None)

-- where the segment stands
abbrev pub cut_of : SegmentFields → Cut
cut_of s = record { from = s.from; steps = length s.events; worker = s.worker }

-- the log with the segment's events and outcome, and one cut more
abbrev pub appended : Log → SegmentFields → Log
appended l s = record l { events = l.events ++ s.events; outcome = s.outcome; cuts = l.cuts ++ cut_of s ∷ [] }

-- a gap, and only then an ended thread, and only then want of memory
abbrev pub IsRefused : Log → SegmentFields → AppendStop → Type 0
IsRefused l s (Gap n) = (n ≡ length l.events) × (s.from ≢ n)
IsRefused l s Ended = (s.from ≡ length l.events) × IsSome l.outcome
IsRefused l s OutOfMemory = IsNext l s
