-- What a source and a sink over memory hold, and how each call changes them.
use Rattle.std.specs.Prelude.{ℕ, ◌+◌, ◌-◌, ◌^◌, ◌==◌, min, if◌then◌else◌, List, ◌++◌, length, take, drop, None, Some}
use Rattle.std.specs.declared.option.Option.{Option}
use Rattle.priml_io.specs.Ends.{counted}

-- which calls fail, by their numbers from 0, and how many calls and faults there were
pub record Script : Type 0 where
  pub failing : List ℕ
  pub calls : ℕ
  pub faults : ℕ

-- after one more call, which went well
abbrev pub went_well : Script → Script
went_well s = record s { calls = counted s.calls }

-- after one more call, which failed
abbrev pub went_wrong : Script → Script
went_wrong s = record s { calls = counted s.calls; faults = counted s.faults }

-- the bytes to come, the most bytes that a call moves, and which calls fail
pub record MemorySource : Type 0 where
  pub bytes : List ℕ
  pub width : ℕ
  pub script : Script

-- the source after a call that moved n bytes
abbrev pub source_after : MemorySource → ℕ → MemorySource
source_after s n = record s { bytes = drop n s.bytes; script = went_well s.script }

-- the source after a call that failed
abbrev pub source_failed : MemorySource → MemorySource
source_failed s = record s { script = went_wrong s.script }

-- the bytes kept, how many it has room for, how many it took beyond its room, the most bytes that a call moves, and
-- which calls fail
pub record MemorySink : Type 0 where
  pub kept : List ℕ
  pub room : ℕ
  pub beyond : ℕ
  pub width : ℕ
  pub script : Script

-- the bytes that a sink tells: those kept, up to the first byte that found no room
abbrev pub told : MemorySink → Option (List ℕ)
told s = if s.beyond == 0 then Some s.kept else None

-- the sink after a call that took these bytes: it keeps what its room holds, and counts the rest
abbrev pub sink_after : MemorySink → List ℕ → MemorySink
sink_after s bs = record s {
  kept = take s.room (s.kept ++ bs);
  beyond = min (s.beyond + (length (s.kept ++ bs) - s.room)) (2 ^ 64 - 1);
  script = went_well s.script;
}

-- the sink after a call that failed
abbrev pub sink_failed : MemorySink → MemorySink
sink_failed s = record s { script = went_wrong s.script }
