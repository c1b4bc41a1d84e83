-- What a sink over memory that never fails holds, and how each call changes it.
use Rattle.std.specs.Prelude.{ℕ, ◌+◌, ◌-◌, ◌^◌, ◌==◌, min, if◌then◌else◌, List, ◌++◌, length, take, None, Some}
use Rattle.std.specs.declared.option.Option.{Option}

-- the bytes kept, how many there is room for, and how many were taken beyond the room
pub record Store : Type 0 where
  pub kept : List ℕ
  pub room : ℕ
  pub beyond : ℕ

-- the bytes that the sink tells: those kept, up to the first byte that found no room
abbrev pub told_of : Store → Option (List ℕ)
told_of s = if s.beyond == 0 then Some s.kept else None

-- after a call that took these bytes: what the room holds is kept, and the rest is counted
abbrev pub store_after : Store → List ℕ → Store
store_after s bs = record s { kept = take s.room (s.kept ++ bs); beyond = min (s.beyond + (length (s.kept ++ bs) - s.room)) (2 ^ 64 - 1) }
