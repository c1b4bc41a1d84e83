-- What reading and writing the whole do.
use Rattle.std.specs.Prelude.{◌≡◌, ℕ, ◌+◌, ◌≤◌, List, ◌++◌, length, Result, Ok, Err}
use Rattle.std.specs.declared.option.Option.{Option}
use Rattle.std.specs.declared.vec.Vec.{Vec}
use Rattle.std.specs.declared.alloc.Global.{Global}
use Rattle.std.specs.Io.KnownBytes.{Consumes, IsAtEnd}
use Rattle.priml_io.specs.declared.whole.ReadStop.{ReadStop}
use Rattle.priml_io.specs.declared.whole.ReadStop.TheVariants as read
use Rattle.priml_io.specs.declared.whole.WriteStop.{WriteStop}
use Rattle.priml_io.specs.Ends.{Grows}

-- the source gave some bytes, and how many
abbrev pub Gave : Option (List ℕ) → Option (List ℕ) → (ℕ → Type 0) → Type 0
Gave old new count = (bs : List ℕ) × count (length bs) × Consumes old new bs

-- On Ok all that was left, at most `limit` bytes. On TooLong one byte more than the limit was taken, after a
-- fault at most `limit`.
abbrev pub Reads : Option (List ℕ) → Option (List ℕ) → ℕ → Result (Vec ℕ Global) ReadStop → Type 0
Reads old new limit (Ok v) = (length v.items ≤ limit) × Consumes old new v.items × IsAtEnd new
Reads old new limit (Err read.TooLong) = Gave old new (λ n. n ≡ limit + 1)
Reads old new limit (Err read.ReadFault) = Gave old new (λ n. n ≤ limit)
Reads old new limit (Err read.OutOfMemory) = Gave old new (λ n. n ≤ limit + 1)

-- On Ok the whole piece was appended, else a prefix of it.
abbrev pub Writes : Option (List ℕ) → Option (List ℕ) → List ℕ → Result (Unit {0}) WriteStop → Type 0
Writes old new piece (Ok _) = Grows old new piece
Writes old new piece (Err _) = (prefix : List ℕ) × (rest : List ℕ) × (piece ≡ prefix ++ rest) × Grows old new prefix
