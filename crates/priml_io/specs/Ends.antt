-- What calls do to the bytes of a source and a sink, where these tell them, and what a fault rests on.
use Rattle.std.specs.Prelude.{◌≡◌, ℕ, ◌+◌, ◌-◌, ◌^◌, ◌≤◌, min, List, [], ◌++◌, take, None, Some, Result, Ok, Err, OnErr}
use Rattle.std.specs.declared.option.Option.{Option}

-- the next value of a count that stays at the last value of u64
abbrev pub counted : ℕ → ℕ
counted n = min (n + 1) (2 ^ 64 - 1)

-- a count of faults is greater than before, or stands at the last value of u64
abbrev pub Rose : ℕ → ℕ → Type 0
Rose before now = counted before ≤ now

-- what a call does to a count of faults that counts nothing else: it stays where the call went well, and is one more where it failed
abbrev pub Counts : {T E : Type 0} → ℕ → ℕ → Result T E → Type 0
Counts before now (Ok _) = now ≡ before
Counts before now (Err _) = now ≡ counted before

-- a count of faults never falls, and a call fails only where it rose
pub record HasCause {T E : Type 0} (before now : ℕ) (result : Result T E) : Type 0 where
  pub later : before ≤ now
  pub failed : OnErr result (Rose before now)

-- a sink that tells its bytes now told them before, and they grew by these at the end
abbrev pub Grows : Option (List ℕ) → Option (List ℕ) → List ℕ → Type 0
Grows old None bs = Unit {0}
Grows None (Some ys) bs = ⊥
Grows (Some xs) (Some ys) bs = ys ≡ xs ++ bs

-- a call that took n bytes of a piece appended the first n, and one that failed appended none
abbrev pub PutGrows : {E : Type 0} → Option (List ℕ) → Option (List ℕ) → Result ℕ E → List ℕ → Type 0
PutGrows old new (Ok n) piece = Grows old new (take n piece)
PutGrows old new (Err e) piece = Grows old new []
