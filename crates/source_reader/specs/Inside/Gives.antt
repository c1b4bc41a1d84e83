-- What a walk over a tree gives: what the tree means where it has no faults, else the first of them.
use Rattle.std.specs.Prelude.{◌≡◌, List, [], ◌∷◌, Result, Ok, Err}
use Rattle.source_reader.specs.declared.faults.Fault.{Fault}
use Rattle.source_reader.specs.declared.faults.ResolveStop.{ResolveStop}
use Rattle.source_reader.specs.declared.faults.ResolveStop.TheVariants as stop

-- the first of the faults, or want of memory
abbrev pub First : List Fault → ResolveStop → Type 0
First faults (stop.Fault f) = (rest : List Fault) × (faults ≡ f ∷ rest)
First faults stop.OutOfMemory = Unit {0}

-- the result reads as `made`, and there are no faults; or it is the first of them
abbrev pub IsMade : {A B : Type 0} → List Fault → B → (A → B) → Result A ResolveStop → Type 0
IsMade faults made read (Ok x) = (faults ≡ []) × (read x ≡ made)
IsMade faults made read (Err e) = First faults e

-- there are no faults; or the result is the first of them
abbrev pub Finds : {A : Type 0} → List Fault → Result A ResolveStop → Type 0
Finds faults (Ok x) = faults ≡ []
Finds faults (Err e) = First faults e

-- a value is read as it is
abbrev pub plain : {A : Type 0} → A → A
plain x = x
