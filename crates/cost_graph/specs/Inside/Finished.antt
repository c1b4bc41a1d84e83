-- What is asked of each record of a finished job.
use Rattle.std.specs.Prelude.{◌≡◌, ◌≢◌, ℕ, ◌<◌, Bool, true, false, List, Some, slice_get, length, nat_eq, ◌+◌}
use Rattle.priml_syntax.specs.declared.event.Event.{Event}
use Rattle.priml_syntax.specs.declared.event.Event.TheVariants.{Start, Plain, Spawn, Join, Read, Wrote, End}
use Rattle.priml_syntax.specs.Paths.{child_path}
use Rattle.priml_syntax.specs.Events.{spawns}
use Rattle.cost_graph.specs.Records.{Part, IsThere, IsSpawned}

-- the event may stand first or last as it does, and a thread that it joins is there
abbrev pub Fits : List Part → Event → Bool → Bool → Type 0
Fits xs Start first last = (first ≡ true) × (last ≡ false)
Fits xs Plain first last = (first ≡ false) × (last ≡ false)
Fits xs Spawn first last = (first ≡ false) × (last ≡ false)
Fits xs (Join p) first last = (first ≡ false) × (last ≡ false) × IsThere xs p
Fits xs Read first last = (first ≡ false) × (last ≡ false)
Fits xs (Wrote n) first last = (first ≡ false) × (last ≡ false)
Fits xs End first last = (first ≡ false) × (last ≡ true)

-- there are events, and each fits where it stands
pub record AreEventsFit (xs : List Part) (es : List Event) : Type 0 where
  pub some : 0 < length es
  pub each : (n : ℕ) (e : Event) → slice_get es n ≡ Some e → Fits xs e (nat_eq n 0) (nat_eq (n + 1) (length es))

-- the thread of the path is a root, or some thread spawned it
abbrev pub HasSpawner : List Part → List ℕ → Type 0
HasSpawner xs p = length p ≢ 1 → IsSpawned xs p

-- the first children of the path are there
abbrev pub HasChildren : List Part → List ℕ → ℕ → Type 0
HasChildren xs p count = (k : ℕ) → k < count → IsThere xs (child_path p k)

-- a thread of a finished job, and its kin
pub record IsPartFinished (xs : List Part) (x : Part) : Type 0 where
  pub events : AreEventsFit xs x.events
  pub spawner : HasSpawner xs x.path
  pub children : HasChildren xs x.path (spawns x.events)
