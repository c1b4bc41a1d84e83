-- The shards at the start.
use Rattle.std.specs.Prelude.{◌≡◌, ℕ, ◌<◌, List, [], ◌∷◌, ◌++◌, slice_set}
use Rattle.core_steps.specs.Config.{begin}
use Rattle.core_steps.specs.Steps.{Job}
use Rattle.join_board.specs.Entries.{Entry}
use Rattle.join_board.specs.Jobs.{the_job}
use Rattle.join_board.specs.Threads.{PrioOf}
use Rattle.join_board.specs.Logs.{Each, HasRoots, fresh, shard_at, shard_of}
use Rattle.join_board.specs.Rule.{KeepsLogs}
use Rattle.join_board.specs.declared.view.About.{About}

-- the shards read as the configuration at the start, each root has an entry, and no task waits
pub record FirstShards (key : About) (shards : List (List Entry)) : Type 0 where
  pub logs : KeepsLogs key shards (begin (the_job key))
  pub rooted : HasRoots (the_job key) shards
  pub idle : (k : ℕ) → k < 64 → Each (λ (e : Entry). e.waiting ≡ []) (shard_at shards k)

-- the k-th root got an entry at the end of its shard
abbrev pub IsRooted : Job → ℕ → List (List Entry) → List (List Entry) → Type 0
IsRooted job k old new =
    (a : ℕ)
    × PrioOf job (k ∷ []) a
    × (new ≡ slice_set old (shard_of (k ∷ [])) (shard_at old (shard_of (k ∷ [])) ++ fresh (k ∷ []) a ∷ []))
