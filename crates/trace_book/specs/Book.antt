-- The logs of a run: in the order of their paths, as records, and their work.
use Rattle.std.specs.Prelude.{◌≢◌, ℕ, ◌+◌, List, [], ◌∷◌, length, Option, Some, None}
use Rattle.std.specs.List.{AllByRecursion, flat_map}
use Rattle.std.specs.List.Sorted.{IsPermutation}
use Rattle.std.specs.Option.{option_map}
use Rattle.std.specs.declared.vec.Vec.{Vec}
use Rattle.std.specs.declared.alloc.Global.{Global}
use Rattle.priml_syntax.specs.Paths.{Precedes}
use Rattle.priml_syntax.specs.declared.value.Outcome.{Outcome}
use Rattle.priml_syntax.specs.Read.{read_outcome}
use Rattle.priml_syntax.specs.Values.{Entry}
use Rattle.trace_book.specs.Log.{Log}

-- the logs of all shards
abbrev pub all_logs : List (Vec Log Global) → List Log
all_logs = flat_map (λ (v : Vec Log Global). v.items)

-- no two logs have one path
abbrev pub NoPathTwice : List Log → Type 0
NoPathTwice [] = Unit {0}
NoPathTwice (l ∷ ls) = AllByRecursion (λ m. l.path ≢ m.path) ls × NoPathTwice ls

-- each log's path stands before those of the logs behind it
abbrev pub RiseByPath : List Log → Type 0
RiseByPath [] = Unit {0}
RiseByPath (l ∷ ls) = AllByRecursion (λ m. Precedes l.path m.path) ls × RiseByPath ls

-- the second are the first, in the order of their paths
abbrev pub IsInPathOrder : List Log → List Log → Type 0
IsInPathOrder logs ls = IsPermutation logs ls × RiseByPath ls

-- the number of all events
abbrev pub work : List Log → ℕ
work [] = 0
work (l ∷ ls) = length l.events + work ls

-- the record of a thread that ended in this way
abbrev pub entry_with : Log → Outcome → Entry
entry_with l o = record { path = l.path; prio = l.prio; events = l.events; outcome = read_outcome o }

-- the record of a thread, where it has ended
abbrev pub entry_of : Log → Option Entry
entry_of l = option_map (entry_with l) l.outcome

-- one record before others, where all are there
abbrev pub both : Option Entry → Option (List Entry) → Option (List Entry)
both None es = None
both (Some e) None = None
both (Some e) (Some es) = Some (e ∷ es)

-- the records of the threads, where each has ended
abbrev pub entries_of : List Log → Option (List Entry)
entries_of [] = Some []
entries_of (l ∷ ls) = both (entry_of l) (entries_of ls)
