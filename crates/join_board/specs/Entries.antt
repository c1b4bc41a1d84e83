-- What a shard has of each thread that is enrolled in it.
use Rattle.std.specs.Prelude.{List, [], ◌∷◌}
use Rattle.std.specs.declared.vec.Vec.{Vec}
use Rattle.std.specs.declared.alloc.Global.{Global}
use Rattle.trace_book.specs.Log.{Log}
use Rattle.task_state.specs.declared.task.Task.{Task}

-- the thread's log, and the tasks that wait for its end
pub record Entry : Type 0 where
  pub log : Log
  pub waiting : List Task

-- the logs, each with the tasks at the same place
abbrev pub paired : List Log → List (Vec Task Global) → List Entry
paired [] ws = []
paired (l ∷ ls) [] = []
paired (l ∷ ls) (w ∷ ws) = record { log = l; waiting = w.items } ∷ paired ls ws
