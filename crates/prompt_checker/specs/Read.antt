-- A schedule as a list of lists.
use Rattle.std.specs.Prelude.{ℕ, List, map}
use Rattle.std.specs.declared.vec.Vec.{Vec}
use Rattle.std.specs.declared.alloc.Global.{Global}
use Rattle.prompt_checker.specs.declared.schedule.Schedule.{Schedule}

abbrev pub lists : List (Vec ℕ Global) → List (List ℕ)
lists = map (λ (l : Vec ℕ Global). l.items)

abbrev pub steps_of : Schedule → List (List ℕ)
steps_of s = lists s.steps.items
