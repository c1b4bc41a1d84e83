-- Lists of events, the newest last.
use Rattle.std.specs.Prelude.{ℕ, ◌+◌, List, [], ◌∷◌}
use Rattle.priml_syntax.specs.declared.event.Event.{Event}
use Rattle.priml_syntax.specs.declared.event.Event.TheVariants.{Spawn, Join, End}

-- how many children the event made
abbrev pub one_spawn : Event → ℕ
one_spawn Spawn = 1
one_spawn e = 0

-- how many threads ended in the event
abbrev pub one_end : Event → ℕ
one_end End = 1
one_end e = 0

-- how many children these events made
abbrev pub spawns : List Event → ℕ
spawns [] = 0
spawns (e ∷ es) = one_spawn e + spawns es

-- P holds of each thread that these events join
abbrev pub AllJoins : (List ℕ → Type 0) → List Event → Type 0
AllJoins P [] = Unit {0}
AllJoins P (Join b ∷ es) = P b × AllJoins P es
AllJoins P (e ∷ es) = AllJoins P es

-- how often these events end a thread
abbrev pub ends : List Event → ℕ
ends [] = 0
ends (e ∷ es) = one_end e + ends es
