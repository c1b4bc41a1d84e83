-- Lists of events that get one more.
use Rattle.std.proofs.Common.{◌≡◌, ℕ, List, [], ◌∷◌, ◌++◌, true, refl, arith}
use Rattle.priml_syntax.specs.declared.event.Event.{Event}
use Rattle.priml_syntax.specs.declared.event.Event.TheVariants.{Start, Plain, Spawn, Join, Read, Wrote, End}
use Rattle.priml_syntax.specs.Events.{AllJoins, one_end, one_spawn}
use Rattle.task_state.specs.Tasks.{OnlyLast, goes_on}
use Rattle.task_state.specs.Turns.{AllGoOn}

-- neither a Spawn nor an End
pub on_of : (e : Event) → one_spawn e ≡ 0 → one_end e ≡ 0 → goes_on e ≡ true
on_of Start s n = refl
on_of Plain s n = refl
on_of Spawn s n = absurd (omega (arith, s))
on_of (Join b) s n = refl
on_of Read s n = refl
on_of (Wrote z) s n = refl
on_of End s n = absurd (omega (arith, n))

pub end_of : (e : Event) → one_end e ≡ 1 → e ≡ End
end_of Start n = absurd (omega (arith, n))
end_of Plain n = absurd (omega (arith, n))
end_of Spawn n = absurd (omega (arith, n))
end_of (Join b) n = absurd (omega (arith, n))
end_of Read n = absurd (omega (arith, n))
end_of (Wrote z) n = absurd (omega (arith, n))
end_of End n = refl

pub on_push : (es : List Event) (e : Event) → AllGoOn es → goes_on e ≡ true → AllGoOn (es ++ e ∷ [])
on_push [] e a o = (o, tt)
on_push (x ∷ es) e a o = (a.0, on_push es e a.1 o)

-- the last may be any event
pub last_push : (es : List Event) (e : Event) → AllGoOn es → OnlyLast (es ++ e ∷ [])
last_push [] e a = tt
last_push (x ∷ []) e a = (a.0, tt)
last_push (x ∷ y ∷ es) e a = (a.0, last_push (y ∷ es) e a.1)

pub joins_push : (P : List ℕ → Type 0) (es : List Event) (e : Event) → AllJoins P es → ((b : List ℕ) → e ≡ Join b → P b) → AllJoins P (es ++ e ∷ [])
joins_push P [] Start a j = tt
joins_push P [] Plain a j = tt
joins_push P [] Spawn a j = tt
joins_push P [] (Join b) a j = (j b refl, tt)
joins_push P [] Read a j = tt
joins_push P [] (Wrote z) a j = tt
joins_push P [] End a j = tt
joins_push P (Start ∷ es) e a j = joins_push P es e a j
joins_push P (Plain ∷ es) e a j = joins_push P es e a j
joins_push P (Spawn ∷ es) e a j = joins_push P es e a j
joins_push P (Join b ∷ es) e a j = (a.0, joins_push P es e a.1 j)
joins_push P (Read ∷ es) e a j = joins_push P es e a j
joins_push P (Wrote z ∷ es) e a j = joins_push P es e a j
joins_push P (End ∷ es) e a j = joins_push P es e a j
