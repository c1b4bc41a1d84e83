-- A thread has ended exactly where its last event is End.
use Rattle.std.proofs.Common.{◌≡◌, ℕ, List, [], ◌∷◌, ◌++◌, Option, Some, None, refl, sym, ◌∙◌, ap, arith}
use Rattle.std.proofs.lemmas.Option.{none-some}
use Rattle.std.proofs.lemmas.List.{same_from_push}
use Rattle.priml_syntax.specs.declared.event.Event.{Event}
use Rattle.priml_syntax.specs.declared.event.Event.TheVariants.{End}
use Rattle.priml_syntax.specs.Values.{Outcome'}
use Rattle.priml_syntax.specs.Events.{one_end}
use Rattle.core_steps.specs.Steps.{Job, State, Moved, step, outcome_in, Ran, root, born, alone, joined}
use Rattle.core_steps.specs.Determined.{one_live}
use Rattle.core_steps.proofs.StepFacts.{step_facts, child_facts}
use Rattle.core_steps.proofs.Named.{push_not_nil}

pub live_or : (o : Option Outcome') → one_live o ≡ 0 → (x : Outcome') × (o ≡ Some x)
live_or None e = absurd (omega (arith, e))
live_or (Some x) e = (x, refl)

-- a step ends the thread exactly at End
end_ends : (job : Job) (s : State) (w : Option Outcome') (m : Moved) → step job s w ≡ Some m → m.event ≡ End → (o : Outcome') × (outcome_in m.next.phase ≡ Some o)
end_ends job s w m e h = live_or (outcome_in m.next.phase) (omega (arith, (step_facts job s w m e).ends, ap one_end h))

ended_ends : (job : Job) (s : State) (w : Option Outcome') (m : Moved) (o : Outcome') → step job s w ≡ Some m → outcome_in m.next.phase ≡ Some o → m.event ≡ End
ended_ends job s w m o e h = go m.event (omega (arith, (step_facts job s w m e).ends, ap one_live h))
  where
    go : (x : Event) → one_end x ≡ 1 → x ≡ End
    go End z = refl
    go x z = absurd (omega (arith, z))

last_after : (job : Job) (es fs : List Event) (s t : State) (w : Option Outcome') (m : Moved) (o : Outcome') → step job t w ≡ Some m → es ≡ fs ++ m.event ∷ [] → s ≡ m.next → outcome_in s.phase ≡ Some o → (gs : List Event) × (es ≡ gs ++ End ∷ [])
last_after job es fs s t w m o e q r h = (fs, q ∙ ap (λ x. fs ++ x ∷ []) (ended_ends job t w m o e (ap (λ z. outcome_in z.phase) (sym r) ∙ h)))

-- an ended thread's last event is End
pub ended_last : {job : Job} {p : List ℕ} {es : List Event} {s : State} (o : Outcome') → Ran job p es s → outcome_in s.phase ≡ Some o → (fs : List Event) × (es ≡ fs ++ End ∷ [])
ended_last o (root g a b c) h = absurd (none-some o (ap (λ z. outcome_in z.phase) (sym c) ∙ h))
ended_last {job} o (born {t} {c} {m} d a b g e f i) h = absurd (none-some o (sym (child_facts job t None m c b g).live ∙ (ap (λ z. outcome_in z.phase) (sym i) ∙ h)))
ended_last {job} {es} {s} o (alone {fs} {t} {m} d a b e g) h = last_after job es fs s t None m o b e g h
ended_last {job} {es} {s} o (joined {fs} {t} {o = x} {m} d d2 a b e f g) h = last_after job es fs s t (Some x) m o e f g h

ended_after : (job : Job) (es fs gs : List Event) (s t : State) (w : Option Outcome') (m : Moved) → step job t w ≡ Some m → es ≡ fs ++ m.event ∷ [] → s ≡ m.next → es ≡ gs ++ End ∷ [] → (o : Outcome') × (outcome_in s.phase ≡ Some o)
ended_after job es fs gs s t w m e q r h =
    let x = end_ends job t w m e (same_from_push fs gs m.event End (sym q ∙ h)).1 in
    (x.0, ap (λ z. outcome_in z.phase) r ∙ x.1)

-- a thread whose last event is End has ended
pub last_ended : {job : Job} {p : List ℕ} {es : List Event} {s : State} (gs : List Event) → Ran job p es s → es ≡ gs ++ End ∷ [] → (o : Outcome') × (outcome_in s.phase ≡ Some o)
last_ended gs (root g a b c) h = absurd (push_not_nil gs End (sym h ∙ b))
last_ended gs (born d a b g e f i) h = absurd (push_not_nil gs End (sym h ∙ f))
last_ended {job} {es} {s} gs (alone {fs} {t} {m} d a b e g) h = ended_after job es fs gs s t None m b e g h
last_ended {job} {es} {s} gs (joined {fs} {t} {o} {m} d d2 a b e f g) h = ended_after job es fs gs s t (Some o) m e f g h
