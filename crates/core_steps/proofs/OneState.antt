-- For a thread and a number of steps there is one state, one list of events and one priority.
use Rattle.std.proofs.Common.{◌≡◌, ℕ, ◌+◌, ◌<◌, ◌≤◌, List, [], ◌∷◌, ◌++◌, Option, Some, None, length, inl, inr, refl, sym, ◌∙◌, ap, ap₂, subst, arith, length-append}
use Rattle.std.specs.Prelude.{slice_get}
use Rattle.std.proofs.lemmas.List.{same_from_push, nil_from_length}
use Rattle.std.proofs.lemmas.Option.{same_Some, none-some}
use Rattle.std.proofs.lemmas.Bool.{cases_lt}
use Rattle.priml_syntax.specs.declared.event.Event.{Event}
use Rattle.priml_syntax.specs.declared.event.Event.TheVariants.{Spawn}
use Rattle.priml_syntax.specs.Tree.{Routine}
use Rattle.priml_syntax.specs.Values.{Outcome'}
use Rattle.priml_syntax.specs.Events.{one_spawn, spawns}
use Rattle.core_steps.specs.Steps.{Job, Ended, State, Moved, step, awaits, outcome_in, root_state, Ran, root, born, alone, joined}
use Rattle.core_steps.specs.Laws.{OneState, ChildPrio, OneEnd}
use Rattle.core_steps.proofs.StepFacts.{step_facts, child_facts, live_before, free_step}
use Rattle.core_steps.proofs.Named.{Named, named, spawns_append}
use Rattle.core_steps.proofs.Extends.{Extends, at_end_or_steps, at_end, more, Cut, cut, length_pushed, below_or}

-- every derivation that is no longer leads to this one
abbrev pub Leads : Job → List ℕ → List Event → State → Type 0
Leads job p es s = (gs : List Event) (t : State) → Ran job p gs t → length gs ≤ length es → Extends job gs t es s

pub no_rest : {job : Job} {gs es : List Event} {t s : State} → Extends job gs t es s → length gs ≡ length es → (gs ≡ es) × (t ≡ s)
no_rest {gs} x e = elim (at_end_or_steps x) [ inl h ↦ h | inr y ↦ absurd (omega (arith, e, ap length y.joins, length-append gs (y.move.event ∷ y.rest))) ]

-- an ended thread has no longer derivation
pub ended_rest : {job : Job} {gs es : List Event} {t s : State} (o : Outcome') → Extends job gs t es s → t.phase ≡ Ended o → (gs ≡ es) × (t ≡ s)
ended_rest {job} {t} o x e = elim (at_end_or_steps x) [ inl h ↦ h | inr y ↦ absurd (none-some o (sym (live_before job t y.outcome y.move y.steps) ∙ ap outcome_in e)) ]

-- two ends of a thread are one
pub same_end : {job : Job} {b : List ℕ} {es gs : List Event} {s t : State} (o x : Outcome') → Leads job b es s → Ran job b gs t → s.phase ≡ Ended o → t.phase ≡ Ended x → (gs ≡ es) × (t ≡ s)
same_end {job} {b} {es} {gs} {s} {t} o x leads d e f = elim (cases_lt (length es) (length gs)) [ inl l ↦ longer (cut (length es) d (omega arith)) l | inr l ↦ ended_rest x (leads gs t d l) f ]
  where
    longer : Cut job b (length es) gs t → length es < length gs → (gs ≡ es) × (t ≡ s)
    longer c l =
        let q : c.t ≡ s = (no_rest (leads c.fs c.t c.ran (omega (arith, c.len))) c.len).1 in
        absurd (omega (arith, ap length (ended_rest o c.extends (ap (λ z. z.phase) q ∙ e)).0, c.len, l))

pub same_outcome : {job : Job} {b : List ℕ} {es gs : List Event} {s t : State} (o x : Outcome') → Leads job b es s → Ran job b gs t → s.phase ≡ Ended o → t.phase ≡ Ended x → o ≡ x
same_outcome o x leads d e f = same_Some o x (ap outcome_in (sym e ∙ (ap (λ z. z.phase) (sym (same_end o x leads d e f).1) ∙ f)))

-- the state before a Spawn, by the number of the child
spawn_first : {job : Job} {gs es : List Event} {t s : State} (m : Moved) →
    Extends job gs t es s → awaits t ≡ None → step job t None ≡ Some m → m.event ≡ Spawn → spawns gs ≡ spawns es → (gs ≡ es) × (t ≡ s)
spawn_first {job} {gs} {t} m x a e f n = elim (at_end_or_steps x) [
  | inl h ↦ h
  | inr y ↦
      let q : m ≡ y.move = same_Some m y.move (sym e ∙ (sym (free_step job t y.outcome a) ∙ y.steps)) in
      absurd (omega (arith, spawns_append gs (y.move.event ∷ y.rest), ap spawns y.joins, ap one_spawn (sym (ap (λ z. z.event) q) ∙ f), n))
]

-- both parents are at the same place
pub same_parent : {job : Job} {q : List ℕ} {fs gs : List Event} {t u : State} (m n : Moved) →
    Leads job q fs t → Ran job q fs t → Ran job q gs u →
    awaits t ≡ None → step job t None ≡ Some m → m.event ≡ Spawn →
    awaits u ≡ None → step job u None ≡ Some n → n.event ≡ Spawn → t.children ≡ u.children → (fs ≡ gs) × (t ≡ u)
same_parent {job} {q} {fs} {gs} {t} {u} m n leads d d' a e f a' e' f' k = elim (cases_lt (length fs) (length gs)) [ inl l ↦ longer (cut (length fs) d' (omega arith)) | inr l ↦ shorter (leads gs u d' l) ]
  where
    n1 : spawns fs ≡ spawns gs
    n1 = sym (named d).children ∙ (k ∙ (named d').children)

    shorter : Extends job gs u fs t → (fs ≡ gs) × (t ≡ u)
    shorter x = let z : (gs ≡ fs) × (u ≡ t) = spawn_first n x a' e' f' (sym n1) in (sym z.0, sym z.1)

    longer : Cut job q (length fs) gs u → (fs ≡ gs) × (t ≡ u)
    longer c =
        let o : (c.fs ≡ fs) × (c.t ≡ t) = no_rest (leads c.fs c.t c.ran (omega (arith, c.len))) c.len in
        let b : awaits c.t ≡ None = ap awaits o.1 ∙ a in
        let g : step job c.t None ≡ Some m = ap (λ z. step job z None) o.1 ∙ e in
        let z : (c.fs ≡ gs) × (c.t ≡ u) = spawn_first m c.extends b g f (ap spawns o.0 ∙ n1) in
        (sym o.0 ∙ z.0, sym o.1 ∙ z.1)

-- the derivations of length 0
first_root : {job : Job} {p : List ℕ} {gs : List Event} {s t : State} (k : ℕ) (m : Routine) → slice_get job.program.mains k ≡ Some m → p ≡ k ∷ [] → s ≡ root_state m k → Ran job p gs t → length gs ≡ 0 → t ≡ s
first_root {job} k m g a c (root {k = j} {m = n} g' a' b' c') l =
    let e : j ≡ k = (same_from_push [] [] j k (sym a' ∙ a)).1 in
    let f : n ≡ m = same_Some n m (sym g' ∙ (ap (slice_get job.program.mains) e ∙ g)) in
    c' ∙ (ap₂ root_state f e ∙ sym c)
first_root {job} {p} k m g a c (born {q} {fs} {t} {c = c0} {m = m0} d b h g0 e f i) l =
    let n : Named q fs t = named d in
    absurd (n.some (sym n.path ∙ (same_from_push t.path [] t.children k (sym (child_facts job t None m0 c0 h g0).path ∙ (sym e ∙ a))).0))
first_root k m g a c (alone {fs} {m = m0} d b h e g0) l = absurd (omega (arith, length_pushed fs m0.event e, l))
first_root k m g a c (joined {fs} {m = m0} d d' b h i e g0) l = absurd (omega (arith, length_pushed fs m0.event e, l))

-- a born thread's first state
first_born : {job : Job} {p q : List ℕ} {fs gs : List Event} {t c s u : State} {m : Moved} →
    Leads job q fs t → Ran job q fs t → awaits t ≡ None → step job t None ≡ Some m → m.child ≡ Some c → p ≡ c.path → s ≡ c →
    Ran job p gs u → length gs ≡ 0 → u ≡ s
first_born {job} {t} {c} {m} leads d b h g e i (root {k = j} {m = r} g' a' b' c') l =
    sym (first_root j r g' a' c' (born d b h g e b' i) (ap length b'))
first_born {job} {p} {q} {t} {c} {s} {u} {m} leads d b h g e i (born {q = q2} {fs = fs2} {t = t2} {c = c2} {m = m2} d2 b2 h2 g2 e2 f2 i2) l =
    let x = child_facts job t None m c h g in
    let y = child_facts job t2 None m2 c2 h2 g2 in
    let z : (t.path ≡ t2.path) × (t.children ≡ t2.children) = same_from_push t.path t2.path t.children t2.children (sym x.path ∙ (sym e ∙ (e2 ∙ y.path))) in
    let r : q2 ≡ q = sym (named d2).path ∙ (sym z.0 ∙ (named d).path) in
    let d3 : Ran job q fs2 t2 = subst (λ k. Ran job k fs2 t2) r d2 in
    let w : t ≡ t2 = (same_parent m m2 leads d d3 b h x.event b2 h2 y.event z.1).1 in
    let v : m ≡ m2 = same_Some m m2 (sym h ∙ (ap (λ k. step job k None) w ∙ h2)) in
    i2 ∙ (sym (same_Some c c2 (sym g ∙ (ap (λ k. k.child) v ∙ g2))) ∙ sym i)
first_born leads d b h g e i (alone {fs} {m} d2 b2 h2 e2 g2) l = absurd (omega (arith, length_pushed fs m.event e2, l))
first_born leads d b h g e i (joined {fs} {m} d2 d3 b2 h2 i2 e2 g2) l = absurd (omega (arith, length_pushed fs m.event e2, l))

at_start : {job : Job} {gs es : List Event} {t s : State} → es ≡ [] → length gs ≤ length es → (length gs ≡ 0 → t ≡ s) → Extends job gs t es s
at_start {gs} e l f =
    let z : length gs ≡ 0 = omega (arith, l, ap length e) in
    at_end (nil_from_length gs z ∙ sym e) (f z)

-- the last step of a derivation that is as long
last_alone : {job : Job} {p : List ℕ} {es fs gs : List Event} {s t u : State} {m : Moved} →
    Leads job p fs t → awaits t ≡ None → step job t None ≡ Some m → es ≡ fs ++ m.event ∷ [] → s ≡ m.next →
    Ran job p gs u → length gs ≡ length fs + 1 → Extends job gs u es s
last_alone leads a e q r (root g' a' b' c') l = absurd (omega (arith, ap length b', l))
last_alone leads a e q r (born d2 b2 h2 g2 e2 f2 i2) l = absurd (omega (arith, ap length f2, l))
last_alone {job} {es} {fs} {s} {t} {m} leads a e q r (alone {fs = fs2} {t = t2} {m = m2} d2 b2 h2 e2 g2) l =
    let n : length fs2 ≡ length fs = omega (arith, length_pushed fs2 m2.event e2, l) in
    let o : (fs2 ≡ fs) × (t2 ≡ t) = no_rest (leads fs2 t2 d2 (omega (arith, n))) n in
    let v : m2 ≡ m = same_Some m2 m (sym h2 ∙ (ap (λ k. step job k None) o.1 ∙ e)) in
    at_end (e2 ∙ (ap (λ k. k ++ m2.event ∷ []) o.0 ∙ (ap (λ k. fs ++ k.event ∷ []) v ∙ sym q))) (g2 ∙ (ap (λ k. k.next) v ∙ sym r))
last_alone {job} {es} {fs} {s} {t} {m} leads a e q r (joined {b} {fs = fs2} {t = t2} {o = o2} {m = m2} d2 d3 b2 h2 i2 e2 g2) l =
    let n : length fs2 ≡ length fs = omega (arith, length_pushed fs2 m2.event e2, l) in
    let o : (fs2 ≡ fs) × (t2 ≡ t) = no_rest (leads fs2 t2 d2 (omega (arith, n))) n in
    absurd (none-some b (sym a ∙ (sym (ap awaits o.1) ∙ b2)))

last_joined : {job : Job} {p b : List ℕ} {es fs gs hs : List Event} {s t u v : State} {o : Outcome'} {m : Moved} →
    Leads job p fs t → Leads job b hs v → awaits t ≡ Some b → v.phase ≡ Ended o → step job t (Some o) ≡ Some m → es ≡ fs ++ m.event ∷ [] → s ≡ m.next →
    Ran job p gs u → length gs ≡ length fs + 1 → Extends job gs u es s
last_joined leads leads' a x e q r (root g' a' b' c') l = absurd (omega (arith, ap length b', l))
last_joined leads leads' a x e q r (born d2 b2 h2 g2 e2 f2 i2) l = absurd (omega (arith, ap length f2, l))
last_joined {b} {fs} {t} leads leads' a x e q r (alone {fs = fs2} {t = t2} {m = m2} d2 b2 h2 e2 g2) l =
    let n : length fs2 ≡ length fs = omega (arith, length_pushed fs2 m2.event e2, l) in
    let o : (fs2 ≡ fs) × (t2 ≡ t) = no_rest (leads fs2 t2 d2 (omega (arith, n))) n in
    absurd (none-some b (sym b2 ∙ (ap awaits o.1 ∙ a)))
last_joined {job} {p} {b} {es} {fs} {gs} {hs} {s} {t} {u} {v} {o} {m} leads leads' a x e q r (joined {b = b2} {fs = fs2} {gs = gs2} {t = t2} {u = u2} {o = o2} {m = m2} d2 d3 a2 h2 i2 e2 g2) l =
    let n : length fs2 ≡ length fs = omega (arith, length_pushed fs2 m2.event e2, l) in
    let w : (fs2 ≡ fs) × (t2 ≡ t) = no_rest (leads fs2 t2 d2 (omega (arith, n))) n in
    let k : b2 ≡ b = same_Some b2 b (sym a2 ∙ (ap awaits w.1 ∙ a)) in
    let d4 : Ran job b gs2 u2 = subst (λ z. Ran job z gs2 u2) k d3 in
    let y : o ≡ o2 = same_outcome o o2 leads' d4 x h2 in
    let z : m2 ≡ m = same_Some m2 m (sym i2 ∙ (ap (λ c. step job c (Some o2)) w.1 ∙ (ap (λ c. step job t (Some c)) (sym y) ∙ e))) in
    at_end (e2 ∙ (ap (λ c. c ++ m2.event ∷ []) w.0 ∙ (ap (λ c. fs ++ c.event ∷ []) z ∙ sym q))) (g2 ∙ (ap (λ c. c.next) z ∙ sym r))

-- every derivation leads to each that is no shorter: for a thread and a number of steps there is one state
pub leads : {job : Job} {p : List ℕ} {es : List Event} {s : State} → Ran job p es s → Leads job p es s
leads (root {k = k} {m = m} g a b c) gs u d l = at_start b l (first_root k m g a c d)
leads (born d b h g e f i) gs u d2 l = at_start f l (first_born (leads d) d b h g e i d2)
leads (alone {fs} {t} {m} d b h e g) gs u d2 l =
    below_or (length gs) (length fs) _ (length_pushed fs m.event e) l (λ k. more None m (leads d gs u d2 k) h e) (λ k. last_alone (leads d) b h e g d2 (omega (arith, k, length_pushed fs m.event e)))
leads (joined {fs} {t} {o} {m} d d3 a x h e g) gs u d2 l =
    below_or (length gs) (length fs) _ (length_pushed fs m.event e) l (λ k. more (Some o) m (leads d gs u d2 k) h e) (λ k. last_joined (leads d) (leads d3) a x h e g d2 (omega (arith, k, length_pushed fs m.event e)))

pub unique : {job : Job} {p : List ℕ} {es gs : List Event} {s t : State} → Ran job p es s → Ran job p gs t → length gs ≡ length es → (gs ≡ es) × (t ≡ s)
unique d d2 l = no_rest (leads d _ _ d2 (omega (arith, l))) l

-- the thread begins at this priority
record Begins (job : Job) (p : List ℕ) (q : ℕ) : Type 0 where
  pub first : State
  pub ran : Ran job p [] first
  pub prio : first.prio ≡ q

begins_at : {job : Job} {p : List ℕ} {es : List Event} {s : State} → es ≡ [] → Ran job p es s → Begins job p s.prio
begins_at {job} {p} {es} {s} e d = record { first = s; ran = subst (λ xs. Ran job p xs s) e d; prio = refl }

goes_on : {job : Job} {p : List ℕ} {s : State} (t : State) (w : Option Outcome') (m : Moved) → Begins job p t.prio → step job t w ≡ Some m → s ≡ m.next → Begins job p s.prio
goes_on {job} {p} {s} t w m b e r = record { first = b.first; ran = b.ran; prio = b.prio ∙ (sym (step_facts job t w m e).prio ∙ ap (λ z. z.prio) (sym r)) }

begins : {job : Job} {p : List ℕ} {es : List Event} {s : State} → Ran job p es s → Begins job p s.prio
begins (root {k = k} {m = m} g a b c) = begins_at b (root {k = k} {m = m} g a b c)
begins (born d a b c e f g) = begins_at f (born d a b c e f g)
begins (alone {t = t} {m = m} d a b c e) = goes_on t None m (begins d) b e
begins (joined {t = t} {o = o} {m = m} d d' a b c e f) = goes_on t (Some o) m (begins d) c f

same_prio : (job : Job) (p : List ℕ) (es fs : List Event) (s t : State) → Ran job p es s → Ran job p fs t → s.prio ≡ t.prio
same_prio job p es fs s t d d' =
    let b = begins d in
    let c = begins d' in
    let e : c.first ≡ b.first = (unique b.ran c.ran refl).1 in
    sym b.prio ∙ (ap (λ z. z.prio) (sym e) ∙ c.prio)

pub one_state : (job : Job) → OneState job
one_state job = record {
  same = λ p es fs s t d d' l. let u = unique d d' (sym l) in (sym u.0, sym u.1);
  named = λ p es s d. (named d).path;
  prio = same_prio job;
}

-- a child begins in the state that its Spawn gives
pub child_prio : (job : Job) → ChildPrio job
child_prio job q es fs s c t m d a e h f = same_prio job c.path fs [] t c f (born d a e h refl refl refl)

-- two ends of a thread are one
pub one_end : (job : Job) → OneEnd job
one_end job b o q x y = same_outcome o q (leads x.2) y.2 x.3 y.3
