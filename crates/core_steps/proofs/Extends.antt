-- How derivations of one thread go on from one another.
use Rattle.std.proofs.Common.{◌≡◌, ℕ, ◌+◌, ◌≤◌, List, [], ◌∷◌, ◌++◌, Option, Some, None, length, ◌⊎◌, inl, inr, refl, sym, ◌∙◌, ap, arith, append_assoc, append-nil}
use Rattle.std.proofs.lemmas.List.{length_push}
use Rattle.std.proofs.lemmas.Bool.{cases_lt}
use Rattle.priml_syntax.specs.declared.event.Event.{Event}
use Rattle.priml_syntax.specs.Values.{Outcome'}
use Rattle.core_steps.specs.Steps.{Job, State, Moved, step, Ran, root, born, alone, joined}
use Rattle.core_steps.proofs.Named.{push_not_nil}

-- the first of these events is that of a step from the state
abbrev pub Goes : Job → State → List Event → Type 0
Goes job t [] = Unit {0}
Goes job t (e ∷ rest) = (w : Option Outcome') × (m : Moved) × (step job t w ≡ Some m) × (m.event ≡ e)

-- es goes on from fs, where t was passed on the way to s
pub record Extends (job : Job) (fs : List Event) (t : State) (es : List Event) (s : State) : Type 0 where
  pub rest : List Event
  pub joins : fs ++ rest ≡ es
  pub goes : Goes job t rest
  pub last : rest ≡ [] → t ≡ s

-- the next step on the way to es
pub record NextStep (job : Job) (gs : List Event) (t : State) (es : List Event) : Type 0 where
  pub outcome : Option Outcome'
  pub move : Moved
  pub rest : List Event
  pub steps : step job t outcome ≡ Some move
  pub joins : gs ++ move.event ∷ rest ≡ es

-- it is the same place, or there is a next step
pub at_end_or_steps : {job : Job} {gs es : List Event} {t s : State} → Extends job gs t es s → ((gs ≡ es) × (t ≡ s)) ⊎ NextStep job gs t es
at_end_or_steps {job} {gs} {es} {t} {s} x = go x.rest x.goes x.joins x.last
  where
    go : (r : List Event) → Goes job t r → gs ++ r ≡ es → (r ≡ [] → t ≡ s) → ((gs ≡ es) × (t ≡ s)) ⊎ NextStep job gs t es
    go [] g j l = inl (sym (append-nil gs) ∙ j, l refl)
    go (e ∷ r) g j l = inr (record { outcome = g.0; move = g.1; rest = r; steps = g.2; joins = ap (λ z. gs ++ z ∷ r) g.3 ∙ j })

pub at_end : {job : Job} {gs es : List Event} {t s : State} → gs ≡ es → t ≡ s → Extends job gs t es s
at_end {gs} e f = record { rest = []; joins = append-nil gs ∙ e; goes = tt; last = λ _. f }

goes_push : (job : Job) (t t' : State) (rest : List Event) (w : Option Outcome') (m : Moved) →
    Goes job t rest → (rest ≡ [] → t ≡ t') → step job t' w ≡ Some m → Goes job t (rest ++ m.event ∷ [])
goes_push job t t' [] w m g l e = (w, m, rw (l refl) e, refl)
goes_push job t t' (x ∷ rest) w m g l e = g

-- one step more
pub more : {job : Job} {gs fs es : List Event} {t t' s : State} (w : Option Outcome') (m : Moved) →
    Extends job gs t fs t' → step job t' w ≡ Some m → es ≡ fs ++ m.event ∷ [] → Extends job gs t es s
more {job} {gs} {t} {t'} w m x e eq =
    record {
      rest = x.rest ++ m.event ∷ [];
      joins = sym (append_assoc gs x.rest (m.event ∷ [])) ∙ (ap (λ l. l ++ m.event ∷ []) x.joins ∙ sym eq);
      goes = goes_push job t t' x.rest w m x.goes x.last e;
      last = λ z. absurd (push_not_nil x.rest m.event z);
    }

-- a derivation passes every length below its own
pub record Cut (job : Job) (p : List ℕ) (k : ℕ) (es : List Event) (s : State) : Type 0 where
  pub fs : List Event
  pub t : State
  pub ran : Ran job p fs t
  pub len : length fs ≡ k
  pub extends : Extends job fs t es s

whole : {job : Job} {p : List ℕ} {es : List Event} {s : State} (k : ℕ) → Ran job p es s → length es ≡ k → Cut job p k es s
whole {es} {s} k d e = record { fs = es; t = s; ran = d; len = e; extends = at_end refl refl }

cut_more : {job : Job} {p : List ℕ} {k : ℕ} {es fs : List Event} {t s : State} (w : Option Outcome') (m : Moved) →
    Cut job p k fs t → step job t w ≡ Some m → es ≡ fs ++ m.event ∷ [] → Cut job p k es s
cut_more w m c e eq = record { fs = c.fs; t = c.t; ran = c.ran; len = c.len; extends = more w m c.extends e eq }

pub length_pushed : {X : Type 0} {es : List X} (fs : List X) (x : X) → es ≡ fs ++ x ∷ [] → length es ≡ length fs + 1
length_pushed fs x e = ap length e ∙ length_push fs x

-- up to n, or one more
pub below_or : {A : Type 0} (k n m : ℕ) → m ≡ n + 1 → k ≤ m → (k ≤ n → A) → (m ≡ k → A) → A
below_or k n m e h f g = elim (cases_lt n k) [ inl l ↦ g (omega arith) | inr l ↦ f l ]

pub cut : {job : Job} {p : List ℕ} {es : List Event} {s : State} (k : ℕ) → Ran job p es s → k ≤ length es → Cut job p k es s
cut k (root g a b c) h = whole k (root g a b c) (omega (arith, ap length b, h))
cut k (born d a b c e f g) h = whole k (born d a b c e f g) (omega (arith, ap length f, h))
cut k (alone {fs} {t} {m} d a b c e) h = below_or k (length fs) _ (length_pushed fs m.event c) h (λ l. cut_more None m (cut k d l) b c) (λ l. whole k (alone d a b c e) l)
cut k (joined {fs} {t} {o} {m} d d' a b c e f) h = below_or k (length fs) _ (length_pushed fs m.event e) h (λ l. cut_more (Some o) m (cut k d l) c e) (λ l. whole k (joined d d' a b c e f) l)
