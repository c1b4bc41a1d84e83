-- Entailment over priorities is the order over their numbers.
use Rattle.std.proofs.Common.{◌≡◌, ◌↔◌, ℕ, ◌+◌, ◌<◌, List, [], ◌∷◌, ◌++◌, map, zero, suc, refl, sym, ap, ◌∙◌, subst, ◌⊎◌, inl, inr, arith}
use Rattle.std.specs.List.{Contains}
use Rattle.std.proofs.lemmas.List.{length-map}
use Rattle.std.proofs.Math.ListN.{get_or-map}
use Rattle.std.proofs.lemmas.List.Elements.{All-contains, Contains-append_left, Contains-append_right, Contains-append_cases}
use Rattle.priml_syntax.specs.declared.prio.Prio.{Prio}
use Rattle.priml_syntax.specs.declared.prio.Prio.TheVariants.{Const, Var}
use Rattle.priority_order.specs.Order.{Pair, IsChain, AtMost, IsWithin}
use Rattle.priority_order.proofs.Paths.{reflexive, transitive, declared}
use Rattle.constraint_proof.specs.Entailed.{Constraint, Entailed, by_declared, by_assumed, by_reflexive, by_transitive, IsValid, AreValid}
use Rattle.constraint_proof.specs.Numbers.{number, numbered}

abbrev pub edges : ℕ → List Pair → List Constraint → List Pair
edges count pairs given = pairs ++ map (numbered count) given

pub Contains-map : {A B : Type 0} (f : A → B) (xs : List A) (x : A) → Contains xs x → Contains (map f xs) (f x)
Contains-map f xs x h = (h.0, omega (arith, h.1, length-map xs f), get_or-map f xs h.0 x ∙ ap f h.2)

later : {A B : Type 0} (f : A → B) (x : A) (xs : List A) (y : B) → (z : A) × Contains xs z × (f z ≡ y) → (z : A) × Contains (x ∷ xs) z × (f z ≡ y)
later f x xs y m = (m.0, (suc m.1.0, omega (arith, m.1.1), m.1.2), m.2)

pub Contains-map_from : {A B : Type 0} (f : A → B) (xs : List A) (y : B) → Contains (map f xs) y → (x : A) × Contains xs x × (f x ≡ y)
Contains-map_from f [] y h = absurd (omega (arith, h.1))
Contains-map_from f (x ∷ xs) y (zero, lt, h) = (x, (zero, omega arith, refl), h)
Contains-map_from f (x ∷ xs) y (suc k, lt, h) = later f x xs y (Contains-map_from f xs y (k, omega arith, h))

pub number_below : (count : ℕ) (p : Prio) → IsValid count p → number count p < count + 64
number_below count (Const a) h = omega arith
number_below count (Var v) h = omega arith

pub same_number : (count : ℕ) (p q : Prio) → IsValid count p → IsValid count q → number count p ≡ number count q → p ≡ q
same_number count (Const a) (Const b) h k e = ap Const e
same_number count (Const a) (Var b) h k e = absurd (omega arith)
same_number count (Var a) (Const b) h k e = absurd (omega arith)
same_number count (Var a) (Var b) h k e = let z : a ≡ b = omega arith in ap Var z

module _ (count : ℕ) (pairs : List Pair) (given : List Constraint) where
  pub numbers_lead : {p q : Prio} → Entailed pairs given p q → AtMost (edges count pairs given) (number count p) (number count q)
  numbers_lead (by_declared {a = a} {b = b} h) = declared (edges count pairs given) a b (Contains-append_left pairs (map (numbered count) given) (a, b) h)
  numbers_lead (by_assumed {p = p} {q = q} h) = declared (edges count pairs given) (number count p) (number count q) (Contains-append_right pairs (map (numbered count) given) (numbered count (p, q)) (Contains-map (numbered count) given (p, q) h))
  numbers_lead (by_reflexive {p = p}) = reflexive (edges count pairs given) (number count p)
  numbers_lead (by_transitive {p = p} {q = q} {r = r} x y) = transitive (edges count pairs given) (number count p) (number count q) (number count r) (numbers_lead x) (numbers_lead y)

  module _ (in_pairs : IsWithin count pairs) (in_given : AreValid count given) where
    -- where a path from p's number ends
    pub record Reaches (p : Prio) (y : ℕ) : Type 0 where
      pub end : Prio
      pub valid : IsValid count end
      pub is : number count end ≡ y
      pub entailed : Entailed pairs given p end

    then_reaches : (p q : Prio) (y : ℕ) → Entailed pairs given p q → Reaches q y → Reaches p y
    then_reaches p q y h r = record { end = r.end; valid = r.valid; is = r.is; entailed = by_transitive h r.entailed }

    first_step : (p : Prio) (e : Pair) → IsValid count p → Contains pairs e ⊎ Contains (map (numbered count) given) e → e.0 ≡ number count p → (q : Prio) × IsValid count q × (number count q ≡ e.1) × Entailed pairs given p q
    first_step (Const a) e v (inl h) is = (Const e.1, (All-contains (λ (p : Pair). (p.0 < count) × (p.1 < count)) pairs e in_pairs h).1, refl, by_declared (subst (λ x. Contains pairs (x, e.1)) is h))
    first_step (Var a) e v (inl h) is = absurd (let z = (All-contains (λ (p : Pair). (p.0 < count) × (p.1 < count)) pairs e in_pairs h).0 in omega arith)
    first_step p e v (inr h) is =
        let m = Contains-map_from (numbered count) given e h in
        let c = m.0 in
        let ok = All-contains (λ (c : Constraint). IsValid count c.0 × IsValid count c.1) given c in_given m.1 in
        let same : c.0 ≡ p = same_number count c.0 p ok.0 v (ap (λ (x : Pair). x.0) m.2 ∙ is) in
        (c.1, ok.1, ap (λ (x : Pair). x.1) m.2, subst (λ x. Entailed pairs given x c.1) same (by_assumed m.1))

    path_reaches : (p : Prio) → IsValid count p → (x : ℕ) → x ≡ number count p → (path : List Pair) (y : ℕ) → IsChain (edges count pairs given) x path y → Reaches p y
    path_reaches p v x is [] y e = record { end = p; valid = v; is = sym is ∙ e; entailed = by_reflexive }
    path_reaches p v x is (e ∷ path) y l =
        let s = first_step p e v (Contains-append_cases pairs (map (numbered count) given) e l.0) (l.1 ∙ is) in
        then_reaches p s.0 y s.3 (path_reaches s.0 s.1 e.1 (sym s.2) path y l.2)

    pub numbers_tell : (p q : Prio) → IsValid count p → IsValid count q → AtMost (edges count pairs given) (number count p) (number count q) → Entailed pairs given p q
    numbers_tell p q v w h =
        let r = path_reaches p v (number count p) refl h.path (number count q) h.leads in
        subst (λ x. Entailed pairs given p x) (same_number count r.end q r.valid w r.is) r.entailed

-- what a closure of the numbered constraints answers
pub numbers_decide : (count : ℕ) (pairs : List Pair) (given : List Constraint) → IsWithin count pairs → AreValid count given → (p q : Prio) → IsValid count p → IsValid count q → (all : List Pair) → all ≡ edges count pairs given → (x y : ℕ) → x ≡ number count p → y ≡ number count q → AtMost all x y ↔ Entailed pairs given p q
numbers_decide count pairs given in_pairs in_given p q v w all is x y ex ey =
    rw (is, ex, ey) (λ h. numbers_tell count pairs given in_pairs in_given p q v w h, λ h. numbers_lead count pairs given h)

pub decided : {A B C : Type 0} → (A ↔ B) → (B ↔ C) → A ↔ C
decided f g = (λ a. g.0 (f.0 a), λ c. f.1 (g.1 c))

-- what a derivation speaks of is valid, unless it says that a priority is at most itself
pub entailed_tells : (count : ℕ) (pairs : List Pair) (given : List Constraint) → IsWithin count pairs → AreValid count given → {p q : Prio} → Entailed pairs given p q → (p ≡ q) ⊎ (IsValid count p × IsValid count q)
entailed_tells count pairs given ps gs (by_declared {a = a} {b = b} h) = inr (All-contains (λ (p : Pair). (p.0 < count) × (p.1 < count)) pairs (a, b) ps h)
entailed_tells count pairs given ps gs (by_assumed {p = p} {q = q} h) = inr (All-contains (λ (c : Constraint). IsValid count c.0 × IsValid count c.1) given (p, q) gs h)
entailed_tells count pairs given ps gs by_reflexive = inl refl
entailed_tells count pairs given ps gs (by_transitive {p = p} {q = q} {r = r} x y) = join p q r (entailed_tells count pairs given ps gs x) (entailed_tells count pairs given ps gs y)
  where
    join : (p q r : Prio) → (p ≡ q) ⊎ (IsValid count p × IsValid count q) → (q ≡ r) ⊎ (IsValid count q × IsValid count r) → (p ≡ r) ⊎ (IsValid count p × IsValid count r)
    join p q r (inl e) (inl f) = inl (e ∙ f)
    join p q r (inl e) (inr v) = inr (subst (IsValid count) (sym e) v.0, v.1)
    join p q r (inr v) (inl f) = inr (v.0, subst (IsValid count) f v.1)
    join p q r (inr v) (inr w) = inr (v.0, w.1)
