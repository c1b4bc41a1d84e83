-- Each of these facts holds or does not.
use Rattle.std.proofs.Common.{◌≡◌, ◌≢◌, ℕ, ◌≤◌, ◌⊎◌, List, [], ◌∷◌, length, take, drop, codes, Bool, true, false, IsTrue, All, refl, arith, inl, inr}
use Rattle.std.specs.List.{list_all}
use Rattle.std.proofs.lemmas.Bool.{false≢true}
use Rattle.std.proofs.lemmas.List.Elements.{All-nil, All-cons, All-head, All-tail}
use Rattle.std.proofs.lemmas.Bool.Decides.{leb_tells, eqb_tells}
use Rattle.priml_io.specs.Words.{IsDigit, IsDigits}
use Rattle.priml_io.specs.Lines.{is_blank}
use Rattle.priml_io.specs.Sections.{IsMarked, IsPadded}
use Rattle.priml_io.proofs.SectionsLemmas.{padded, not_padded, unpadded}

pub le_or_not : (a b : ℕ) → (a ≤ b) ⊎ ¬ (a ≤ b)
le_or_not a b = elim (leb_tells a b) [ inl e ↦ inl e.1 | inr e ↦ inr (λ h. let l = e.1 in omega (arith, l, h)) ]

pub equal_or_not : (a b : ℕ) → (a ≡ b) ⊎ (a ≢ b)
equal_or_not a b = elim (eqb_tells a b) [ inl e ↦ inl e.1 | inr e ↦ inr e.1 ]

pub both_or_not : {P Q : Type 0} → P ⊎ ¬ P → Q ⊎ ¬ Q → (P × Q) ⊎ ¬ (P × Q)
both_or_not (inl p) (inl q) = inl (p, q)
both_or_not (inl p) (inr n) = inr (λ h. n h.1)
both_or_not (inr n) q = inr (λ h. n h.0)

pub either_or_not : {P Q : Type 0} → P ⊎ ¬ P → Q ⊎ ¬ Q → (P ⊎ Q) ⊎ ¬ (P ⊎ Q)
either_or_not (inl p) q = inl (inl p)
either_or_not (inr n) (inl q) = inl (inr q)
either_or_not (inr n) (inr m) = inr (λ h. elim h [ inl p ↦ n p | inr q ↦ m q ])

pub all_or_not : {X : Type 0} (P : X → Type 0) → ((x : X) → P x ⊎ ¬ P x) → (xs : List X) → All P xs ⊎ ¬ All P xs
all_or_not P each [] = inl (All-nil P)
all_or_not P each (x ∷ xs) =
    elim (both_or_not (each x) (all_or_not P each xs)) [
      | inl h ↦ inl (All-cons P x xs h.0 h.1)
      | inr n ↦ inr (λ h. n (All-head P x xs h, All-tail P x xs h))
    ]

pub same_text_or_not : (xs ys : List ℕ) → (xs ≡ ys) ⊎ (xs ≢ ys)
same_text_or_not [] [] = inl refl
same_text_or_not [] (y ∷ ys) = inr (λ e. cc)
same_text_or_not (x ∷ xs) [] = inr (λ e. cc)
same_text_or_not (x ∷ xs) (y ∷ ys) =
    elim (both_or_not (equal_or_not x y) (same_text_or_not xs ys)) [
      | inl h ↦ inl (let first : x ≡ y = h.0 in let rest : xs ≡ ys = h.1 in cc)
      | inr n ↦ inr (λ e. n ((let first : x ≡ y = cc in first), (let rest : xs ≡ ys = cc in rest)))
    ]

pub digits_or_not : (word : List ℕ) → IsDigits word ⊎ ¬ IsDigits word
digits_or_not word = both_or_not (le_or_not 1 (length word)) (all_or_not IsDigit (λ b. both_or_not (le_or_not 48 b) (le_or_not b 57)) word)

pub true_or_not : (t : Bool) → IsTrue t ⊎ ¬ IsTrue t
true_or_not true = inl refl
true_or_not false = inr false≢true

pub padded_or_not : (start line : List ℕ) → IsPadded start line ⊎ ¬ IsPadded start line
padded_or_not start line =
    elim (same_text_or_not (take (length start) line) start) [
      | inr n ↦ inr (unpadded start line n)
      | inl e ↦ elim (true_or_not (list_all is_blank (drop (length start) line))) [
        | inl b ↦ inl (padded start line e b)
        | inr n ↦ inr (not_padded start line e n)
      ]
    ]

pub marked_or_not : (text : List ℕ) → IsMarked text ⊎ ¬ IsMarked text
marked_or_not text = same_text_or_not (take 3 text) (codes "===")
