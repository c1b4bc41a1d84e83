-- The texts of paths.
use Rattle.std.proofs.Common.{◌≡◌, ℕ, ◌<◌, ◌≤◌, Bool, true, false, ◌==◌, List, [], ◌∷◌, length, slice_index, refl, sym, ◌∙◌, arith, cond}
use Rattle.std.specs.List.{slice_split, onto_first}
use Rattle.std.proofs.lemmas.List.Elements.{All-head}
use Rattle.std.proofs.lemmas.List.Splits.{length-slice_split}
use Rattle.priml_io.specs.Words.{IsDigit}
use Rattle.inputs_text.specs.PathText.{Pairwise, between_dots, IsPartText, IsPathText}
use Rattle.inputs_text.proofs.Pairs.{pairs-one, pairs-length}

pub part-one : (text : List ℕ) (n m : ℕ) → IsPartText text n → IsPartText text m → n ≡ m
part-one text n m a b = a.value ∙ sym b.value

empty-part : (parts : List (List ℕ)) (path : List ℕ) → Pairwise IsPartText ([] ∷ parts) path → ⊥
empty-part parts [] p = p
empty-part parts (n ∷ ns) p = omega (arith, p.0.digits.0)

first-digit : (b : ℕ) (parts : List (List ℕ)) (path : List ℕ) → Pairwise IsPartText (onto_first b parts) path → IsDigit b
first-digit b [] [] p = absurd p
first-digit b [] (n ∷ ns) p = All-head IsDigit b [] p.0.digits.1
first-digit b (part ∷ parts) [] p = absurd p
first-digit b (part ∷ parts) (n ∷ ns) p = All-head IsDigit b part p.0.digits.1

-- a path's text begins with a digit
pub path-begins : (text path : List ℕ) → Pairwise IsPartText (between_dots text) path → (b : ℕ) × (rest : List ℕ) × (text ≡ b ∷ rest) × IsDigit b
path-begins [] path p = absurd (empty-part [] path p)
path-begins (b ∷ rest) path p = (b, rest, refl, go (b == 46) p)
  where
    go : (t : Bool) → Pairwise IsPartText (cond t ([] ∷ slice_split (λ x. x == 46) rest) (onto_first b (slice_split (λ x. x == 46) rest))) path → IsDigit b
    go true q = absurd (empty-part (slice_split (λ x. x == 46) rest) path q)
    go false q = first-digit b (slice_split (λ x. x == 46) rest) path q

pub path-some : (text path : List ℕ) → Pairwise IsPartText (between_dots text) path → 0 < length path
path-some text path p = omega (arith, pairs-length IsPartText (between_dots text) path p, length-slice_split (λ x. x == 46) text)

-- a text is one path at most
pub path-one : (last : ℕ) (text p q : List ℕ) → IsPathText last text p → IsPathText last text q → p ≡ q
path-one last text p q a b = pairs-one IsPartText part-one (between_dots text) p q a.parts b.parts

-- parts that are no path's
pub path-refused : (last : ℕ) (text parts : List ℕ) → Pairwise IsPartText (between_dots text) parts → ¬ ((slice_index parts 0 ≤ last) × (length parts ≤ 32)) → (q : List ℕ) → ¬ IsPathText last text q
path-refused last text parts p n q h =
    let same : q ≡ parts = pairs-one IsPartText part-one (between_dots text) q parts h.parts p in
    n (rw (← same) h.root, rw (← same) h.few)
