-- What a line gives: one thing at most.
use Rattle.std.proofs.Common.{◌≡◌, ◌≢◌, ℕ, ◌+◌, ◌-◌, ◌<◌, ◌≤◌, ℤ, Bool, true, false, ◌&&◌, List, [], ◌∷◌, ◌++◌, length, take, drop, slice_index, slice_get, Option, None, Some, All, refl, sym, ap, ◌∙◌, inl, inr, arith, take-append-drop, drop-cons, add-one, IsTrue}
use Rattle.std.specs.List.{list_all}
use Rattle.std.proofs.lemmas.Bool.Decides.{nat_tests}
use Rattle.std.proofs.lemmas.List.Elements.{All-head, All-tail}
use Rattle.std.proofs.lemmas.List.{take_all}
use Rattle.std.proofs.Common.{length-drop}
use Rattle.priml_io.specs.Lines.{is_blank}
use Rattle.priml_io.specs.Words.{IsDigit}
use Rattle.inputs_text.specs.PathText.{IsPathText}
use Rattle.inputs_text.specs.InputLines.{IsNumberText, AreNumbers, words_of, IsCutAtColon, Gives, IsInputLine, IsBadLine}
use Rattle.inputs_text.proofs.Pairs.{pairs-one}
use Rattle.inputs_text.proofs.PathForms.{path-begins, path-one}
use Rattle.inputs_text.proofs.Numbers.{number-one}

blank-small : (b : ℕ) → is_blank b ≡ true → b ≤ 32
blank-small b e = grind (arith, nat_tests)

blank-no_digit : (b : ℕ) (more : List ℕ) → IsDigit b → IsTrue (list_all is_blank (b ∷ more)) → ⊥
blank-no_digit b more d h = go (is_blank b) refl h
  where
    go : (t : Bool) → is_blank b ≡ t → IsTrue (t && list_all is_blank more) → ⊥
    go true e k = omega (arith, blank-small b e, d.0)
    go false e k = let clash : false ≡ true = k in absurd (cc)

comment-no_digit : (b : ℕ) (more : List ℕ) → IsDigit b → slice_get (b ∷ more) 0 ≡ Some 35 → ⊥
comment-no_digit b more d h = let same : b ≡ 35 = cc in omega (arith, d.0)

-- a line that gives numbers is neither blank nor a comment
nothing-apart : (line path : List ℕ) (numbers : List ℤ) → IsInputLine line None → Gives line path numbers → ⊥
nothing-apart line path numbers n g =
    let first = path-begins g.before path g.path_text.parts in
    let is : line ≡ first.0 ∷ (first.1 ++ 58 ∷ g.after) = g.cut.is ∙ ap (λ t. t ++ 58 ∷ g.after) first.2 in
    go first.0 (first.1 ++ 58 ∷ g.after) (rw is at n) first.3
  where
    go : (b : ℕ) (more : List ℕ) → IsInputLine (b ∷ more) None → IsDigit b → ⊥
    go b more (inl h) d = blank-no_digit b more d h
    go b more (inr h) d = comment-no_digit b more d h

cut-same : (a b c d : List ℕ) → a ++ 58 ∷ b ≡ c ++ 58 ∷ d → All (λ x. x ≢ 58) a → All (λ x. x ≢ 58) c → (a ≡ c) × (b ≡ d)
cut-same [] b [] d e p q = let same : b ≡ d = cc in (refl, same)
cut-same [] b (x ∷ c) d e p q = let same : x ≡ 58 = cc in absurd (All-head (λ x. x ≢ 58) x c q same)
cut-same (x ∷ a) b [] d e p q = let same : x ≡ 58 = cc in absurd (All-head (λ x. x ≢ 58) x a p same)
cut-same (x ∷ a) b (y ∷ c) d e p q =
    let rest : a ++ 58 ∷ b ≡ c ++ 58 ∷ d = cc in
    let r = cut-same a b c d rest (All-tail (λ x. x ≢ 58) x a p) (All-tail (λ x. x ≢ 58) y c q) in
    let head : x ≡ y = cc in
    let tail : a ≡ c = r.0 in
    let whole : x ∷ a ≡ y ∷ c = cc in
    (whole, r.1)

-- a line has one first colon at most
pub cut-one : (line a b c d : List ℕ) → IsCutAtColon line a b → IsCutAtColon line c d → (a ≡ c) × (b ≡ d)
cut-one line a b c d p q = cut-same a b c d (sym p.is ∙ q.is) p.first q.first

numbers-one : (text : List ℕ) (a b : List ℤ) → AreNumbers text a → AreNumbers text b → a ≡ b
numbers-one text a b p q = pairs-one IsNumberText number-one (words_of text) a b p q

given-one : (line : List ℕ) (x y : List ℕ × List ℤ) → Gives line x.0 x.1 → Gives line y.0 y.1 → x ≡ y
given-one line x y g h =
    let cuts = cut-one line g.before g.after h.before h.after g.cut h.cut in
    let paths : x.0 ≡ y.0 = path-one 0 h.before x.0 y.0 (rw cuts.0 at g.path_text) h.path_text in
    let numbers : x.1 ≡ y.1 = numbers-one h.after x.1 y.1 (rw cuts.1 at g.numbers_text) h.numbers_text in
    ap (λ p. (p, x.1)) paths ∙ ap (λ n. (y.0, n)) numbers

-- a line says one thing at most
pub line-one : (line : List ℕ) (f g : Option (List ℕ × List ℤ)) → IsInputLine line f → IsInputLine line g → f ≡ g
line-one line None None a b = refl
line-one line None (Some y) a b = absurd (nothing-apart line y.0 y.1 a b)
line-one line (Some x) None a b = absurd (nothing-apart line x.0 x.1 b a)
line-one line (Some x) (Some y) a b = ap Some (given-one line x y a b)

-- a line that says something and has no colon is bad
pub no-colon : (before after : List ℕ) → All (λ b. b ≢ 58) (before ++ 58 ∷ after) → ⊥
no-colon [] after p = All-head (λ b. b ≢ 58) 58 after p refl
no-colon (b ∷ before) after p = no-colon before after (All-tail (λ b. b ≢ 58) b (before ++ 58 ∷ after) p)

pub bad-uncut : (line : List ℕ) → ¬ IsInputLine line None → All (λ b. b ≢ 58) line → IsBadLine line
bad-uncut line n p None h = n h
bad-uncut line n p (Some x) h = no-colon h.before h.after (rw h.cut.is at p)

pub bad-path : (line path numbers : List ℕ) → ¬ IsInputLine line None → IsCutAtColon line path numbers → ((p : List ℕ) → ¬ IsPathText 0 path p) → IsBadLine line
bad-path line path numbers n c b None h = n h
bad-path line path numbers n c b (Some x) h = b x.0 (rw (cut-one line h.before h.after path numbers h.cut c).0 at h.path_text)

pub bad-numbers : (line path numbers : List ℕ) → ¬ IsInputLine line None → IsCutAtColon line path numbers → ((ns : List ℤ) → ¬ AreNumbers numbers ns) → IsBadLine line
bad-numbers line path numbers n c b None h = n h
bad-numbers line path numbers n c b (Some x) h = b x.1 (rw (cut-one line h.before h.after path numbers h.cut c).1 at h.numbers_text)

-- the first colon at place i
pub cut-at : (line rest : List ℕ) (i : ℕ) → i < length line → slice_index line i ≡ 58 → All (λ b. b ≢ 58) (take i line) → rest ≡ drop (i + 1) line → IsCutAtColon line (take i line) rest
cut-at line rest i h e p r =
    let split : drop i line ≡ 58 ∷ drop (i + 1) line = rw (drop-cons line i 0, e, add-one) refl in
    record { is = sym (take-append-drop i line) ∙ ap (λ v. take i line ++ v) (split ∙ ap (λ v. 58 ∷ v) (sym r)); first = p }

-- the slice of a list from n on
pub rest-is : (text : List ℕ) (n : ℕ) → take (length text - n) (drop n text) ≡ drop n text
rest-is text n = take_all (length text - n) (drop n text) (omega (arith, length-drop n text))
