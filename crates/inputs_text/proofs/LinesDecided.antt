-- Lines are inputs, or have a first fault.
use Rattle.std.proofs.Common.{◌≡◌, ◌≢◌, ℕ, zero, suc, ◌+◌, ◌^◌, ◌<◌, ℤ, pos, neg_ℤ, List, [], ◌∷◌, ◌++◌, length, slice_index, Option, None, Some, All, refl, sym, ap, subst, inl, inr, ◌⊎◌, arith, append_assoc, append-nil}
use Rattle.std.specs.Prelude.{FitsSigned}
use Rattle.std.specs.Int.{w64}
use Rattle.std.specs.List.{list_all}
use Rattle.std.proofs.lemmas.List.Elements.{All-nil, All-cons}
use Rattle.priml_io.specs.Words.{value_of}
use Rattle.priml_io.specs.Lines.{is_blank}
use Rattle.priml_io.proofs.Decided.{le_or_not, equal_or_not, both_or_not, either_or_not, true_or_not, same_text_or_not, digits_or_not}
use Rattle.priml_syntax.specs.Inputs.{IsNoneOf}
use Rattle.inputs_text.specs.declared.inputs.InputFault.{InputFault}
use Rattle.inputs_text.specs.declared.inputs.InputFault.TheVariants as fault
use Rattle.inputs_text.specs.PathText.{Pairwise, IsPartText, IsPathText, between_dots}
use Rattle.inputs_text.specs.InputLines.{IsValue, IsNegated, IsNumberText, AreNumbers, words_of, IsComment, IsCutAtColon, IsInputLine, IsBadLine}
use Rattle.inputs_text.specs.Inputs.{HasPath, IsInputs, IsFirstFault, LinesAreRead}
use Rattle.inputs_text.proofs.PathForms.{path-refused}
use Rattle.inputs_text.proofs.LineForms.{bad-uncut, bad-path, bad-numbers}
use Rattle.inputs_text.proofs.Reading.{inputs-more}

-- each item is related to something or to nothing, and so is the list
pairs_or_none : {A B : Type 0} (R : A → B → Type 0) → ((x : A) → ((y : B) × R x y) ⊎ ((y : B) → ¬ R x y)) → (xs : List A) → ((ys : List B) × Pairwise R xs ys) ⊎ ((ys : List B) → ¬ Pairwise R xs ys)
pairs_or_none R each [] = inl ([], tt)
pairs_or_none {A} {B} R each (x ∷ xs) = go (each x) (pairs_or_none R each xs) where
  no-head : ((y : B) → ¬ R x y) → (ys : List B) → ¬ Pairwise R (x ∷ xs) ys
  no-head n [] p = p
  no-head n (y ∷ ys) p = n y p.0

  no-tail : ((ys : List B) → ¬ Pairwise R xs ys) → (ys : List B) → ¬ Pairwise R (x ∷ xs) ys
  no-tail n [] p = p
  no-tail n (y ∷ ys) p = n ys p.1

  go : ((y : B) × R x y) ⊎ ((y : B) → ¬ R x y) → ((ys : List B) × Pairwise R xs ys) ⊎ ((ys : List B) → ¬ Pairwise R xs ys) → ((ys : List B) × Pairwise R (x ∷ xs) ys) ⊎ ((ys : List B) → ¬ Pairwise R (x ∷ xs) ys)
  go (inl h) (inl t) = inl (h.0 ∷ t.0, (h.1, t.1))
  go (inr n) t = inr (no-head n)
  go (inl h) (inr n) = inr (no-tail n)

plain_or_not : (text : List ℕ) → (slice_index text 0 ≡ 48 → length text ≡ 1) ⊎ ¬ (slice_index text 0 ≡ 48 → length text ≡ 1)
plain_or_not text =
    elim (equal_or_not (length text) 1) [
      | inl e ↦ inl (λ z. e)
      | inr n ↦ elim (equal_or_not (slice_index text 0) 48) [ inl z ↦ inr (λ h. n (h z)) | inr m ↦ inl (λ z. absurd (m z)) ]
    ]

pub part_or_none : (text : List ℕ) → ((n : ℕ) × IsPartText text n) ⊎ ((n : ℕ) → ¬ IsPartText text n)
part_or_none text =
    elim (both_or_not (digits_or_not text) (both_or_not (plain_or_not text) (le_or_not (suc (value_of text)) (2 ^ 32)))) [
      | inl h ↦ inl (value_of text, record { digits = h.0; plain = h.1.0; value = refl; small = h.1.1 })
      | inr no' ↦ inr (λ n p. no' (p.digits, (p.plain, subst (λ v. v < 2 ^ 32) p.value p.small)))
    ]

pub path_or_none : (last : ℕ) (text : List ℕ) → ((p : List ℕ) × IsPathText last text p) ⊎ ((p : List ℕ) → ¬ IsPathText last text p)
path_or_none last text =
    elim (pairs_or_none IsPartText part_or_none (between_dots text)) [
      | inr none ↦ inr (λ p h. none p h.parts)
      | inl ps ↦ elim (both_or_not (le_or_not (slice_index ps.0 0) last) (le_or_not (length ps.0) 32)) [
        | inl h ↦ inl (ps.0, record { parts = ps.1; root = h.0; few = h.1 })
        | inr wrong ↦ inr (path-refused last text ps.0 ps.1 wrong)
      ]
    ]

plus_or_not : (v : ℕ) → FitsSigned w64 (pos v) ⊎ ¬ FitsSigned w64 (pos v)
plus_or_not v = elim (le_or_not (suc v) (2 ^ 63)) [ inl h ↦ inl (record { sfits = h }) | inr n ↦ inr (λ f. n f.sfits) ]

minus_or_not : (v : ℕ) → FitsSigned w64 (neg_ℤ (pos v)) ⊎ ¬ FitsSigned w64 (neg_ℤ (pos v))
minus_or_not zero = plus_or_not 0
minus_or_not (suc k) = elim (le_or_not (suc k) (2 ^ 63)) [ inl h ↦ inl (record { sfits = h }) | inr n ↦ inr (λ f. n f.sfits) ]

value_or_none : (text : List ℕ) → ((n : ℤ) × IsValue text n) ⊎ ((n : ℤ) → ¬ IsValue text n)
value_or_none text =
    elim (both_or_not (digits_or_not text) (plus_or_not (value_of text))) [
      | inl h ↦ inl (pos (value_of text), (h.0, refl, h.1))
      | inr none ↦ inr (λ n v. none (v.0, subst (FitsSigned w64) v.1 v.2))
    ]

negated_or_none : (text : List ℕ) → ((n : ℤ) × IsNegated text n) ⊎ ((n : ℤ) → ¬ IsNegated text n)
negated_or_none text =
    elim (both_or_not (digits_or_not text) (minus_or_not (value_of text))) [
      | inl h ↦ inl (neg_ℤ (pos (value_of text)), (h.0, refl, h.1))
      | inr none ↦ inr (λ n v. none (v.0, subst (FitsSigned w64) v.1 v.2))
    ]

number_or_none : (text : List ℕ) → ((n : ℤ) × IsNumberText text n) ⊎ ((n : ℤ) → ¬ IsNumberText text n)
number_or_none [] = inr none where
  none : (n : ℤ) → ¬ IsNumberText [] n
  none n (inl v) = omega (arith, v.0.0)
  none n (inr (ds, e, v)) = cc
number_or_none (b ∷ bs) = go (value_or_none (b ∷ bs)) (equal_or_not b 45) (negated_or_none bs) where
  wrong : (b ≡ 45 → (n : ℤ) → ¬ IsNegated bs n) → ((n : ℤ) → ¬ IsValue (b ∷ bs) n) → (n : ℤ) → ¬ IsNumberText (b ∷ bs) n
  wrong m v n (inl h) = v n h
  wrong m v n (inr (ds, e, h)) =
      let minus : b ≡ 45 = cc in
      let same : ds ≡ bs = cc in
      m minus n (rw same at h)

  go : ((n : ℤ) × IsValue (b ∷ bs) n) ⊎ ((n : ℤ) → ¬ IsValue (b ∷ bs) n) → (b ≡ 45) ⊎ (b ≢ 45) → ((n : ℤ) × IsNegated bs n) ⊎ ((n : ℤ) → ¬ IsNegated bs n) → ((n : ℤ) × IsNumberText (b ∷ bs) n) ⊎ ((n : ℤ) → ¬ IsNumberText (b ∷ bs) n)
  go (inl v) e m = inl (v.0, inl v.1)
  go (inr v) (inr n) m = inr (wrong (λ e. absurd (n e)) v)
  go (inr v) (inl e) (inr m) = inr (wrong (λ k. m) v)
  go (inr v) (inl e) (inl m) = inl (m.0, inr (bs, ap (λ c. c ∷ bs) e, m.1))

numbers_or_none : (text : List ℕ) → ((ns : List ℤ) × AreNumbers text ns) ⊎ ((ns : List ℤ) → ¬ AreNumbers text ns)
numbers_or_none text = pairs_or_none IsNumberText number_or_none (words_of text)

-- the first colon of a line, or that it has none
pub cut_or_none : (line : List ℕ) → ((path : List ℕ) × (numbers : List ℕ) × IsCutAtColon line path numbers) ⊎ All (λ b. b ≢ 58) line
cut_or_none [] = inr (All-nil (λ b. b ≢ 58))
cut_or_none (b ∷ bs) = go (equal_or_not b 58) (cut_or_none bs) where
  go : (b ≡ 58) ⊎ (b ≢ 58) → ((path : List ℕ) × (numbers : List ℕ) × IsCutAtColon bs path numbers) ⊎ All (λ x. x ≢ 58) bs → ((path : List ℕ) × (numbers : List ℕ) × IsCutAtColon (b ∷ bs) path numbers) ⊎ All (λ x. x ≢ 58) (b ∷ bs)
  go (inl e) rest = inl ([], bs, record { is = ap (λ v. v ∷ bs) e; first = All-nil (λ x. x ≢ 58) })
  go (inr n) (inl c) = inl (b ∷ c.0, c.1, record { is = ap (λ v. b ∷ v) c.2.is; first = All-cons (λ x. x ≢ 58) b c.0 n c.2.first })
  go (inr n) (inr none) = inr (All-cons (λ x. x ≢ 58) b bs n none)

comment_or_not : (line : List ℕ) → IsComment line ⊎ ¬ IsComment line
comment_or_not [] = inr (λ e. cc)
comment_or_not (b ∷ bs) = elim (equal_or_not b 35) [ inl e ↦ inl (ap Some e) | inr n ↦ inr (λ e. n (let k : b ≡ 35 = cc in k)) ]

-- what a line says, or that it says nothing right
form_or_bad : (line : List ℕ) → ((form : Option (List ℕ × List ℤ)) × IsInputLine line form) ⊎ IsBadLine line
form_or_bad line = go (either_or_not (true_or_not (list_all is_blank line)) (comment_or_not line)) (cut_or_none line) where
  given : ¬ IsInputLine line None → (path numbers : List ℕ) → IsCutAtColon line path numbers → ((p : List ℕ) × IsPathText 0 path p) ⊎ ((p : List ℕ) → ¬ IsPathText 0 path p) → ((ns : List ℤ) × AreNumbers numbers ns) ⊎ ((ns : List ℤ) → ¬ AreNumbers numbers ns) → ((form : Option (List ℕ × List ℤ)) × IsInputLine line form) ⊎ IsBadLine line
  given n path numbers c (inr none) ns = inr (bad-path line path numbers n c none)
  given n path numbers c (inl p) (inr none) = inr (bad-numbers line path numbers n c none)
  given n path numbers c (inl p) (inl ns) = inl (Some (p.0, ns.0), record { before = path; after = numbers; cut = c; path_text = p.1; numbers_text = ns.1 })

  go : IsInputLine line None ⊎ ¬ IsInputLine line None → ((path : List ℕ) × (numbers : List ℕ) × IsCutAtColon line path numbers) ⊎ All (λ b. b ≢ 58) line → ((form : Option (List ℕ × List ℤ)) × IsInputLine line form) ⊎ IsBadLine line
  go (inl h) c = inl (None, h)
  go (inr n) (inr none) = inr (bad-uncut line n none)
  go (inr n) (inl c) = given n c.0 c.1 c.2 (path_or_none 0 c.0) (numbers_or_none c.1)

-- whether a path has a list
path_known : (p : List ℕ) (lists : List (List ℕ × List ℤ)) → HasPath p lists ⊎ IsNoneOf p lists
path_known p [] = inr tt
path_known p (x ∷ xs) = go (same_text_or_not x.0 p) (path_known p xs) where
  go : (x.0 ≡ p) ⊎ (x.0 ≢ p) → HasPath p xs ⊎ IsNoneOf p xs → HasPath p (x ∷ xs) ⊎ IsNoneOf p (x ∷ xs)
  go (inl e) rest = inl (inl e)
  go (inr n) (inl h) = inl (inr h)
  go (inr n) (inr none) = inr (n, none)

abbrev Decided : List (List ℕ) → Type 0
Decided ls = ((lists : List (List ℕ × List ℤ)) × IsInputs ls lists) ⊎ ((f : InputFault) × IsFirstFault ls f)

-- the next line, behind lines that give these lists
module _ (before : List (List ℕ)) (lists : List (List ℕ × List ℤ)) (right : IsInputs before lists) (line : List ℕ) (after : List (List ℕ)) where
  abbrev Goes : Type 0
  Goes = ((later : List (List ℕ × List ℤ)) × IsInputs (before ++ line ∷ []) later) ⊎ ((f : InputFault) × IsFirstFault (before ++ line ∷ after) f)

  given_goes : (given : List ℕ × List ℤ) → IsInputLine line (Some given) → HasPath given.0 lists ⊎ IsNoneOf given.0 lists → Goes
  given_goes given h (inl known) = inr (fault.TwicePath (length before + 1), record { before = before; line = line; after = after; lists = lists; is = refl; right = right; wrong = (refl, (given, h, known)) })
  given_goes given h (inr new) = inl (lists ++ given ∷ [], inputs-more before line lists (lists ++ given ∷ []) right (inr (given, h, new, refl)))

  goes : ((form : Option (List ℕ × List ℤ)) × IsInputLine line form) ⊎ IsBadLine line → Goes
  goes (inr bad) = inr (fault.BadLine (length before + 1), record { before = before; line = line; after = after; lists = lists; is = refl; right = right; wrong = (refl, bad) })
  goes (inl (None, h)) = inl (lists, inputs-more before line lists lists right (inl (h, refl)))
  goes (inl (Some given, h)) = given_goes given h (path_known given.0 lists)

decided_from : (before : List (List ℕ)) (lists : List (List ℕ × List ℤ)) → IsInputs before lists → (after : List (List ℕ)) → Decided (before ++ after)
decided_from before lists right [] = inl (lists, subst (λ v. IsInputs v lists) (sym (append-nil before)) right)
decided_from before lists right (line ∷ after) =
    elim (goes before lists right line after (form_or_bad line)) [
      | inr f ↦ inr f
      | inl more ↦ subst Decided (append_assoc before (line ∷ []) after) (decided_from (before ++ line ∷ []) more.0 more.1 after)
    ]

pub all_read : LinesAreRead
all_read ls = decided_from [] [] (record { forms = []; each = tt; gives = refl; once = tt }) ls
