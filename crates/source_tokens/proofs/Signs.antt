-- The bytes of signs: none has the form of a word or a number, and only `<` has longer kin.
use Rattle.std.proofs.Common.{◌≡◌, ℕ, List, [], ◌∷◌, ◌++◌, false, length, take, drop, get_or, refl, ap, ◌∙◌, inl, inr, arith}
use Rattle.std.specs.Prelude.{◌⊎◌}
use Rattle.std.specs.Cmp.Lexicographic.{other_text}
use Rattle.std.proofs.lemmas.Bool.{cases_eq}
use Rattle.source_tokens.specs.declared.token.Sign.{Sign}
use Rattle.source_tokens.specs.declared.token.Sign.TheVariants as s
use Rattle.source_tokens.specs.Lexemes.{is_word, is_number, is_digit, begins_word, sign_spelling}
use Rattle.source_tokens.specs.Inside.Forms.{IsSignAt}

pub sign_no_word : (x : Sign) (more : List ℕ) → is_word (sign_spelling x ++ more) ≡ false
sign_no_word s.Arrow more = refl
sign_no_word _ more = refl

pub sign_no_number : (x : Sign) (more : List ℕ) → is_number (sign_spelling x ++ more) ≡ false
sign_no_number s.Arrow more = refl
sign_no_number _ more = refl

pub sign_some : (x : Sign) → [] ≡ sign_spelling x → ⊥
sign_some s.Arrow e = cc
sign_some _ e = cc

-- the first byte of a sign begins neither a word nor a number
pub sign_first_word : (x : Sign) → begins_word (get_or (sign_spelling x) 0 0) ≡ false
sign_first_word s.Arrow = refl
sign_first_word _ = refl

pub sign_first_digit : (x : Sign) → is_digit (get_or (sign_spelling x) 0 0) ≡ false
sign_first_digit s.Arrow = refl
sign_first_digit _ = refl

-- the byte with which a longer sign goes on
abbrev pub Longer : Sign → ℕ → Type 0
Longer s.Less c = (c ≡ 45) ⊎ (c ≡ 61)
Longer _ c = ⊥

pub sign_longer : (x y : Sign) (c : ℕ) (more : List ℕ) → sign_spelling x ++ (c ∷ more) ≡ sign_spelling y → Longer x c
sign_longer s.Less s.Arrow c more e = inl cc
sign_longer s.Less s.AtMost c more e = inr cc
sign_longer x s.Plus c more e = absurd (other_text (sign_spelling x ++ (c ∷ more)) (sign_spelling s.Plus) refl e)
sign_longer x y c more e = absurd (other_text (sign_spelling x ++ (c ∷ more)) (sign_spelling y) refl e)

-- the sign of the first two bytes is the front of the text
pub sign_taken : (x : Sign) (b : ℕ) (tail : List ℕ) → IsSignAt x b (get_or tail 0 0) → take (length (sign_spelling x)) (b ∷ tail) ≡ sign_spelling x
sign_taken s.Arrow b [] h = absurd (omega arith)
sign_taken s.Arrow b (c ∷ cs) h = cc
sign_taken s.AtMost b [] h = absurd (omega arith)
sign_taken s.AtMost b (c ∷ cs) h = cc
sign_taken s.Equal b [] h = absurd (omega arith)
sign_taken s.Equal b (c ∷ cs) h = cc
sign_taken s.Less b tail h = ap (λ x. x ∷ []) h.0
sign_taken _ b tail h = ap (λ x. x ∷ []) h

-- a text that begins with a sign has a sign at its first two bytes
pub sign_there : (x : Sign) (b : ℕ) (bs rest : List ℕ) → b ∷ bs ≡ sign_spelling x → (y : Sign) × IsSignAt y b (get_or (bs ++ rest) 0 0)
sign_there s.Arrow b bs rest e = let t : bs ≡ 45 ∷ [] = cc in (s.Arrow, (cc, ap (λ l. get_or (l ++ rest) 0 0) t))
sign_there s.AtMost b bs rest e = let t : bs ≡ 61 ∷ [] = cc in (s.AtMost, (cc, ap (λ l. get_or (l ++ rest) 0 0) t))
sign_there s.Equal b bs rest e = let t : bs ≡ 61 ∷ [] = cc in (s.Equal, (cc, ap (λ l. get_or (l ++ rest) 0 0) t))
sign_there s.Less b bs rest e =
    let first : b ≡ 60 = cc in
    let c = get_or (bs ++ rest) 0 0 in
    elim (cases_eq c 45) [
      | inl arrow ↦ (s.Arrow, (first, arrow))
      | inr other ↦ elim (cases_eq c 61) [ inl at_most ↦ (s.AtMost, (first, at_most)) | inr alone ↦ (s.Less, (first, other, alone)) ]
    ]
sign_there x b bs rest e = (x, ap (λ l. get_or l 0 0) e)

-- no longer sign goes on behind it
pub sign_stops : (x : Sign) (b : ℕ) (tail : List ℕ) → IsSignAt x b (get_or tail 0 0) → (c : ℕ) (more : List ℕ) → drop (length (sign_spelling x)) (b ∷ tail) ≡ c ∷ more → Longer x c → ⊥
sign_stops s.Less b tail h c more e longer =
    let same : get_or tail 0 0 ≡ c = ap (λ l. get_or l 0 0) e in
    elim longer [ inl arrow ↦ h.1 (same ∙ arrow) | inr at_most ↦ h.2 (same ∙ at_most) ]
sign_stops _ b tail h c more e longer = longer
