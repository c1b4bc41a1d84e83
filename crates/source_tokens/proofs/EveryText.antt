-- Every text has tokens: at each place the longest lexeme is a word, a number or a sign, or there is none.
use Rattle.std.proofs.Common.{◌≡◌, ℕ, zero, suc, ◌+◌, ◌^◌, ◌≤◌, ◌<◌, List, [], ◌∷◌, ◌++◌, Bool, true, false, inl, inr, length, take, drop, get_or, slice_get, Some, refl, sym, ap, ◌∙◌, arith}
use Rattle.std.specs.Prelude.{◌⊎◌, IsTrue, nat_eq}
use Rattle.std.specs.List.{prefix_len}
use Rattle.std.specs.Cmp.Lexicographic.{pointwise, same_text, other_text}
use Rattle.std.proofs.lemmas.Bool.{cases_eq, cases_lt, both_ways}
use Rattle.std.proofs.lemmas.List.{take-append-drop, length-append}
use Rattle.priml_io.specs.Words.{value_of}
use Rattle.source_tokens.specs.declared.token.Word.{Word}
use Rattle.source_tokens.specs.declared.token.Sign.{Sign}
use Rattle.source_tokens.specs.declared.token.Sign.TheVariants as s
use Rattle.source_tokens.specs.declared.token.Kind.{Kind}
use Rattle.source_tokens.specs.declared.token.Kind.TheVariants as k
use Rattle.source_tokens.specs.declared.token.Token.{Token}
use Rattle.source_tokens.specs.declared.token.Stop.{Stop}
use Rattle.source_tokens.specs.declared.token.Stop.TheVariants as stop
use Rattle.source_tokens.specs.Inside.Gaps.{begins}
use Rattle.source_tokens.specs.Lexemes.{is_word, is_number, is_part, is_digit, begins_word, word_spelling, sign_spelling, IsLongest, BeginsNone}
use Rattle.source_tokens.specs.Lexes.{IsName, Spells, word, sign, number, old_name, new_name, opens, open_behind, place, Lexes, done, bad_byte, bad_number, too_deep, next}
use Rattle.source_tokens.specs.Inside.Forms.{IsSignAt}
use Rattle.source_tokens.specs.Laws.{HasTokens}
use Rattle.source_tokens.proofs.Longest.{byte_begins_none, word_front, word_longest, number_front, number_longest, sign_front, sign_longest}
use Rattle.source_tokens.proofs.Spelled.{spelled}
use Rattle.source_tokens.proofs.Tables.{words, signs, word_place, sign_place, word_known, sign_known}
use Rattle.source_tokens.proofs.Lawful.{behind_shorter, lexeme_some}
use Rattle.source_tokens.proofs.Skips.{skips_to}

-- one of a list that has a property
record Hit {A : Type 0} (P : A → Type 0) (xs : List A) : Type 0 where
  at : ℕ
  it : A
  there : slice_get xs at ≡ Some it
  holds : P it

abbrev NoHit : {A : Type 0} → (A → Type 0) → List A → Type 0
NoHit P xs = (i : ℕ) (x : _) → slice_get xs i ≡ Some x → P x → ⊥

module _ {A : Type 0} (P : A → Type 0) (decide : (x : A) → P x ⊎ (P x → ⊥)) where
  none_of : (x : A) (xs : List A) → (P x → ⊥) → NoHit P xs → NoHit P (x ∷ xs)
  none_of x xs never none zero y e h = let same : y ≡ x = cc in never (rw (sym same) h)
  none_of x xs never none (suc i) y e h = none i y e h

  find : (xs : List A) → Hit P xs ⊎ NoHit P xs
  find [] = inr (λ i x e h. absurd (cc))
  find (x ∷ xs) = by (decide x) (find xs)
    where
      by : P x ⊎ (P x → ⊥) → Hit P xs ⊎ NoHit P xs → Hit P (x ∷ xs) ⊎ NoHit P (x ∷ xs)
      by (inl h) rest = inl (record { at = zero; it = x; there = refl; holds = h })
      by (inr never) (inl h) = inl (record { at = suc h.at; it = h.it; there = h.there; holds = h.holds })
      by (inr never) (inr none) = inr (none_of x xs never none)

same_or : (a b : List ℕ) → (a ≡ b) ⊎ (a ≡ b → ⊥)
same_or a b = by (pointwise nat_eq a b) refl
  where
    by : (t : Bool) → pointwise nat_eq a b ≡ t → (a ≡ b) ⊎ (a ≡ b → ⊥)
    by true e = inl (same_text a b (sym e))
    by false e = inr (other_text a b (sym e))

-- Words and names.
-- a lexeme that writes some token
record Written (known : List (List ℕ)) (lexeme : List ℕ) : Type 0 where
  kind : Kind
  later : List (List ℕ)
  spells : Spells known lexeme kind later

name_written : (known : List (List ℕ)) (lexeme : List ℕ) → IsName lexeme → Written known lexeme
name_written known lexeme name = by (find (λ n. n ≡ lexeme) (λ n. same_or n lexeme) known)
  where
    by : Hit (λ n. n ≡ lexeme) known ⊎ NoHit (λ n. n ≡ lexeme) known → Written known lexeme
    by (inl h) = record { kind = k.Name h.at; later = known; spells = old_name h.at name (h.there ∙ ap Some h.holds) refl refl }
    by (inr none) = record { kind = k.Name (length known); later = known ++ (lexeme ∷ []); spells = new_name name (λ id e. none id lexeme e refl) refl refl }

word_written : (known : List (List ℕ)) (lexeme : List ℕ) → IsTrue (is_word lexeme) → Written known lexeme
word_written known lexeme formed = by (find (λ x. lexeme ≡ word_spelling x) (λ x. same_or lexeme (word_spelling x)) words)
  where
    by : Hit (λ x. lexeme ≡ word_spelling x) words ⊎ NoHit (λ x. lexeme ≡ word_spelling x) words → Written known lexeme
    by (inl h) = record { kind = k.Word h.it; later = known; spells = word h.it h.holds refl refl }
    by (inr none) = name_written known lexeme (record { formed = formed; free = λ x e. none (word_place x) x (word_known x) e })

-- Signs.
both : {P Q : Type 0} → P ⊎ (P → ⊥) → Q ⊎ (Q → ⊥) → (P × Q) ⊎ (P × Q → ⊥)
both (inl p) (inl q) = inl (p, q)
both (inl p) (inr never) = inr (λ h. never h.1)
both (inr never) q = inr (λ h. never h.0)

less_or : (b c : ℕ) → IsSignAt s.Less b c ⊎ (IsSignAt s.Less b c → ⊥)
less_or b c = by (cases_eq b 60) (cases_eq c 45) (cases_eq c 61)
  where
    by : (b ≡ 60) ⊎ (b ≡ 60 → ⊥) → (c ≡ 45) ⊎ (c ≡ 45 → ⊥) → (c ≡ 61) ⊎ (c ≡ 61 → ⊥) → IsSignAt s.Less b c ⊎ (IsSignAt s.Less b c → ⊥)
    by (inr never) _ _ = inr (λ h. never h.0)
    by (inl first) (inl arrow) _ = inr (λ h. h.1 arrow)
    by (inl first) (inr a) (inl at_most) = inr (λ h. h.2 at_most)
    by (inl first) (inr a) (inr m) = inl (first, a, m)

sign_or : (b c : ℕ) (x : Sign) → IsSignAt x b c ⊎ (IsSignAt x b c → ⊥)
sign_or b c s.Arrow = both (cases_eq b 60) (cases_eq c 45)
sign_or b c s.AtMost = both (cases_eq b 60) (cases_eq c 61)
sign_or b c s.Equal = both (cases_eq b 61) (cases_eq c 61)
sign_or b c s.Less = less_or b c
sign_or b c x = cases_eq b _

-- what stands at the front of some bytes
data Front (known : List (List ℕ)) (bs : List ℕ) : Type 0 where
  token : (lexeme rest : List ℕ) → bs ≡ lexeme ++ rest → IsLongest lexeme rest → Written known lexeme → Front known bs
  large : (lexeme rest : List ℕ) → bs ≡ lexeme ++ rest → IsLongest lexeme rest → IsTrue (is_number lexeme) → 2 ^ 63 ≤ value_of lexeme → Front known bs
  nothing : BeginsNone bs → Front known bs

module _ (known : List (List ℕ)) (b : ℕ) (tail : List ℕ) where
  parts : (n : ℕ) → b ∷ tail ≡ take n (b ∷ tail) ++ drop n (b ∷ tail)
  parts n = sym (take-append-drop n (b ∷ tail))

  word_there : begins_word b ≡ true → Front known (b ∷ tail)
  word_there h =
      let n = prefix_len is_part (b ∷ tail) in
      token (take n (b ∷ tail)) (drop n (b ∷ tail)) (parts n) (word_longest (b ∷ tail) n b tail refl h refl)
      (word_written known (take n (b ∷ tail)) (word_front (b ∷ tail) n b tail refl h refl))

  number_there : is_digit b ≡ true → Front known (b ∷ tail)
  number_there h = by (prefix_len is_digit (b ∷ tail)) refl
    where
      by : (n : ℕ) → n ≡ prefix_len is_digit (b ∷ tail) → Front known (b ∷ tail)
      by n e = sized (cases_lt (value_of (take n (b ∷ tail))) (2 ^ 63))
        where
          digits : IsTrue (is_number (take n (b ∷ tail)))
          digits = number_front (b ∷ tail) n b tail refl h e

          sized : (value_of (take n (b ∷ tail)) < 2 ^ 63) ⊎ (2 ^ 63 ≤ value_of (take n (b ∷ tail))) → Front known (b ∷ tail)
          sized (inl small) =
              token (take n (b ∷ tail)) (drop n (b ∷ tail)) (parts n) (number_longest (b ∷ tail) n b tail refl h e)
              (record { kind = k.Number (value_of (take n (b ∷ tail))); later = known; spells = number digits small refl refl })
          sized (inr big) = large (take n (b ∷ tail)) (drop n (b ∷ tail)) (parts n) (number_longest (b ∷ tail) n b tail refl h e) digits big

  sign_there : begins_word b ≡ false → is_digit b ≡ false → Front known (b ∷ tail)
  sign_there no_word no_digit = by (find (λ x. IsSignAt x b c) (sign_or b c) signs)
    where
      c : ℕ
      c = get_or tail 0 0

      by : Hit (λ x. IsSignAt x b c) signs ⊎ NoHit (λ x. IsSignAt x b c) signs → Front known (b ∷ tail)
      by (inl h) =
          let n = length (sign_spelling h.it) in
          token (take n (b ∷ tail)) (drop n (b ∷ tail)) (parts n) (sign_longest (b ∷ tail) n b tail refl h.it h.holds refl)
          (record { kind = k.Sign h.it; later = known; spells = sign h.it (sign_front (b ∷ tail) n b tail refl h.it h.holds refl) refl refl })
      by (inr none) = nothing (byte_begins_none b tail no_word no_digit (λ x at. none (sign_place x) x (sign_known x) at))

  front : Front known (b ∷ tail)
  front = by (begins_word b) refl (is_digit b) refl
    where
      by : (t : Bool) → begins_word b ≡ t → (d : Bool) → is_digit b ≡ d → Front known (b ∷ tail)
      by true h d g = word_there h
      by false h true g = number_there g
      by false h false g = sign_there h g

-- some bytes at the end of a text, as tokens
record Has (total depth : ℕ) (known : List (List ℕ)) (bs : List ℕ) : Type 0 where
  tokens : List Token
  names : List (List ℕ)
  end : Stop
  lexes : Lexes total depth known bs tokens names end

shorter : (bs lexeme rest : List ℕ) → begins bs ≡ lexeme ++ rest → 0 < length lexeme → length rest < length bs
shorter bs lexeme rest e some =
    let l = behind_shorter false bs in
    let parts : length (begins bs) ≡ length lexeme + length rest = ap length e ∙ length-append lexeme rest in
    omega (arith, l, parts, some)

module _ (n total depth : ℕ) (known : List (List ℕ)) (bs : List ℕ) (within : length bs ≤ n)
    (below : (depth : ℕ) (known : List (List ℕ)) (bs : List ℕ) → length bs < n → Has total depth known bs) where
  token_here : (lexeme rest : List ℕ) → begins bs ≡ lexeme ++ rest → IsLongest lexeme rest → Written known lexeme → Has total depth known bs
  token_here lexeme rest e longest x = by (opens x.kind) refl (cases_lt depth 64)
    where
      goes_on : (IsTrue (opens x.kind) → depth < 64) → Has total depth known bs
      goes_on shallow =
          let more = below (open_behind x.kind depth) x.later rest (omega (arith, within, shorter bs lexeme rest e (lexeme_some lexeme (spelled x.spells)))) in
          record { tokens = record { at = place total (lexeme ++ rest); kind = x.kind } ∷ more.tokens; names = more.names; end = more.end; lexes = next lexeme rest x.kind x.later more.tokens (skips_to e) longest x.spells shallow refl more.lexes }

      by : (t : Bool) → opens x.kind ≡ t → (depth < 64) ⊎ (64 ≤ depth) → Has total depth known bs
      by t o (inl shallow) = goes_on (λ h. shallow)
      by false o (inr deep) = goes_on (λ h. absurd (both_ways (opens x.kind) o h))
      by true o (inr deep) =
          record { tokens = record { at = place total (lexeme ++ rest); kind = x.kind } ∷ []; names = x.later; end = stop.TooDeep (place total (lexeme ++ rest)); lexes = too_deep lexeme rest x.kind (skips_to e) longest x.spells o deep refl refl }

  here : (b : ℕ) (tail : List ℕ) → begins bs ≡ b ∷ tail → Front known (b ∷ tail) → Has total depth known bs
  here b tail e (token lexeme rest f longest x) = token_here lexeme rest (e ∙ f) longest x
  here b tail e (large lexeme rest f longest digits big) =
      record { tokens = []; names = known; end = stop.BadNumber (place total (lexeme ++ rest)); lexes = bad_number lexeme rest (skips_to (e ∙ f)) longest digits big refl refl refl }
  here b tail e (nothing none) = record { tokens = []; names = known; end = stop.BadByte (place total (b ∷ tail)); lexes = bad_byte b tail (skips_to e) none refl refl refl }

  from : (us : List ℕ) → begins bs ≡ us → Has total depth known bs
  from [] e = record { tokens = []; names = known; end = stop.Done; lexes = done (skips_to e) refl refl refl }
  from (b ∷ tail) e = here b tail e (front known b tail)

has : (n total depth : ℕ) (known : List (List ℕ)) (bs : List ℕ) → length bs < n → Has total depth known bs
has zero total depth known bs l = absurd (omega (arith, l))
has (suc n) total depth known bs l = from n total depth known bs (omega (arith, l)) (λ d ks us m. has n total d ks us m) (begins bs) refl

pub every_text : (text : List ℕ) → HasTokens text
every_text text = let h = has (length text + 1) (length text) 0 [] text (omega arith) in record { tokens = h.tokens; names = h.names; end = h.end; lexed = h.lexes }
