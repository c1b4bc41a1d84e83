-- Pieces that are well written are the tokens of their text.
use Rattle.std.proofs.Common.{◌≡◌, ℕ, ◌+◌, ◌-◌, ◌^◌, ◌≤◌, ◌<◌, List, [], ◌∷◌, ◌++◌, length, take, Bool, true, false, get_or, refl, sym, ◌∙◌, ap, subst, arith, length-append, if◌then◌else◌}
use Rattle.std.specs.Prelude.{not, ◌&&◌, ◌||◌, ◌==◌, nat_lt, nat_le, ◌⊎◌}
use Rattle.std.specs.List.{list_all}
use Rattle.std.specs.Fmt.{decimal}
use Rattle.std.proofs.lemmas.Fmt.{decimal_digit}
use Rattle.std.proofs.lemmas.List.{take_more}
use Rattle.std.proofs.lemmas.Bool.{and_parts, false≢true}
use Rattle.std.proofs.lemmas.Bool.Decides.{nat_tests}
use Rattle.source_tokens.specs.declared.token.Word.{Word}
use Rattle.source_tokens.specs.declared.token.Word.TheVariants as w
use Rattle.source_tokens.specs.declared.token.Sign.{Sign}
use Rattle.source_tokens.specs.declared.token.Sign.TheVariants as s
use Rattle.source_tokens.specs.declared.token.Kind.{Kind}
use Rattle.source_tokens.specs.declared.token.Kind.TheVariants as k
use Rattle.source_tokens.specs.declared.token.Token.{Token}
use Rattle.source_tokens.specs.declared.token.Stop.TheVariants as stop
use Rattle.source_tokens.specs.Lexemes.{is_separator, ends_gap, Skips, here, separator, is_digit, begins_word, is_part, is_word, is_number, word_spelling, sign_spelling, IsLongest}
use Rattle.source_tokens.specs.Lexes.{Spells, word, sign, number, old_name, new_name, open_behind, Lexes, next}
use Rattle.source_tokens.proofs.Signs.{Longer}
use Rattle.source_tokens.proofs.Longest.{longest_word, longest_number, longest_sign}
use Rattle.source_maker.proofs.Decimal.{Writes, decimal_writes}
use Rattle.source_maker.proofs.Names.{is_name, new, taken, length_taken}
use Rattle.source_maker.proofs.Pieces.{names, Written, a_word, a_sign, a_name, digit, numeral, spelling, kind_of, Piece, render, tokens, depth_behind, counted, count_behind, ends_sign, ends_well, checked}

word_stands : (b : ℕ) → begins_word b ≡ true → (not (is_separator b) && not (b == 35)) ≡ true
word_stands b e = grind (arith, nat_tests)

digit_stands : (b : ℕ) → is_digit b ≡ true → (not (is_separator b) && not (b == 35)) ≡ true
digit_stands b e = grind (arith, nat_tests)

-- the first byte begins no comment and is no separator
abbrev Begins : List ℕ → Type 0
Begins lexeme = (b : ℕ) × (bs : List ℕ) × (lexeme ≡ b ∷ bs) × (ends_gap (b ∷ bs) ≡ true)

behind_gap : (gap : List ℕ) (b : ℕ) (bs : List ℕ) → list_all is_separator gap ≡ true → ends_gap (b ∷ bs) ≡ true → Skips (gap ++ (b ∷ bs)) (b ∷ bs)
behind_gap [] b bs h stands = here stands refl
behind_gap (g ∷ gap) b bs h stands =
    let parts = and_parts (is_separator g) (list_all is_separator gap) h in
    separator g (gap ++ (b ∷ bs)) refl parts.0 (behind_gap gap b bs parts.1 stands)

begins_here : (gap lexeme rest : List ℕ) → list_all is_separator gap ≡ true → Begins lexeme → Skips (gap ++ (lexeme ++ rest)) (lexeme ++ rest)
begins_here gap lexeme rest h first =
    let e = ap (λ l. l ++ rest) first.2 in
    subst (λ l. Skips (gap ++ l) l) (sym e) (behind_gap gap first.0 (first.1 ++ rest) h first.3)

word_formed : (v : Word) → is_word (word_spelling v) ≡ true
word_formed w.Priority = refl
word_formed _ = refl

word_begins : (bs : List ℕ) → is_word bs ≡ true → Begins bs
word_begins [] h = absurd (false≢true h)
word_begins (b ∷ bs) h = (b, bs, refl, word_stands b (and_parts (begins_word b) (list_all is_part bs) h).0)

number_begins : (bs : List ℕ) → is_number bs ≡ true → Begins bs
number_begins [] h = absurd (false≢true h)
number_begins (b ∷ bs) h = (b, bs, refl, digit_stands b (and_parts (is_digit b) (list_all is_digit bs) h).0)

sign_begins : (x : Sign) → Begins (sign_spelling x)
sign_begins s.Arrow = (60, 45 ∷ [], refl, refl)
sign_begins s.AtMost = (60, 61 ∷ [], refl, refl)
sign_begins s.Equal = (61, 61 ∷ [], refl, refl)
sign_begins x = (get_or (sign_spelling x) 0 0, [], refl, refl)

below : (a b : ℕ) → nat_lt a b ≡ true → a < b
below a b h = grind (arith, nat_tests)

at_most : (a b : ℕ) → nat_le a b ≡ true → a ≤ b
at_most a b h = grind (arith, nat_tests)

negated : (b : Bool) → not b ≡ true → b ≡ false
negated true h = absurd (false≢true h)
negated false h = refl

-- a number of one digit is written as in decimal
digit_writes : (d : ℕ) → d < 10 → Writes d ((48 + d) ∷ [])
digit_writes d l = subst (Writes d) (decimal_digit d l) (decimal_writes d (omega arith))

-- what a piece says where it ends well
record Ends (x : Written) (count : ℕ) (rest : List ℕ) : Type 0 where
  begins : Begins (spelling x)
  longest : IsLongest (spelling x) rest
  spells : Spells (take count names) (spelling x) (kind_of x) (take (counted x count) names)
  few : counted x count ≤ 10

stops : (p : ℕ → Bool) (rest : List ℕ) → not (p (get_or rest 0 0)) ≡ true → (b : ℕ) (more : List ℕ) → rest ≡ b ∷ more → p b ≡ false
stops p rest h b more e = ap (λ l. p (get_or l 0 0)) (sym e) ∙ negated (p (get_or rest 0 0)) h

no_longer : (x : Sign) (rest : List ℕ) → ends_sign x (get_or rest 0 0) ≡ true → (c : ℕ) (more : List ℕ) → rest ≡ c ∷ more → Longer x c → ⊥
no_longer s.Less rest h c more e longer = none c (ap (λ l. ends_sign s.Less (get_or l 0 0)) (sym e) ∙ h) longer
  where
    none : (c : ℕ) → not ((c == 45) || (c == 61)) ≡ true → (c ≡ 45) ⊎ (c ≡ 61) → ⊥
    none c h longer = grind (arith, nat_tests)
no_longer _ rest h c more e longer = longer

module _ (count : ℕ) (rest : List ℕ) (few : count ≤ 10) where
  number_ends : (n : ℕ) (bs : List ℕ) → n < 2 ^ 63 → Writes n bs → not (is_digit (get_or rest 0 0)) ≡ true →
      Begins bs × IsLongest bs rest × Spells (take count names) bs (k.Number n) (take count names)
  number_ends n bs l w h =
      (number_begins bs w.formed, longest_number bs rest w.formed (stops is_digit rest h), number w.formed (omega (arith, w.is)) (ap k.Number (sym w.is)) refl)

  name_spells : (id : ℕ) → id < 10 → id ≤ count → (e : Bool) → (id == count) ≡ e →
      Spells (take count names) (get_or names id []) (k.Name id) (take (if e then count + 1 else count) names) × ((if e then count + 1 else count) ≤ 10)
  name_spells id l m true e =
      let same : count ≡ id = grind (arith, nat_tests) in (
        subst (λ c. Spells (take c names) (get_or names id []) (k.Name id) (take (c + 1) names)) (sym same)
            (new_name (is_name id l) (new id l) (ap k.Name (sym (length_taken names id (omega arith)))) (take_more names id [] l)),
        omega arith,
      )
  name_spells id l m false e =
      let less : id < count = grind (arith, nat_tests) in
      (old_name id (is_name id l) (taken names count id less few) refl refl, few)

  ends : (x : Written) → ends_well x count (get_or rest 0 0) ≡ true → Ends x count rest
  ends (a_word v) h = record {
    begins = word_begins (word_spelling v) (word_formed v);
    longest = longest_word (word_spelling v) rest (word_formed v) (stops is_part rest h);
    spells = word v refl refl refl;
    few = few;
  }
  ends (a_sign x) h = record { begins = sign_begins x; longest = longest_sign x rest (no_longer x rest h); spells = sign x refl refl refl; few = few }
  ends (a_name id) h =
      let outer = and_parts (nat_le id count) (nat_lt id 10 && not (is_part (get_or rest 0 0))) h in
      let inner = and_parts (nat_lt id 10) (not (is_part (get_or rest 0 0))) outer.1 in
      let l = below id 10 inner.0 in
      let name = is_name id l in
      let spelled = name_spells id l (at_most id count outer.0) (id == count) refl in
      record {
        begins = word_begins (get_or names id []) name.formed;
        longest = longest_word (get_or names id []) rest name.formed (stops is_part rest inner.1);
        spells = spelled.0;
        few = spelled.1;
      }
  ends (digit d) h =
      let parts = and_parts (nat_lt d 10) (not (is_digit (get_or rest 0 0))) h in
      let l = below d 10 parts.0 in
      let n = number_ends d ((48 + d) ∷ []) (omega arith) (digit_writes d l) parts.1 in
      record { begins = n.0; longest = n.1; spells = n.2; few = few }
  ends (numeral m) h =
      let parts = and_parts (nat_lt m (2 ^ 63)) (not (is_digit (get_or rest 0 0))) h in
      let l = below m (2 ^ 63) parts.0 in
      let n = number_ends m (decimal m) l (decimal_writes m (omega arith)) parts.1 in
      record { begins = n.0; longest = n.1; spells = n.2; few = few }

abbrev token : ℕ → Kind → Token
token at kind = record { at = at; kind = kind }

-- well written pieces are the tokens of their text, and then those of the rest
pub lexes : (total base : ℕ) (ps : List Piece) (at depth count : ℕ) (rest : List ℕ) (more : List Token) → count ≤ 10 → checked ps depth count rest ≡ true →
    total ≡ base + (at + length (render ps rest)) → Lexes total (depth_behind ps depth) (take (count_behind ps count) names) rest more names stop.Done →
    Lexes total depth (take count names) (render ps rest) (tokens base at ps more) names stop.Done
lexes total base [] at depth count rest more few h e last = last
lexes total base (p ∷ ps) at depth count rest more few h e last =
    let x = p.written in
    let bs = render ps rest in
    let outer = and_parts (list_all is_separator p.gap) (nat_lt depth 64 && (ends_well x count (get_or bs 0 0) && checked ps (open_behind (kind_of x) depth) (counted x count) rest)) h in
    let middle = and_parts (nat_lt depth 64) (ends_well x count (get_or bs 0 0) && checked ps (open_behind (kind_of x) depth) (counted x count) rest) outer.1 in
    let inner = and_parts (ends_well x count (get_or bs 0 0)) (checked ps (open_behind (kind_of x) depth) (counted x count) rest) middle.1 in
    let end = ends count bs few x inner.0 in
    let there = begins_here p.gap (spelling x) bs outer.0 end.begins in
    let sizes = length-append p.gap (spelling x ++ bs) in
    let size = length-append (spelling x) bs in
    let place : base + (at + length p.gap) ≡ total - length (spelling x ++ bs) = omega (arith, sizes, e) in
    next (spelling x) bs (kind_of x) (take (counted x count) names) (tokens base (at + length p.gap + length (spelling x)) ps more) there end.longest end.spells
    (λ opening. below depth 64 middle.0)
    (ap (λ a. token a (kind_of x) ∷ tokens base (at + length p.gap + length (spelling x)) ps more) place)
    (lexes total base ps (at + length p.gap + length (spelling x)) (open_behind (kind_of x) depth) (counted x count) rest more end.few inner.1 (omega (arith, sizes, size, e)) last)
