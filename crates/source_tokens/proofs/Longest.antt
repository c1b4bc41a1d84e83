-- The longest lexeme at the front of a text, by its form.
use Rattle.std.proofs.Common.{◌≡◌, ℕ, List, [], ◌∷◌, ◌++◌, Bool, true, false, length, take, drop, get_or, refl, sym, ap, subst, ◌∙◌, arith}
use Rattle.std.specs.Prelude.{IsTrue}
use Rattle.std.specs.List.{list_all, prefix_len}
use Rattle.std.proofs.Math.Numerals.{one-add}
use Rattle.std.proofs.lemmas.Bool.{both_ways, and_parts, false≢true, or_left, and_from}
use Rattle.std.proofs.lemmas.Bool.Decides.{nat_tests}
use Rattle.source_tokens.specs.declared.token.Sign.{Sign}
use Rattle.source_tokens.specs.Lexemes.{is_word, is_number, is_digit, begins_word, is_part, sign_spelling, IsLexeme, of_word, of_digits, of_sign, IsLongest, BeginsNone}
use Rattle.source_tokens.specs.Inside.Forms.{IsSignAt}
use Rattle.source_tokens.proofs.Signs.{sign_no_word, sign_no_number, sign_some, sign_first_word, sign_first_digit, sign_longer, sign_there, sign_taken, sign_stops, Longer}

pub digit_no_word : (b : ℕ) → is_digit b ≡ true → begins_word b ≡ true → ⊥
digit_no_word b h g = grind (arith, nat_tests)

-- what passes a test up to its first element that does not
module _ (p : ℕ → Bool) where
  run_all : (xs : List ℕ) → list_all p (take (prefix_len p xs) xs) ≡ true
  run_all [] = refl
  run_all (x ∷ xs) = go (p x) refl (run_all xs)
    where
      go : (b : Bool) → p x ≡ b → list_all p (take (prefix_len p xs) xs) ≡ true → list_all p (take (prefix_len p (x ∷ xs)) (x ∷ xs)) ≡ true
      go true e rest = rw (e, one-add, e) rest
      go false e rest = rw e refl

  pub run_stops : (xs : List ℕ) (b : ℕ) (more : List ℕ) → drop (prefix_len p xs) xs ≡ b ∷ more → p b ≡ false
  run_stops [] b more e = absurd (cc)
  run_stops (x ∷ xs) b more e = go (p x) refl (run_stops xs b more)
    where
      go : (t : Bool) → p x ≡ t → (drop (prefix_len p xs) xs ≡ b ∷ more → p b ≡ false) → p b ≡ false
      go true s rest = rest (rw (s, one-add) at e)
      go false s rest = let f : x ∷ xs ≡ b ∷ more = rw s at e in let g : x ≡ b = cc in ap p (sym g) ∙ s

  all_at : (xs : List ℕ) (b : ℕ) (more : List ℕ) → list_all p (xs ++ (b ∷ more)) ≡ true → p b ≡ true
  all_at [] b more h = (and_parts (p b) (list_all p more) h).0
  all_at (x ∷ xs) b more h = all_at xs b more (and_parts (p x) (list_all p (xs ++ (b ∷ more))) h).1

-- a word ends where no part of a word follows
pub longest_word : (lexeme rest : List ℕ) → IsTrue (is_word lexeme) → ((b : ℕ) (more : List ℕ) → rest ≡ b ∷ more → is_part b ≡ false) → IsLongest lexeme rest
longest_word [] rest formed stops b more last e longer = absurd (false≢true formed)
longest_word (x ∷ xs) rest formed stops b more last e (of_word h) =
    both_ways (is_part b) (stops b (more ++ last) e) (all_at is_part xs b more (and_parts (begins_word x) (list_all is_part (xs ++ (b ∷ more))) h).1)
longest_word (x ∷ xs) rest formed stops b more last e (of_digits h) =
    digit_no_word x (and_parts (is_digit x) (list_all is_digit (xs ++ (b ∷ more))) h).0 (and_parts (begins_word x) (list_all is_part xs) formed).0
longest_word (x ∷ xs) rest formed stops b more last e (of_sign y h) =
    both_ways (begins_word x) (ap (λ l. begins_word (get_or l 0 0)) h ∙ sign_first_word y) (and_parts (begins_word x) (list_all is_part xs) formed).0

-- a number ends where no digit follows
pub longest_number : (lexeme rest : List ℕ) → IsTrue (is_number lexeme) → ((b : ℕ) (more : List ℕ) → rest ≡ b ∷ more → is_digit b ≡ false) → IsLongest lexeme rest
longest_number [] rest formed stops b more last e longer = absurd (false≢true formed)
longest_number (x ∷ xs) rest formed stops b more last e (of_word h) =
    digit_no_word x (and_parts (is_digit x) (list_all is_digit xs) formed).0 (and_parts (begins_word x) (list_all is_part (xs ++ (b ∷ more))) h).0
longest_number (x ∷ xs) rest formed stops b more last e (of_digits h) =
    both_ways (is_digit b) (stops b (more ++ last) e) (all_at is_digit xs b more (and_parts (is_digit x) (list_all is_digit (xs ++ (b ∷ more))) h).1)
longest_number (x ∷ xs) rest formed stops b more last e (of_sign y h) =
    both_ways (is_digit x) (ap (λ l. is_digit (get_or l 0 0)) h ∙ sign_first_digit y) (and_parts (is_digit x) (list_all is_digit xs) formed).0

-- a sign ends where it has no longer kin
pub longest_sign : (x : Sign) (rest : List ℕ) → ((c : ℕ) (more : List ℕ) → rest ≡ c ∷ more → Longer x c → ⊥) → IsLongest (sign_spelling x) rest
longest_sign x rest stops b more last e (of_word h) = both_ways (is_word (sign_spelling x ++ (b ∷ more))) (sign_no_word x (b ∷ more)) h
longest_sign x rest stops b more last e (of_digits h) = both_ways (is_number (sign_spelling x ++ (b ∷ more))) (sign_no_number x (b ∷ more)) h
longest_sign x rest stops b more last e (of_sign y h) = stops b (more ++ last) e (sign_longer x y b more h)

pub nil_no_lexeme : IsLexeme [] → ⊥
nil_no_lexeme (of_word h) = false≢true h
nil_no_lexeme (of_digits h) = false≢true h
nil_no_lexeme (of_sign y h) = sign_some y h

pub nil_begins_none : BeginsNone []
nil_begins_none [] rest e h = nil_no_lexeme h
nil_begins_none (x ∷ xs) rest e h = absurd (cc)

-- no lexeme begins with a byte that begins no word, no number and no sign
pub byte_begins_none : (b : ℕ) (tail : List ℕ) → begins_word b ≡ false → is_digit b ≡ false → ((x : Sign) → IsSignAt x b (get_or tail 0 0) → ⊥) → BeginsNone (b ∷ tail)
byte_begins_none b tail no_word no_digit no_sign [] rest e h = nil_no_lexeme h
byte_begins_none b tail no_word no_digit no_sign (x ∷ xs) rest e (of_word h) =
    let same : b ≡ x = cc in both_ways (begins_word x) (ap begins_word (sym same) ∙ no_word) (and_parts (begins_word x) (list_all is_part xs) h).0
byte_begins_none b tail no_word no_digit no_sign (x ∷ xs) rest e (of_digits h) =
    let same : b ≡ x = cc in both_ways (is_digit x) (ap is_digit (sym same) ∙ no_digit) (and_parts (is_digit x) (list_all is_digit xs) h).0
byte_begins_none b tail no_word no_digit no_sign (x ∷ xs) rest e (of_sign y h) =
    let same : x ≡ b = cc in
    let after : xs ++ rest ≡ tail = cc in
    let there = sign_there y b xs rest (ap (λ z. z ∷ xs) (sym same) ∙ h) in
    no_sign there.0 (subst (λ l. IsSignAt there.0 b (get_or l 0 0)) after there.1)

-- what may stand in a word, from a byte that begins one on
module _ (bs : List ℕ) (n b : ℕ) (tail : List ℕ) (e : bs ≡ b ∷ tail) where
  pub word_front : begins_word b ≡ true → n ≡ prefix_len is_part bs → IsTrue (is_word (take n bs))
  word_front h len = rw (len, e, or_left (begins_word b) (is_digit b) h, one-add) (and_from (begins_word b) (list_all is_part (take (prefix_len is_part tail) tail)) h (run_all is_part tail))

  pub word_longest : begins_word b ≡ true → n ≡ prefix_len is_part bs → IsLongest (take n bs) (drop n bs)
  word_longest h len = longest_word (take n bs) (drop n bs) (word_front h len) (λ c more at. run_stops is_part bs c more (ap (λ m. drop m bs) (sym len) ∙ at))

  pub number_front : is_digit b ≡ true → n ≡ prefix_len is_digit bs → IsTrue (is_number (take n bs))
  number_front h len = rw (len, e, h, one-add) (and_from (is_digit b) (list_all is_digit (take (prefix_len is_digit tail) tail)) h (run_all is_digit tail))

  pub number_longest : is_digit b ≡ true → n ≡ prefix_len is_digit bs → IsLongest (take n bs) (drop n bs)
  number_longest h len = longest_number (take n bs) (drop n bs) (number_front h len) (λ c more at. run_stops is_digit bs c more (ap (λ m. drop m bs) (sym len) ∙ at))

  pub sign_front : (x : Sign) → IsSignAt x b (get_or tail 0 0) → n ≡ length (sign_spelling x) → take n bs ≡ sign_spelling x
  sign_front x h len = (λ i. take (len i) (e i)) ∙ sign_taken x b tail h

  pub sign_longest : (x : Sign) → IsSignAt x b (get_or tail 0 0) → n ≡ length (sign_spelling x) → IsLongest (take n bs) (drop n bs)
  sign_longest x h len =
      subst (λ l. IsLongest l (drop n bs)) (sym (sign_front x h len))
      (longest_sign x (drop n bs) (λ c more at longer. sign_stops x b tail h c more (sym (λ i. drop (len i) (e i)) ∙ at) longer))
