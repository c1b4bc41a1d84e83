-- A number in decimal is a number of the text, with its value.
use Rattle.std.proofs.Common.{◌≡◌, ℕ, ◌+◌, ◌-◌, ◌*◌, ◌/◌, ◌%◌, ◌^◌, ◌≤◌, ◌<◌, List, [], ◌∷◌, ◌++◌, true, refl, ◌∙◌, arith}
use Rattle.std.specs.Fmt.{decimal}
use Rattle.std.specs.List.{list_all}
use Rattle.std.proofs.lemmas.Bool.{and_parts, and_from, false≢true}
use Rattle.std.proofs.lemmas.Bool.Decides.{nat_tests}
use Rattle.std.proofs.lemmas.Fmt.{decimal_by_steps}
use Rattle.std.proofs.lemmas.List.Folds.{list_all-append}
use Rattle.std.proofs.lemmas.List.Sums.{fold-append}
use Rattle.priml_io.specs.Words.{value_of}
use Rattle.source_tokens.specs.Lexemes.{is_digit, is_number}

pub record Writes (n : ℕ) (bs : List ℕ) : Type 0 where
  pub formed : is_number bs ≡ true
  pub is : value_of bs ≡ n

digit_formed : (d : ℕ) → d < 10 → is_digit (48 + d) ≡ true
digit_formed d l = grind (arith, nat_tests)

one : (n : ℕ) → n < 10 → Writes n ((48 + n) ∷ [])
one n l = record { formed = and_from (is_digit (48 + n)) true (digit_formed n l) refl; is = omega arith }

formed_more : (ds : List ℕ) (d : ℕ) → d < 10 → is_number ds ≡ true → is_number (ds ++ (48 + d) ∷ []) ≡ true
formed_more [] d l h = absurd (false≢true h)
formed_more (b ∷ bs) d l h =
    let parts = and_parts (is_digit b) (list_all is_digit bs) h in
    and_from (is_digit b) (list_all is_digit (bs ++ (48 + d) ∷ [])) parts.0
    (list_all-append is_digit bs ((48 + d) ∷ []) ∙ and_from (list_all is_digit bs) (list_all is_digit ((48 + d) ∷ [])) parts.1 (and_from (is_digit (48 + d)) true (digit_formed d l) refl))

more : (n : ℕ) (ds : List ℕ) → 10 ≤ n → Writes (n / 10) ds → Writes n (ds ++ (48 + n % 10) ∷ [])
more n ds l h = record {
  formed = formed_more ds (n % 10) (omega arith) h.formed;
  is = fold-append (λ m b. 10 * m + (b - 48)) 0 ds ((48 + n % 10) ∷ []) ∙ omega (arith, h.is);
}

pub decimal_writes : (n : ℕ) → n < 2 ^ 64 → Writes n (decimal n)
decimal_writes n l = decimal_by_steps Writes one more n l
