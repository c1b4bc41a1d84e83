-- Worked texts, as a test of the definitions.
use Rattle.std.proofs.Common.{◌≡◌, ℕ, zero, suc, List, [], ◌∷◌, Bool, false, slice_get, Some, refl, ap, ◌∙◌, arith}
use Rattle.std.specs.Prelude.{codes}
use Rattle.std.specs.Cmp.Lexicographic.{other_text}
use Rattle.std.proofs.lemmas.Bool.{false≢true}
use Rattle.std.proofs.lemmas.Option.{same_Some}
use Rattle.source_tokens.specs.declared.token.Word.{Word}
use Rattle.source_tokens.specs.declared.token.Word.TheVariants as w
use Rattle.source_tokens.specs.declared.token.Sign.{Sign}
use Rattle.source_tokens.specs.declared.token.Sign.TheVariants as s
use Rattle.source_tokens.specs.declared.token.Kind.{Kind}
use Rattle.source_tokens.specs.declared.token.Kind.TheVariants as k
use Rattle.source_tokens.specs.declared.token.Token.{Token}
use Rattle.source_tokens.specs.declared.token.Stop.TheVariants as stop
use Rattle.source_tokens.specs.Lexemes.{is_part, is_digit, word_spelling}
use Rattle.source_tokens.specs.Lexes.{IsName, Lexes, IsLexed, done, bad_byte, bad_number, too_deep, next, word, sign, number, old_name, new_name}
use Rattle.source_tokens.specs.Inside.Forms.{IsSignAt}
use Rattle.source_tokens.proofs.Skips.{skips_to}
use Rattle.source_tokens.proofs.Longest.{longest_word, longest_number, longest_sign, byte_begins_none}

abbrev token : ℕ → Kind → Token
token at kind = record { at = at; kind = kind }

nothing : (p : ℕ → Bool) (b : ℕ) (more : List ℕ) → [] ≡ b ∷ more → p b ≡ false
nothing p b more e = absurd (cc)

stops : (p : ℕ → Bool) (x : ℕ) (xs : List ℕ) → p x ≡ false → (b : ℕ) (more : List ℕ) → x ∷ xs ≡ b ∷ more → p b ≡ false
stops p x xs h b more e = let same : b ≡ x = cc in ap p same ∙ h

a_free : (v : Word) → codes "a" ≡ word_spelling v → ⊥
a_free w.Priority e = other_text (codes "a") (word_spelling w.Priority) refl e
a_free u e = other_text (codes "a") (word_spelling u) refl e

b_free : (v : Word) → codes "b" ≡ word_spelling v → ⊥
b_free w.Priority e = other_text (codes "b") (word_spelling w.Priority) refl e
b_free u e = other_text (codes "b") (word_spelling u) refl e

a_name : IsName (codes "a")
a_name = record { formed = refl; free = a_free }

b_name : IsName (codes "b")
b_name = record { formed = refl; free = b_free }

-- a carriage return ends no comment, and the last line needs no line feed
comment : IsLexed (codes " # a\r<-") [] [] stop.Done
comment = done (skips_to refl) refl refl refl

-- two names and the sign between them
arrow : IsLexed (codes "a<-b") (token 0 (k.Name 0) ∷ token 1 (k.Sign s.Arrow) ∷ token 3 (k.Name 1) ∷ []) (codes "a" ∷ codes "b" ∷ []) stop.Done
arrow =
    next (codes "a") (codes "<-b") (k.Name 0) (codes "a" ∷ []) _ (skips_to refl)
    (longest_word (codes "a") (codes "<-b") refl (stops is_part 60 (codes "-b") refl))
    (new_name a_name (λ id e. cc) refl refl) (λ e. absurd (false≢true e)) refl
    (next (codes "<-") (codes "b") (k.Sign s.Arrow) (codes "a" ∷ []) _ (skips_to refl)
    (longest_sign s.Arrow (codes "b") (λ c more e h. h))
    (sign s.Arrow refl refl refl) (λ e. absurd (false≢true e)) refl
    (next (codes "b") [] (k.Name 1) (codes "a" ∷ codes "b" ∷ []) [] (skips_to refl)
    (longest_word (codes "b") [] refl (nothing is_part))
    (new_name b_name other refl refl) (λ e. absurd (false≢true e)) refl
    (done (skips_to refl) refl refl refl)))
  where
    other : (id : ℕ) → slice_get (codes "a" ∷ []) id ≡ Some (codes "b") → ⊥
    other zero e = other_text (codes "a") (codes "b") refl (same_Some (codes "a") (codes "b") e)
    other (suc id) e = cc

-- a second place of a name has its number
again : IsLexed (codes "a a") (token 0 (k.Name 0) ∷ token 2 (k.Name 0) ∷ []) (codes "a" ∷ []) stop.Done
again =
    next (codes "a") (codes " a") (k.Name 0) (codes "a" ∷ []) _ (skips_to refl)
    (longest_word (codes "a") (codes " a") refl (stops is_part 32 (codes "a") refl))
    (new_name a_name (λ id e. cc) refl refl) (λ e. absurd (false≢true e)) refl
    (next (codes "a") [] (k.Name 0) (codes "a" ∷ []) [] (skips_to refl)
    (longest_word (codes "a") [] refl (nothing is_part))
    (old_name 0 a_name refl refl refl) (λ e. absurd (false≢true e)) refl
    (done (skips_to refl) refl refl refl))

-- `at` is reserved
reserved : IsLexed (codes "at") (token 0 (k.Word w.At) ∷ []) [] stop.Done
reserved =
    next (codes "at") [] (k.Word w.At) [] [] (skips_to refl)
    (longest_word (codes "at") [] refl (nothing is_part))
    (word w.At refl refl refl) (λ e. absurd (false≢true e)) refl
    (done (skips_to refl) refl refl refl)

-- `<=` is one sign
at_most : IsLexed (codes "<=") (token 0 (k.Sign s.AtMost) ∷ []) [] stop.Done
at_most =
    next (codes "<=") [] (k.Sign s.AtMost) [] [] (skips_to refl) (longest_sign s.AtMost [] (λ c more e h. h))
    (sign s.AtMost refl refl refl) (λ e. absurd (false≢true e)) refl
    (done (skips_to refl) refl refl refl)

-- one `=` is no sign
equal : IsLexed (codes " =") [] [] (stop.BadByte 1)
equal = bad_byte 61 [] (skips_to refl) (byte_begins_none 61 [] refl refl no_sign) refl refl refl
  where
    no_sign : (x : Sign) → IsSignAt x 61 0 → ⊥
    no_sign s.Arrow h = omega arith
    no_sign s.AtMost h = omega arith
    no_sign s.Equal h = omega arith
    no_sign s.Less h = omega arith
    no_sign _ h = omega arith

-- leading zeros are right
zeros : IsLexed (codes "007") (token 0 (k.Number 7) ∷ []) [] stop.Done
zeros =
    next (codes "007") [] (k.Number 7) [] [] (skips_to refl) (longest_number (codes "007") [] refl (nothing is_digit))
    (number refl (omega arith) refl refl) (λ e. absurd (false≢true e)) refl
    (done (skips_to refl) refl refl refl)

-- a number of two to the 63
large : IsLexed (codes "9223372036854775808") [] [] (stop.BadNumber 0)
large =
    bad_number (codes "9223372036854775808") [] (skips_to refl) (longest_number (codes "9223372036854775808") [] refl (nothing is_digit)) refl (omega arith)
    refl refl refl

-- the bracket that opens while 64 are open is the last token
deep : Lexes 70 64 [] (codes "(@") (token 68 (k.Sign s.OpenParen) ∷ []) [] (stop.TooDeep 68)
deep =
    too_deep (codes "(") (codes "@") (k.Sign s.OpenParen) (skips_to refl) (longest_sign s.OpenParen (codes "@") (λ c more e h. h))
    (sign s.OpenParen refl refl refl) refl (omega arith) refl refl
