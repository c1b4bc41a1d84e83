-- Words and signs are known by their bytes.
use Rattle.std.proofs.Common.{◌≡◌, ℕ, suc, List, [], ◌∷◌, Some, map, slice_get, refl, sym, ap, ◌∙◌}
use Rattle.std.specs.Prelude.{if◌then◌else◌, nat_eq}
use Rattle.std.specs.Cmp.Lexicographic.{pointwise}
use Rattle.source_tokens.specs.declared.token.Word.{Word}
use Rattle.source_tokens.specs.declared.token.Word.TheVariants as w
use Rattle.source_tokens.specs.declared.token.Sign.{Sign}
use Rattle.source_tokens.specs.declared.token.Sign.TheVariants as s
use Rattle.source_tokens.specs.Lexemes.{word_spelling, sign_spelling}

abbrev pub words : List Word
words =
    w.Priority ∷ w.Order ∷ w.Proc ∷ w.Main ∷ w.At ∷ w.Ret ∷ w.Spawn ∷ w.Sync ∷ w.Call ∷ w.Do ∷ w.Input ∷ w.Output ∷ w.If ∷ w.Else ∷ w.Case ∷ w.Inl ∷ w.Inr ∷ w.Fst ∷ w.Snd ∷ w.Not ∷ w.And
    ∷ w.Or ∷ w.True ∷ w.False ∷ w.Unit ∷ w.Bool ∷ w.Int ∷ w.Thread ∷ []

abbrev pub signs : List Sign
signs =
    s.Arrow ∷ s.AtMost ∷ s.Equal ∷ s.Less ∷ s.Plus ∷ s.Minus ∷ s.Star ∷ s.Slash ∷ s.Percent ∷ s.OpenParen ∷ s.CloseParen ∷ s.OpenBrace ∷ s.CloseBrace ∷ s.OpenBracket ∷ s.CloseBracket
    ∷ s.Comma ∷ s.Semicolon ∷ s.Colon ∷ []

-- where a text stands in a list of texts
abbrev at_text : List (List ℕ) → List ℕ → ℕ
at_text [] bs = 0
at_text (x ∷ xs) bs = if pointwise nat_eq x bs then 0 else suc (at_text xs bs)

abbrev pub word_place : Word → ℕ
word_place x = at_text (map word_spelling words) (word_spelling x)

abbrev pub sign_place : Sign → ℕ
sign_place x = at_text (map sign_spelling signs) (sign_spelling x)

pub word_known : (x : Word) → slice_get words (word_place x) ≡ Some x
word_known w.Priority = refl
word_known _ = refl

pub sign_known : (x : Sign) → slice_get signs (sign_place x) ≡ Some x
sign_known s.Arrow = refl
sign_known _ = refl

-- at one place stands one item
pub same_item : {A : Type 0} (xs : List A) (x y : A) (i j : ℕ) → slice_get xs i ≡ Some x → slice_get xs j ≡ Some y → i ≡ j → x ≡ y
same_item xs x y i j h g e = let same : Some x ≡ Some y = sym h ∙ ap (slice_get xs) e ∙ g in cc

-- what is spelled alike is the same
pub word_once : (x y : Word) → word_spelling x ≡ word_spelling y → x ≡ y
word_once x y e = same_item words x y _ _ (word_known x) (word_known y) (ap (at_text (map word_spelling words)) e)

pub sign_once : (x y : Sign) → sign_spelling x ≡ sign_spelling y → x ≡ y
sign_once x y e = same_item signs x y _ _ (sign_known x) (sign_known y) (ap (at_text (map sign_spelling signs)) e)
