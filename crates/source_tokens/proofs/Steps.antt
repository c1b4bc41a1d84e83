-- What one step of the lexer does: a token more, or an end.
use Rattle.std.proofs.Common.{◌≡◌, ℕ, ◌-◌, ◌^◌, ◌≤◌, ◌<◌, List, [], ◌∷◌, ◌++◌, length, take, drop, refl, sym, ap, subst, ◌∙◌, append_assoc, take-append-drop, arith}
use Rattle.std.specs.Prelude.{IsTrue}
use Rattle.std.proofs.lemmas.List.{append-nil}
use Rattle.priml_io.specs.Words.{value_of}
use Rattle.source_tokens.specs.declared.token.Kind.{Kind}
use Rattle.source_tokens.specs.declared.token.Token.{Token}
use Rattle.source_tokens.specs.declared.token.Stop.{Stop}
use Rattle.source_tokens.specs.declared.token.Stop.TheVariants as stop
use Rattle.source_tokens.specs.declared.form.Form.{Form}
use Rattle.source_tokens.specs.declared.form.Form.TheVariants as f
use Rattle.source_tokens.specs.Lexemes.{Skips, is_number, IsLongest, BeginsNone}
use Rattle.source_tokens.specs.Inside.Gaps.{begins}
use Rattle.source_tokens.specs.Lexes.{Spells, opens, open_behind, Lexes, done, bad_byte, bad_number, too_deep, next, IsLexed}
use Rattle.source_tokens.specs.Inside.Forms.{IsForm}
use Rattle.source_tokens.specs.Names.{IsTooLarge}
use Rattle.source_tokens.proofs.Skips.{skips_to}

abbrev token : ℕ → Kind → Token
token at kind = record { at = at; kind = kind }

-- whatever lexes the rest, with the tokens before it, lexes the text
abbrev Whole : List ℕ → ℕ → ℕ → List (List ℕ) → List ℕ → List Token → Type 0
Whole text total depth known rest tokens = (ts : List Token) (ns : List (List ℕ)) (end : Stop) → Lexes total depth known rest ts ns end → IsLexed text (tokens ++ ts) ns end

too_large : (form : Form) (lexeme : List ℕ) → IsForm form lexeme → IsTooLarge form lexeme → IsTrue (is_number lexeme) × (2 ^ 63 ≤ value_of lexeme)
too_large f.Number lexeme formed large = (formed, large)
too_large f.Word lexeme formed large = absurd large
too_large (f.Sign s) lexeme formed large = absurd large

module _ (text : List ℕ) (total depth : ℕ) (known : List (List ℕ)) (rest : List ℕ) (tokens : List Token) (whole : Whole text total depth known rest tokens) (left : List ℕ) (here : left ≡ begins rest) where
  alone : (end : Stop) → Lexes total depth known rest [] known end → IsLexed text tokens known end
  alone end h = subst (λ ts. IsLexed text ts known end) (append-nil tokens) (whole [] known end h)

  pub stops_done : length left ≡ 0 → IsLexed text tokens known stop.Done
  stops_done empty = go left here empty
    where
      go : (l : List ℕ) → l ≡ begins rest → length l ≡ 0 → IsLexed text tokens known stop.Done
      go [] e h = alone stop.Done (done (skips_to (sym e)) refl refl refl)
      go (b ∷ l) e h = absurd (omega arith)

  pub stops_byte : 0 < length left → BeginsNone left → IsLexed text tokens known (stop.BadByte (total - length left))
  stops_byte some none = go left here some none
    where
      go : (l : List ℕ) → l ≡ begins rest → 0 < length l → BeginsNone l → IsLexed text tokens known (stop.BadByte (total - length l))
      go [] e h none = absurd (omega arith)
      go (b ∷ l) e h none = alone _ (bad_byte b l (skips_to (sym e)) none refl refl refl)

  module _ (n : ℕ) (longest : IsLongest (take n left) (drop n left)) where
    parts : left ≡ take n left ++ drop n left
    parts = sym (take-append-drop n left)

    cut : Skips rest (take n left ++ drop n left)
    cut = skips_to (sym here ∙ parts)

    pub stops_number : (form : Form) (names : List (List ℕ)) → IsForm form (take n left) → IsTooLarge form (take n left) → names ≡ known → IsLexed text tokens names (stop.BadNumber (total - length left))
    stops_number form names formed large same =
        let digits = too_large form (take n left) formed large in
        subst (λ ns. IsLexed text tokens ns (stop.BadNumber (total - length left))) (sym same)
        (alone _ (bad_number (take n left) (drop n left) cut longest digits.0 digits.1 refl refl (ap (λ m. stop.BadNumber (total - length m)) parts)))

    module _ (kind : Kind) (names : List (List ℕ)) (pushed : List Token) (spells : Spells known (take n left) kind names) (push : pushed ≡ tokens ++ (token (total - length left) kind ∷ [])) where
      at_place : token (total - length left) kind ≡ token (total - length (take n left ++ drop n left)) kind
      at_place = ap (λ m. token (total - length m) kind) parts

      pub stops_deep : IsTrue (opens kind) → 64 ≤ depth → IsLexed text pushed names (stop.TooDeep (total - length left))
      stops_deep opening deep =
          subst (λ ts. IsLexed text ts names (stop.TooDeep (total - length left))) (sym push)
          (whole _ names _ (too_deep (take n left) (drop n left) kind cut longest spells opening deep (ap (λ t. t ∷ []) at_place) (ap (λ m. stop.TooDeep (total - length m)) parts)))

      pub goes_on : (deeper : ℕ) (after : List ℕ) → deeper ≡ open_behind kind depth → after ≡ drop n left → (IsTrue (opens kind) → depth < 64) → Whole text total deeper names after pushed
      goes_on deeper after is back shallow ts ns end h =
          let tail = subst (λ d. Lexes total d names (drop n left) ts ns end) is (subst (λ r. Lexes total deeper names r ts ns end) back h) in
          let all = whole (token (total - length left) kind ∷ ts) ns end (next (take n left) (drop n left) kind names ts cut longest spells shallow (ap (λ t. t ∷ ts) at_place) tail) in
          subst (λ us. IsLexed text us ns end) (sym (append_assoc tokens (token (total - length left) kind ∷ []) ts) ∙ ap (λ us. us ++ ts) (sym push)) all
