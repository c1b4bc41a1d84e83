-- A lexeme means one kind of token, and the distinct names stay distinct.
use Rattle.std.proofs.Common.{◌≡◌, ◌≢◌, ℕ, zero, suc, ◌^◌, ◌≤◌, List, [], ◌∷◌, ◌++◌, true, length, slice_get, Some, refl, sym, ap, subst, ◌∙◌, inl, inr, arith}
use Rattle.std.specs.Prelude.{◌⊎◌}
use Rattle.std.specs.List.{list_all}
use Rattle.std.proofs.lemmas.Bool.{both_ways, and_parts, false≢true}
use Rattle.std.proofs.lemmas.List.{append-nil}
use Rattle.priml_io.specs.Words.{value_of}
use Rattle.source_tokens.specs.declared.token.Word.{Word}
use Rattle.source_tokens.specs.declared.token.Word.TheVariants as w
use Rattle.source_tokens.specs.declared.token.Sign.{Sign}
use Rattle.source_tokens.specs.declared.token.Kind.{Kind}
use Rattle.source_tokens.specs.declared.token.Kind.TheVariants as k
use Rattle.source_tokens.specs.Lexemes.{is_word, is_number, is_digit, is_part, begins_word, word_spelling, sign_spelling, IsLexeme, of_word, of_digits, of_sign}
use Rattle.source_tokens.specs.Lexes.{IsDistinct, Spells, word, sign, number, old_name, new_name}
use Rattle.source_tokens.proofs.Longest.{digit_no_word}
use Rattle.source_tokens.proofs.Signs.{sign_no_word, sign_no_number}
use Rattle.source_tokens.proofs.Tables.{word_once, sign_once}

word_formed : (v : Word) → is_word (word_spelling v) ≡ true
word_formed w.Priority = refl
word_formed _ = refl

no_word_number : (bs : List ℕ) → is_word bs ≡ true → is_number bs ≡ true → ⊥
no_word_number [] h g = false≢true h
no_word_number (b ∷ bs) h g = digit_no_word b (and_parts (is_digit b) (list_all is_digit bs) g).0 (and_parts (begins_word b) (list_all is_part bs) h).0

no_word_sign : (bs : List ℕ) (x : Sign) → bs ≡ sign_spelling x → is_word bs ≡ true → ⊥
no_word_sign bs x e h = both_ways (is_word bs) (ap is_word (e ∙ sym (append-nil (sign_spelling x))) ∙ sign_no_word x []) h

no_number_sign : (bs : List ℕ) (x : Sign) → bs ≡ sign_spelling x → is_number bs ≡ true → ⊥
no_number_sign bs x e h = both_ways (is_number bs) (ap is_number (e ∙ sym (append-nil (sign_spelling x))) ∙ sign_no_number x []) h

formed : (bs : List ℕ) (v : Word) → bs ≡ word_spelling v → is_word bs ≡ true
formed bs v e = ap is_word e ∙ word_formed v

-- what writes a token is a lexeme
pub spelled : {known names : List (List ℕ)} {bs : List ℕ} {kind : Kind} → Spells known bs kind names → IsLexeme bs
spelled {bs = bs} (word v e _ _) = of_word (formed bs v e)
spelled (sign x e _ _) = of_sign x e
spelled (number h _ _ _) = of_digits h
spelled (old_name id name _ _ _) = of_word name.formed
spelled (new_name name _ _ _) = of_word name.formed

-- digits that write a token have a value below two to the 63
pub spelled_small : {known names : List (List ℕ)} {kind : Kind} (bs : List ℕ) → Spells known bs kind names → is_number bs ≡ true → 2 ^ 63 ≤ value_of bs → ⊥
spelled_small bs (word v e _ _) h large = no_word_number bs (formed bs v e) h
spelled_small bs (sign x e _ _) h large = no_number_sign bs x e h
spelled_small bs (number _ small _ _) h large = omega arith
spelled_small bs (old_name id name _ _ _) h large = no_word_number bs name.formed h
spelled_small bs (new_name name _ _ _) h large = no_word_number bs name.formed h

pub spelled_once : {known names others : List (List ℕ)} {kind other : Kind} (bs : List ℕ) → IsDistinct known → Spells known bs kind names → Spells known bs other others → (kind ≡ other) × (names ≡ others)
spelled_once bs d (word v e q n) (word u f l m) = let same = word_once v u (sym e ∙ f) in (q ∙ ap k.Word same ∙ sym l, n ∙ sym m)
spelled_once bs d (word v e q n) (sign x f l m) = absurd (no_word_sign bs x f (formed bs v e))
spelled_once bs d (word v e q n) (number h small l m) = absurd (no_word_number bs (formed bs v e) h)
spelled_once bs d (word v e q n) (old_name id name at l m) = absurd (name.free v e)
spelled_once bs d (word v e q n) (new_name name none l m) = absurd (name.free v e)
spelled_once bs d (sign x e q n) (word v f l m) = absurd (no_word_sign bs x e (formed bs v f))
spelled_once bs d (sign x e q n) (sign y f l m) = let same = sign_once x y (sym e ∙ f) in (q ∙ ap k.Sign same ∙ sym l, n ∙ sym m)
spelled_once bs d (sign x e q n) (number h small l m) = absurd (no_number_sign bs x e h)
spelled_once bs d (sign x e q n) (old_name id name at l m) = absurd (no_word_sign bs x e name.formed)
spelled_once bs d (sign x e q n) (new_name name none l m) = absurd (no_word_sign bs x e name.formed)
spelled_once bs d (number h small q n) (word v f l m) = absurd (no_word_number bs (formed bs v f) h)
spelled_once bs d (number h small q n) (sign y f l m) = absurd (no_number_sign bs y f h)
spelled_once bs d (number h small q n) (number g little l m) = (q ∙ sym l, n ∙ sym m)
spelled_once bs d (number h small q n) (old_name id name at l m) = absurd (no_word_number bs name.formed h)
spelled_once bs d (number h small q n) (new_name name none l m) = absurd (no_word_number bs name.formed h)
spelled_once bs d (old_name id name at q n) (word v f l m) = absurd (name.free v f)
spelled_once bs d (old_name id name at q n) (sign y f l m) = absurd (no_word_sign bs y f name.formed)
spelled_once bs d (old_name id name at q n) (number h small l m) = absurd (no_word_number bs name.formed h)
spelled_once bs d (old_name id name at q n) (old_name jd again there l m) = (q ∙ ap k.Name (d id jd bs at there) ∙ sym l, n ∙ sym m)
spelled_once bs d (old_name id name at q n) (new_name again none l m) = absurd (none id at)
spelled_once bs d (new_name name none q n) (word v f l m) = absurd (name.free v f)
spelled_once bs d (new_name name none q n) (sign y f l m) = absurd (no_word_sign bs y f name.formed)
spelled_once bs d (new_name name none q n) (number h small l m) = absurd (no_word_number bs name.formed h)
spelled_once bs d (new_name name none q n) (old_name jd again there l m) = absurd (none jd there)
spelled_once bs d (new_name name none q n) (new_name again never l m) = (q ∙ sym l, n ∙ sym m)

push_get : {A : Type 0} (xs : List A) (y x : A) (i : ℕ) → slice_get (xs ++ (y ∷ [])) i ≡ Some x → (slice_get xs i ≡ Some x) ⊎ ((i ≡ length xs) × (y ≡ x))
push_get [] y x zero e = inr (refl, cc)
push_get [] y x (suc i) e = absurd (cc)
push_get (z ∷ xs) y x zero e = inl e
push_get (z ∷ xs) y x (suc i) e = elim (push_get xs y x i e) [ inl h ↦ inl h | inr h ↦ inr (ap suc h.0, h.1) ]

push_distinct : (names : List (List ℕ)) (y : List ℕ) → IsDistinct names → ((i : ℕ) → slice_get names i ≢ Some y) → IsDistinct (names ++ (y ∷ []))
push_distinct names y d new i j x at there =
    elim (push_get names y x i at) [
      | inl a ↦ elim (push_get names y x j there) [ inl b ↦ d i j x a b | inr b ↦ absurd (new i (a ∙ ap Some (sym b.1))) ]
      | inr a ↦ elim (push_get names y x j there) [ inl b ↦ absurd (new j (b ∙ ap Some (sym a.1))) | inr b ↦ a.0 ∙ sym b.0 ]
    ]

pub spelled_distinct : {known names : List (List ℕ)} {bs : List ℕ} {kind : Kind} → IsDistinct known → Spells known bs kind names → IsDistinct names
spelled_distinct d (word _ _ _ n) = subst IsDistinct (sym n) d
spelled_distinct d (sign _ _ _ n) = subst IsDistinct (sym n) d
spelled_distinct d (number _ _ _ n) = subst IsDistinct (sym n) d
spelled_distinct d (old_name _ _ _ _ n) = subst IsDistinct (sym n) d
spelled_distinct {known} {bs = bs} d (new_name _ none _ n) = subst IsDistinct (sym n) (push_distinct known bs d none)
