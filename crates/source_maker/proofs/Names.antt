-- The distinct names of the text.
use Rattle.std.proofs.Common.{◌≡◌, ℕ, zero, suc, ◌≤◌, ◌<◌, List, [], ◌∷◌, length, take, slice_get, Some, Bool, true, false, get_or, refl, ap, arith}
use Rattle.std.specs.Prelude.{codes, not, nat_eq}
use Rattle.std.specs.List.{list_all}
use Rattle.std.specs.Cmp.Lexicographic.{pointwise, other_text}
use Rattle.std.proofs.lemmas.Bool.{and_parts, false≢true}
use Rattle.std.proofs.lemmas.Option.{same_Some}
use Rattle.source_tokens.specs.declared.token.Word.{Word}
use Rattle.source_tokens.specs.declared.token.Word.TheVariants as w
use Rattle.source_tokens.specs.Lexemes.{is_word, word_spelling}
use Rattle.source_tokens.specs.Lexes.{IsName}
use Rattle.source_maker.proofs.Pieces.{names}

named : (bs : List ℕ) → is_word bs ≡ true → ((v : Word) → false ≡ pointwise nat_eq bs (word_spelling v)) → IsName bs
named bs h other = record { formed = h; free = λ v e. other_text bs (word_spelling v) (other v) e }

-- each name has the form of a word, and is not reserved
pub is_name : (id : ℕ) → id < 10 → IsName (get_or names id [])
is_name zero l = named (codes "bg") refl (λ v. elim v as (λ u. false ≡ pointwise nat_eq (codes "bg") (word_spelling u)) [ w.Priority ↦ refl | _ ↦ refl ])
is_name (suc zero) l = named (codes "ui") refl (λ v. elim v as (λ u. false ≡ pointwise nat_eq (codes "ui") (word_spelling u)) [ w.Priority ↦ refl | _ ↦ refl ])
is_name (suc (suc zero)) l = named (codes "leaf") refl (λ v. elim v as (λ u. false ≡ pointwise nat_eq (codes "leaf") (word_spelling u)) [ w.Priority ↦ refl | _ ↦ refl ])
is_name (suc (suc (suc zero))) l = named (codes "k") refl (λ v. elim v as (λ u. false ≡ pointwise nat_eq (codes "k") (word_spelling u)) [ w.Priority ↦ refl | _ ↦ refl ])
is_name (suc (suc (suc (suc zero)))) l = named (codes "u") refl (λ v. elim v as (λ u. false ≡ pointwise nat_eq (codes "u") (word_spelling u)) [ w.Priority ↦ refl | _ ↦ refl ])
is_name (suc (suc (suc (suc (suc zero))))) l = named (codes "chain") refl (λ v. elim v as (λ u. false ≡ pointwise nat_eq (codes "chain") (word_spelling u)) [ w.Priority ↦ refl | _ ↦ refl ])
is_name (suc (suc (suc (suc (suc (suc zero)))))) l = named (codes "h") refl (λ v. elim v as (λ u. false ≡ pointwise nat_eq (codes "h") (word_spelling u)) [ w.Priority ↦ refl | _ ↦ refl ])
is_name (suc (suc (suc (suc (suc (suc (suc zero))))))) l = named (codes "x") refl (λ v. elim v as (λ u. false ≡ pointwise nat_eq (codes "x") (word_spelling u)) [ w.Priority ↦ refl | _ ↦ refl ])
is_name (suc (suc (suc (suc (suc (suc (suc (suc zero)))))))) l = named (codes "r") refl (λ v. elim v as (λ u. false ≡ pointwise nat_eq (codes "r") (word_spelling u)) [ w.Priority ↦ refl | _ ↦ refl ])
is_name (suc (suc (suc (suc (suc (suc (suc (suc (suc zero))))))))) l = named (codes "v") refl (λ v. elim v as (λ u. false ≡ pointwise nat_eq (codes "v") (word_spelling u)) [ w.Priority ↦ refl | _ ↦ refl ])
is_name (suc (suc (suc (suc (suc (suc (suc (suc (suc (suc id)))))))))) l = absurd (omega arith)

abbrev differs : List ℕ → List ℕ → Bool
differs bs x = not (pointwise nat_eq x bs)

-- no name stands before itself
is_new : (id : ℕ) → id < 10 → list_all (differs (get_or names id [])) (take id names) ≡ true
is_new zero l = refl
is_new (suc zero) l = refl
is_new (suc (suc zero)) l = refl
is_new (suc (suc (suc zero))) l = refl
is_new (suc (suc (suc (suc zero)))) l = refl
is_new (suc (suc (suc (suc (suc zero))))) l = refl
is_new (suc (suc (suc (suc (suc (suc zero)))))) l = refl
is_new (suc (suc (suc (suc (suc (suc (suc zero))))))) l = refl
is_new (suc (suc (suc (suc (suc (suc (suc (suc zero)))))))) l = refl
is_new (suc (suc (suc (suc (suc (suc (suc (suc (suc zero))))))))) l = refl
is_new (suc (suc (suc (suc (suc (suc (suc (suc (suc (suc id)))))))))) l = absurd (omega arith)

negated : (b : Bool) → not b ≡ true → false ≡ b
negated true h = absurd (false≢true h)
negated false h = refl

absent : (bs : List ℕ) (xs : List (List ℕ)) → list_all (differs bs) xs ≡ true → (j : ℕ) → slice_get xs j ≡ Some bs → ⊥
absent bs [] h j e = absurd (cc)
absent bs (x ∷ xs) h zero e = other_text x bs (negated (pointwise nat_eq x bs) (and_parts (differs bs x) (list_all (differs bs) xs) h).0) (same_Some x bs e)
absent bs (x ∷ xs) h (suc j) e = absent bs xs (and_parts (differs bs x) (list_all (differs bs) xs) h).1 j e

pub new : (id : ℕ) → id < 10 → (j : ℕ) → slice_get (take id names) j ≡ Some (get_or names id []) → ⊥
new id l = absent (get_or names id []) (take id names) (is_new id l)

pub taken : (xs : List (List ℕ)) (count id : ℕ) → id < count → count ≤ length xs → slice_get (take count xs) id ≡ Some (get_or xs id [])
taken [] count id l m = absurd (omega arith)
taken (x ∷ xs) zero id l m = absurd (omega arith)
taken (x ∷ xs) (suc count) zero l m = refl
taken (x ∷ xs) (suc count) (suc id) l m = taken xs count id (omega arith) (omega arith)

pub length_taken : (xs : List (List ℕ)) (count : ℕ) → count ≤ length xs → length (take count xs) ≡ count
length_taken [] zero m = refl
length_taken [] (suc count) m = absurd (omega arith)
length_taken (x ∷ xs) zero m = refl
length_taken (x ∷ xs) (suc count) m = ap suc (length_taken xs count (omega arith))
