-- Laws of the tables of declared names.
use Rattle.std.proofs.Common.{◌≡◌, ◌==◌, ℕ, ◌<◌, Bool, true, false, cond, Option, Some, None, List, [], ◌∷◌, ◌++◌, length, set, get_or, sym, refl, ap, subst, ◌∙◌}
use Rattle.std.proofs.lemmas.Bool.{eqb-true, eq-eqb}
use Rattle.std.proofs.lemmas.List.{get_or-set_same, get_or-set_other}
use Rattle.source_reader.specs.Names.{lookup}
use Rattle.source_reader.specs.Inside.Narrow.{narrow}
use Rattle.source_reader.proofs.Lookup.{lookup_last}

indexed_by : (t : List (Option ℕ)) (xs : List ℕ) (x id : ℕ) → ((id : ℕ) → get_or t id None ≡ narrow (lookup id xs)) → x < length t → (place : ℕ) → Some place ≡ narrow (Some (length xs)) → (b : Bool) → (x == id) ≡ b
    → get_or (set t x (Some place)) id None ≡ narrow (cond b (Some (length xs)) (lookup id xs))
indexed_by t xs x id h l place p true q = subst (λ k. get_or (set t x (Some place)) k None ≡ Some place) (eqb-true x id q) (get_or-set_same t x (Some place) None l) ∙ p
indexed_by t xs x id h l place p false q = get_or-set_other t x id (Some place) None (λ p. absurd (let r = eq-eqb x id (sym p) in cc)) ∙ h id

-- a name more in the table
pub indexed_push : (t : List (Option ℕ)) (xs ys : List ℕ) (x place : ℕ) → x < length t → Some place ≡ narrow (Some (length xs)) → ys ≡ xs ++ x ∷ [] → ((id : ℕ) → get_or t id None ≡ narrow (lookup id xs))
    → (id : ℕ) → get_or (set t x (Some place)) id None ≡ narrow (lookup id ys)
indexed_push t xs ys x place l p q h id = indexed_by t xs x id h l place p (x == id) refl ∙ ap narrow (sym (lookup_last xs x id)) ∙ ap (λ v. narrow (lookup id v)) (sym q)
