-- Laws of what names stand for.
use Rattle.std.proofs.Common.{ℕ, ◌+◌, ◌≡◌, ◌==◌, ◌<◌, Bool, true, false, cond, List, [], ◌∷◌, ◌++◌, length, length-take, add-one, suc, take, get_or, Option, Some, None, refl, ap, ◌∙◌, arith}
use Rattle.std.proofs.lemmas.List.{take_more}
use Rattle.source_reader.specs.Names.{lookup}

again : (b : Bool) (o : Option ℕ) (d : Option ℕ) (l : ℕ) → {r : Option ℕ} → r ≡ cond b (Some l) o
    → ◌≡◌ {A = Option ℕ} (elim r [ None ↦ d | Some k ↦ Some (k + 1) ]) (cond b (Some (suc l)) (elim o [ None ↦ d | Some k ↦ Some (k + 1) ]))
again true o d l h = rw h (ap Some (add-one l))
again false o d l h = rw h refl

pub lookup_last : (xs : List ℕ) (x n : ℕ) → lookup n (xs ++ x ∷ []) ≡ cond (x == n) (Some (length xs)) (lookup n xs)
lookup_last [] x n = elim (x == n) as (λ b. cond {A = Option ℕ} b (Some 0) None ≡ cond {A = Option ℕ} b (Some 0) None) [ true ↦ refl | false ↦ refl ]
lookup_last (y ∷ ys) x n = again (x == n) (lookup n ys) _ (length ys) (lookup_last ys x n)

pub lookup_take : (xs : List ℕ) (i n : ℕ) → i < length xs → lookup n (take (i + 1) xs) ≡ cond (get_or xs i 0 == n) (Some i) (lookup n (take i xs))
lookup_take xs i n l = rw (take_more xs i 0 l) (lookup_last (take i xs) (get_or xs i 0) n ∙ ap (λ k. cond {A = Option ℕ} (get_or xs i 0 == n) (Some k) (lookup n (take i xs))) (omega (arith, length-take {A = ℕ})))

within_by : (b : Bool) (o : Option ℕ) (l k : ℕ) → ((j : ℕ) → o ≡ Some j → j < l) → ◌≡◌ {A = Option ℕ} (elim o [ None ↦ cond {A = Option ℕ} b (Some 0) None | Some k ↦ Some (k + 1) ]) (Some k) → k < suc l
within_by true None l k ih h = let e : 0 ≡ k = cc in omega (arith, e)
within_by false None l k ih h = absurd (cc)
within_by b (Some j) l k ih h = let e : j + 1 ≡ k = cc in omega (arith, e, ih j refl)

pub lookup_within : (xs : List ℕ) (n k : ℕ) → lookup n xs ≡ Some k → k < length xs
lookup_within [] n k h = absurd (cc)
lookup_within (x ∷ xs) n k h = within_by (x == n) (lookup n xs) (length xs) k (λ j e. lookup_within xs n j e) h
