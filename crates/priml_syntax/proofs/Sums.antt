-- Sums of lengths.
use Rattle.std.proofs.Common.{◌≡◌, ℕ, ◌+◌, ◌<◌, List, [], ◌∷◌, ◌++◌, length, map, sym, ◌∙◌, ap, arith, take, get_or}
use Rattle.std.specs.Prelude.{min}
use Rattle.std.proofs.lemmas.List.{take_more, map-append}
use Rattle.std.proofs.lemmas.Grind.{common_steps}
use Rattle.priml_syntax.specs.Values.{Entry}
use Rattle.priml_syntax.specs.Records.{work}

work_push : (xs : List Entry) (x : Entry) → work (xs ++ x ∷ []) ≡ work xs + length x.events
work_push [] x = omega arith
work_push (y ∷ ys) x = let e = work_push ys x in omega (arith, e)

pub work_next : {R : Type 0} (f : R → Entry) (rs : List R) (i : ℕ) (r : R) → i < length rs → r ≡ get_or rs i r → work (map f (take (i + 1) rs)) ≡ work (map f (take i rs)) + length (f r).events
work_next f rs i r l e =
    ap (λ xs. work (map f xs)) (take_more rs i r l ∙ ap (λ y. take i rs ++ y ∷ []) (sym e)) ∙ ap work (map-append f (take i rs) (r ∷ [])) ∙ work_push (map f (take i rs)) (f r)

pub saturates : (a b m : ℕ) → min (min a m + b) m ≡ min (a + b) m
saturates a b m = grind (arith, common_steps)
