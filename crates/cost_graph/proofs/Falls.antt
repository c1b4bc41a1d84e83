-- Each step leaves fewer vertices unmarked.
use Rattle.std.proofs.Common.{◌≡◌, ℕ, ◌<◌, ◌≤◌, Bool, true, false, cond, List, [], ◌∷◌, length, get_or, set, sym, subst, arith}
use Rattle.std.specs.List.{Contains}
use Rattle.std.proofs.lemmas.List.{length-set}
use Rattle.std.proofs.lemmas.List.Sums.{sum_by-set}
use Rattle.std.proofs.lemmas.Bool.{false_from_ne_true, cond-false}
use Rattle.cost_graph.specs.Marks.{is_marked}
use Rattle.cost_graph.specs.Inside.Marks.{unmarked, marks_after}
use Rattle.cost_graph.proofs.Members.{member_head, member_tail}

fewer : (marks : List Bool) (v : ℕ) → v < length marks → unmarked (set marks v true) ≤ unmarked marks
fewer marks v lt = omega (arith, sum_by-set (λ b. cond b 0 1) marks v true false lt)

less : (marks : List Bool) (v : ℕ) → v < length marks → get_or marks v false ≡ false → unmarked (set marks v true) < unmarked marks
less marks v lt e =
    let one = cond-false {A = ℕ} (get_or marks v false) 0 1 e in
    omega (arith, sum_by-set (λ b. cond b 0 1) marks v true false lt, one)

never_more : (vs : List ℕ) (marks : List Bool) → ((v : ℕ) → Contains vs v → v < length marks) → unmarked (marks_after marks vs) ≤ unmarked marks
never_more [] marks small = omega arith
never_more (v ∷ vs) marks small =
    let rest = never_more vs (set marks v true) (λ x c. subst (λ n. x < n) (sym (length-set marks v true)) (small x (member_tail v vs x c))) in
    omega (arith, rest, fewer marks v (small v (member_head v vs)))

pub falls : (vs : List ℕ) (marks : List Bool) → ((v : ℕ) → Contains vs v → v < length marks) → ((v : ℕ) → Contains vs v → is_marked marks v ≡ true → ⊥) → 0 < length vs
    → unmarked (marks_after marks vs) < unmarked marks
falls [] marks small fresh some = absurd (omega (arith, some))
falls (v ∷ vs) marks small fresh some =
    let lt = small v (member_head v vs) in
    let rest = never_more vs (set marks v true) (λ x c. subst (λ n. x < n) (sym (length-set marks v true)) (small x (member_tail v vs x c))) in
    omega (arith, rest, less marks v lt (false_from_ne_true (is_marked marks v) (fresh v (member_head v vs))))
