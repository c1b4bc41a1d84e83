-- The vertices of the first steps of a schedule.
use Rattle.std.proofs.Common.{◌≡◌, ℕ, zero, suc, ◌+◌, ◌<◌, ◌≤◌, List, [], ◌∷◌, ◌++◌, length, take, get_or, refl, sym, ap, ◌∙◌, subst, inl, inr, arith, append_assoc}
use Rattle.std.specs.Prelude.{nat_eq}
use Rattle.std.specs.List.{concat, Contains, IsDistinct}
use Rattle.std.proofs.lemmas.List.{append-nil}
use Rattle.std.proofs.lemmas.List.Elements.{Contains-append_left, Contains-append_cases}
use Rattle.std.proofs.Math.Seq.{take-suc}
use Rattle.cost_graph.proofs.Members.{no_member}
use Rattle.prompt_checker.specs.Schedule.{vertices_before, step_at}

pub concat_append : (xss yss : List (List ℕ)) → concat (xss ++ yss) ≡ concat xss ++ concat yss
concat_append [] yss = refl
concat_append (xs ∷ xss) yss = ap (λ l. xs ++ l) (concat_append xss yss) ∙ sym (append_assoc xs (concat xss) (concat yss))

pub before_more : (steps : List (List ℕ)) (i : ℕ) → i < length steps → vertices_before steps (suc i) ≡ vertices_before steps i ++ step_at steps i
before_more steps i lt =
    ap concat (take-suc steps i [] lt)
    ∙ concat_append (take i steps) (get_or steps i [] ∷ [])
    ∙ ap (λ l. concat (take i steps) ++ l) (append-nil (get_or steps i []))

-- what holds of the vertices of each step holds of those before a step
pub before_each : (P : ℕ → Type 0) (steps : List (List ℕ)) → ((i v : ℕ) → i < length steps → Contains (step_at steps i) v → P v)
    → (i v : ℕ) → i ≤ length steps → Contains (vertices_before steps i) v → P v
before_each P steps each zero v le c = absurd (no_member v c)
before_each P steps each (suc i) v le c =
    let lt : i < length steps = omega (arith, le) in
    elim (Contains-append_cases (vertices_before steps i) (step_at steps i) v (subst (λ l. Contains l v) (before_more steps i lt) c)) [
      | inl early ↦ before_each P steps each i v (omega (arith, le)) early
      | inr late ↦ each i v lt late
    ]

-- the vertices before a step are distinct, if those of each step are, and stand in none before it
pub before_distinct : (steps : List (List ℕ)) → ((i : ℕ) → i < length steps → IsDistinct nat_eq (vertices_before steps i) → IsDistinct nat_eq (vertices_before steps i ++ step_at steps i))
    → (i : ℕ) → i ≤ length steps → IsDistinct nat_eq (vertices_before steps i)
unfolding IsDistinct
before_distinct steps more zero le = tt
before_distinct steps more (suc i) le =
    let lt : i < length steps = omega (arith, le) in
    subst (IsDistinct nat_eq) (sym (before_more steps i lt)) (more i lt (before_distinct steps more i (omega (arith, le))))

pub before_kept : (steps : List (List ℕ)) (d i v : ℕ) → i + d ≤ length steps → Contains (vertices_before steps i) v → Contains (vertices_before steps (i + d)) v
before_kept steps zero i v le c = let e : i ≡ i + 0 = omega arith in subst (λ j. Contains (vertices_before steps j) v) e c
before_kept steps (suc d) i v le c =
    let short : i + d ≤ length steps = omega arith in
    let under : i + d < length steps = omega arith in
    let e : suc (i + d) ≡ i + suc d = omega arith in
    let here = Contains-append_left (vertices_before steps (i + d)) (step_at steps (i + d)) v (before_kept steps d i v short c) in
    subst (λ j. Contains (vertices_before steps j) v) e (subst (λ l. Contains l v) (sym (before_more steps (i + d) under)) here)
