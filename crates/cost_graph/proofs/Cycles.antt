-- A set of numbers below a bound, each with another of them before it, has a cycle.
use Rattle.std.proofs.Common.{◌≡◌, ℕ, zero, suc, ◌<◌, false, List, [], ◌∷◌, length, refl, sym, ap, subst, inl, inr, arith, ◌⊎◌}
use Rattle.std.specs.Prelude.{nat_eq}
use Rattle.std.specs.List.{Contains, IsDistinct, AllByRecursion}
use Rattle.std.proofs.lemmas.Map.Made.{is_member-Decides}
use Rattle.std.proofs.lemmas.Map.Steps.{length-le_from_distinct_below}
use Rattle.std.proofs.lemmas.Bool.{ne_eqb}
use Rattle.cost_graph.specs.Walks.{Leads, Reaches, HasNoCycle}
use Rattle.cost_graph.proofs.Members.{decides_eq, member_or_not, no_member, member_cons, member_head, member_tail}

abbrev Repeats : List ℕ → Type 0
Repeats [] = ⊥
Repeats (x ∷ xs) = Contains xs x ⊎ Repeats xs

apart_all : (x : ℕ) (xs : List ℕ) → (Contains xs x → ⊥) → AllByRecursion (λ y. nat_eq x y ≡ false) xs
apart_all x [] h = tt
apart_all x (y ∷ ys) h = (ne_eqb x y (λ e. h (subst (Contains (y ∷ ys)) (sym e) (member_head y ys))), apart_all x ys (λ c. h (member_tail y ys x c)))

pub distinct_with : (x : ℕ) (xs : List ℕ) → IsDistinct nat_eq xs → (Contains xs x → ⊥) → IsDistinct nat_eq (x ∷ xs)
unfolding IsDistinct
distinct_with x xs d out = (apart_all x xs out, d)

distinct_or_repeats : (xs : List ℕ) → IsDistinct nat_eq xs ⊎ Repeats xs
unfolding IsDistinct
distinct_or_repeats [] = inl tt
distinct_or_repeats (x ∷ xs) =
    elim (distinct_or_repeats xs) [
      | inr r ↦ inr (inr r)
      | inl d ↦ elim (member_or_not xs x) [ inl c ↦ inr (inl c) | inr n ↦ inl (apart_all x xs n, d) ]
    ]

module _ (E : ℕ → ℕ → Type 0) where
  reach_member : (w x v : ℕ) (ws : List ℕ) → Leads E w ws v → Contains ws x → Reaches E w x
  reach_member w x v [] l c = absurd (no_member x c)
  reach_member w x v (y ∷ ys) l c =
      elim (member_cons y ys x c) [
        | inl here ↦ (y ∷ [], (l.0, here))
        | inr later ↦ let r = reach_member y x v ys l.1 later in (y ∷ r.0, (l.0, r.1))
      ]

  -- a walk in which a number stands twice has a cycle that leads to its end
  cycle_from : (u v : ℕ) (ws : List ℕ) → Leads E u ws v → Repeats (u ∷ ws) → (x : ℕ) × (y : ℕ) × (ys : List ℕ) × Leads E x (y ∷ ys) x × Reaches E x v
  cycle_from u v [] l (inl c) = absurd (no_member u c)
  cycle_from u v [] l (inr r) = absurd r
  cycle_from u v (w ∷ ws) l (inl c) =
      elim (member_cons w ws u c) [
        | inl here ↦ (u, w, [], (l.0, here), (w ∷ ws, l))
        | inr later ↦ let r = reach_member w u v ws l.1 later in (u, w, r.0, (l.0, r.1), (w ∷ ws, l))
      ]
  cycle_from u v (w ∷ ws) l (inr r) = cycle_from w v ws l.1 r

  module _ (U : ℕ → Type 0) (n : ℕ) (below : (v : ℕ) → U v → v < n) (back : (v : ℕ) → U v → (p : ℕ) × E p v × U p) where
    record Walk (k v : ℕ) : Type 0 where
      from : ℕ
      rest : List ℕ
      walk : Leads E from rest v
      long : length rest ≡ k
      first : U from
      all : (q : ℕ) → Contains (from ∷ rest) q → q < n

    walk_back : (k v : ℕ) → U v → Walk k v
    walk_back zero v u = record {
      from = v;
      rest = [];
      walk = refl;
      long = refl;
      first = u;
      all = λ q c. elim (member_cons v [] q c) [ inl e ↦ subst (λ x. x < n) e (below v u) | inr z ↦ absurd (no_member q z) ];
    }
    walk_back (suc k) v u =
        let w = walk_back k v u in
        let p = back w.from w.first in
        record {
          from = p.0;
          rest = w.from ∷ w.rest;
          walk = (p.1, w.walk);
          long = ap suc w.long;
          first = p.2;
          all = λ q c. elim (member_cons p.0 (w.from ∷ w.rest) q c) [ inl e ↦ subst (λ x. x < n) e (below p.0 p.2) | inr later ↦ w.all q later ];
        }

    -- a cycle leads to each of the set
    pub stuck_cycle : (v : ℕ) → U v → (x : ℕ) × (y : ℕ) × (ys : List ℕ) × Leads E x (y ∷ ys) x × Reaches E x v
    stuck_cycle v u =
        let w = walk_back n v u in
        elim (distinct_or_repeats (w.from ∷ w.rest)) [
          | inr r ↦ cycle_from w.from v w.rest w.walk r
          | inl d ↦
              let short = length-le_from_distinct_below (w.from ∷ w.rest) n d (λ q e. w.all q ((is_member-Decides decides_eq (w.from ∷ w.rest) q).0 e)) in
              absurd (omega (arith, short, w.long))
        ]

    pub stuck_has_cycle : HasNoCycle E → (v : ℕ) → U v → ⊥
    stuck_has_cycle none v u = let c = stuck_cycle v u in none c.0 c.1 c.2 c.3
