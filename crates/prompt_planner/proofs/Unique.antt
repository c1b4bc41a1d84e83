-- There is one canonical plan.
use Rattle.std.proofs.Common.{◌≡◌, ℕ, zero, suc, ◌<◌, ◌≤◌, List, [], ◌∷◌, ◌++◌, length, take, get_or, map, refl, sym, ap, ◌∙◌, subst, inl, inr, arith, ◌⊎◌, Ordering}
use Rattle.std.specs.declared.cmp.Ordering.TheVariants.{Less, Equal, Greater}
use Rattle.std.specs.List.{concat, Contains, AllByRecursion}
use Rattle.std.specs.List.Sorted.{IsStrictlySortedBy}
use Rattle.std.specs.Ordering.{nat_cmp, ordering_then}
use Rattle.std.proofs.lemmas.Cmp.{ranked}
use Rattle.std.proofs.lemmas.Bool.{cases_lt}
use Rattle.std.proofs.lemmas.List.Elements.{All-contains, All-from_recursion}
use Rattle.std.proofs.Math.Seq.{take-suc, take-length}
use Rattle.cost_graph.specs.Graph.{CostGraph}
use Rattle.cost_graph.specs.Marks.{IsReady}
use Rattle.prompt_checker.specs.Plan.{IsPlanned, IsPlan, pair_cmp}
use Rattle.prompt_checker.specs.Schedule.{vertices_before}
use Rattle.cost_graph.proofs.Members.{no_member, member_cons, member_head, member_tail, in_take}
use Rattle.prompt_planner.proofs.Going.{same_pair, from_map}

-- a lesser pair has a lesser first number, or the same and a lesser second one
less_parts : (a b : ℕ × ℕ) → pair_cmp a b ≡ Less → (a.0 < b.0) ⊎ ((a.0 ≡ b.0) × (a.1 < b.1))
less_parts a b e = first (nat_cmp a.0 b.0) refl e
  where
    second : (o : Ordering) → o ≡ nat_cmp a.1 b.1 → o ≡ Less → a.1 < b.1
    second Less s e' = ranked a.1 b.1 Less s
    second Equal s e' = absurd (cc e')
    second Greater s e' = absurd (cc e')

    first : (o : Ordering) → o ≡ nat_cmp a.0 b.0 → ordering_then o (nat_cmp a.1 b.1) ≡ Less → (a.0 < b.0) ⊎ ((a.0 ≡ b.0) × (a.1 < b.1))
    first Less s e' = inl (ranked a.0 b.0 Less s)
    first Equal s e' = inr (ranked a.0 b.0 Equal s, second (nat_cmp a.1 b.1) refl e')
    first Greater s e' = absurd (cc e')

not_both : (a b : ℕ × ℕ) → pair_cmp a b ≡ Less → pair_cmp b a ≡ Less → ⊥
not_both a b x y =
    elim (less_parts a b x) [
      | inl p ↦ elim (less_parts b a y) [ inl q ↦ omega arith | inr q ↦ omega (arith, p, q.0) ]
      | inr p ↦ elim (less_parts b a y) [ inl q ↦ omega (arith, p.0, q) | inr q ↦ omega (arith, p.1, q.1) ]
    ]

after_head : (x k : ℕ × ℕ) (xs : List (ℕ × ℕ)) → AllByRecursion (λ y. pair_cmp x y ≡ Less) xs → Contains xs k → pair_cmp x k ≡ Less
after_head x k xs a c = All-contains (λ y. pair_cmp x y ≡ Less) xs k (All-from_recursion (λ y. pair_cmp x y ≡ Less) xs a) c

pub sorted_same : (xs ys : List (ℕ × ℕ)) → IsStrictlySortedBy pair_cmp xs → IsStrictlySortedBy pair_cmp ys → ((k : ℕ × ℕ) → Contains xs k → Contains ys k) → ((k : ℕ × ℕ) → Contains ys k → Contains xs k) → xs ≡ ys
unfolding IsStrictlySortedBy
sorted_same [] [] s t to from = refl
sorted_same [] (y ∷ ys) s t to from = absurd (no_member y (from y (member_head y ys)))
sorted_same (x ∷ xs) [] s t to from = absurd (no_member x (to x (member_head x xs)))
sorted_same (x ∷ xs) (y ∷ ys) s t to from =
    ap (λ z. z ∷ xs) heads ∙ ap (λ l. y ∷ l) (sorted_same xs ys s.1 t.1 tail_to tail_from)
  where
    heads : x ≡ y
    heads =
        elim (member_cons y ys x (to x (member_head x xs))) [
          | inl e ↦ sym e
          | inr later ↦ elim (member_cons x xs y (from y (member_head y ys))) [
            | inl e ↦ e
            | inr late ↦ absurd (not_both x y (after_head x y xs s.0 late) (after_head y x ys t.0 later))
          ]
        ]

    clash : (a : ℕ × ℕ) → pair_cmp a a ≡ Less → ⊥
    clash a e = cc (e, same_pair a)

    tail_to : (k : ℕ × ℕ) → Contains xs k → Contains ys k
    tail_to k c =
        elim (member_cons y ys k (to k (member_tail x xs k c))) [
          | inr late ↦ late
          | inl e ↦ absurd (clash x (subst (λ z. pair_cmp x z ≡ Less) (sym (heads ∙ e)) (after_head x k xs s.0 c)))
        ]

    tail_from : (k : ℕ × ℕ) → Contains ys k → Contains xs k
    tail_from k c =
        elim (member_cons x xs k (from k (member_tail y ys k c))) [
          | inr late ↦ late
          | inl e ↦ absurd (clash y (subst (λ z. pair_cmp y z ≡ Less) (sym (sym heads ∙ e)) (after_head y k ys t.0 c)))
        ]

module _ (g : CostGraph) (lanes : List ℕ) (cores : ℕ) where
  step_same : (done a b : List ℕ) → IsPlanned g lanes cores done a → IsPlanned g lanes cores done b → a ≡ b
  step_same done a b p q =
      let keys = sorted_same p.keys q.keys p.ready.rising q.ready.rising (λ k c. (q.ready.are k).1 ((p.ready.are k).0 c)) (λ k c. (p.ready.are k).1 ((q.ready.are k).0 c)) in
      p.first ∙ ap (λ l. map (λ k. k.1) (take cores l)) keys ∙ sym q.first

  -- a planned step has a vertex that is ready
  has_ready : (done a : List ℕ) → IsPlanned g lanes cores done a → (v : ℕ) × IsReady g done v
  has_ready done [] p = absurd (omega (arith, p.some))
  has_ready done (x ∷ xs) p =
      let k = from_map (take cores p.keys) x (subst (λ l. Contains l x) p.first (member_head x xs)) in
      (k.0.1, ((p.ready.are k.0).0 (in_take p.keys cores k.0 k.1)).0)

  front : (a b : List (List ℕ)) → IsPlan g lanes cores a → IsPlan g lanes cores b → (i : ℕ) → i ≤ length a → (i ≤ length b) × (take i a ≡ take i b)
  front a b p q zero le = (omega arith, refl)
  front a b p q (suc i) le =
      let lt : i < length a = omega arith in
      let old = front a b p q i (omega (arith, le)) in
      elim (cases_lt i (length b)) [
        | inl lt' ↦
            let here = subst (λ l. IsPlanned g lanes cores (concat l) (get_or a i [])) old.1 (p.each i lt) in
            let same = step_same (vertices_before b i) (get_or a i []) (get_or b i []) here (q.each i lt') in
            (lt', take-suc a i [] lt ∙ ap (λ l. l ++ get_or a i [] ∷ []) old.1 ∙ ap (λ s. take i b ++ s ∷ []) same ∙ sym (take-suc b i [] lt'))
        | inr past ↦
            let e : length b ≡ i = omega (arith, past, old.0) in
            let whole : take i a ≡ b = old.1 ∙ subst (λ n. take n b ≡ b) e (take-length b) in
            let r = has_ready (vertices_before a i) (get_or a i []) (p.each i lt) in
            absurd (q.none_left r.0 (subst (λ l. IsReady g (concat l) r.0) whole r.1))
      ]

  pub plan_unique : (a b : List (List ℕ)) → IsPlan g lanes cores a → IsPlan g lanes cores b → a ≡ b
  plan_unique a b p q =
      let f = front a b p q (length a) (omega arith) in
      let f' = front b a q p (length b) (omega arith) in
      let e : length b ≡ length a = omega (arith, f.0, f'.0) in
      sym (take-length a) ∙ f.1 ∙ subst (λ n. take n b ≡ b) e (take-length b)
