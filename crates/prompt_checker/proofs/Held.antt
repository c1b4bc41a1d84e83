-- The sets after a vertex is taken out of its set, or put into it.
use Rattle.std.proofs.Common.{◌≡◌, ◌≢◌, ℕ, ◌+◌, ◌<◌, ◌≤◌, ◌↔◌, Bool, true, false, cond, List, [], ◌∷◌, ◌++◌, length, take, get_or, map, set, refl, sym, ap, ◌∙◌, subst, inl, inr, arith, ◌⊎◌}
use Rattle.std.specs.declared.cmp.Ordering.{Ordering}
use Rattle.std.specs.declared.cmp.Ordering.TheVariants.{Less, Equal, Greater}
use Rattle.std.specs.Ordering.{nat_cmp, is_eq}
use Rattle.std.specs.BTreeMap.{is_at}
use Rattle.std.specs.BTreeSet.{BTreeSet, contains}
use Rattle.std.specs.List.{Contains}
use Rattle.std.specs.Cmp.{nat_cmp_is}
use Rattle.std.specs.Prelude.{Some}
use Rattle.std.specs.List.{list_any}
use Rattle.std.proofs.Math.ListN.{get_or-append}
use Rattle.std.proofs.lemmas.Bool.{cases_eq, cases_lt, both_ways, cond-true, cond-false, false_from_ne_true}
use Rattle.std.proofs.lemmas.Cmp.{ranked}
use Rattle.std.proofs.lemmas.List.{map-set, map-append, get_or-set_same, get_or-set_other, get_or_push, get_or_past, length-map, length-append, take_more}
use Rattle.std.proofs.lemmas.List.Elements.{Contains-append_left, Contains-append_right, Contains-append_cases}
use Rattle.cost_graph.specs.Graph.{CostGraph, vertex_priority}
use Rattle.cost_graph.proofs.Members.{no_member, member_cons, member_head}
use Rattle.prompt_checker.specs.Verdict.{IsLeast}
use Rattle.prompt_checker.specs.Inside.Watch.{holds, IsHeld, IsOvertaken}
use Rattle.prompt_checker.proofs.Least.{holds_at}

at_same : (x v : ℕ) → is_at (nat_cmp x) v ≡ true → x ≡ v
at_same x v h = go (nat_cmp x v) refl h
  where
    go : (o : Ordering) → o ≡ nat_cmp x v → is_eq o ≡ true → x ≡ v
    go Less s e = absurd (cc e)
    go Equal s e = ranked x v Equal s
    go Greater s e = absurd (cc e)

at_itself : (x : ℕ) → is_at (nat_cmp x) x ≡ true
at_itself x = ap is_eq (sym (nat_cmp_is x x Equal refl))

module _ (sets next : List (BTreeSet ℕ)) (p x : ℕ) (s s' : BTreeSet ℕ) (lt : p < length sets) (read : s ≡ get_or sets p s) (e : next ≡ set sets p s') where
  -- the set at p is the new one, and each other is as it was
  here : (v : ℕ) → holds next p v ≡ contains nat_cmp s' v
  here v =
      let f = λ (t : BTreeSet ℕ). contains nat_cmp t v in
      let small : p < length (map f sets) = omega (arith, lt, length-map sets f) in
      ap (λ l. holds l p v) e ∙ ap (λ l. get_or l p false) (map-set f sets p s') ∙ get_or-set_same (map f sets) p (f s') false small

  there : (q v : ℕ) → q ≢ p → holds next q v ≡ holds sets q v
  there q v ne =
      let f = λ (t : BTreeSet ℕ). contains nat_cmp t v in
      ap (λ l. holds l q v) e ∙ ap (λ l. get_or l q false) (map-set f sets p s') ∙ get_or-set_other (map f sets) p q (f s') false ne

  module _ (b : Bool) (updates : (v : ℕ) → contains nat_cmp s' v ≡ cond (is_at (nat_cmp x) v) b (contains nat_cmp s v)) where
    at_x : (q v : ℕ) → p ≡ q → x ≡ v → holds next q v ≡ b
    at_x q v a c =
        let yes_at = subst (λ w. is_at (nat_cmp x) w ≡ true) c (at_itself x) in
        ap (λ r. holds next r v) (sym a) ∙ here v ∙ updates v ∙ cond-true (is_at (nat_cmp x) v) b (contains nat_cmp s v) yes_at

    not_x : (q v : ℕ) → ((x ≡ v) × (p ≡ q) → ⊥) → holds next q v ≡ holds sets q v
    not_x q v ne =
        elim (cases_eq q p) [
          | inr other ↦ there q v other
          | inl same ↦ (
              let no_at = false_from_ne_true (is_at (nat_cmp x) v) (λ t. ne (at_same x v t, sym same)) in
              ap (λ r. holds next r v) same ∙ here v ∙ updates v ∙ cond-false (is_at (nat_cmp x) v) b (contains nat_cmp s v) no_at ∙ sym (holds_at sets p v s lt read) ∙ ap (λ r. holds sets r v) (sym same))
        ]

is_x : (p q x v : ℕ) → ((x ≡ v) × (p ≡ q)) ⊎ ((x ≡ v) × (p ≡ q) → ⊥)
is_x p q x v =
    elim (cases_eq x v) [
      | inr no_v ↦ inr (λ h. no_v h.0)
      | inl is_v ↦ elim (cases_eq p q) [ inl is_q ↦ inl (is_v, is_q) | inr no_q ↦ inr (λ h. no_q h.1) ]
    ]

-- the sets without the first vertices of a line
pub record AreOut (g : CostGraph) (line : List ℕ) (old now : List (BTreeSet ℕ)) (i : ℕ) : Type 0 where
  pub long : length now ≡ length old
  pub are : (q v : ℕ) → (holds now q v ≡ true) ↔ ((holds old q v ≡ true) × ((Contains (take i line) v × (vertex_priority g v ≡ q)) → ⊥))

-- the sets with the first vertices of a list
pub record AreIn (g : CostGraph) (list : List ℕ) (old now : List (BTreeSet ℕ)) (i : ℕ) : Type 0 where
  pub long : length now ≡ length old
  pub are : (q v : ℕ) → (holds now q v ≡ true) ↔ ((holds old q v ≡ true) ⊎ (Contains (take i list) v × (vertex_priority g v ≡ q)))

-- a member of one more
more_cases : (xs : List ℕ) (i v : ℕ) → i < length xs → Contains (take (i + 1) xs) v → Contains (take i xs) v ⊎ (get_or xs i 0 ≡ v)
more_cases xs i v lt c =
    elim (Contains-append_cases (take i xs) (get_or xs i 0 ∷ []) v (subst (λ l. Contains l v) (take_more xs i 0 lt) c)) [
      | inl early ↦ inl early
      | inr late ↦ elim (member_cons (get_or xs i 0) [] v late) [ inl e ↦ inr e | inr z ↦ absurd (no_member v z) ]
    ]

more_early : (xs : List ℕ) (i v : ℕ) → i < length xs → Contains (take i xs) v → Contains (take (i + 1) xs) v
more_early xs i v lt c = subst (λ l. Contains l v) (sym (take_more xs i 0 lt)) (Contains-append_left (take i xs) (get_or xs i 0 ∷ []) v c)

more_late : (xs : List ℕ) (i v : ℕ) → i < length xs → get_or xs i 0 ≡ v → Contains (take (i + 1) xs) v
more_late xs i v lt e = subst (λ l. Contains l v) (sym (take_more xs i 0 lt)) (Contains-append_right (take i xs) (get_or xs i 0 ∷ []) v (subst (Contains (get_or xs i 0 ∷ [])) e (member_head (get_or xs i 0) [])))

module _ (g : CostGraph) (list : List ℕ) (old now next : List (BTreeSet ℕ)) (i p : ℕ) (s s' : BTreeSet ℕ) (lt : i < length list) (small : p < length now) (read : s ≡ get_or now p s) (e : next ≡ set now p s')
    (prio : p ≡ vertex_priority g (get_or list i 0)) where
  own : (q v : ℕ) → (get_or list i 0 ≡ v) → vertex_priority g v ≡ q → p ≡ q
  own q v a b = prio ∙ ap (vertex_priority g) a ∙ b

  owner : (q v : ℕ) → (get_or list i 0 ≡ v) → p ≡ q → vertex_priority g v ≡ q
  owner q v a b = sym (ap (vertex_priority g) a) ∙ sym prio ∙ b

  pub out_more : length next ≡ length now → ((v : ℕ) → contains nat_cmp s' v ≡ cond (is_at (nat_cmp (get_or list i 0)) v) false (contains nat_cmp s v)) → AreOut g list old now i → AreOut g list old next (i + 1)
  out_more long updates before = record { long = long ∙ before.long; are = λ q v. (to q v, from q v) }
    where
      x : ℕ
      x = get_or list i 0

      to : (q v : ℕ) → holds next q v ≡ true → (holds old q v ≡ true) × ((Contains (take (i + 1) list) v × (vertex_priority g v ≡ q)) → ⊥)
      to q v h =
          elim (is_x p q (get_or list i 0) v) [
            | inl at ↦ absurd (both_ways (holds next q v) (at_x now next p (get_or list i 0) s s' small read e false updates q v at.1 at.0) h)
            | inr off ↦ (
                let was = (before.are q v).0 (sym (not_x now next p (get_or list i 0) s s' small read e false updates q v off) ∙ h) in
                (was.0, λ c. elim (more_cases list i v lt c.0) [ inl early ↦ was.1 (early, c.1) | inr late ↦ off (late, own q v late c.1) ]))
          ]

      from : (q v : ℕ) → (holds old q v ≡ true) × ((Contains (take (i + 1) list) v × (vertex_priority g v ≡ q)) → ⊥) → holds next q v ≡ true
      from q v h =
          let off = λ (a : (get_or list i 0 ≡ v) × (p ≡ q)). h.1 (more_late list i v lt a.0, owner q v a.0 a.1) in
          not_x now next p (get_or list i 0) s s' small read e false updates q v off ∙ (before.are q v).1 (h.0, λ c. h.1 (more_early list i v lt c.0, c.1))

  pub in_more : length next ≡ length now → ((v : ℕ) → contains nat_cmp s' v ≡ cond (is_at (nat_cmp (get_or list i 0)) v) true (contains nat_cmp s v)) → AreIn g list old now i → AreIn g list old next (i + 1)
  in_more long updates before = record { long = long ∙ before.long; are = λ q v. (to q v, from q v) }
    where
      to : (q v : ℕ) → holds next q v ≡ true → (holds old q v ≡ true) ⊎ (Contains (take (i + 1) list) v × (vertex_priority g v ≡ q))
      to q v h =
          elim (is_x p q (get_or list i 0) v) [
            | inl at ↦ inr (more_late list i v lt at.0, owner q v at.0 at.1)
            | inr off ↦ elim ((before.are q v).0 (sym (not_x now next p (get_or list i 0) s s' small read e true updates q v off) ∙ h)) [
              | inl was ↦ inl was
              | inr early ↦ inr (more_early list i v lt early.0, early.1)
            ]
          ]

      from : (q v : ℕ) → (holds old q v ≡ true) ⊎ (Contains (take (i + 1) list) v × (vertex_priority g v ≡ q)) → holds next q v ≡ true
      from q v h =
          elim (is_x p q (get_or list i 0) v) [
            | inl at ↦ at_x now next p (get_or list i 0) s s' small read e true updates q v at.1 at.0
            | inr off ↦ not_x now next p (get_or list i 0) s s' small read e true updates q v off ∙ (before.are q v).1 (back q v off h)
          ]
        where
          back : (q v : ℕ) → ((get_or list i 0 ≡ v) × (p ≡ q) → ⊥) → (holds old q v ≡ true) ⊎ (Contains (take (i + 1) list) v × (vertex_priority g v ≡ q)) → (holds old q v ≡ true) ⊎ (Contains (take i list) v × (vertex_priority g v ≡ q))
          back q v off (inl was) = inl was
          back q v off (inr c) = elim (more_cases list i v lt c.0) [ inl early ↦ inr (early, c.1) | inr late ↦ absurd (off (late, own q v late c.1)) ]

pub out_start : (g : CostGraph) (line : List ℕ) (sets : List (BTreeSet ℕ)) → AreOut g line sets sets 0
out_start g line sets = record { long = refl; are = λ q v. (λ h. (h, λ c. no_member v c.0), λ h. h.0) }

pub in_start : (g : CostGraph) (list : List ℕ) (sets : List (BTreeSet ℕ)) → AreIn g list sets sets 0
in_start g list sets = record { long = refl; are = λ q v. (λ h. inl h, λ h. elim h [ inl was ↦ was | inr c ↦ absurd (no_member v c.0) ]) }

-- an empty set behind sets that hold nothing
pub empty_push : (sets next : List (BTreeSet ℕ)) (s : BTreeSet ℕ) → s.keys ≡ [] → next ≡ sets ++ s ∷ [] → ((p v : ℕ) → holds sets p v ≡ false) → (p v : ℕ) → holds next p v ≡ false
empty_push sets next s none e before p v =
    let f = λ (t : BTreeSet ℕ). contains nat_cmp t v in
    let start : holds next p v ≡ get_or (map f sets ++ f s ∷ []) p false = ap (λ l. holds l p v) e ∙ ap (λ l. get_or l p false) (map-append f sets (s ∷ [])) in
    elim (cases_lt p (length (map f sets))) [
      | inl early ↦ start ∙ get_or-append (map f sets) (f s ∷ []) false p early ∙ before p v
      | inr late ↦ elim (cases_eq p (length (map f sets))) [
        | inl same ↦ start ∙ get_or_push (map f sets) (f s) false p (sym same) ∙ ap (list_any (is_at (nat_cmp v))) none
        | inr other ↦ (let past : length (map f sets ++ f s ∷ []) ≤ p = omega (arith, late, other, length-append (map f sets) (f s ∷ [])) in start ∙ get_or_past (map f sets ++ f s ∷ []) p false past)
      ]
    ]

-- the first vertex with one above it in the sets
pub overtaken_made : (g : CostGraph) (pairs : List (ℕ × ℕ)) (sets : List (BTreeSet ℕ)) (line : List ℕ) (i a v u : ℕ) → i < length line → v ≡ get_or line i 0 → a ≡ vertex_priority g v → IsLeast (IsHeld pairs sets (Some a)) u
    → ((k : ℕ) → k < i → (x : ℕ) → IsHeld pairs sets (Some (vertex_priority g (get_or line k 0))) x → ⊥) → IsOvertaken g pairs sets line (Some (v, u))
overtaken_made g pairs sets line i a v u lt ev ea least none =
    let here : IsLeast (IsHeld pairs sets (Some (vertex_priority g v))) u = subst (λ p. IsLeast (IsHeld pairs sets (Some p)) u) ea least in
    ((i, lt, sym ev, (u, here.0), λ k small h. none k small h.0 h.1), here)
