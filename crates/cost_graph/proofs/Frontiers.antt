-- What is found of the first numbers, and what a collection by keys holds after a step.
use Rattle.std.proofs.Common.{◌≡◌, ℕ, zero, suc, ◌+◌, ◌<◌, ◌↔◌, ◌⊎◌, false, replicate, refl, List, [], ◌∷◌, ◌++◌, get_or, sym, subst, inl, inr, arith}
use Rattle.std.specs.List.{All, Contains}
use Rattle.std.proofs.lemmas.Bool.{cases_eq}
use Rattle.std.proofs.lemmas.List.Elements.{All-from_get_or, Contains-get_or, Contains-append_left, Contains-append_right, Contains-append_cases}
use Rattle.cost_graph.specs.Graph.{CostGraph, vertex_total, parents_at}
use Rattle.cost_graph.specs.Marks.{IsReady, BecomesReady}
use Rattle.cost_graph.proofs.Members.{member_or_not, no_member, member_cons, member_head, parents_seen}

-- the numbers below n that have the property
abbrev pub AreFound : (ℕ → Type 0) → ℕ → List ℕ → Type 0
AreFound P n found = (v : ℕ) → Contains found v ↔ ((v < n) × P v)

pub found_first : (P : ℕ → Type 0) → AreFound P 0 []
found_first P v = (λ c. absurd (no_member v c), λ h. absurd (omega (arith, h.0)))

pub found_yes : (P : ℕ → Type 0) (n : ℕ) (now next : List ℕ) → AreFound P n now → P n → next ≡ now ++ n ∷ [] → AreFound P (n + 1) next
found_yes P n now next are here e v = (
  λ c. elim (Contains-append_cases now (n ∷ []) v (subst (λ l. Contains l v) e c)) [
    | inl early ↦ let h = (are v).0 early in (omega (arith, h.0), h.1)
    | inr late ↦ elim (member_cons n [] v late) [ inl same ↦ (omega (arith, same), subst P same here) | inr z ↦ absurd (no_member v z) ]
  ],
  λ h. subst (λ l. Contains l v) (sym e) (elim (cases_eq v n) [
    | inl same ↦ Contains-append_right now (n ∷ []) v (subst (Contains (n ∷ [])) (sym same) (member_head n []))
    | inr other ↦ Contains-append_left now (n ∷ []) v ((are v).1 (omega (arith, h.0, other), h.1))
  ]),
)

pub found_no : (P : ℕ → Type 0) (n : ℕ) (now : List ℕ) → AreFound P n now → (P n → ⊥) → AreFound P (n + 1) now
found_no P n now are none v = (
  λ c. let h = (are v).0 c in (omega (arith, h.0), h.1),
  λ h. elim (cases_eq v n) [
    | inl same ↦ absurd (none (subst P same h.1))
    | inr other ↦ (are v).1 (omega (arith, h.0, other), h.1)
  ],
)

pub all_found : (g : CostGraph) (done found : List ℕ) → ((v : ℕ) → Contains found v → IsReady g done v) → All (λ v. v < vertex_total g) found
all_found g done found are = All-from_get_or (λ v. v < vertex_total g) found 0 (λ k lt. (are (get_or found k 0) (Contains-get_or found k 0 lt)).vertex)

-- a vertex is ready or not
pub ready_or_not : (g : CostGraph) (done : List ℕ) (v : ℕ) → v < vertex_total g → IsReady g done v ⊎ (IsReady g done v → ⊥)
ready_or_not g done v lt =
    elim (member_or_not done v) [
      | inl ran ↦ inr (λ r. r.waits ran)
      | inr waits ↦ elim (parents_seen done (parents_at g v)) [
        | inl all ↦ inl (record { vertex = lt; waits = waits; parents = all })
        | inr p ↦ inr (λ r. p.2 (r.parents p.0 p.1))
      ]
    ]

-- what is ready and not in the step stays ready
pub stays_ready : (g : CostGraph) (done step : List ℕ) (v : ℕ) → IsReady g done v → (Contains step v → ⊥) → IsReady g (done ++ step) v
stays_ready g done step v r out = record {
  vertex = r.vertex;
  waits = λ c. elim (Contains-append_cases done step v c) [ inl early ↦ r.waits early | inr late ↦ out late ];
  parents = λ u e. Contains-append_left done step u (r.parents u e);
}

-- a collection of keys and vertices has just the ready vertices, each behind its key
abbrev pub HasReady : CostGraph → (ℕ → ℕ) → List ℕ → (ℕ → ℕ → Type 0) → Type 0
HasReady g key done has = (k v : ℕ) → has k v ↔ (IsReady g done v × (k ≡ key v))

-- so it has after a step, where the vertices of the step went and those that became ready came
pub ready_next : (g : CostGraph) (key : ℕ → ℕ) (done step freed : List ℕ) (has next : ℕ → ℕ → Type 0) → HasReady g key done has
    → ((v : ℕ) → Contains freed v ↔ BecomesReady g done (done ++ step) v)
    → ((k v : ℕ) → next k v ↔ ((has k v × (Contains step v → ⊥)) ⊎ (Contains freed v × (k ≡ key v))))
    → HasReady g key (done ++ step) next
ready_next g key done step freed has next now comes are k v = (
  λ h. elim ((are k v).0 h) [
    | inl stays ↦ let r = (now k v).0 stays.0 in (stays_ready g done step v r.0 stays.1, r.1)
    | inr f ↦ (((comes v).0 f.0).0, f.1)
  ],
  λ h. (are k v).1 (elim (ready_or_not g done v h.0.vertex) [
    | inl before ↦ inl ((now k v).1 (before, h.1), λ c. h.0.waits (Contains-append_right done step v c))
    | inr new ↦ inr ((comes v).1 (h.0, new), h.1)
  ]),
)

-- at the start it has what is ready
pub ready_first : (g : CostGraph) (key : ℕ → ℕ) (done found : List ℕ) (next : ℕ → ℕ → Type 0) → ((v : ℕ) → Contains found v ↔ IsReady g done v)
    → ((k v : ℕ) → next k v ↔ (Contains found v × (k ≡ key v))) → HasReady g key done next
ready_first g key done found next comes are k v = (λ h. let f = (are k v).0 h in ((comes v).0 f.0, f.1), λ h. (are k v).1 ((comes v).1 h.0, h.1))

-- at the start nothing is marked
pub no_marks : (n v : ℕ) → get_or (replicate n false) v false ≡ false
no_marks zero v = refl
no_marks (suc n) zero = refl
no_marks (suc n) (suc v) = no_marks n v
