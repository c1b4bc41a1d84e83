-- What worked cases stand on: records in order, priorities with names, and plans of a graph's own vertices.
use Rattle.std.proofs.Common.{◌≡◌, ℕ, zero, suc, ◌+◌, ◌-◌, ◌<◌, ◌≤◌, List, [], ◌∷◌, length, map, get_or, refl, sym, ap, ◌∙◌, subst, inl, inr, arith}
use Rattle.std.specs.List.{All, Contains, concat}
use Rattle.std.proofs.lemmas.Bool.{cases_lt}
use Rattle.std.proofs.lemmas.List.Elements.{Contains-append_left, Contains-append_right, Contains-get_or}
use Rattle.priml_syntax.specs.declared.record.Record.{Record}
use Rattle.priml_syntax.specs.Paths.{Precedes}
use Rattle.priml_syntax.specs.Values.{Entry}
use Rattle.priml_syntax.specs.Read.{read_record}
use Rattle.priml_syntax.specs.Records.{Each, InPathOrder}
use Rattle.priml_syntax.proofs.Orders.{transitive}
use Rattle.cost_graph.specs.declared.graph.Thread.{Thread}
use Rattle.cost_graph.specs.Graph.{CostGraph, thread_total, thread_at, no_thread, last_vertex, IsGraph, IsWellFormed}
use Rattle.response_report.specs.declared.row.Row.{Row}
use Rattle.response_report.specs.Response.{AreRows}
use Rattle.cost_graph.proofs.Ends.{last_below, priority_below}
use Rattle.cost_graph.proofs.Unfit.{ancestor_below}

same : {X : Type 0} (ys : List X) (i : ℕ) (d e : X) → i < length ys → get_or ys i e ≡ get_or ys i d
same [] i d e lt = absurd (omega (arith, lt))
same (y ∷ ys) zero d e lt = refl
same (y ∷ ys) (suc i) d e lt = same ys i d e (omega (arith, lt))

-- each of the first records stands before the next
abbrev pub RiseTo : List Record → ℕ → Type 0
RiseTo rs n = (i : ℕ) (d : Record) → i + 1 < n → Precedes (get_or rs i d).path (get_or rs (i + 1) d).path

pub rise_on : (rs : List Record) (n : ℕ) (a b : Record) → 0 < n → n < length rs → a ≡ get_or rs (n - 1) a → b ≡ get_or rs n b → Precedes a.path b.path → RiseTo rs n → RiseTo rs (n + 1)
rise_on rs n a b some lt a_is b_is next before i d i_lt =
    elim (cases_lt (i + 1) n) [
      | inl early ↦ before i d early
      | inr late ↦
          let i_is : n - 1 ≡ i = omega (arith, late, i_lt) in
          let n_is : n ≡ i + 1 = omega (arith, late, i_lt) in
          let first : a ≡ get_or rs i d = a_is ∙ ap (λ k. get_or rs k a) i_is ∙ same rs i d a (omega (arith, lt, n_is)) in
          let second : b ≡ get_or rs (i + 1) d = b_is ∙ ap (λ k. get_or rs k b) n_is ∙ same rs (i + 1) d b (omega (arith, lt, n_is)) in
          subst (λ (x : Record). Precedes x.path (get_or rs (i + 1) d).path) first (subst (λ (x : Record). Precedes a.path x.path) second next)
    ]

each_wider : (p q : List ℕ) (es : List Entry) → Precedes p q → Each (λ (x : Entry). Precedes q x.path) es → Each (λ (x : Entry). Precedes p x.path) es
each_wider p q [] less h = tt
each_wider p q (e ∷ es) less h = (transitive p q e.path less h.0, each_wider p q es less h.1)

pub rise_in_order : (rs : List Record) (n : ℕ) → length rs ≤ n → RiseTo rs n → InPathOrder (map read_record rs)
rise_in_order [] n le h = tt
rise_in_order (r ∷ []) n le h = (tt, tt)
rise_in_order (r ∷ s ∷ rs) n le h =
    let first : Precedes r.path s.path = h 0 r (omega (arith, le)) in
    let later : RiseTo (s ∷ rs) (n - 1) = λ i d lt.
    let e : suc i + 1 ≡ suc (i + 1) = omega arith in
    subst (λ k. Precedes (get_or (s ∷ rs) i d).path (get_or (r ∷ s ∷ rs) k d).path) e (h (suc i) d (omega (arith, lt))) in
    let rest = rise_in_order (s ∷ rs) (n - 1) (omega (arith, le)) later in
    ((first, each_wider r.path s.path (map read_record rs) first rest.0), rest)

pub threads_all : (g : CostGraph) (P : Thread → Type 0) (n : ℕ) → thread_total g ≤ n → ((t : ℕ) → t < n → P (thread_at g t)) → All P g.threads
threads_all g P n le h k d lt = subst P (same g.threads k d no_thread lt) (h k (omega (arith, lt, le)))

within_at : (steps : List (List ℕ)) (n k : ℕ) (d : List ℕ) → ((v : ℕ) → Contains (concat steps) v → v < n) → k < length steps → All (λ v. v < n) (get_or steps k d)
within_at [] n k d h lt = absurd (omega (arith, lt))
within_at (s ∷ ss) n zero d h lt = λ j e j_lt. h (get_or s j e) (Contains-append_left s (concat ss) (get_or s j e) (Contains-get_or s j e j_lt))
within_at (s ∷ ss) n (suc k) d h lt = within_at ss n k d (λ v c. h v (Contains-append_right s (concat ss) v c)) (omega (arith, lt))

pub all_within : (steps : List (List ℕ)) (n : ℕ) → ((v : ℕ) → Contains (concat steps) v → v < n) → All (λ s. All (λ v. v < n) s) steps
all_within steps n h = λ k d lt. within_at steps n k d h lt

-- over one priority each graph is well formed
pub one_well_formed : (g : CostGraph) (pairs : List (ℕ × ℕ)) → IsGraph g → All (λ (x : Thread). x.priority < 1) g.threads → IsWellFormed g pairs
one_well_formed g pairs ok h t lt u above apart =
    let own : (thread_at g t).priority < 1 = h t no_thread lt in
    let below = ancestor_below g u (last_vertex g t) ok (last_below g t ok lt) above in
    let its = priority_below g 1 u ok h below in
    record { path = []; leads = omega (arith, own, its) }

-- what holds of the first items, and of one more
pub each_on : {X : Type 0} (P : X → Type 0) (xs : List X) (i : ℕ) (x : X) → i < length xs → P (get_or xs i x) → ((k : ℕ) (d : X) → k < i → P (get_or xs k d)) → (k : ℕ) (d : X) → k < i + 1 → P (get_or xs k d)
each_on P xs i x lt here before k d k_lt =
    elim (cases_lt k i) [
      | inl early ↦ before k d early
      | inr late ↦
          let k_is : i ≡ k = omega (arith, late, k_lt) in
          subst P (same xs i d x lt ∙ ap (λ j. get_or xs j d) k_is) here
    ]

-- the rows of a graph are those of its threads
pub rows_numbered : (g : CostGraph) (pairs : List (ℕ × ℕ)) (cores : ℕ) (steps : List (List ℕ)) (rows : List Row) → AreRows g pairs cores steps rows → All (λ (r : Row). r.thread < thread_total g) rows
rows_numbered g pairs cores steps rows h k d lt =
    let k_lt : k < thread_total g = omega (arith, lt, h.each_thread) in
    let is = (h.are k d k_lt).thread in
    subst (λ n. n < thread_total g) (sym is) k_lt
