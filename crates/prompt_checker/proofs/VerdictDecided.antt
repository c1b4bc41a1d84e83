-- Every schedule of the vertices of a graph has a verdict.
use Rattle.std.proofs.Common.{◌≡◌, ℕ, zero, suc, ◌+◌, ◌<◌, ◌≤◌, List, [], length, take, refl, sym, subst, ◌⊎◌, inl, inr, arith}
use Rattle.std.specs.Prelude.{◌++◌, Option, None, Some}
use Rattle.std.specs.List.{All, concat, Contains}
use Rattle.std.proofs.lemmas.Bool.{cases_lt}
use Rattle.std.proofs.lemmas.List.Elements.{All-get_or, All-contains}
use Rattle.priority_order.proofs.Decided.{below_or_not}
use Rattle.cost_graph.specs.Graph.{CostGraph, vertex_total, vertex_priority, parents_at, IsVertexBelow}
use Rattle.cost_graph.proofs.Members.{member_or_not, parents_seen}
use Rattle.prompt_checker.specs.Schedule.{vertices_before, step_at}
use Rattle.prompt_checker.specs.Verdict.{IsLeftOut, Overtakes, IsFlaw, IsVerdict, IsFirstOf, IsLeast}
use Rattle.prompt_checker.specs.Inside.Watch.{IsFound, IsLeastOf, StandsAgain, IsEarly, IsBroken}
use Rattle.prompt_checker.specs.Laws.{SchedulesAreJudged}
use Rattle.prompt_checker.specs.declared.schedule.FlawKind.{FlawKind}
use Rattle.prompt_checker.specs.declared.schedule.FlawKind.TheVariants.{EmptyStep, TooWide, Twice, NotReady, IdleCore, Inverted, Unfinished}
use Rattle.prompt_checker.specs.declared.schedule.Verdict.{Verdict}
use Rattle.prompt_checker.specs.declared.schedule.Verdict.TheVariants.{Prompt, Flaw}
use Rattle.prompt_checker.proofs.Fine.{IsFine, place, fine_is_prompt, prompt_no_flaw}
use Rattle.prompt_checker.proofs.Flaws.{none_to, is_flaw, missing_flaw, empty_not, wide_not, twice_not, early_not, broken_flaw}
use Rattle.prompt_checker.proofs.Search.{first_found, least_found}

module _ (g : CostGraph) (pairs : List (ℕ × ℕ)) (cores : ℕ) (steps : List (List ℕ)) where
  abbrev below : ℕ → ℕ → Type 0
  below = IsVertexBelow g pairs

  left_or_not : (i u : ℕ) → IsLeftOut g below cores steps i u ⊎ (IsLeftOut g below cores steps i u → ⊥)
  left_or_not i u = go (cases_lt u (vertex_total g)) (member_or_not (vertices_before steps i) u) (parents_seen (vertices_before steps i) (parents_at g u)) (member_or_not (step_at steps i) u) where
    go : (u < vertex_total g) ⊎ (vertex_total g ≤ u) → Contains (vertices_before steps i) u ⊎ (Contains (vertices_before steps i) u → ⊥) →
        ((p : ℕ) → Contains (parents_at g u) p → Contains (vertices_before steps i) p) ⊎ ((p : ℕ) × Contains (parents_at g u) p × (Contains (vertices_before steps i) p → ⊥)) →
        Contains (step_at steps i) u ⊎ (Contains (step_at steps i) u → ⊥) → IsLeftOut g below cores steps i u ⊎ (IsLeftOut g below cores steps i u → ⊥)
    go (inr past) ran parents here = inr (λ h. let v = h.0.vertex in omega (arith, past, v))
    go (inl lt) (inl ran) parents here = inr (λ h. h.0.waits ran)
    go (inl lt) (inr waits) (inr p) here = inr (λ h. p.2 (h.0.parents p.0 p.1))
    go (inl lt) (inr waits) (inl all) (inl here) = inr (λ h. h.1 here)
    go (inl lt) (inr waits) (inl all) (inr out) = inl (record { vertex = lt; waits = waits; parents = all }, out)

  overtakes_or_not : (i v u : ℕ) → Overtakes g below cores steps i v u ⊎ (Overtakes g below cores steps i v u → ⊥)
  overtakes_or_not i v u = go (left_or_not i u) (below_or_not pairs (vertex_priority g v) (vertex_priority g u)) where
    go : IsLeftOut g below cores steps i u ⊎ (IsLeftOut g below cores steps i u → ⊥) → below v u ⊎ (below v u → ⊥) → Overtakes g below cores steps i v u ⊎ (Overtakes g below cores steps i v u → ⊥)
    go (inl h) (inl b) = inl (h, b)
    go (inr n) b = inr (λ h. n h.0)
    go (inl h) (inr n) = inr (λ k. n k.1)

  -- the least vertex that is left out, and the least that a vertex overtakes
  least_left : (i : ℕ) → (r : Option ℕ) × IsLeastOf (IsLeftOut g below cores steps i) r
  least_left i = least_found (IsLeftOut g below cores steps i) (left_or_not i) (vertex_total g) (λ u h. h.0.vertex)

  least_overtaken : (i v : ℕ) → (r : Option ℕ) × IsLeastOf (Overtakes g below cores steps i v) r
  least_overtaken i v = least_found (Overtakes g below cores steps i v) (overtakes_or_not i v) (vertex_total g) (λ u h. h.0.0.vertex)

  some_overtaken : (i v : ℕ) → ((u : ℕ) × Overtakes g below cores steps i v u) ⊎ (((u : ℕ) × Overtakes g below cores steps i v u) → ⊥)
  some_overtaken i v = go (least_overtaken i v) where
    go : (r : Option ℕ) × IsLeastOf (Overtakes g below cores steps i v) r → ((u : ℕ) × Overtakes g below cores steps i v u) ⊎ (((u : ℕ) × Overtakes g below cores steps i v u) → ⊥)
    go (None, none) = inr (λ h. none h.0 h.1)
    go (Some u, least) = inl (u, least.0)

  early_or_not : (i j v : ℕ) → IsEarly g (vertices_before steps i) j v ⊎ (IsEarly g (vertices_before steps i) j v → ⊥)
  early_or_not i j v =
      elim (parents_seen (vertices_before steps i) (parents_at g v)) [
        | inl all ↦ inr (λ h. h.2 (all h.0 h.1))
        | inr p ↦ inl p
      ]

  -- what is wrong with a line by itself
  broken_decided : (i : ℕ) → (o : Option FlawKind) × IsBroken g cores (vertices_before steps i) (step_at steps i) o
  broken_decided i = by_size (cases_lt 0 (length (step_at steps i))) (cases_lt cores (length (step_at steps i))) where
    by_parents : 0 < length (step_at steps i) → length (step_at steps i) ≤ cores → IsFound (step_at steps i) (StandsAgain (vertices_before steps i) (step_at steps i)) None → (r : Option ℕ) × IsFound (step_at steps i) (IsEarly g (vertices_before steps i)) r
        → (o : Option FlawKind) × IsBroken g cores (vertices_before steps i) (step_at steps i) o
    by_parents some fits once (None, none) = (None, (some, fits, once, none))
    by_parents some fits once (Some v, h) = (Some (NotReady v), (some, fits, once, h))

    by_places : 0 < length (step_at steps i) → length (step_at steps i) ≤ cores → (r : Option ℕ) × IsFound (step_at steps i) (StandsAgain (vertices_before steps i) (step_at steps i)) r
        → (o : Option FlawKind) × IsBroken g cores (vertices_before steps i) (step_at steps i) o
    by_places some fits (None, once) = by_parents some fits once (first_found (step_at steps i) (IsEarly g (vertices_before steps i)) (early_or_not i))
    by_places some fits (Some v, h) = (Some (Twice v), (some, fits, h))

    by_size : (0 < length (step_at steps i)) ⊎ (length (step_at steps i) ≤ 0) → (cores < length (step_at steps i)) ⊎ (length (step_at steps i) ≤ cores) → (o : Option FlawKind) × IsBroken g cores (vertices_before steps i) (step_at steps i) o
    by_size (inr none) wide = (Some EmptyStep, omega (arith, none))
    by_size (inl some) (inl wide) = (Some TooWide, (some, wide))
    by_size (inl some) (inr fits) =
        by_places some fits (first_found (step_at steps i) (StandsAgain (vertices_before steps i) (step_at steps i)) (λ j v. member_or_not (vertices_before steps i ++ take j (step_at steps i)) v))

  module _ (small : (i v : ℕ) → i < length steps → Contains (step_at steps i) v → v < vertex_total g) where
    -- a step, where the steps before it are fine
    module _ (i : ℕ) (lt : i < length steps) (before : (j : ℕ) → j < i → IsFine g below cores steps j) where
      abbrev StepDecided : Type 0
      StepDecided = IsFine g below cores steps i ⊎ ((kind : FlawKind) × IsFlaw g below cores steps i kind)

      here : (v : ℕ) → Contains (step_at steps i) v → v < vertex_total g
      here v c = small i v lt c

      le : i ≤ length steps
      le = omega (arith, lt)

      -- a line of which nothing is wrong by itself
      module _ (right : IsBroken g cores (vertices_before steps i) (step_at steps i) None) where
        idle_flaw : (u : ℕ) → length (step_at steps i) < cores → IsLeast (IsLeftOut g below cores steps i) u → IsFlaw g below cores steps i (IdleCore u)
        idle_flaw u less least =
            is_flaw g pairs cores steps i (IdleCore u) le before (lt, less, least)
            (none_to g pairs cores steps i 5 (λ _. empty_not g pairs cores steps i lt here before right.0) (λ _. wide_not g pairs cores steps i lt here before right.1) (λ _. twice_not g pairs cores steps i lt here before right.2) (λ _. early_not g pairs cores steps i lt here before right.3) (λ l. absurd (omega (arith, l))) (λ l. absurd (omega (arith, l))) (λ l. absurd (omega (arith, l))))

        inverted_flaw : (v u : ℕ) → (length (step_at steps i) < cores → (w : ℕ) → IsLeftOut g below cores steps i w → ⊥) → IsFirstOf (step_at steps i) (λ j w. (x : ℕ) × Overtakes g below cores steps i w x) v → IsLeast (Overtakes g below cores steps i v) u → IsFlaw g below cores steps i (Inverted v u)
        inverted_flaw v u busy first least =
            is_flaw g pairs cores steps i (Inverted v u) le before (lt, first, least)
            (none_to g pairs cores steps i 6 (λ _. empty_not g pairs cores steps i lt here before right.0) (λ _. wide_not g pairs cores steps i lt here before right.1) (λ _. twice_not g pairs cores steps i lt here before right.2) (λ _. early_not g pairs cores steps i lt here before right.3) (λ _ w h. busy h.1 w h.2.0) (λ l. absurd (omega (arith, l))) (λ l. absurd (omega (arith, l))))

        all_fair : (length (step_at steps i) < cores → (w : ℕ) → IsLeftOut g below cores steps i w → ⊥) → IsFound (step_at steps i) (λ j w. (x : ℕ) × Overtakes g below cores steps i w x) None → IsFine g below cores steps i
        all_fair busy none = record {
          some = right.0;
          fits = right.1;
          once = right.2;
          ready = right.3;
          busy = busy;
          fair = λ v u c o. let at = place (step_at steps i) v c in none at.0 at.1 (u, subst (λ w. Overtakes g below cores steps i w u) (sym at.2) o);
        }

        by_overtaken : (v : ℕ) → (length (step_at steps i) < cores → (w : ℕ) → IsLeftOut g below cores steps i w → ⊥) → IsFirstOf (step_at steps i) (λ j w. (x : ℕ) × Overtakes g below cores steps i w x) v → (r : Option ℕ) × IsLeastOf (Overtakes g below cores steps i v) r → StepDecided
        by_overtaken v busy first (None, none) = absurd (none first.3.0 first.3.1)
        by_overtaken v busy first (Some u, least) = inr (Inverted v u, inverted_flaw v u busy first least)

        by_inversions : (length (step_at steps i) < cores → (w : ℕ) → IsLeftOut g below cores steps i w → ⊥) → (r : Option ℕ) × IsFound (step_at steps i) (λ j w. (x : ℕ) × Overtakes g below cores steps i w x) r → StepDecided
        by_inversions busy (None, none) = inl (all_fair busy none)
        by_inversions busy (Some v, first) = by_overtaken v busy first (least_overtaken i v)

        inversions : (r : Option ℕ) × IsFound (step_at steps i) (λ j w. (x : ℕ) × Overtakes g below cores steps i w x) r
        inversions = first_found (step_at steps i) (λ j w. (x : ℕ) × Overtakes g below cores steps i w x) (λ j w. some_overtaken i w)

        by_cores : (length (step_at steps i) < cores) ⊎ (cores ≤ length (step_at steps i)) → (r : Option ℕ) × IsLeastOf (IsLeftOut g below cores steps i) r → StepDecided
        by_cores (inr full) left = by_inversions (λ less. absurd (omega (arith, less, full))) inversions
        by_cores (inl less) (None, none) = by_inversions (λ _. none) inversions
        by_cores (inl less) (Some u, least) = inr (IdleCore u, idle_flaw u less least)

      by_broken : (o : Option FlawKind) × IsBroken g cores (vertices_before steps i) (step_at steps i) o → StepDecided
      by_broken (None, right) = by_cores right (cases_lt (length (step_at steps i)) cores) (least_left i)
      by_broken (Some kind, broken) = inr (kind, broken_flaw g pairs cores steps i lt here before kind broken)

      step_decided : StepDecided
      step_decided = by_broken (broken_decided i)

    abbrev Upto : ℕ → Type 0
    Upto n = ((j : ℕ) → j < n → IsFine g below cores steps j) ⊎ ((i : ℕ) × (kind : FlawKind) × IsFlaw g below cores steps i kind)

    upto_next : (n : ℕ) → n < length steps → Upto n → Upto (suc n)
    upto_next n lt (inr flaw) = inr flaw
    upto_next n lt (inl fine) =
        elim (step_decided n lt fine) [
          | inr flaw ↦ inr (n, flaw.0, flaw.1)
          | inl now ↦ inl (λ j low. elim (cases_lt j n) [
            | inl early ↦ fine j early
            | inr late ↦ (let same : n ≡ j = omega (arith, late, low) in subst (IsFine g below cores steps) same now)
          ])
        ]

    upto : (n : ℕ) → n ≤ length steps → Upto n
    upto zero few = inl (λ j low. absurd (omega (arith, low)))
    upto (suc n) few = upto_next n (omega (arith, few)) (upto n (omega (arith, few)))

    abbrev Missing : ℕ → Type 0
    Missing w = (w < vertex_total g) × (Contains (concat steps) w → ⊥)

    missing_or_not : (w : ℕ) → Missing w ⊎ (Missing w → ⊥)
    missing_or_not w = go (cases_lt w (vertex_total g)) (member_or_not (concat steps) w) where
      go : (w < vertex_total g) ⊎ (vertex_total g ≤ w) → Contains (concat steps) w ⊎ (Contains (concat steps) w → ⊥) → Missing w ⊎ (Missing w → ⊥)
      go (inr past) c = inr (λ h. let low = h.0 in omega (arith, past, low))
      go (inl low) (inl c) = inr (λ h. h.1 c)
      go (inl low) (inr n) = inl (low, n)

    abbrev Judged : Type 0
    Judged = (v : Verdict) × IsVerdict g below cores steps v

    flawed : (i : ℕ) (kind : FlawKind) → IsFlaw g below cores steps i kind → Judged
    flawed i kind flaw = (Flaw (record { step = i + 1; kind = kind }), (i, refl, flaw, prompt_no_flaw g below cores steps i kind flaw.here))

    none_missing : ((w : ℕ) → Missing w → ⊥) → (v : ℕ) → v < vertex_total g → Contains (concat steps) v
    none_missing none v low = elim (member_or_not (concat steps) v) [ inl c ↦ c | inr n ↦ absurd (none v (low, n)) ]

    by_missing : ((j : ℕ) → j < length steps → IsFine g below cores steps j) → (r : Option ℕ) × IsLeastOf Missing r → Judged
    by_missing fine (None, none) = (Prompt, fine_is_prompt g below cores steps small fine (none_missing none))
    by_missing fine (Some u, least) = flawed (length steps) (Unfinished u) (missing_flaw g pairs cores steps (length steps) u refl fine (refl, least))

    judged : Judged
    judged =
        elim (upto (length steps) (omega arith)) [
          | inr flaw ↦ flawed flaw.0 flaw.1 flaw.2
          | inl fine ↦ by_missing fine (least_found Missing missing_or_not (vertex_total g) (λ w h. h.0))
        ]

pub all_judged : SchedulesAreJudged
all_judged g pairs cores steps within =
    judged g pairs cores steps
    (λ i v lt c. All-contains (λ w. w < vertex_total g) (step_at steps i) v (All-get_or (λ (s : List ℕ). All (λ w. w < vertex_total g) s) steps i [] lt within) c)
