-- A schedule has one verdict.
use Rattle.std.proofs.Common.{◌≡◌, ℕ, ◌+◌, ◌<◌, List, get_or, refl, sym, ap, ◌∙◌, subst, inl, inr, arith}
use Rattle.std.proofs.lemmas.Bool.{cases_lt}
use Rattle.cost_graph.specs.Graph.{CostGraph, vertex_total}
use Rattle.std.specs.List.{concat, Contains}
use Rattle.prompt_checker.specs.Schedule.{step_at}
use Rattle.prompt_checker.specs.Verdict.{StoodBefore, LacksParent, IsLeftOut, Overtakes, HasFlaw, IsFlaw, IsVerdict, rank, IsFirstOf, IsLeast}
use Rattle.prompt_checker.specs.declared.schedule.FlawKind.{FlawKind}
use Rattle.prompt_checker.specs.declared.schedule.FlawKind.TheVariants.{EmptyStep, TooWide, Twice, NotReady, IdleCore, Inverted, Unfinished}
use Rattle.prompt_checker.specs.declared.schedule.Flaw.{Flaw as TheFlaw}
use Rattle.prompt_checker.specs.declared.schedule.Verdict.{Verdict}
use Rattle.prompt_checker.specs.declared.schedule.Verdict.TheVariants.{Prompt, Flaw}

first_one : (line : List ℕ) (P : ℕ → ℕ → Type 0) (v w : ℕ) → IsFirstOf line P v → IsFirstOf line P w → v ≡ w
first_one line P v w a b =
    elim (cases_lt a.0 b.0) [
      | inl less ↦ absurd (b.4 a.0 less (subst (P a.0) (sym a.2) a.3))
      | inr more ↦ elim (cases_lt b.0 a.0) [
        | inl less ↦ absurd (a.4 b.0 less (subst (P b.0) (sym b.2) b.3))
        | inr low ↦ (let same : a.0 ≡ b.0 = omega (arith, more, low) in sym a.2 ∙ ap (λ k. get_or line k 0) same ∙ b.2)
      ]
    ]

least_one : (P : ℕ → Type 0) (u w : ℕ) → IsLeast P u → IsLeast P w → u ≡ w
least_one P u w a b =
    elim (cases_lt u w) [
      | inl less ↦ absurd (b.1 u less a.0)
      | inr more ↦ elim (cases_lt w u) [ inl less ↦ absurd (a.1 w less b.0) | inr low ↦ omega (arith, more, low) ]
    ]

module _ (g : CostGraph) (below : ℕ → ℕ → Type 0) (cores : ℕ) (steps : List (List ℕ)) where
  kind_one : (i : ℕ) (k l : FlawKind) → rank k ≡ rank l → HasFlaw g below cores steps i k → HasFlaw g below cores steps i l → k ≡ l
  kind_one i EmptyStep EmptyStep e a b = refl
  kind_one i EmptyStep l e a b = absurd (omega (arith, e))
  kind_one i TooWide TooWide e a b = refl
  kind_one i TooWide l e a b = absurd (omega (arith, e))
  kind_one i (Twice v) (Twice w) e a b = ap Twice (first_one (step_at steps i) (λ j x. StoodBefore g below cores steps i j x) v w a.1 b.1)
  kind_one i (Twice v) l e a b = absurd (omega (arith, e))
  kind_one i (NotReady v) (NotReady w) e a b = ap NotReady (first_one (step_at steps i) (λ j x. LacksParent g below cores steps i x) v w a.1 b.1)
  kind_one i (NotReady v) l e a b = absurd (omega (arith, e))
  kind_one i (IdleCore u) (IdleCore w) e a b = ap IdleCore (least_one (IsLeftOut g below cores steps i) u w a.2 b.2)
  kind_one i (IdleCore u) l e a b = absurd (omega (arith, e))
  kind_one i (Inverted v u) (Inverted w x) e a b =
      let same = first_one (step_at steps i) (λ j y. (z : ℕ) × Overtakes g below cores steps i y z) v w a.1 b.1 in
      let least = least_one (Overtakes g below cores steps i w) u x (subst (λ y. IsLeast (Overtakes g below cores steps i y) u) same a.2) b.2 in
      ap (λ y. Inverted y u) same ∙ ap (λ y. Inverted w y) least
  kind_one i (Inverted v u) l e a b = absurd (omega (arith, e))
  kind_one i (Unfinished u) (Unfinished w) e a b = ap Unfinished (least_one (λ y. (y < vertex_total g) × (Contains (concat steps) y → ⊥)) u w a.1 b.1)
  kind_one i (Unfinished u) l e a b = absurd (omega (arith, e))

  place_one : (i j : ℕ) (k l : FlawKind) → IsFlaw g below cores steps i k → IsFlaw g below cores steps j l → i ≡ j
  place_one i j k l a b =
      elim (cases_lt i j) [
        | inl less ↦ absurd (b.step i k less a.here)
        | inr more ↦ elim (cases_lt j i) [ inl less ↦ absurd (a.step j l less b.here) | inr low ↦ omega (arith, more, low) ]
      ]

  flaw_one : (i : ℕ) (k l : FlawKind) → IsFlaw g below cores steps i k → IsFlaw g below cores steps i l → k ≡ l
  flaw_one i k l a b =
      elim (cases_lt (rank k) (rank l)) [
        | inl less ↦ absurd (b.least k less a.here)
        | inr more ↦ elim (cases_lt (rank l) (rank k)) [
          | inl less ↦ absurd (a.least l less b.here)
          | inr low ↦ (let same : rank k ≡ rank l = omega (arith, more, low) in kind_one i k l same a.here b.here)
        ]
      ]

  pub verdict_one : (x y : Verdict) → IsVerdict g below cores steps x → IsVerdict g below cores steps y → x ≡ y
  verdict_one Prompt Prompt a b = refl
  verdict_one Prompt (Flaw f) a b = absurd (b.3 a)
  verdict_one (Flaw e) Prompt a b = absurd (a.3 b)
  verdict_one (Flaw e) (Flaw f) a b =
      let place = place_one a.0 b.0 e.kind f.kind a.2 b.2 in
      let kind = flaw_one b.0 e.kind f.kind (subst (λ i. IsFlaw g below cores steps i e.kind) place a.2) b.2 in
      let step : e.step ≡ f.step = a.1 ∙ ap (λ i. i + 1) place ∙ sym b.1 in
      let P : ℕ → TheFlaw = λ s. record { step = s; kind = e.kind } in
      let Q : FlawKind → TheFlaw = λ k. record { step = f.step; kind = k } in
      let same : e ≡ f = ap P step ∙ ap Q kind in
      ap Flaw same
