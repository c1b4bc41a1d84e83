-- What the judge keeps from step to step, and what it has at the end.
use Rattle.std.proofs.Common.{◌≡◌, ℕ, suc, ◌+◌, ◌<◌, ◌↔◌, ◌⊎◌, Bool, true, false, List, [], ◌++◌, length, refl, sym, ap, ◌∙◌, subst, inl, inr, arith}
use Rattle.std.specs.Prelude.{None, Some}
use Rattle.std.specs.List.{concat, Contains}
use Rattle.std.specs.BTreeSet.{BTreeSet}
use Rattle.std.proofs.lemmas.Bool.{cases_lt, both_ways}
use Rattle.std.proofs.Math.Seq.{take-length}
use Rattle.cost_graph.specs.Graph.{CostGraph, vertex_total, vertex_priority, IsVertexBelow}
use Rattle.cost_graph.specs.Marks.{IsReady, BecomesReady}
use Rattle.cost_graph.specs.Frontier.{Progress}
use Rattle.cost_graph.proofs.Members.{member_or_not}
use Rattle.cost_graph.proofs.Frontiers.{HasReady, ready_first, ready_next}
use Rattle.prompt_checker.specs.Schedule.{vertices_before, step_at, IsPrompt}
use Rattle.prompt_checker.specs.Verdict.{IsVerdict}
use Rattle.prompt_checker.specs.Inside.Watch.{AreStood, IsLeastOf, holds, IsBroken, IsUnfair}
use Rattle.prompt_checker.specs.declared.schedule.FlawKind.{FlawKind}
use Rattle.prompt_checker.specs.declared.schedule.FlawKind.TheVariants.{Unfinished}
use Rattle.prompt_checker.specs.declared.schedule.Verdict.TheVariants.{Flaw}
use Rattle.prompt_checker.proofs.Steps.{before_more}
use Rattle.prompt_checker.proofs.Fine.{IsFine, fine_is_prompt, prompt_no_flaw}
use Rattle.prompt_checker.proofs.Flaws.{AreHeld, AreLeft, runs, broken_flaw, unfair_flaw, fine_here, missing_flaw}

pub record IsJudging (g : CostGraph) (pairs : List (ℕ × ℕ)) (count cores : ℕ) (steps : List (List ℕ)) (i : ℕ) (at : Progress) (stood : List Bool) (sets : List (BTreeSet ℕ)) : Type 0 where
  pub at_is : at ≡ record { graph = g; ran = vertices_before steps i }
  pub are : AreStood stood (vertices_before steps i)
  pub covers : length stood ≡ vertex_total g
  pub long : length sets ≡ count
  pub held : AreHeld g (vertices_before steps i) sets
  pub fine : (j : ℕ) → j < i → IsFine g (IsVertexBelow g pairs) cores steps j

-- the sets as a collection of keys and vertices
sets_have : (g : CostGraph) (done : List ℕ) (sets : List (BTreeSet ℕ)) → AreHeld g done sets → HasReady g (vertex_priority g) done (λ p v. holds sets p v ≡ true)
sets_have g done sets h p v = (λ a. let r = (h.are p v).0 a in (r.0, sym r.1), λ r. (h.are p v).1 (r.0, sym r.1))

sets_held : (g : CostGraph) (done : List ℕ) (sets : List (BTreeSet ℕ)) → HasReady g (vertex_priority g) done (λ p v. holds sets p v ≡ true) → AreHeld g done sets
sets_held g done sets h = record { are = λ p v. (λ a. let r = (h p v).0 a in (r.0, sym r.1), λ r. (h p v).1 (r.0, sym r.1)) }

-- at the start the sets have what is ready
pub judging_start : (g : CostGraph) (pairs : List (ℕ × ℕ)) (count cores : ℕ) (steps : List (List ℕ)) (at : Progress) (stood : List Bool) (found : List ℕ) (empty sets : List (BTreeSet ℕ)) → at ≡ record { graph = g; ran = [] }
    → AreStood stood [] → length stood ≡ vertex_total g → length sets ≡ count → ((p v : ℕ) → holds empty p v ≡ false) → ((v : ℕ) → Contains found v ↔ IsReady g [] v)
    → ((p v : ℕ) → (holds sets p v ≡ true) ↔ ((holds empty p v ≡ true) ⊎ (Contains found v × (vertex_priority g v ≡ p))))
    → IsJudging g pairs count cores steps 0 at stood sets
judging_start g pairs count cores steps at stood found empty sets at_is stood_is covers long none found_is are = record {
  at_is = at_is;
  are = stood_is;
  covers = covers;
  long = long;
  held = sets_held g [] sets (ready_first g (vertex_priority g) [] found (λ p v. holds sets p v ≡ true) found_is (λ p v. (
    λ h. elim ((are p v).0 h) [ inl was ↦ absurd (both_ways (holds empty p v) (none p v) was) | inr c ↦ (c.0, sym c.1) ],
    λ c. (are p v).1 (inr (c.0, sym c.1)),
  )));
  fine = λ j lt. absurd (omega (arith, lt));
}

abbrev of_graph : CostGraph → List ℕ → Progress
of_graph g ran = record { graph = g; ran = ran }

module _ (g : CostGraph) (pairs : List (ℕ × ℕ)) (count cores : ℕ) (steps : List (List ℕ)) (i : ℕ) (at : Progress) (stood : List Bool) (sets : List (BTreeSet ℕ)) (now : IsJudging g pairs count cores steps i at stood sets)
    (small : (j v : ℕ) → j < length steps → Contains (step_at steps j) v → v < vertex_total g) where
  -- what the frontier says holds of the graph and of the steps before
  pub here : (P : CostGraph → List ℕ → Type 0) → P at.graph at.ran → P g (vertices_before steps i)
  here P h = subst (λ (p : Progress). P p.graph p.ran) now.at_is h

  pub back : (P : CostGraph → List ℕ → Type 0) → P g (vertices_before steps i) → P at.graph at.ran
  back P h = subst (λ (p : Progress). P p.graph p.ran) (sym now.at_is) h

  pub broken_verdict : (kind : FlawKind) → i < length steps → IsBroken at.graph cores at.ran (step_at steps i) (Some kind) → IsVerdict g (IsVertexBelow g pairs) cores steps (Flaw (record { step = i + 1; kind = kind }))
  broken_verdict kind lt h =
      let flaw = broken_flaw g pairs cores steps i lt (λ v. small i v lt) now.fine kind (here (λ x ran. IsBroken x cores ran (step_at steps i) (Some kind)) h) in
      (i, refl, flaw, prompt_no_flaw g (IsVertexBelow g pairs) cores steps i kind flaw.here)

  pub unfair_verdict : (kind : FlawKind) (left : List (BTreeSet ℕ)) → i < length steps → AreLeft g sets left (step_at steps i) → IsBroken at.graph cores at.ran (step_at steps i) None → IsUnfair g pairs cores left (step_at steps i) (Some kind)
      → IsVerdict g (IsVertexBelow g pairs) cores steps (Flaw (record { step = i + 1; kind = kind }))
  unfair_verdict kind left lt out fine h =
      let flaw = unfair_flaw g pairs cores steps i lt (λ v. small i v lt) now.fine sets left now.held out (here (λ x ran. IsBroken x cores ran (step_at steps i) None) fine) kind h in
      (i, refl, flaw, prompt_no_flaw g (IsVertexBelow g pairs) cores steps i kind flaw.here)

  pub line_ready : i < length steps → IsBroken at.graph cores at.ran (step_at steps i) None → (v : ℕ) → Contains (step_at steps i) v → IsReady at.graph at.ran v
  line_ready lt fine v c = back (λ x ran. IsReady x ran v) (runs g pairs cores steps i lt (λ w. small i w lt) now.fine (here (λ x ran. IsBroken x cores ran (step_at steps i) None) fine) v c)

  pub judging_next : (next_at : Progress) (left next : List (BTreeSet ℕ)) (stood' : List Bool) (freed : List ℕ) → i < length steps → AreLeft g sets left (step_at steps i) → IsBroken at.graph cores at.ran (step_at steps i) None → IsUnfair g pairs cores left (step_at steps i) None
      → AreStood stood' (at.ran ++ step_at steps i) → length stood' ≡ length stood → next_at ≡ record { graph = at.graph; ran = at.ran ++ step_at steps i } → length next ≡ count
      → ((v : ℕ) → Contains freed v ↔ BecomesReady at.graph at.ran (at.ran ++ step_at steps i) v)
      → ((p v : ℕ) → (holds next p v ≡ true) ↔ ((holds left p v ≡ true) ⊎ (Contains freed v × (vertex_priority g v ≡ p))))
      → IsJudging g pairs count cores steps (i + 1) next_at stood' next
  judging_next next_at left next stood' freed lt out fine fair stood_is covers next_is long comes are = record {
    at_is = next_is ∙ ap with_line now.at_is ∙ ap (of_graph g) (sym more);
    are = subst (AreStood stood') (sym more) (here (λ x ran. AreStood stood' (ran ++ step_at steps i)) stood_is);
    covers = covers ∙ now.covers;
    long = long;
    held = subst (λ l. AreHeld g l next) (sym more) (sets_held g (vertices_before steps i ++ step_at steps i) next moved);
    fine = λ j lt_j. elim (cases_lt j i) [
      | inl early ↦ now.fine j early
      | inr late ↦ (
          let same : i ≡ j = omega (arith, late, lt_j) in
          subst (IsFine g (IsVertexBelow g pairs) cores steps) same (fine_here g pairs cores steps i lt (λ v. small i v lt) now.fine sets left now.held out (here (λ x ran. IsBroken x cores ran (step_at steps i) None) fine) fair))
    ];
  }
    where
      with_line : Progress → Progress
      with_line p = record { graph = p.graph; ran = p.ran ++ step_at steps i }

      more : vertices_before steps (i + 1) ≡ vertices_before steps i ++ step_at steps i
      more = (let e : i + 1 ≡ suc i = omega arith in ap (vertices_before steps) e ∙ before_more steps i lt)

      moved : HasReady g (vertex_priority g) (vertices_before steps i ++ step_at steps i) (λ p v. holds next p v ≡ true)
      moved =
          ready_next g (vertex_priority g) (vertices_before steps i) (step_at steps i) freed (λ p v. holds sets p v ≡ true) (λ p v. holds next p v ≡ true) (sets_have g (vertices_before steps i) sets now.held)
          (here (λ x ran. (v : ℕ) → Contains freed v ↔ BecomesReady x ran (ran ++ step_at steps i) v) comes)
          (λ p v. (
            λ h. elim ((are p v).0 h) [
              | inl stays ↦ let both = (out.are p v).0 stays in inl (both.0, λ c. both.1 (c, ((now.held.are p v).0 both.0).1))
              | inr f ↦ inr (f.0, sym f.1)
            ],
            λ h. (are p v).1 (elim h [
              | inl stays ↦ inl ((out.are p v).1 (stays.0, λ c. stays.1 c.0))
              | inr f ↦ inr (f.0, sym f.1)
            ]),
          ))

  whole : i ≡ length steps → vertices_before steps i ≡ concat steps
  whole e = ap (vertices_before steps) e ∙ ap concat (take-length steps)

  -- the vertices that have not run are in no step
  missing : i ≡ length steps → (r : _) → IsLeastOf (λ v. (v < vertex_total at.graph) × (Contains at.ran v → ⊥)) r → IsLeastOf (λ v. (v < vertex_total g) × (Contains (concat steps) v → ⊥)) r
  missing e r h = subst (λ l. IsLeastOf (λ v. (v < vertex_total g) × (Contains l v → ⊥)) r) (whole e) (here (λ x ran. IsLeastOf (λ v. (v < vertex_total x) × (Contains ran v → ⊥)) r) h)

  pub prompt_verdict : i ≡ length steps → IsLeastOf (λ v. (v < vertex_total at.graph) × (Contains at.ran v → ⊥)) None → IsPrompt g (IsVertexBelow g pairs) cores steps
  prompt_verdict e none =
      fine_is_prompt g (IsVertexBelow g pairs) cores steps small (λ j lt. let small_j : j < i = omega (arith, lt, e) in now.fine j small_j) all
    where
      all : (v : ℕ) → v < vertex_total g → Contains (concat steps) v
      all v lt = elim (member_or_not (concat steps) v) [ inl c ↦ c | inr out ↦ absurd (missing e None none v (lt, out)) ]

  pub missing_verdict : (u : ℕ) → i ≡ length steps → IsLeastOf (λ v. (v < vertex_total at.graph) × (Contains at.ran v → ⊥)) (Some u) → IsVerdict g (IsVertexBelow g pairs) cores steps (Flaw (record { step = i + 1; kind = Unfinished u }))
  missing_verdict u e h =
      let flaw = missing_flaw g pairs cores steps i u e now.fine (e, missing e (Some u) h) in
      (i, refl, flaw, prompt_no_flaw g (IsVertexBelow g pairs) cores steps i (Unfinished u) flaw.here)
