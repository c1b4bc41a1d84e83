-- A step at which nothing is wrong; a schedule of such steps is prompt, and no prompt schedule has a flaw.
use Rattle.std.proofs.Common.{◌≡◌, ℕ, zero, suc, ◌<◌, ◌≤◌, List, [], ◌∷◌, ◌++◌, length, take, drop, get_or, sym, ap, ◌∙◌, subst, inl, inr, arith, append_assoc}
use Rattle.std.specs.Prelude.{nat_eq}
use Rattle.std.specs.List.{concat, Contains, IsDistinct}
use Rattle.std.proofs.lemmas.Bool.{cases_lt}
use Rattle.std.proofs.lemmas.List.{get_or_default, append-nil, take-append-drop}
use Rattle.std.proofs.Math.Seq.{take-suc, take-length, drop-cons}
use Rattle.cost_graph.specs.Graph.{CostGraph, vertex_total, parents_at}
use Rattle.cost_graph.proofs.Members.{distinct_left, distinct_apart, distinct_join, parents_seen, no_member, member_cons, member_head}
use Rattle.prompt_checker.specs.Schedule.{vertices_before, step_at, IsPrompt}
use Rattle.prompt_checker.specs.Verdict.{StoodBefore, LacksParent, IsLeftOut, Overtakes, HasFlaw}
use Rattle.prompt_checker.specs.declared.schedule.FlawKind.{FlawKind}
use Rattle.prompt_checker.specs.declared.schedule.FlawKind.TheVariants.{EmptyStep, TooWide, Twice, NotReady, IdleCore, Inverted, Unfinished}
use Rattle.prompt_checker.proofs.Steps.{concat_append, before_more, before_each, before_distinct}

-- nothing is wrong at step i
pub record IsFine (g : CostGraph) (below : ℕ → ℕ → Type 0) (cores : ℕ) (steps : List (List ℕ)) (i : ℕ) : Type 0 where
  pub some : 0 < length (step_at steps i)
  pub fits : length (step_at steps i) ≤ cores
  pub once : (k : ℕ) → k < length (step_at steps i) → StoodBefore g below cores steps i k (get_or (step_at steps i) k 0) → ⊥
  pub ready : (k : ℕ) → k < length (step_at steps i) → LacksParent g below cores steps i (get_or (step_at steps i) k 0) → ⊥
  pub busy : length (step_at steps i) < cores → (u : ℕ) → IsLeftOut g below cores steps i u → ⊥
  pub fair : (v u : ℕ) → Contains (step_at steps i) v → Overtakes g below cores steps i v u → ⊥

-- where a member stands, and what stands somewhere is a member
pub place : (xs : List ℕ) (v : ℕ) → Contains xs v → (k : ℕ) × (k < length xs) × (get_or xs k 0 ≡ v)
place xs v c = (c.0, c.1, get_or_default xs c.0 0 v c.1 ∙ c.2)

pub stands : (xs : List ℕ) (k v : ℕ) → k < length xs → get_or xs k 0 ≡ v → Contains xs v
stands xs k v lt e = (k, lt, get_or_default xs k v 0 lt ∙ e)

distinct_one : (v : ℕ) → IsDistinct nat_eq (v ∷ [])
unfolding IsDistinct
distinct_one v = (tt, tt)

-- a line whose numbers are new one after the other
distinct_grown : (done line : List ℕ) → IsDistinct nat_eq done → ((k : ℕ) → k < length line → Contains (done ++ take k line) (get_or line k 0) → ⊥) → (k : ℕ) → k ≤ length line → IsDistinct nat_eq (done ++ take k line)
distinct_grown done line d new zero le = subst (IsDistinct nat_eq) (sym (append-nil done)) d
distinct_grown done line d new (suc k) le =
    let lt : k < length line = omega arith in
    let le' : k ≤ length line = omega arith in
    let v : ℕ = get_or line k 0 in
    let split = append_assoc done (take k line) (v ∷ []) ∙ ap (λ l. done ++ l) (sym (take-suc line k 0 lt)) in
    subst (IsDistinct nat_eq) split (distinct_join (done ++ take k line) (v ∷ []) (distinct_grown done line d new k le') (distinct_one v) (λ w a b. new k lt (subst (Contains (done ++ take k line)) (sym (only v w b)) a)))
  where
    only : (v w : ℕ) → Contains (v ∷ []) w → v ≡ w
    only v w c = elim (member_cons v [] w c) [ inl e ↦ e | inr z ↦ absurd (no_member w z) ]

module _ (g : CostGraph) (below : ℕ → ℕ → Type 0) (cores : ℕ) (steps : List (List ℕ)) where
  pub no_flaw : (i : ℕ) → i < length steps → IsFine g below cores steps i → (kind : FlawKind) → HasFlaw g below cores steps i kind → ⊥
  no_flaw i lt fine EmptyStep h = let some = fine.some in omega (arith, some, h.1)
  no_flaw i lt fine TooWide h = let fits = fine.fits in omega (arith, fits, h.1)
  no_flaw i lt fine (Twice v) h = fine.once h.1.0 h.1.1 (subst (StoodBefore g below cores steps i h.1.0) (sym h.1.2) h.1.3)
  no_flaw i lt fine (NotReady v) h = fine.ready h.1.0 h.1.1 (subst (LacksParent g below cores steps i) (sym h.1.2) h.1.3)
  no_flaw i lt fine (IdleCore u) h = fine.busy h.1 u h.2.0
  no_flaw i lt fine (Inverted v u) h = fine.fair v u (stands (step_at steps i) h.1.0 v h.1.1 h.1.2) h.2.0
  no_flaw i lt fine (Unfinished u) h = omega (arith, lt, h.0)

  module _ (small : (i v : ℕ) → i < length steps → Contains (step_at steps i) v → v < vertex_total g) (fine : (i : ℕ) → i < length steps → IsFine g below cores steps i) where
    distinct_more : (i : ℕ) → i < length steps → IsDistinct nat_eq (vertices_before steps i) → IsDistinct nat_eq (vertices_before steps i ++ step_at steps i)
    distinct_more i lt d =
        let line : List ℕ = step_at steps i in
        let whole : length line ≤ length line = omega arith in
        subst (IsDistinct nat_eq) (ap (λ l. vertices_before steps i ++ l) (take-length line)) (distinct_grown (vertices_before steps i) line d (fine i lt).once (length line) whole)

    parents_first : (i v : ℕ) → i < length steps → Contains (step_at steps i) v → (u : ℕ) → Contains (parents_at g v) u → Contains (vertices_before steps i) u
    parents_first i v lt c =
        elim (parents_seen (vertices_before steps i) (parents_at g v)) [
          | inl all ↦ all
          | inr p ↦ let at = place (step_at steps i) v c in absurd ((fine i lt).ready at.0 at.1 (subst (LacksParent g below cores steps i) (sym at.2) (p.0, p.1, p.2)))
        ]

    le_all : length steps ≤ length steps
    le_all = omega arith

    whole : vertices_before steps (length steps) ≡ concat steps
    whole = ap concat (take-length steps)

    pub fine_is_prompt : ((v : ℕ) → v < vertex_total g → Contains (concat steps) v) → IsPrompt g below cores steps
    fine_is_prompt all = record {
      valid = record {
        once = subst (IsDistinct nat_eq) whole (before_distinct steps distinct_more (length steps) le_all);
        all = λ v. (all v, λ c. before_each (λ w. w < vertex_total g) steps small (length steps) v le_all (subst (λ l. Contains l v) (sym whole) c));
        after = λ i v lt c. parents_first i v lt c;
        filled = λ i lt. (fine i lt).some;
        fits = λ i lt. (fine i lt).fits;
      };
      busy = λ i u lt r out. elim (cases_lt (length (step_at steps i)) cores) [ inl less ↦ absurd ((fine i lt).busy less u (r, out)) | inr full ↦ full ];
      fair = λ i v u lt c r out b. (fine i lt).fair v u c ((r, out), b);
    }

  -- what a prompt schedule keeps from standing twice
  stands_once : (i j v : ℕ) → i < length steps → j < length (step_at steps i) → IsDistinct nat_eq (concat steps) → get_or (step_at steps i) j 0 ≡ v → Contains (vertices_before steps i ++ take j (step_at steps i)) v → ⊥
  stands_once i j v lt small once e c =
      let line : List ℕ = step_at steps i in
      let split = sym (concat_append (take (suc i) steps) (drop (suc i) steps)) ∙ ap concat (take-append-drop (suc i) steps) in
      let prefix = distinct_left (vertices_before steps (suc i)) (concat (drop (suc i) steps)) (subst (IsDistinct nat_eq) (sym split) once) in
      let halves = before_more steps i lt ∙ ap (λ l. vertices_before steps i ++ l) (sym (take-append-drop j line)) ∙ sym (append_assoc (vertices_before steps i) (take j line) (drop j line)) in
      let late = subst (λ l. Contains l v) (sym (drop-cons line j 0 small)) (subst (λ w. Contains (get_or line j 0 ∷ drop (suc j) line) w) e (member_head (get_or line j 0) (drop (suc j) line))) in
      distinct_apart (vertices_before steps i ++ take j line) (drop j line) v (subst (IsDistinct nat_eq) halves prefix) c late

  pub prompt_no_flaw : (i : ℕ) (kind : FlawKind) → HasFlaw g below cores steps i kind → IsPrompt g below cores steps → ⊥
  prompt_no_flaw i EmptyStep h p = let some = p.valid.filled i h.0 in omega (arith, some, h.1)
  prompt_no_flaw i TooWide h p = let fits = p.valid.fits i h.0 in omega (arith, fits, h.1)
  prompt_no_flaw i (Twice v) h p = stands_once i h.1.0 v h.0 h.1.1 p.valid.once h.1.2 h.1.3
  prompt_no_flaw i (NotReady v) h p = h.1.3.2 (p.valid.after i v h.0 (stands (step_at steps i) h.1.0 v h.1.1 h.1.2) h.1.3.0 h.1.3.1)
  prompt_no_flaw i (IdleCore u) h p = let full = p.busy i u h.0 h.2.0.0 h.2.0.1 in omega (arith, full, h.1)
  prompt_no_flaw i (Inverted v u) h p = p.fair i v u h.0 (stands (step_at steps i) h.1.0 v h.1.1 h.1.2) h.2.0.0.0 h.2.0.0.1 h.2.0.1
  prompt_no_flaw i (Unfinished u) h p = h.1.0.1 ((p.valid.all u).0 h.1.0.0)
