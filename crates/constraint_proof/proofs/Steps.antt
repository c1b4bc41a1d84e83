-- What following an edge keeps, and what a search that leads to nothing new tells.
use Rattle.std.proofs.Common.{◌≡◌, ◌≢◌, ◌↔◌, ℕ, ◌+◌, ◌-◌, ◌*◌, ◌<◌, ◌≤◌, Bool, true, false, Option, Some, None, List, [], ◌∷◌, ◌++◌, map, length, get_or, take, drop, set, refl, sym, ap, ◌∙◌, subst, ◌⊎◌, inl, inr, arith}
use Rattle.std.specs.Prelude.{slice_get, ◌||◌, IfSome, IsNone}
use Rattle.std.specs.List.{Contains}
use Rattle.std.proofs.Math.Dec.{eqb}
use Rattle.std.proofs.Math.ListN.{replicate, length-set}
use Rattle.std.proofs.lemmas.Bool.{cases_lt}
use Rattle.std.proofs.lemmas.Bool.Decides.{eqb_tells}
use Rattle.std.proofs.lemmas.List.{append_assoc, take-append-drop, take-append-le, length-append, length-map, length-take, length-take-le, length-replicate, get_or_append_left, get_or_push, get_or-set_same, get_or-set_other, get_or-take, get_or-replicate}
use Rattle.std.proofs.lemmas.List.Elements.{All-contains, Contains-append_left, Contains-append_right, Contains-append_cases}
use Rattle.std.proofs.lemmas.List.Folds.{sum_by-replicate}
use Rattle.std.proofs.lemmas.List.Sums.{sum_by-set}
use Rattle.std.proofs.lemmas.Option.{slice_get-get_or, get_or_from_slice_get, slice_get_within}
use Rattle.priml_syntax.specs.declared.prio.Prio.{Prio}
use Rattle.priority_order.specs.Order.{Pair, IsWithin}
use Rattle.priority_order.proofs.Lists.{contains_at, at_contained, each_behind-push}
use Rattle.constraint_proof.specs.declared.derivation.Rule.TheVariants.{Reflexive, Transitive}
use Rattle.constraint_proof.specs.declared.derivation.Step.{Step}
use Rattle.constraint_proof.specs.declared.derivation.Derivation.{Derivation}
use Rattle.constraint_proof.specs.Entailed.{Constraint, Entailed, by_declared, by_assumed, by_reflexive, by_transitive, IsValid, AreValid, most_variables}
use Rattle.constraint_proof.specs.Numbers.{number}
use Rattle.constraint_proof.specs.Steps.{StepFits, IsAccepted}
use Rattle.constraint_proof.specs.Inside.Search.{between, constraints, Table, is_free, free, IsReached, AllFit, Concludes, IsSearch, over, Followed, IsClosedTo, Went, Kept}
use Rattle.constraint_proof.proofs.Numbers.{Contains-map, Contains-map_from, same_number}
use Rattle.constraint_proof.proofs.Sound.{accepted_derives}

-- an element stands where it stood when one more comes to the end
kept : {X : Type 0} (xs : List X) (y : X) (k : ℕ) (x : X) → slice_get xs k ≡ Some x → slice_get (xs ++ y ∷ []) k ≡ Some x
kept xs y k x e =
    let l = slice_get_within xs k x e in
    slice_get-get_or (xs ++ y ∷ []) k x (omega (arith, length-append xs (y ∷ []))) ∙ ap Some (get_or_append_left xs (y ∷ []) x k l ∙ get_or_from_slice_get xs k x x e)

last_of : {X : Type 0} (xs : List X) (y : X) → slice_get (xs ++ y ∷ []) (length xs) ≡ Some y
last_of xs y = slice_get-get_or (xs ++ y ∷ []) (length xs) y (omega (arith, length-append xs (y ∷ []))) ∙ ap Some (get_or_push xs y y (length xs) refl)

length_more : {X : Type 0} (xs : List X) (y : X) → length (xs ++ y ∷ []) ≡ length xs + 1
length_more xs y = length-append xs (y ∷ [])

concludes_kept : (steps : List Step) (s : Step) (k : ℕ) (p q : Prio) → Concludes steps k p q → Concludes (steps ++ s ∷ []) k p q
concludes_kept steps s k p q h = (h.0, kept steps s k h.0 h.1, h.2, h.3)

-- what a table has after a write
written : (reached : Table) (n : ℕ) (k : ℕ) → n < length reached → slice_get (set reached n (Some k)) n ≡ Some (Some k)
written reached n k l = slice_get-get_or (set reached n (Some k)) n None (omega (arith, length-set reached n (Some k))) ∙ ap Some (get_or-set_same reached n (Some k) None l)

left_alone : (reached : Table) (n m : ℕ) (k : ℕ) (x : Option ℕ) → n ≢ m → slice_get (set reached n (Some k)) m ≡ Some x → slice_get reached m ≡ Some x
left_alone reached n m k x ne e =
    let l = slice_get_within (set reached n (Some k)) m x e in
    slice_get-get_or reached m x (omega (arith, length-set reached n (Some k))) ∙ ap Some (sym (get_or-set_other reached n m (Some k) x (λ e. ne (sym e))) ∙ get_or_from_slice_get (set reached n (Some k)) m x x e)

-- one priority fewer is free
pub fewer : (reached : Table) (n k : ℕ) → slice_get reached n ≡ Some None → free (set reached n (Some k)) + 1 ≡ free reached
fewer reached n k e =
    let l = slice_get_within reached n None e in
    let was : get_or reached n None ≡ None = get_or_from_slice_get reached n None None e in
    let weight : is_free (get_or reached n None) ≡ 1 = ap is_free was in
    omega (arith, sum_by-set is_free reached n (Some k) None l)

module _ (pairs : List Pair) (given : List Constraint) where
  -- the steps up to one that concludes the goal
  pub accepted : (steps : List Step) (k : ℕ) (p q : Prio) → AllFit pairs given steps → Concludes steps k p q → IsAccepted pairs given (p, q) (take (k + 1) steps)
  accepted steps k p q fits h = record {
    each = λ j s e. subst (λ before. StepFits pairs given before s) (sym (front j (within j s e))) (fits j s (stands j s e));
    last = h.0;
    is = ap (λ n. slice_get (take (k + 1) steps) (n - 1)) long ∙ (ap (slice_get (take (k + 1) steps)) (let e : (k + 1) - 1 ≡ k = omega arith in e) ∙ (slice_get-get_or (take (k + 1) steps) k h.0 (omega (arith, long)) ∙ ap Some (get_or-take (k + 1) steps k h.0 (omega arith) ∙ get_or_from_slice_get steps k h.0 h.0 h.1)));
    left = h.2;
    right = h.3;
  }
    where
      in_ : k < length steps
      in_ = slice_get_within steps k h.0 h.1

      long : length (take (k + 1) steps) ≡ k + 1
      long = length-take-le (k + 1) steps (let l = in_ in omega arith)

      within : (j : ℕ) (s : Step) → slice_get (take (k + 1) steps) j ≡ Some s → j < k + 1
      within j s e = omega (arith, slice_get_within (take (k + 1) steps) j s e, long)

      front : (j : ℕ) → j < k + 1 → take j (take (k + 1) steps) ≡ take j steps
      front j l = sym (take-append-le j (take (k + 1) steps) (drop (k + 1) steps) (omega (arith, long))) ∙ ap (take j) (take-append-drop (k + 1) steps)

      stands : (j : ℕ) (s : Step) → slice_get (take (k + 1) steps) j ≡ Some s → slice_get steps j ≡ Some s
      stands j s e = slice_get-get_or steps j s (let a = within j s e in let b = in_ in omega arith) ∙ ap Some (sym (get_or-take (k + 1) steps j s (within j s e)) ∙ get_or_from_slice_get (take (k + 1) steps) j s s e)

  all_fit-none : AllFit pairs given []
  all_fit-none k s e = absurd (let l = slice_get_within [] k s e in omega arith)

  pub all_fit-push : (steps : List Step) (s : Step) → AllFit pairs given steps → StepFits pairs given steps s → AllFit pairs given (steps ++ s ∷ [])
  all_fit-push steps s fits here = each_behind-push (StepFits pairs given) steps fits s here

  module _ (start : Prio) (count : ℕ) where
    -- a table with one more step, for the priority y
    derives_more : (steps more : List Step) (reached : Table) (y : Prio) (at : ℕ) → IsValid count y → number count y < length reached → ((q : Prio) (k : ℕ) → IsValid count q → slice_get reached (number count q) ≡ Some (Some k) → Concludes more k start q) → Concludes more at start y → (q : Prio) (k : ℕ) → IsValid count q → slice_get (set reached (number count y) (Some at)) (number count q) ≡ Some (Some k) → Concludes more k start q
    derives_more steps more reached y at valid l old new q k v e = by_cases (eqb_tells (number count y) (number count q))
      where
        by_cases : ((eqb (number count y) (number count q) ≡ true) × (number count y ≡ number count q)) ⊎ ((eqb (number count y) (number count q) ≡ false) × (number count y ≢ number count q)) → Concludes more k start q
        by_cases (inl s) =
            let is : Some (Some at) ≡ Some (Some k) = sym (written reached (number count y) at l) ∙ (ap (slice_get (set reached (number count y) (Some at))) s.1 ∙ e) in
            let n : at ≡ k = cc in
            subst (λ z. Concludes more z start q) n (subst (λ z. Concludes more at start z) (same_number count y q valid v s.1) new)
        by_cases (inr s) = old q k v (left_alone reached (number count y) (number count q) at (Some k) s.1 e)

    -- with no step, and nothing reached
    pub started : IsSearch pairs given start count [] (replicate (count + most_variables) None)
    started = record {
      fits = all_fit-none;
      derives = λ q k v e. absurd (nowhere (number count q) k e);
      long = length-replicate {A = Option ℕ} (count + most_variables) None;
      few = omega (arith, sum_by-replicate is_free (count + most_variables) None);
    }
      where
        nowhere : (n k : ℕ) → slice_get (replicate (count + most_variables) None) n ≡ Some (Some k) → ⊥
        nowhere n k e =
            let l : n < count + most_variables = omega (arith, slice_get_within (replicate (count + most_variables) None) n (Some k) e, length-replicate {A = Option ℕ} (count + most_variables) None) in
            let is : None ≡ Some k = sym (get_or-replicate (count + most_variables) n None None l) ∙ get_or_from_slice_get (replicate (count + most_variables) None) n (Some k) None e in
            cc

    -- the edge alone, from the start
    from_start : (steps : List Step) (reached : Table) (edge : Step) → IsSearch pairs given start count steps reached → ((before : List Step) → StepFits pairs given before edge) → IsValid count edge.right → slice_get reached (number count edge.right) ≡ Some None → edge.left ≡ start → IsSearch pairs given start count (steps ++ edge ∷ []) (set reached (number count edge.right) (Some (length steps)))
    from_start steps reached edge s fits valid free_ at_start = record {
      fits = all_fit-push steps edge s.fits (fits steps);
      derives = derives_more steps (steps ++ edge ∷ []) reached edge.right (length steps) valid (slice_get_within reached (number count edge.right) None free_) (λ q k v e. concludes_kept steps edge k start q (s.derives q k v e)) (edge, last_of steps edge, at_start, refl);
      long = length-set reached (number count edge.right) (Some (length steps)) ∙ s.long;
      few = omega (arith, s.few, fewer reached (number count edge.right) (length steps) free_, length_more steps edge);
    }

    -- the edge, and the two together
    from_step : (steps : List Step) (reached : Table) (edge : Step) (k : ℕ) → IsSearch pairs given start count steps reached → ((before : List Step) → StepFits pairs given before edge) → IsValid count edge.left → IsValid count edge.right → slice_get reached (number count edge.right) ≡ Some None → slice_get reached (number count edge.left) ≡ Some (Some k) → IsSearch pairs given start count ((steps ++ edge ∷ []) ++ record { rule = Transitive k (length steps); left = start; right = edge.right } ∷ []) (set reached (number count edge.right) (Some (length steps + 1)))
    from_step steps reached edge k s fits valid_left valid free_ at_left =
        let joint : Step = record { rule = Transitive k (length steps); left = start; right = edge.right } in
        let both : List Step = (steps ++ edge ∷ []) ++ joint ∷ [] in
        let was : Concludes steps k start edge.left = s.derives edge.left k valid_left at_left in
        record {
          fits = all_fit-push (steps ++ edge ∷ []) joint (all_fit-push steps edge s.fits (fits steps)) (was.0, edge, kept steps edge k was.0 was.1, last_of steps edge, was.2, was.3, refl);
          derives = derives_more steps both reached edge.right (length steps + 1) valid (slice_get_within reached (number count edge.right) None free_) (λ q n v e. concludes_kept (steps ++ edge ∷ []) joint n start q (concludes_kept steps edge n start q (s.derives q n v e))) (joint, subst (λ n. slice_get both n ≡ Some joint) (length_more steps edge) (last_of (steps ++ edge ∷ []) joint), refl, refl);
          long = length-set reached (number count edge.right) (Some (length steps + 1)) ∙ s.long;
          few = omega (arith, s.few, fewer reached (number count edge.right) (length steps + 1) free_, length_more steps edge, length_more (steps ++ edge ∷ []) joint);
        }

    -- following an edge keeps all
    pub follow_keeps : (steps : List Step) (reached : Table) (edge : Step) (new_steps : List Step) (new_reached : Table) → IsSearch pairs given start count steps reached → ((before : List Step) → StepFits pairs given before edge) → IsValid count edge.left → IsValid count edge.right → (new : Bool) → Followed start count edge steps reached new_steps new_reached new → IsSearch pairs given start count new_steps new_reached
    follow_keeps steps reached edge new_steps new_reached s fits vl vr false f = subst (λ xs. IsSearch pairs given start count xs new_reached) (sym f.0) (subst (λ t. IsSearch pairs given start count steps t) (sym f.1) s)
    follow_keeps steps reached edge new_steps new_reached s fits vl vr true f = by_from f.0 f.1 f.2 f.3 f.4.0 f.4.1
      where
        same_as : (more : List Step) (n : ℕ) → length more ≡ n + 1 → IsSearch pairs given start count more (set reached (number count edge.right) (Some n)) → new_steps ≡ more → new_reached ≡ set reached (number count edge.right) (Some (length new_steps - 1)) → IsSearch pairs given start count new_steps new_reached
        same_as more n long t es er =
            let at : length new_steps - 1 ≡ n = ap (λ xs. length xs - 1) es ∙ (let e = long in omega arith) in
            subst (λ xs. IsSearch pairs given start count xs new_reached) (sym es)
            (subst (λ z. IsSearch pairs given start count more z) (sym (er ∙ ap (λ z. set reached (number count edge.right) (Some z)) at)) t)

        at_start : IsReached start count reached edge.left → slice_get reached (number count edge.left) ≡ Some None → edge.left ≡ start
        at_start (inl e) none = e
        at_start (inr h) none = absurd (let e : Some (Some h.0) ≡ Some None = sym h.1 ∙ none in cc)

        by_from : (from : Option ℕ) → IsReached start count reached edge.left → slice_get reached (number count edge.left) ≡ Some from → slice_get reached (number count edge.right) ≡ Some None → new_steps ≡ steps ++ over start (length steps) edge from → new_reached ≡ set reached (number count edge.right) (Some (length new_steps - 1)) → IsSearch pairs given start count new_steps new_reached
        by_from None r l free_ es er = same_as (steps ++ edge ∷ []) (length steps) (length_more steps edge) (from_start steps reached edge s fits vr free_ (at_start r l)) es er
        by_from (Some k) r l free_ es er =
            let joint : Step = record { rule = Transitive k (length steps); left = start; right = edge.right } in
            same_as ((steps ++ edge ∷ []) ++ joint ∷ []) (length steps + 1) (length_more (steps ++ edge ∷ []) joint ∙ ap (λ n. n + 1) (length_more steps edge)) (from_step steps reached edge k s fits vl vr free_ l) (es ∙ sym (append_assoc steps (edge ∷ []) (joint ∷ []))) er

    fell : (reached new_reached : Table) (edge : Step) (steps new_steps : List Step) → Followed start count edge steps reached new_steps new_reached true → free new_reached + 1 ≡ free reached
    fell reached new_reached edge steps new_steps f = subst (λ t. free t + 1 ≡ free reached) (sym f.4.1) (fewer reached (number count edge.right) (length new_steps - 1) f.3)

    closed_more : (n : ℕ) (edge : Step) (reached new_reached : Table) → slice_get (constraints pairs given) n ≡ Some (edge.left, edge.right) → new_reached ≡ reached → IsClosedTo start count (constraints pairs given) reached n → (IsReached start count reached edge.left → IsReached start count reached edge.right) → IsClosedTo start count (constraints pairs given) new_reached (n + 1)
    closed_more n edge reached new_reached here same closed step = subst (λ t. IsClosedTo start count (constraints pairs given) t (n + 1)) (sym same) (λ j c l e. by_place j c l e (cases_lt j n))
      where
        by_place : (j : ℕ) (c : Constraint) → j < n + 1 → slice_get (constraints pairs given) j ≡ Some c → (j < n) ⊎ (n ≤ j) → IsReached start count reached c.0 → IsReached start count reached c.1
        by_place j c l e (inl lt) = closed j c lt e
        by_place j c l e (inr ge) =
            let at : n ≡ j = omega arith in
            let is : Some (edge.left, edge.right) ≡ Some c = sym here ∙ (ap (slice_get (constraints pairs given)) at ∙ e) in
            let it : (edge.left, edge.right) ≡ c = cc in
            subst (λ (z : Constraint). IsReached start count reached z.0 → IsReached start count reached z.1) it step

    -- one constraint more
    pub went_more : (n : ℕ) (edge : Step) (first : Table) (steps : List Step) (reached : Table) (new_steps : List Step) (new_reached : Table) → slice_get (constraints pairs given) n ≡ Some (edge.left, edge.right) → (found new : Bool) → Went start count (constraints pairs given) n first reached found → Followed start count edge steps reached new_steps new_reached new → Went start count (constraints pairs given) (n + 1) first new_reached (found || new)
    went_more n edge first steps reached new_steps new_reached here true true w f = let e = fell reached new_reached edge steps new_steps f in omega arith
    went_more n edge first steps reached new_steps new_reached here true false w f = let e = ap free f.1 in omega arith
    went_more n edge first steps reached new_steps new_reached here false true w f = let e = fell reached new_reached edge steps new_steps f in let o = w.0 in omega arith
    went_more n edge first steps reached new_steps new_reached here false false w f = (let e = ap free f.1 in let o = w.0 in omega arith, closed_more n edge reached new_reached here f.1 w.1 f.2)

    -- what is entailed from what is reached is reached
    pub entailed_reached : (reached : Table) → IsClosedTo start count (constraints pairs given) reached (length pairs + length given) → {p q : Prio} → Entailed pairs given p q → IsReached start count reached p → IsReached start count reached q
    entailed_reached reached closed (by_declared {a = a} {b = b} h) r =
        let c = Contains-append_left (map between pairs) given (between (a, b)) (Contains-map between pairs (a, b) h) in
        closed c.0 (between (a, b)) (omega (arith, c.1, length-append (map between pairs) given, length-map pairs between)) (at_contained (constraints pairs given) (between (a, b)) c) r
    entailed_reached reached closed (by_assumed {p = p} {q = q} h) r =
        let c = Contains-append_right (map between pairs) given (p, q) h in
        closed c.0 (p, q) (omega (arith, c.1, length-append (map between pairs) given, length-map pairs between)) (at_contained (constraints pairs given) (p, q) c) r
    entailed_reached reached closed (by_reflexive {p = p}) r = r
    entailed_reached reached closed (by_transitive {p = p} {q = q} {r = r} x y) h = entailed_reached reached closed y (entailed_reached reached closed x h)

-- both ends of each constraint are valid
pub valid_at : (count : ℕ) (pairs : List Pair) (given : List Constraint) → IsWithin count pairs → AreValid count given → (i : ℕ) (c : Constraint) → slice_get (constraints pairs given) i ≡ Some c → IsValid count c.0 × IsValid count c.1
valid_at count pairs given within valid i c e = by_part (Contains-append_cases (map between pairs) given c (contains_at (constraints pairs given) i c e))
  where
    by_part : Contains (map between pairs) c ⊎ Contains given c → IsValid count c.0 × IsValid count c.1
    by_part (inl h) =
        let m = Contains-map_from between pairs c h in
        subst (λ (x : Constraint). IsValid count x.0 × IsValid count x.1) m.2 (All-contains (λ (p : Pair). (p.0 < count) × (p.1 < count)) pairs m.0 within m.1)
    by_part (inr h) = All-contains (λ (x : Constraint). IsValid count x.0 × IsValid count x.1) given c valid h

-- the step that says that a priority is at most itself
abbrev pub reflexive_step : Prio → Step
reflexive_step p = record { rule = Reflexive; left = p; right = p }

pub reflexive_accepted : (pairs : List Pair) (given : List Constraint) (p q : Prio) → p ≡ q → (steps : List Step) → steps ≡ reflexive_step p ∷ [] → IsAccepted pairs given (p, q) steps
reflexive_accepted pairs given p q same steps is = subst (IsAccepted pairs given (p, q)) (sym is) (record {
  each = all_fit-push pairs given [] (reflexive_step p) (all_fit-none pairs given) refl;
  last = reflexive_step p;
  is = refl;
  left = refl;
  right = same;
})

-- what the search tells of the goal, where it leads to nothing new
pub search_tells : (pairs : List Pair) (given : List Constraint) (start : Prio) (count : ℕ) (reached : Table) → IsClosedTo start count (constraints pairs given) reached (length pairs + length given) → (q : Prio) → (start ≡ q → ⊥) → slice_get reached (number count q) ≡ Some None → Entailed pairs given start q → ⊥
search_tells pairs given start count reached closed q differ none h = by_reach (entailed_reached pairs given start count reached closed h (inl refl))
  where
    by_reach : IsReached start count reached q → ⊥
    by_reach (inl e) = differ (sym e)
    by_reach (inr k) = let e : Some (Some k.0) ≡ Some None = sym k.1 ∙ none in cc

-- what is kept of a search is accepted
pub found_accepted : (pairs : List Pair) (given : List Constraint) (start : Prio) (count : ℕ) (steps : List Step) (reached : Table) → IsSearch pairs given start count steps reached → (q : Prio) → IsValid count q → (o : Option Derivation) → Kept steps reached (number count q) o → IfSome o (λ d. IsAccepted pairs given (start, q) d.steps.items)
found_accepted pairs given start count steps reached s q v None h = tt
found_accepted pairs given start count steps reached s q v (Some d) h = subst (IsAccepted pairs given (start, q)) (sym h.2) (accepted pairs given steps h.0 start q s.fits (s.derives q h.0 v h.1))

-- and nothing is kept exactly where the goal is not entailed
pub found_exact : (pairs : List Pair) (given : List Constraint) (start : Prio) (count : ℕ) (steps : List Step) (reached : Table) → IsSearch pairs given start count steps reached → IsClosedTo start count (constraints pairs given) reached (length pairs + length given) → (q : Prio) → IsValid count q → (start ≡ q → ⊥) → (o : Option Derivation) → Kept steps reached (number count q) o → IsNone o ↔ (Entailed pairs given start q → ⊥)
found_exact pairs given start count steps reached s closed q v differ None h = (λ _. search_tells pairs given start count reached closed q differ h, λ _. refl)
found_exact pairs given start count steps reached s closed q v differ (Some d) h =
    (λ e. absurd (let z : true ≡ false = e in cc), λ none. absurd (none (accepted_derives pairs given (start, q) d.steps.items (found_accepted pairs given start count steps reached s q v (Some d) h))))

-- and it is short
pub found_short : (pairs : List Pair) (given : List Constraint) (start : Prio) (count : ℕ) (steps : List Step) (reached : Table) → IsSearch pairs given start count steps reached → (n : ℕ) (o : Option Derivation) → Kept steps reached n o → IfSome o (λ d. length d.steps.items ≤ 2 * (count + most_variables))
found_short pairs given start count steps reached s n None h = tt
found_short pairs given start count steps reached s n (Some d) h = omega (arith, ap length h.2, length-take (h.0 + 1) steps, s.few)
