-- The rows of the table of steps for the ending of a block.
use Rattle.std.proofs.Common.{◌≡◌, ℕ, true, false, List, [], ◌∷◌, ◌++◌, Some, None, refl, sym, ap}
use Rattle.priml_syntax.specs.declared.event.Event.TheVariants.{Plain}
use Rattle.priml_syntax.specs.Tree.{Term, Code, Body, ret_tail, if_tail, case_tail, inside}
use Rattle.priml_syntax.specs.Values.{Value', bool_value, left_value, right_value, returned}
use Rattle.core_steps.specs.declared.place.Turn.TheVariants.{First, Second}
use Rattle.core_steps.specs.Expressions.{result_of}
use Rattle.core_steps.specs.Fields.{FrameFields, LocalFields, running, body_at}
use Rattle.core_steps.specs.Inside.Locals.{IsLeft, bool_in, side_in, Left, Right}
use Rattle.core_steps.specs.Moves.{Goes}
use Rattle.core_steps.specs.Inside.Moves.{CanStep, within_frame}
use Rattle.core_steps.specs.Steps.{Job, Frame, Run, State, run_code, with_result, if_step, case_step}
use Rattle.core_steps.proofs.Opened.{body_first, body_second, opened_at}
use Rattle.core_steps.proofs.Moves.{in_phase, stands, branches, leaves}

module _ (job : Job) (l : LocalFields) (can : CanStep job l None) (mode : l.mode ≡ running) where
  -- the value of a block
  pub leave_row : (at : ℕ) (e : Term) (v : Value') (l' : LocalFields) → body_at job.program l.top ≡ Some (ret_tail at e) → result_of l.top.scope e ≡ Some (returned v) → IsLeft l v l' → Goes job l None Plain None l'
  leave_row at e v l' body gives (fs, f, below, is) = rw is (leaves job l None at e (stands job l None (ret_tail at e) can mode body) fs f v mode below gives)

  -- the state at the ending, with these frames below
  abbrev at_end : Body → List Frame → State
  at_end c fs = in_phase l (Run (opened_at l.top c) fs)

  -- a branch of an ending
  branch_row : (c : Body) (d : Code) (f : FrameFields) → body_at job.program l.top ≡ Some c → body_at job.program f ≡ Some (inside d) →
      ((fs : List Frame) → run_code job (at_end c fs) (opened_at l.top c) fs c None ≡ Some (record { event = Plain; next = in_phase l (Run (opened_at f (inside d)) fs); child = None })) →
      Goes job l None Plain None (record l { top = f })
  branch_row c d f body inner runs = let s = stands job l None c can mode body in branches job l None c (inside d) s f mode inner (runs s.below)

  -- a condition
  if_gives : (at : ℕ) (e : Term) (a b : Code) (v : Value') → result_of l.top.scope e ≡ Some (returned v) → (fs : List Frame) →
      run_code job (at_end (if_tail at e a b) fs) (opened_at l.top (if_tail at e a b)) fs (if_tail at e a b) None ≡ if_step (at_end (if_tail at e a b) fs) (opened_at l.top (if_tail at e a b)) fs a b v
  if_gives at e a b v gives fs = ap (λ o. with_result (at_end (if_tail at e a b) fs) o (if_step (at_end (if_tail at e a b) fs) (opened_at l.top (if_tail at e a b)) fs a b)) gives

  pub true_row : (at : ℕ) (e : Term) (a b : Code) (v : Value') → body_at job.program l.top ≡ Some (if_tail at e a b) → result_of l.top.scope e ≡ Some (returned v) → bool_in v ≡ Some true → Goes job l None Plain None (record l { top = within_frame l.top First })
  true_row at e a b (bool_value true) body gives is =
      let c = if_tail at e a b in branch_row c a (within_frame l.top First) body (body_first job.program l.top c a l.top.scope body refl) (if_gives at e a b (bool_value true) gives)
  true_row at e a b (bool_value false) body gives is = absurd (cc)
  true_row at e a b v body gives is = absurd (cc)

  pub false_row : (at : ℕ) (e : Term) (a b : Code) (v : Value') → body_at job.program l.top ≡ Some (if_tail at e a b) → result_of l.top.scope e ≡ Some (returned v) → bool_in v ≡ Some false → Goes job l None Plain None (record l { top = within_frame l.top Second })
  false_row at e a b (bool_value false) body gives is =
      let c = if_tail at e a b in branch_row c b (within_frame l.top Second) body (body_second job.program l.top c b l.top.scope body refl) (if_gives at e a b (bool_value false) gives)
  false_row at e a b (bool_value true) body gives is = absurd (cc)
  false_row at e a b v body gives is = absurd (cc)

  -- a value of a sum
  case_gives : (at : ℕ) (e : Term) (a b : Code) (v : Value') → result_of l.top.scope e ≡ Some (returned v) → (fs : List Frame) →
      run_code job (at_end (case_tail at e a b) fs) (opened_at l.top (case_tail at e a b)) fs (case_tail at e a b) None ≡ case_step (at_end (case_tail at e a b) fs) (opened_at l.top (case_tail at e a b)) fs a b v
  case_gives at e a b v gives fs = ap (λ o. with_result (at_end (case_tail at e a b) fs) o (case_step (at_end (case_tail at e a b) fs) (opened_at l.top (case_tail at e a b)) fs a b)) gives

  pub left_row : (at : ℕ) (e : Term) (a b : Code) (v w : Value') → body_at job.program l.top ≡ Some (case_tail at e a b) → result_of l.top.scope e ≡ Some (returned v) → side_in v ≡ Some (Left w) → Goes job l None Plain None (record l { top = record (within_frame l.top First) { scope = l.top.scope ++ w ∷ [] } })
  left_row at e a b (left_value x) w body gives is =
      let c = case_tail at e a b in let same : x ≡ w = cc in
      rw (sym same) (branch_row c a (record (within_frame l.top First) { scope = l.top.scope ++ x ∷ [] }) body (body_first job.program l.top c a (l.top.scope ++ x ∷ []) body refl) (case_gives at e a b (left_value x) gives))
  left_row at e a b (right_value x) w body gives is = absurd (cc)
  left_row at e a b v w body gives is = absurd (cc)

  pub right_row : (at : ℕ) (e : Term) (a b : Code) (v w : Value') → body_at job.program l.top ≡ Some (case_tail at e a b) → result_of l.top.scope e ≡ Some (returned v) → side_in v ≡ Some (Right w) → Goes job l None Plain None (record l { top = record (within_frame l.top Second) { scope = l.top.scope ++ w ∷ [] } })
  right_row at e a b (left_value x) w body gives is = absurd (cc)
  right_row at e a b (right_value x) w body gives is =
      let c = case_tail at e a b in let same : x ≡ w = cc in
      rw (sym same) (branch_row c b (record (within_frame l.top Second) { scope = l.top.scope ++ x ∷ [] }) body (body_second job.program l.top c b (l.top.scope ++ x ∷ []) body refl) (case_gives at e a b (right_value x) gives))
  right_row at e a b v w body gives is = absurd (cc)
