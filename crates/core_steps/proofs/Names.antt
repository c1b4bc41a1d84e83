-- The threads that values, scopes, frames and outcomes name, and that an expression names those of its scope.
use Rattle.std.proofs.Common.{◌≡◌, ℕ, zero, suc, List, [], ◌∷◌, ◌++◌, Option, Some, None, subst, Bool, true, false, if◌then◌else◌}
use Rattle.std.specs.Prelude.{slice_get, ℤ, pos, negsuc, ◌+ℤ◌, ◌-ℤ◌, ◌*ℤ◌, int_div, int_rem}
use Rattle.std.proofs.lemmas.Option.{same_Some, none-some}
use Rattle.priml_syntax.specs.declared.expr.Op.{Op}
use Rattle.priml_syntax.specs.declared.expr.Op.TheVariants.{Add, Sub, Mul, Div, Rem, Less, AtMost, Equal, And, Or}
use Rattle.priml_syntax.specs.declared.value.FaultKind.TheVariants.{Overflow}
use Rattle.priml_syntax.specs.Tree.{Term, var, number, bool_term, unit_term, pair_term, first, second, left, right, binary, negated}
use Rattle.priml_syntax.specs.Values.{Value', unit_value, bool_value, int_value, pair_value, left_value, right_value, thread_value, Outcome', returned, faulted}
use Rattle.core_steps.specs.Expressions.{result_of, results_of, Results, AllGave, OneFault, one_more, with_one, with_two, gave, fits, divided, remainder, op_value, number_op, bool_op, fst_value, snd_value, not_value}
use Rattle.core_steps.specs.Steps.{Frame, Phase, Fresh, Run, Failing, Ended, thread_in}

-- P holds of each thread that is named
abbrev pub OfValue : (List ℕ → Type 0) → Value' → Type 0
OfValue P unit_value = Unit {0}
OfValue P (bool_value b) = Unit {0}
OfValue P (int_value z) = Unit {0}
OfValue P (pair_value v w) = OfValue P v × OfValue P w
OfValue P (left_value v) = OfValue P v
OfValue P (right_value v) = OfValue P v
OfValue P (thread_value b q) = P b

abbrev pub OfScope : (List ℕ → Type 0) → List Value' → Type 0
OfScope P [] = Unit {0}
OfScope P (v ∷ vs) = OfValue P v × OfScope P vs

abbrev pub OfFrames : (List ℕ → Type 0) → List Frame → Type 0
OfFrames P [] = Unit {0}
OfFrames P (f ∷ fs) = OfScope P f.scope × OfFrames P fs

abbrev pub OfOutcome : (List ℕ → Type 0) → Outcome' → Type 0
OfOutcome P (returned v) = OfValue P v
OfOutcome P (faulted k) = Unit {0}

-- of each thread that an outcome names, where there is one
abbrev pub OfGiven : (List ℕ → Type 0) → Option Outcome' → Type 0
OfGiven P None = Unit {0}
OfGiven P (Some o) = OfOutcome P o

-- of each thread that several values name, where there are any
abbrev pub OfResults : (List ℕ → Type 0) → Option Results → Type 0
OfResults P None = Unit {0}
OfResults P (Some (OneFault k)) = Unit {0}
OfResults P (Some (AllGave vs)) = OfScope P vs

abbrev pub OfPhase : (List ℕ → Type 0) → Phase → Type 0
OfPhase P (Fresh t) = OfScope P t.scope
OfPhase P (Run t fs) = OfScope P t.scope × OfFrames P fs
OfPhase P (Failing k) = Unit {0}
OfPhase P (Ended o) = OfOutcome P o

-- what holds of the named threads may be weakened
module _ (P Q : List ℕ → Type 0) (weaker : (b : List ℕ) → P b → Q b) where
  pub value_map : (v : Value') → OfValue P v → OfValue Q v
  value_map (pair_value v w) h = (value_map v h.0, value_map w h.1)
  value_map (left_value v) h = value_map v h
  value_map (right_value v) h = value_map v h
  value_map (thread_value b q) h = weaker b h
  value_map v h = tt

  pub scope_map : (vs : List Value') → OfScope P vs → OfScope Q vs
  scope_map [] h = tt
  scope_map (v ∷ vs) h = (value_map v h.0, scope_map vs h.1)

  pub frames_map : (fs : List Frame) → OfFrames P fs → OfFrames Q fs
  frames_map [] h = tt
  frames_map (f ∷ fs) h = (scope_map f.scope h.0, frames_map fs h.1)

  pub outcome_map : (o : Outcome') → OfOutcome P o → OfOutcome Q o
  outcome_map (returned v) h = value_map v h
  outcome_map (faulted k) h = tt

  pub phase_map : (f : Phase) → OfPhase P f → OfPhase Q f
  phase_map (Fresh t) h = scope_map t.scope h
  phase_map (Run t fs) h = (scope_map t.scope h.0, frames_map fs h.1)
  phase_map (Failing k) h = tt
  phase_map (Ended o) h = outcome_map o h

-- an expression names what its scope names
module _ (P : List ℕ → Type 0) where
  pub scope_push : (vs : List Value') (v : Value') → OfScope P vs → OfValue P v → OfScope P (vs ++ v ∷ [])
  scope_push [] v a b = (b, tt)
  scope_push (w ∷ vs) v a b = (a.0, scope_push vs v a.1 b)

  get_names : (vs : List Value') (x : ℕ) → OfScope P vs → OfGiven P (gave (slice_get vs x))
  get_names [] x a = tt
  get_names (v ∷ vs) zero a = a.0
  get_names (v ∷ vs) (suc x) a = get_names vs x a.1

  one_names : (o : Option Outcome') (f : Value' → Option Outcome') → OfGiven P o → ((v : Value') → OfValue P v → OfGiven P (f v)) → OfGiven P (with_one o f)
  one_names None f a h = tt
  one_names (Some (faulted k)) f a h = tt
  one_names (Some (returned v)) f a h = h v a

  two_names : (o p : Option Outcome') (f : Value' → Value' → Option Outcome') → OfGiven P o → OfGiven P p → ((v w : Value') → OfValue P v → OfValue P w → OfGiven P (f v w)) → OfGiven P (with_two o p f)
  two_names None p f a b h = tt
  two_names (Some o) None f a b h = tt
  two_names (Some (faulted k)) (Some p) f a b h = tt
  two_names (Some (returned v)) (Some (faulted k)) f a b h = tt
  two_names (Some (returned v)) (Some (returned w)) f a b h = h v w a b

  int_names : (c : Bool) (z : ℤ) → OfOutcome P (if c then returned (int_value z) else faulted Overflow)
  int_names true z = tt
  int_names false z = tt

  divided_names : (a b : ℤ) → OfOutcome P (divided a b)
  divided_names a (pos zero) = tt
  divided_names a (pos (suc n)) = int_names (fits (int_div a (pos (suc n)))) (int_div a (pos (suc n)))
  divided_names a (negsuc n) = int_names (fits (int_div a (negsuc n))) (int_div a (negsuc n))

  remainder_names : (a b : ℤ) → OfOutcome P (remainder a b)
  remainder_names a (pos zero) = tt
  remainder_names a (pos (suc n)) = int_names (fits (int_div a (pos (suc n)))) (int_rem a (pos (suc n)))
  remainder_names a (negsuc n) = int_names (fits (int_div a (negsuc n))) (int_rem a (negsuc n))

  number_names : (op : Op) (a b : ℤ) → OfGiven P (number_op op a b)
  number_names Add a b = int_names (fits (a +ℤ b)) (a +ℤ b)
  number_names Sub a b = int_names (fits (a -ℤ b)) (a -ℤ b)
  number_names Mul a b = int_names (fits (a *ℤ b)) (a *ℤ b)
  number_names Div a b = divided_names a b
  number_names Rem a b = remainder_names a b
  number_names Less a b = tt
  number_names AtMost a b = tt
  number_names Equal a b = tt
  number_names And a b = tt
  number_names Or a b = tt

  bool_names : (op : Op) (a b : Bool) → OfGiven P (bool_op op a b)
  bool_names And a b = tt
  bool_names Or a b = tt
  bool_names op a b = tt

  op_names : (op : Op) (v w : Value') → OfGiven P (op_value op v w)
  op_names op (int_value a) (int_value b) = number_names op a b
  op_names op (bool_value a) (bool_value b) = bool_names op a b
  op_names op v w = tt

  first_names : (v : Value') → OfValue P v → OfGiven P (fst_value v)
  first_names (pair_value v w) h = h.0
  first_names v h = tt

  second_names : (v : Value') → OfValue P v → OfGiven P (snd_value v)
  second_names (pair_value v w) h = h.1
  second_names v h = tt

  not_names : (v : Value') → OfGiven P (not_value v)
  not_names (bool_value b) = tt
  not_names v = tt

  pub result_names : (vs : List Value') (e : Term) → OfScope P vs → OfGiven P (result_of vs e)
  result_names vs (var at x) s = get_names vs x s
  result_names vs (number at z) s = tt
  result_names vs (bool_term at b) s = tt
  result_names vs (unit_term at) s = tt
  result_names vs (pair_term at a b) s = two_names (result_of vs a) (result_of vs b) _ (result_names vs a s) (result_names vs b s) (λ v w h k. (h, k))
  result_names vs (first at a) s = one_names (result_of vs a) fst_value (result_names vs a s) first_names
  result_names vs (second at a) s = one_names (result_of vs a) snd_value (result_names vs a s) second_names
  result_names vs (left at t a) s = one_names (result_of vs a) _ (result_names vs a s) (λ v h. h)
  result_names vs (right at t a) s = one_names (result_of vs a) _ (result_names vs a s) (λ v h. h)
  result_names vs (binary at op a b) s = two_names (result_of vs a) (result_of vs b) (op_value op) (result_names vs a s) (result_names vs b s) (λ v w h k. op_names op v w)
  result_names vs (negated at a) s = one_names (result_of vs a) not_value (result_names vs a s) (λ v h. not_names v)

  more_names : (o : Option Outcome') (r : Option Results) → OfGiven P o → OfResults P r → OfResults P (one_more o r)
  more_names None r a b = tt
  more_names (Some (faulted k)) None a b = tt
  more_names (Some (returned v)) None a b = tt
  more_names (Some (faulted k)) (Some r) a b = tt
  more_names (Some (returned v)) (Some (OneFault k)) a b = tt
  more_names (Some (returned v)) (Some (AllGave vs)) a b = (a, b)

  pub results_names : (vs : List Value') (es : List Term) → OfScope P vs → OfResults P (results_of vs es)
  results_names vs [] s = tt
  results_names vs (e ∷ es) s = more_names (result_of vs e) (results_of vs es) (result_names vs e s) (results_names vs es s)

  -- a thread that a variable names
  pub variable_thread : (vs : List Value') (x : ℕ) (b : List ℕ) → OfScope P vs → thread_in (slice_get vs x) ≡ Some b → P b
  variable_thread vs x b a e = go (slice_get vs x) (get_names vs x a) e
    where
      go : (o : Option Value') → OfGiven P (gave o) → thread_in o ≡ Some b → P b
      go (Some (thread_value c q)) h e = subst P (same_Some c b e) h
      go o h e = absurd (none-some b e)
