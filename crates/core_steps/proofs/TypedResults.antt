-- An expression of a type gives a value of that type, or a fault; so do several.
use Rattle.std.proofs.Common.{◌≡◌, ℕ, zero, suc, List, [], ◌∷◌, Option, Some, None, map, sym, ap, ◌∙◌, subst, Bool, true, false, if◌then◌else◌}
use Rattle.std.specs.Prelude.{ℤ, pos, negsuc, ◌+ℤ◌, ◌-ℤ◌, ◌*ℤ◌, slice_get, int_div, int_rem}
use Rattle.std.specs.Option.{option_map}
use Rattle.std.proofs.lemmas.Option.{same_Some, slice_get-map}
use Rattle.priml_syntax.specs.declared.expr.Op.{Op}
use Rattle.priml_syntax.specs.declared.expr.Op.TheVariants.{Add, Sub, Mul, Div, Rem, Less, AtMost, Equal, And, Or}
use Rattle.priml_syntax.specs.declared.value.FaultKind.TheVariants.{Overflow}
use Rattle.priml_syntax.specs.Tree.{Type', bool, int, pair, sum, Term, var, number, bool_term, unit_term, pair_term, first, second, left, right, binary, negated}
use Rattle.priml_syntax.specs.Values.{Value', unit_value, bool_value, int_value, Outcome', returned, faulted}
use Rattle.type_rules.specs.Typing.{VarTypes, HasType, HaveTypes, operand, gives}
use Rattle.core_steps.specs.Expressions.{fits, divided, remainder, op_value, fst_value, snd_value, not_value, with_one, with_two, gave, result_of, Results, AllGave, OneFault, one_more, results_of}
use Rattle.core_steps.specs.Steps.{Job}
use Rattle.core_steps.proofs.Typed.{Has, has_unit, has_bool, has_int, has_pair, has_left, has_right, AllHave, none, more, OutcomeHas, settled}

-- something came, and it has the type
abbrev pub Gives : Job → Type' → Option Outcome' → Type 0
Gives job T None = ⊥
Gives job T (Some o) = OutcomeHas job o T

-- values came, and they have the types; or a fault came
abbrev pub GivesAll : Job → List Type' → Option Results → Type 0
GivesAll job Ts None = ⊥
GivesAll job Ts (Some (OneFault k)) = Unit {0}
GivesAll job Ts (Some (AllGave vs)) = AllHave job vs Ts

module _ (job : Job) where
  one_has : (A T : Type') (a : Option Outcome') (f : Value' → Option Outcome') → Gives job A a → ((v : Value') → Has job v A → Gives job T (f v)) → Gives job T (with_one a f)
  one_has A T None f h k = h
  one_has A T (Some (returned v)) f h k = k v h
  one_has A T (Some (faulted x)) f h k = tt

  two_have : (A B T : Type') (a b : Option Outcome') (f : Value' → Value' → Option Outcome') → Gives job A a → Gives job B b → ((v w : Value') → Has job v A → Has job w B → Gives job T (f v w)) → Gives job T (with_two a b f)
  two_have A B T None b f h i k = h
  two_have A B T (Some (returned v)) None f h i k = i
  two_have A B T (Some (faulted x)) None f h i k = i
  two_have A B T (Some (faulted x)) (Some o) f h i k = tt
  two_have A B T (Some (returned v)) (Some (faulted x)) f h i k = tt
  two_have A B T (Some (returned v)) (Some (returned w)) f h i k = k v w h i

  pub variable_has : {scope : List Value'} {Ts : List Type'} (x : ℕ) (T : Type') → AllHave job scope Ts → slice_get Ts x ≡ Some T → Gives job T (gave (slice_get scope x))
  variable_has x T none e = cc
  variable_has zero T (more {v = v} {t = A} h hs) e = subst (Has job v) (same_Some A T e) h
  variable_has (suc x) T (more h hs) e = variable_has x T hs e

  first_has : {v : Value'} {A B : Type'} → Has job v (pair A B) → Gives job A (fst_value v)
  first_has (has_pair h i) = h

  second_has : {v : Value'} {A B : Type'} → Has job v (pair A B) → Gives job B (snd_value v)
  second_has (has_pair h i) = i

  not_has : {v : Value'} → Has job v bool → Gives job bool (not_value v)
  not_has has_bool = has_bool

  int_has : (b : Bool) (z : ℤ) → OutcomeHas job (if b then returned (int_value z) else faulted Overflow) int
  int_has true z = has_int
  int_has false z = tt

  divided_has : (a b : ℤ) → OutcomeHas job (divided a b) int
  divided_has a (pos zero) = tt
  divided_has a (pos (suc n)) = int_has (fits (int_div a (pos (suc n)))) (int_div a (pos (suc n)))
  divided_has a (negsuc n) = int_has (fits (int_div a (negsuc n))) (int_div a (negsuc n))

  remainder_has : (a b : ℤ) → OutcomeHas job (remainder a b) int
  remainder_has a (pos zero) = tt
  remainder_has a (pos (suc n)) = int_has (fits (int_div a (pos (suc n)))) (int_rem a (pos (suc n)))
  remainder_has a (negsuc n) = int_has (fits (int_div a (negsuc n))) (int_rem a (negsuc n))

  op_has : (ps : List ℕ) (op : Op) {v w : Value'} → Has job v (settled ps (operand op)) → Has job w (settled ps (operand op)) → Gives job (settled ps (gives op)) (op_value op v w)
  op_has ps Add (has_int {z = a}) (has_int {z = b}) = int_has (fits (a +ℤ b)) (a +ℤ b)
  op_has ps Sub (has_int {z = a}) (has_int {z = b}) = int_has (fits (a -ℤ b)) (a -ℤ b)
  op_has ps Mul (has_int {z = a}) (has_int {z = b}) = int_has (fits (a *ℤ b)) (a *ℤ b)
  op_has ps Div (has_int {z = a}) (has_int {z = b}) = divided_has a b
  op_has ps Rem (has_int {z = a}) (has_int {z = b}) = remainder_has a b
  op_has ps Less has_int has_int = has_bool
  op_has ps AtMost has_int has_int = has_bool
  op_has ps Equal has_int has_int = has_bool
  op_has ps And has_bool has_bool = has_bool
  op_has ps Or has_bool has_bool = has_bool

  pub settled_get : (ps : List ℕ) (G : VarTypes) (x : ℕ) (T : Type') → slice_get G x ≡ Some T → slice_get (map (settled ps) G) x ≡ Some (settled ps T)
  settled_get ps G x T e = slice_get-map (settled ps) G x ∙ ap (option_map (settled ps)) e

  -- no expression of a type meets a value of a wrong kind
  pub result_has : (ps : List ℕ) (G : VarTypes) (scope : List Value') → AllHave job scope (map (settled ps) G) → (e : Term) (T : Type') → HasType G e T → Gives job (settled ps T) (result_of scope e)
  result_has ps G scope s (var at x) T h = variable_has x (settled ps T) s (settled_get ps G x T h)
  result_has ps G scope s (number at n) T h = subst (λ Z. Gives job (settled ps Z) (Some (returned (int_value n)))) (sym h) has_int
  result_has ps G scope s (bool_term at b) T h = subst (λ Z. Gives job (settled ps Z) (Some (returned (bool_value b)))) (sym h) has_bool
  result_has ps G scope s (unit_term at) T h = subst (λ Z. Gives job (settled ps Z) (Some (returned unit_value))) (sym h) has_unit
  result_has ps G scope s (pair_term at a b) T (A, B, x, y, e, w) =
      subst (λ Z. Gives job (settled ps Z) (result_of scope (pair_term at a b))) (sym e)
      (two_have (settled ps A) (settled ps B) (settled ps (pair A B)) (result_of scope a) (result_of scope b) _ (result_has ps G scope s a A x) (result_has ps G scope s b B y) (λ v w p q. has_pair p q))
  result_has ps G scope s (first at a) T (B, x) = one_has (settled ps (pair T B)) (settled ps T) (result_of scope a) fst_value (result_has ps G scope s a (pair T B) x) (λ v p. first_has p)
  result_has ps G scope s (second at a) T (A, x) = one_has (settled ps (pair A T)) (settled ps T) (result_of scope a) snd_value (result_has ps G scope s a (pair A T) x) (λ v p. second_has p)
  result_has ps G scope s (left at S a) T (A, B, d, x, e) =
      subst (λ Z. Gives job (settled ps Z) (result_of scope (left at S a))) (sym (e ∙ d))
      (one_has (settled ps A) (settled ps (sum A B)) (result_of scope a) _ (result_has ps G scope s a A x) (λ v p. has_left p))
  result_has ps G scope s (right at S a) T (A, B, d, x, e) =
      subst (λ Z. Gives job (settled ps Z) (result_of scope (right at S a))) (sym (e ∙ d))
      (one_has (settled ps B) (settled ps (sum A B)) (result_of scope a) _ (result_has ps G scope s a B x) (λ v p. has_right p))
  result_has ps G scope s (binary at op a b) T (x, y, e) =
      subst (λ Z. Gives job (settled ps Z) (result_of scope (binary at op a b))) (sym e)
      (two_have (settled ps (operand op)) (settled ps (operand op)) (settled ps (gives op)) (result_of scope a) (result_of scope b) (op_value op) (result_has ps G scope s a (operand op) x) (result_has ps G scope s b (operand op) y) (λ v w p q. op_has ps op p q))
  result_has ps G scope s (negated at a) T (x, e) =
      subst (λ Z. Gives job (settled ps Z) (result_of scope (negated at a))) (sym e)
      (one_has bool bool (result_of scope a) not_value (result_has ps G scope s a bool x) (λ v p. not_has p))

  one_more_has : (T : Type') (Ts : List Type') (o : Option Outcome') (r : Option Results) → Gives job T o → GivesAll job Ts r → GivesAll job (T ∷ Ts) (one_more o r)
  one_more_has T Ts None r h k = h
  one_more_has T Ts (Some (faulted f)) None h k = k
  one_more_has T Ts (Some (returned v)) None h k = k
  one_more_has T Ts (Some (faulted f)) (Some r) h k = tt
  one_more_has T Ts (Some (returned v)) (Some (OneFault f)) h k = tt
  one_more_has T Ts (Some (returned v)) (Some (AllGave vs)) h k = more h k

  -- the same of several expressions
  pub results_have : (ps : List ℕ) (G : VarTypes) (scope : List Value') → AllHave job scope (map (settled ps) G) → (es : List Term) (Ts : List Type') → HaveTypes G es Ts → GivesAll job (map (settled ps) Ts) (results_of scope es)
  results_have ps G scope s [] Ts h = subst (λ Z. GivesAll job (map (settled ps) Z) (Some (AllGave []))) (sym h) none
  results_have ps G scope s (e ∷ es) Ts (T, rest, x, y, eq) =
      subst (λ Z. GivesAll job (map (settled ps) Z) (results_of scope (e ∷ es))) (sym eq)
      (one_more_has (settled ps T) (map (settled ps) rest) (result_of scope e) (results_of scope es) (result_has ps G scope s e T x) (results_have ps G scope s es rest y))
