-- What an expression gives in a scope.
use Rattle.std.specs.Prelude.{◌+◌, ◌-◌, ◌^◌, Bool, ◌&&◌, ◌||◌, not, if◌then◌else◌, ℤ, pos, negsuc, ◌+ℤ◌, ◌-ℤ◌, ◌*ℤ◌, int_div, int_rem, int_lt, int_le, List, [], ◌∷◌, Option, Some, None, slice_get}
use Rattle.priml_syntax.specs.Tree.{Term, var, number, bool_term, unit_term, pair_term, first, second, left, right, binary, negated}
use Rattle.priml_syntax.specs.Values.{Value', unit_value, bool_value, int_value, pair_value, left_value, right_value, Outcome', returned, faulted}
use Rattle.priml_syntax.specs.declared.value.FaultKind.{FaultKind}
use Rattle.priml_syntax.specs.declared.value.FaultKind.TheVariants.{Overflow, Zero}
use Rattle.priml_syntax.specs.declared.expr.Op.{Op}
use Rattle.priml_syntax.specs.declared.expr.Op.TheVariants.{Add, Sub, Mul, Div, Rem, Less, AtMost, Equal, And, Or}

-- within the 64-bit signed range
abbrev pub fits : ℤ → Bool
fits z = int_le (negsuc (2 ^ 63 - 1)) z && int_le z (pos (2 ^ 63 - 1))

-- the number z, or Overflow where q is not within that range
abbrev pub checked_by : ℤ → ℤ → Outcome'
checked_by q z = if fits q then returned (int_value z) else faulted Overflow

abbrev pub checked : ℤ → Outcome'
checked z = checked_by z z

abbrev pub divided : ℤ → ℤ → Outcome'
divided z (pos Rattle.std.specs.Prelude.zero) = faulted Zero
divided z d = checked (int_div z d)

-- a remainder overflows where the quotient does
abbrev pub remainder : ℤ → ℤ → Outcome'
remainder z (pos Rattle.std.specs.Prelude.zero) = faulted Zero
remainder z d = checked_by (int_div z d) (int_rem z d)

abbrev pub same_int : ℤ → ℤ → Bool
same_int a b = int_le a b && int_le b a

-- an operator on two numbers; none where it wants truth values
abbrev pub number_op : Op → ℤ → ℤ → Option Outcome'
number_op Add a b = Some (checked (a +ℤ b))
number_op Sub a b = Some (checked (a -ℤ b))
number_op Mul a b = Some (checked (a *ℤ b))
number_op Div a b = Some (divided a b)
number_op Rem a b = Some (remainder a b)
number_op Less a b = Some (returned (bool_value (int_lt a b)))
number_op AtMost a b = Some (returned (bool_value (int_le a b)))
number_op Equal a b = Some (returned (bool_value (same_int a b)))
number_op And a b = None
number_op Or a b = None

-- an operator on two truth values; none where it wants numbers
abbrev pub bool_op : Op → Bool → Bool → Option Outcome'
bool_op And a b = Some (returned (bool_value (a && b)))
bool_op Or a b = Some (returned (bool_value (a || b)))
bool_op op a b = None

-- an operator on two values; none at values of a wrong kind
abbrev pub op_value : Op → Value' → Value' → Option Outcome'
op_value op (int_value a) (int_value b) = number_op op a b
op_value op (bool_value a) (bool_value b) = bool_op op a b
op_value op v w = None

abbrev pub fst_value : Value' → Option Outcome'
fst_value (pair_value a b) = Some (returned a)
fst_value v = None

abbrev pub snd_value : Value' → Option Outcome'
snd_value (pair_value a b) = Some (returned b)
snd_value v = None

abbrev pub not_value : Value' → Option Outcome'
not_value (bool_value b) = Some (returned (bool_value (not b)))
not_value v = None

-- with the value, unless a fault came
abbrev pub with_one : Option Outcome' → (Value' → Option Outcome') → Option Outcome'
with_one None f = None
with_one (Some (faulted k)) f = Some (faulted k)
with_one (Some (returned v)) f = f v

-- both sides always, and the first fault decides
abbrev pub with_two : Option Outcome' → Option Outcome' → (Value' → Value' → Option Outcome') → Option Outcome'
with_two None b f = None
with_two (Some a) None f = None
with_two (Some (faulted k)) (Some b) f = Some (faulted k)
with_two (Some (returned v)) (Some (faulted k)) f = Some (faulted k)
with_two (Some (returned v)) (Some (returned w)) f = f v w

abbrev pub gave : Option Value' → Option Outcome'
gave None = None
gave (Some v) = Some (returned v)

-- what an expression gives in a scope: a value or a fault; none where a value of a wrong kind is met
abbrev pub result_of : List Value' → Term → Option Outcome'
result_of s (var at x) = gave (slice_get s x)
result_of s (number at z) = Some (returned (int_value z))
result_of s (bool_term at b) = Some (returned (bool_value b))
result_of s (unit_term at) = Some (returned unit_value)
result_of s (pair_term at a b) = with_two (result_of s a) (result_of s b) (λ v w. Some (returned (pair_value v w)))
result_of s (first at a) = with_one (result_of s a) fst_value
result_of s (second at a) = with_one (result_of s a) snd_value
result_of s (left at t a) = with_one (result_of s a) (λ v. Some (returned (left_value v)))
result_of s (right at t a) = with_one (result_of s a) (λ v. Some (returned (right_value v)))
result_of s (binary at op a b) = with_two (result_of s a) (result_of s b) (op_value op)
result_of s (negated at a) = with_one (result_of s a) not_value

-- several expressions, from left to right
pub data Results : Type 0 where
  AllGave : (vs : List Value') → Results
  OneFault : (f : FaultKind) → Results

abbrev pub one_more : Option Outcome' → Option Results → Option Results
one_more None r = None
one_more (Some o) None = None
one_more (Some (faulted f)) (Some r) = Some (OneFault f)
one_more (Some (returned v)) (Some (OneFault f)) = Some (OneFault f)
one_more (Some (returned v)) (Some (AllGave vs)) = Some (AllGave (v ∷ vs))

abbrev pub results_of : List Value' → List Term → Option Results
results_of s [] = Some (AllGave [])
results_of s (e ∷ es) = one_more (result_of s e) (results_of s es)
