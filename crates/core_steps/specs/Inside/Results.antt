-- What becomes of evaluations, one after the other.
use Rattle.std.specs.Prelude.{◌≡◌, ℤ, List, [], ◌∷◌, ◌++◌, map, Option, Some, None, Result, Ok, Err}
use Rattle.std.specs.declared.vec.Vec.{Vec}
use Rattle.std.specs.declared.alloc.Global.{Global}
use Rattle.priml_syntax.specs.declared.value.FaultKind.{FaultKind}
use Rattle.priml_syntax.specs.declared.value.Value.{Value}
use Rattle.priml_syntax.specs.declared.value.Outcome.{Outcome}
use Rattle.priml_syntax.specs.Tree.{Term}
use Rattle.priml_syntax.specs.Values.{Value', Outcome', returned, faulted, int_value}
use Rattle.priml_syntax.specs.Read.{read_value}
use Rattle.core_steps.specs.Expressions.{Results, AllGave, OneFault, result_of}
use Rattle.core_steps.specs.Results.{read_result}

-- two expressions that give these numbers
abbrev pub GiveNumbers : List Value' → Term → Term → ℤ → ℤ → Type 0
GiveNumbers s a b m n = (result_of s a ≡ Some (returned (int_value m))) × (result_of s b ≡ Some (returned (int_value n)))

-- what comes of a value, or what came in its place
abbrev pub one_with : (Value' → Option Outcome') → Result Value (Option Outcome) → Option Outcome'
one_with f (Ok v) = f (read_value v)
one_with f (Err r) = read_result r

-- what comes of two values, or what came in their place
abbrev pub two_with : (Value' → Value' → Option Outcome') → Result (Value × Value) (Option Outcome) → Option Outcome'
two_with f (Ok p) = f (read_value p.0) (read_value p.1)
two_with f (Err r) = read_result r

-- the values of several expressions, or the first fault
abbrev pub read_results : Option (Result (Vec Value Global) FaultKind) → Option Results
read_results None = None
read_results (Some (Ok vs)) = Some (AllGave (map read_value vs.items))
read_results (Some (Err k)) = Some (OneFault k)

-- the first fault so far, else the values so far
abbrev pub collected : Option FaultKind → List Value' → Results
collected None vs = AllGave vs
collected (Some k) vs = OneFault k

-- with what one more expression gave
abbrev pub with_last : Results → Outcome' → Results
with_last (OneFault k) o = OneFault k
with_last (AllGave vs) (faulted k) = OneFault k
with_last (AllGave vs) (returned v) = AllGave (vs ++ v ∷ [])
