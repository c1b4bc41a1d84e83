-- Tests that fail, and errors that are handed on.
use Rattle.std.proofs.Common.{◌≡◌, Bool, false, IsTrue, sym, subst}
use Rattle.std.specs.Prelude.{Result, MatchResult, Ok, Err}
use Rattle.std.specs.Result.{IsErrAnd}
use Rattle.type_rules.specs.declared.TypeStop.{TypeStop}

-- what a test that answered false decides does not hold
pub failed : {P : Type 0} (b : Bool) → b ≡ false → (P → IsTrue b) → P → ⊥
failed b e f p = let z = f p in cc

-- the error that a `?` hands on
pub handed : {X : Type 0} (P : X → Type 0) (Q : TypeStop → Type 0) (e : TypeStop) (result : Result X TypeStop) → IsErrAnd result (λ y. y ≡ e) → Q e → MatchResult result P Q
handed P Q e (Ok x) is h = absurd is
handed P Q e (Err y) is h = subst Q (sym is) h
