-- What small numbers give.
use Rattle.std.proofs.Common.{◌≡◌, ℕ, suc, ◌/◌, ◌%◌, ◌^◌, ◌<◌, true, false, refl, arith, pos}
use Rattle.std.specs.Prelude.{◌-ℤ◌, int_lt}
use Rattle.std.proofs.lemmas.Int.{ints}
use Rattle.core_steps.specs.Expressions.{fits, checked, remainder}
use Rattle.priml_syntax.specs.Values.{int_value, returned}

pub fits_small : (m : ℕ) → m < 2 ^ 63 → fits (pos m) ≡ true
fits_small m l = grind (arith, ints)

pub checked_small : (m : ℕ) → m < 2 ^ 63 → checked (pos m) ≡ returned (int_value (pos m))
checked_small m l = rw (fits_small m l) refl

-- what is left of a number by sevens
pub by_sevens : (m : ℕ) → m < 2 ^ 63 → remainder (pos m) (pos 7) ≡ returned (int_value (pos (m % 7)))
by_sevens m l = rw (fits_small (m / 7) (omega arith)) refl

pub one_less : (m : ℕ) → pos (suc m) -ℤ pos 1 ≡ pos m
one_less m = omega (arith, ints)

pub none_left : int_lt (pos 0) (pos 1) ≡ true
none_left = refl

pub some_left : (m : ℕ) → int_lt (pos (suc m)) (pos 1) ≡ false
some_left m = grind (arith, ints)
