-- Laws of lists of faults.
use Rattle.std.proofs.Common.{◌≡◌, ℕ, ◌<◌, ◌≤◌, ◌-◌, ◌^◌, Bool, true, false, nat_lt, nat_le, min, not, is_some, Option, Some, None, unwrap_or, List, [], ◌∷◌, ◌++◌, Ok, Err, Result, arith, sym, refl, ap, subst}
use Rattle.std.proofs.lemmas.Bool.Decides.{nat_tests}
use Rattle.std.proofs.lemmas.Grind.{common_steps}
use Rattle.std.specs.Result.{IsErrAnd}
use Rattle.source_reader.specs.declared.faults.Fault.{Fault}
use Rattle.source_reader.specs.declared.faults.Fault.TheVariants.{TooMany}
use Rattle.source_reader.specs.declared.faults.What.{What}
use Rattle.source_reader.specs.declared.faults.ResolveStop.{ResolveStop}
use Rattle.source_reader.specs.declared.faults.ResolveStop.TheVariants as stop
use Rattle.source_reader.specs.Faults.{room_faults, unless}
use Rattle.source_reader.specs.Inside.Gives.{First, IsMade, Finds}

-- the first fault of a part is the first of the whole, where none stands before it
pub gives_first : (fs gs hs : List Fault) (e : ResolveStop) → fs ≡ gs ++ hs → First gs e → First fs e
gives_first fs gs hs (stop.Fault f) p g = (g.0 ++ hs, rw (p, g.1) refl)
gives_first fs gs hs stop.OutOfMemory p g = tt

-- so is that of a second part, where the first has none
pub gives_second : (fs es gs hs : List Fault) (e : ResolveStop) → fs ≡ es ++ (gs ++ hs) → es ≡ [] → First gs e → First fs e
gives_second fs es gs hs e p none g = gives_first fs gs hs e (rw (p, none) refl) g

-- the error that a `?` hands on
pub handed_on : {A B : Type 0} (fs : List Fault) (made : B) (read : A → B) (e : ResolveStop) (result : Result A ResolveStop) → IsErrAnd result (λ y. y ≡ e) → First fs e → IsMade fs made read result
handed_on fs made read e (Ok x) is h = absurd is
handed_on fs made read e (Err y) is h = subst (First fs) (sym is) h

-- the error of the first part, where more come behind it
pub handed_left : {A B : Type 0} (gs hs : List Fault) (made : B) (read : A → B) (e : ResolveStop) (result : Result A ResolveStop) → IsErrAnd result (λ y. y ≡ e) → First gs e → IsMade (gs ++ hs) made read result
handed_left gs hs made read e result is h = handed_on (gs ++ hs) made read e result is (gives_first (gs ++ hs) gs hs e refl h)

-- the same, where the first part was walked as that of an equal thing
pub handed_first : {A B X : Type 0} {x y : X} → x ≡ y → (fs : List Fault) (part : X → List Fault) (hs : List Fault) (made : B) (read : A → B) (e : ResolveStop) (result : Result A ResolveStop)
    → fs ≡ part y ++ hs → IsErrAnd result (λ z. z ≡ e) → First (part x) e → IsMade fs made read result
handed_first {y = y} same fs part hs made read e result whole is h = handed_on fs made read e result is (gives_first fs (part y) hs e whole (subst (λ z. First (part z) e) same h))

-- and for a second part, where the first has none
pub handed_second : {A B X : Type 0} {x y : X} → x ≡ y → (fs es : List Fault) (part : X → List Fault) (hs : List Fault) (made : B) (read : A → B) (e : ResolveStop) (result : Result A ResolveStop)
    → fs ≡ es ++ (part y ++ hs) → es ≡ [] → IsErrAnd result (λ z. z ≡ e) → First (part x) e → IsMade fs made read result
handed_second {y = y} same fs es part hs made read e result whole none is h = handed_on fs made read e result is (gives_second fs es (part y) hs e whole none (subst (λ z. First (part z) e) same h))

pub found_first : {A : Type 0} (fs : List Fault) (e : ResolveStop) (result : Result A ResolveStop) → IsErrAnd result (λ y. y ≡ e) → First fs e → Finds fs result
found_first fs e (Ok x) is h = absurd is
found_first fs e (Err y) is h = subst (First fs) (sym is) h

-- no faults in all are none in front and none behind
pub no_faults : (fs gs : List Fault) → fs ++ gs ≡ [] → (fs ≡ []) × (gs ≡ [])
no_faults [] gs e = (refl, e)
no_faults (f ∷ fs) gs e = absurd (cc)

-- a test that is no fault holds
pub holds : (b : Bool) (f : Fault) → unless b f ≡ [] → b ≡ true
holds true f e = refl
holds false f e = absurd (cc)

-- where there is no room the first fault is that
pub full : (at have most : ℕ) (what : What) (more : List Fault) → most ≤ have → First (room_faults at have most what ++ more) (stop.Fault (TooMany at what))
full at have most what more h = let t : nat_lt have most ≡ false = grind (arith, nat_tests) in (more, ap (λ b. unless b (TooMany at what) ++ more) t)

pub room : (at have most : ℕ) (what : What) → have < most → room_faults at have most what ≡ []
room at have most what h = let t : nat_lt have most ≡ true = grind (arith, nat_tests) in ap (λ b. unless b (TooMany at what)) t

pub has_room : (at have most : ℕ) (what : What) → room_faults at have most what ≡ [] → have < most
has_room at have most what e = let t : nat_lt have most ≡ true = holds (nat_lt have most) (TooMany at what) e in grind (arith, nat_tests)

-- a type of more than 16 nodes is the first fault
pub crowded : (at n k : ℕ) (what : What) (more : List Fault) → k ≡ min n (2 ^ 64 - 1) → 16 < k → First (unless (nat_le n 16) (TooMany at what) ++ more) (stop.Fault (TooMany at what))
crowded at n k what more e h =
    let l : 16 < n = grind (arith, common_steps) in
    let t : nat_le n 16 ≡ false = grind (arith, nat_tests) in
    (more, ap (λ b. unless b (TooMany at what) ++ more) t)

-- a name that is known already is the first fault
pub twice : (b : Bool) (f : Fault) (more : List Fault) → b ≡ true → First (unless (not b) f ++ more) (stop.Fault f)
twice b f more e = (more, ap (λ x. unless (not x) f ++ more) e)

pub within : (o : Option ℕ) (l : ℕ) (f : Fault) → ((k : ℕ) → o ≡ Some k → k < l) → unless (is_some o) f ≡ [] → unwrap_or o 0 < l
within None l f h e = absurd (cc)
within (Some k) l f h e = h k refl
