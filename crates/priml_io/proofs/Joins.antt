-- What two steps in a row do.
use Rattle.std.proofs.Common.{ℕ, List, [], ◌++◌, Some, None, sym, refl, append_assoc, append-nil}
use Rattle.std.specs.declared.option.Option.{Option}
use Rattle.std.specs.Io.KnownBytes.{Consumes}
use Rattle.priml_io.specs.Ends.{Grows}

pub consumes_joined : (a b c : Option (List ℕ)) (xs ys : List ℕ) → Consumes a b xs → Consumes b c ys → Consumes a c (xs ++ ys)
consumes_joined None b c xs ys p q = tt
consumes_joined (Some as') None c xs ys p q = absurd p
consumes_joined (Some as') (Some bs) None xs ys p q = absurd q
consumes_joined (Some as') (Some bs) (Some cs) xs ys p q = rw (p, q) (sym (append_assoc xs ys cs))

pub consumes_none : (a : Option (List ℕ)) → Consumes a a []
consumes_none None = tt
consumes_none (Some xs) = refl

pub grows_joined : (a b c : Option (List ℕ)) (xs ys : List ℕ) → Grows a b xs → Grows b c ys → Grows a c (xs ++ ys)
grows_joined a b None xs ys p q = tt
grows_joined a None (Some cs) xs ys p q = absurd q
grows_joined None (Some bs) (Some cs) xs ys p q = absurd p
grows_joined (Some as') (Some bs) (Some cs) xs ys p q = rw (q, p) (append_assoc as' xs ys)

pub grows_none : (a : Option (List ℕ)) → Grows a a []
grows_none None = tt
grows_none (Some xs) = sym (append-nil xs)

pub ruleset joins = (consumes_joined, consumes_none, grows_joined, grows_none)
