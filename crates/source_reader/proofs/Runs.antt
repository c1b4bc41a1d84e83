-- The faults of a run of tokens: they stand in it, in order.
use Rattle.std.proofs.Common.{◌≡◌, ℕ, ◌+◌, ◌≤◌, ◌<◌, Bool, true, false, not, is_some, nat_lt, length, List, [], ◌∷◌, ◌++◌, arith, refl, inr}
use Rattle.source_tokens.specs.declared.token.Token.{Token}
use Rattle.source_tokens.specs.declared.token.Stop.TheVariants as stop
use Rattle.source_tokens.specs.Laws.{AreInOrder}
use Rattle.source_grammar.specs.declared.raw.Name.{Name}
use Rattle.source_reader.specs.declared.faults.Fault.{Fault}
use Rattle.source_reader.specs.declared.faults.Fault.TheVariants.{UnknownName, TwiceNamed, TooMany}
use Rattle.source_reader.specs.declared.faults.What.{What}
use Rattle.source_reader.specs.Names.{is_among, Env, prio_in}
use Rattle.source_reader.specs.Faults.{unless, prio_faults, room_faults, again_faults}
use Rattle.source_reader.specs.Order.{place, kind, Within}
use Rattle.source_reader.proofs.Ordered.{widen, behind}

-- the places of the tokens ascend from an offset on
pub record Rises (total from : ℕ) (ts : List Token) : Type 0 where
  pub order : AreInOrder from total ts stop.Done

-- faults of the tokens between an offset and these that are left
pub record Runs (total from : ℕ) (rest : List Token) (fs : List Fault) : Type 0 where
  pub mid : ℕ
  pub later : from ≤ mid
  pub rises : Rises total mid rest
  pub within : Within from mid fs

wider : {b c : ℕ} {fs : List Fault} (a d : ℕ) → a ≤ b → c ≤ d → Within b c fs → Within a d fs
wider {b} {c} {fs} a d p q h = record { between = widen a b c d fs p q h.between; ascends = h.ascends }

-- behind the first token
pub tail : {total from : ℕ} {t : Token} {ts : List Token} → Rises total from (t ∷ ts) → Rises total (t.at + 1) ts
tail o = record { order = o.order.2 }

-- no faults
pub none_here : {total from : ℕ} {ts : List Token} → Rises total from ts → Runs total from ts []
none_here {total} {from} o = record { mid = from; later = omega arith; rises = o; within = record { between = tt; ascends = tt } }

-- faults at the first token
pub here : {total from : ℕ} {t : Token} {ts : List Token} {fs : List Fault} → Rises total from (t ∷ ts) → Within t.at (t.at + 1) fs → Runs total from ts fs
here {total} {from} {t} o w =
    let l : from ≤ t.at = o.order.0 in
    record { mid = t.at + 1; later = omega (arith, l); rises = tail o; within = wider from (t.at + 1) l (omega arith) w }

-- faults from an earlier offset on
pub sooner : {total from low : ℕ} {rest : List Token} {fs : List Fault} → from ≤ low → Runs total low rest fs → Runs total from rest fs
sooner {from = from} l r = record { mid = r.mid; later = omega (arith, l, r.later); rises = r.rises; within = wider from r.mid l (omega arith) r.within }

-- faults behind a token
pub after : {total from : ℕ} {t : Token} {ts rest : List Token} {fs : List Fault} → Rises total from (t ∷ ts) → (Rises total (t.at + 1) ts → Runs total (t.at + 1) rest fs) → Runs total from rest fs
after {total} {from} {t} o k = let l : from ≤ t.at = o.order.0 in sooner {low = t.at + 1} (omega (arith, l)) (k (tail o))

-- faults before a token
pub ending : {total from : ℕ} {t : Token} {rest : List Token} {fs : List Fault} → Runs total from (t ∷ rest) fs → Runs total from rest fs
ending {total} {from} {t} r =
    let l : r.mid ≤ t.at = r.rises.order.0 in
    record { mid = t.at + 1; later = omega (arith, l, r.later); rises = tail r.rises; within = wider from (t.at + 1) (omega arith) (omega (arith, l)) r.within }

-- faults of one part, and those of the part behind it
pub then_runs : {total from : ℕ} {us rest : List Token} {fs gs : List Fault} → Runs total from us fs → ((mid : ℕ) → Rises total mid us → Runs total mid rest gs) → Runs total from rest (fs ++ gs)
then_runs {total} {from} {us} {rest} {fs} {gs} r k =
    let s = k r.mid r.rises in
    record { mid = s.mid; later = omega (arith, r.later, s.later); rises = s.rises; within = behind from r.mid s.mid fs gs r.later s.later r.within s.within }

-- a test at a place
pub one_at : (b : Bool) (f : Fault) → Within (place f) (place f + 1) (unless b f)
one_at true f = record { between = tt; ascends = tt }
one_at false f = record { between = (omega arith, omega arith, tt); ascends = (tt, tt) }

-- two tests at one place
pub two_at : (b d : Bool) (f g : Fault) (at : ℕ) → place f ≡ at → place g ≡ at → kind f < kind g → Within at (at + 1) (unless b f ++ unless d g)
two_at true true f g at p q l = record { between = tt; ascends = tt }
two_at true false f g at p q l = record { between = (omega (arith, q), omega (arith, q), tt); ascends = (tt, tt) }
two_at false true f g at p q l = record { between = (omega (arith, p), omega (arith, p), tt); ascends = (tt, tt) }
two_at false false f g at p q l =
    let same : place f ≡ place g = omega (arith, p, q) in
    record { between = (omega (arith, p), omega (arith, p), (omega (arith, q), omega (arith, q), tt)); ascends = ((inr (same, l), tt), (tt, tt)) }

pub prio_at : (env : Env) (n : Name) → Within n.at (n.at + 1) (prio_faults env n)
prio_at env n = one_at (is_some (prio_in env n.id)) (UnknownName n.at)

pub room_at : (at have most : ℕ) (what : What) → Within at (at + 1) (room_faults at have most what)
room_at at have most what = one_at (nat_lt have most) (TooMany at what)

pub again_at : (n : Name) (before : List ℕ) (most : ℕ) (what : What) → Within n.at (n.at + 1) (again_faults n before most what)
again_at n before most what = two_at (not (is_among n.id before)) (nat_lt (length before) most) (TwiceNamed n.at) (TooMany n.at what) n.at refl refl (omega arith)

-- a name that is no priority, where one more of a kind stands
pub prio_room_at : (env : Env) (n : Name) (have most : ℕ) (what : What) → Within n.at (n.at + 1) (prio_faults env n ++ room_faults n.at have most what)
prio_room_at env n have most what = two_at (is_some (prio_in env n.id)) (nat_lt have most) (UnknownName n.at) (TooMany n.at what) n.at refl refl (omega arith)
