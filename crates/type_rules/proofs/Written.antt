-- Written types under priorities.
use Rattle.std.proofs.Common.{◌≡◌, ◌+◌, List, [], refl, ap, ap₂}
use Rattle.priml_syntax.specs.declared.prio.Prio.{Prio}
use Rattle.priml_syntax.specs.declared.prio.Prio.TheVariants.{Const, Var}
use Rattle.priml_syntax.specs.Tree.{Type', unit, bool, int, pair, sum, thread}
use Rattle.priml_syntax.specs.Size.{type_nodes}
use Rattle.type_rules.specs.Typing.{subst_prio, subst_type}

prio_at-none : (p : Prio) → subst_prio [] p ≡ p
prio_at-none (Const a) = refl
prio_at-none (Var v) = refl

-- with no priorities a type stays as it is written
pub type_at-none : (T : Type') → subst_type [] T ≡ T
type_at-none unit = refl
type_at-none bool = refl
type_at-none int = refl
type_at-none (pair a b) = ap₂ pair (type_at-none a) (type_at-none b)
type_at-none (sum a b) = ap₂ sum (type_at-none a) (type_at-none b)
type_at-none (thread q a) = ap₂ thread (prio_at-none q) (type_at-none a)

-- priorities change no number of nodes
pub nodes-at : (ps : List Prio) (T : Type') → type_nodes (subst_type ps T) ≡ type_nodes T
nodes-at ps unit = refl
nodes-at ps bool = refl
nodes-at ps int = refl
nodes-at ps (pair a b) = ap₂ (λ m n. m + n + 1) (nodes-at ps a) (nodes-at ps b)
nodes-at ps (sum a b) = ap₂ (λ m n. m + n + 1) (nodes-at ps a) (nodes-at ps b)
nodes-at ps (thread q a) = ap (λ n. n + 1) (nodes-at ps a)
