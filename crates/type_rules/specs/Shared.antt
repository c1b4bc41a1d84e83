-- The plain type of a type in the checker.
use Rattle.priml_syntax.specs.Tree.{Type', unit, bool, int, pair, sum, thread}
use Rattle.priml_syntax.specs.Read.{read_type}
use Rattle.type_rules.specs.declared.shared.Shared.{Shared}
use Rattle.type_rules.specs.declared.shared.Shared.TheVariants as shared
use Rattle.type_rules.specs.declared.shared.Shape.{Shape}
use Rattle.type_rules.specs.declared.shared.Shape.TheVariants as shape
use Rattle.type_rules.specs.Typing.{subst_type}

-- a written type stands under the priorities of a call; who else has a part plays no role
abbrev pub read_shared : Shared → Type'
read_shared shared.Unit = unit
read_shared shared.Bool = bool
read_shared shared.Int = int
read_shared (shared.Written ps t) = subst_type ps.now (read_type t.now)
read_shared (shared.Pair' p a b) = pair (read_shared a) (read_shared b)
read_shared (shared.Sum' p a b) = sum (read_shared a) (read_shared b)
read_shared (shared.Thread' r p a) = thread r (read_shared a)

-- the plain type of an outermost form
abbrev pub read_shape : Shape → Type'
read_shape shape.Unit = unit
read_shape shape.Bool = bool
read_shape shape.Int = int
read_shape (shape.Pair a b) = pair (read_shared a) (read_shared b)
read_shape (shape.Sum a b) = sum (read_shared a) (read_shared b)
read_shape (shape.Thread r a) = thread r (read_shared a)
