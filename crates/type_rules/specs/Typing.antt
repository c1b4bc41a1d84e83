-- The types of expressions, actions and blocks.
use Rattle.std.specs.Prelude.{◌≡◌, ℕ, ◌+◌, ◌<◌, ◌≤◌, List, [], ◌∷◌, ◌++◌, length, map, slice_get, slice_index_or, Some}
use Rattle.std.specs.List.{All}
use Rattle.priml_syntax.specs.declared.prio.Prio.{Prio}
use Rattle.priml_syntax.specs.declared.prio.Prio.TheVariants.{Const, Var}
use Rattle.priml_syntax.specs.declared.expr.Op.{Op}
use Rattle.priml_syntax.specs.declared.expr.Op.TheVariants.{Add, Sub, Mul, Div, Rem, And, Or}
use Rattle.priml_syntax.specs.Tree.{Signature, Type', unit, bool, int, pair, sum, thread, Term, var, number, bool_term, unit_term, pair_term, first, second, left, right, binary, negated, Code, block, Body, bind, ret_tail, if_tail, case_tail, Act, ret, spawn, sync, call, do_block, input, output}
use Rattle.priml_syntax.specs.Size.{type_nodes}
use Rattle.priml_syntax.specs.Limits.{most_nodes}
use Rattle.priority_order.specs.Order.{Pair}
use Rattle.constraint_proof.specs.Entailed.{Constraint, Entailed}

-- the types of the variables in scope, the outermost first
abbrev pub VarTypes : Type 0
VarTypes = List Type'

-- what an operator takes on both sides
abbrev pub operand : Op → Type'
operand And = bool
operand Or = bool
operand _ = int

-- what an operator gives
abbrev pub gives : Op → Type'
gives Add = int
gives Sub = int
gives Mul = int
gives Div = int
gives Rem = int
gives _ = bool

-- an expression has a type in a scope
abbrev pub HasType : VarTypes → Term → Type' → Type 0
HasType G (var at x) T = slice_get G x ≡ Some T
HasType G (number at n) T = T ≡ int
HasType G (bool_term at b) T = T ≡ bool
HasType G (unit_term at) T = T ≡ unit
HasType G (pair_term at a b) T = (A B : Type') × HasType G a A × HasType G b B × (T ≡ pair A B) × (type_nodes (pair A B) ≤ most_nodes)
HasType G (first at a) T = (B : Type') × HasType G a (pair T B)
HasType G (second at a) T = (A : Type') × HasType G a (pair A T)
HasType G (left at S a) T = (A B : Type') × (S ≡ sum A B) × HasType G a A × (T ≡ S)
HasType G (right at S a) T = (A B : Type') × (S ≡ sum A B) × HasType G a B × (T ≡ S)
HasType G (binary at op a b) T = HasType G a (operand op) × HasType G b (operand op) × (T ≡ gives op)
HasType G (negated at a) T = HasType G a bool × (T ≡ bool)

-- each expression has the type at its place
abbrev pub HaveTypes : VarTypes → List Term → List Type' → Type 0
HaveTypes G [] Ts = Ts ≡ []
HaveTypes G (e ∷ es) Ts = (T : Type') × (rest : List Type') × HasType G e T × HaveTypes G es rest × (Ts ≡ T ∷ rest)

-- the declared pairs, the procedures, and the constraints of the procedure at hand
pub record Context : Type 0 where
  pub pairs : List Pair
  pub procs : List Signature
  pub given : List Constraint

-- a priority with priorities for its variables; a variable without one stays
abbrev pub subst_prio : List Prio → Prio → Prio
subst_prio ps (Const a) = Const a
subst_prio ps (Var v) = slice_index_or ps v (Var v)

-- a type with priorities for its variables
abbrev pub subst_type : List Prio → Type' → Type'
subst_type ps unit = unit
subst_type ps bool = bool
subst_type ps int = int
subst_type ps (pair a b) = pair (subst_type ps a) (subst_type ps b)
subst_type ps (sum a b) = sum (subst_type ps a) (subst_type ps b)
subst_type ps (thread q a) = thread (subst_prio ps q) (subst_type ps a)

-- p is at most q by the declared pairs and the assumed constraints
abbrev pub Holds : Context → Prio → Prio → Type 0
Holds s p q = Entailed s.pairs s.given p q

-- a call's priorities and arguments fit the procedure
pub record CallFits (s : Context) (G : VarTypes) (r : Prio) (f : ℕ) (ps : List Prio) (es : List Term) (T : Type') : Type 0 where
  pub sig : Signature
  pub is : slice_get s.procs f ≡ Some sig
  pub prios : length ps ≡ sig.vars
  pub arguments : HaveTypes G es (map (subst_type ps) sig.params)
  pub own : subst_prio ps sig.own ≡ r
  pub constraints : All (λ (c : Constraint). Holds s (subst_prio ps c.0) (subst_prio ps c.1)) sig.given
  pub gives : T ≡ subst_type ps sig.gives

-- a block, a body or an action has a type at priority r
abbrev mutual
  pub CodeHas : Code → Context → VarTypes → Prio → Type' → Type 0
  CodeHas (block at b) s G r T = BodyHas b s G r T

  pub BodyHas : Body → Context → VarTypes → Prio → Type' → Type 0
  BodyHas (bind at a rest) s G r T = (A : Type') × ActHas a s G r A × BodyHas rest s (G ++ A ∷ []) r T
  BodyHas (ret_tail at e) s G r T = HasType G e T
  BodyHas (if_tail at e a b) s G r T = HasType G e bool × CodeHas a s G r T × CodeHas b s G r T
  BodyHas (case_tail at e a b) s G r T = (A B : Type') × HasType G e (sum A B) × CodeHas a s (G ++ A ∷ []) r T × CodeHas b s (G ++ B ∷ []) r T

  pub ActHas : Act → Context → VarTypes → Prio → Type' → Type 0
  ActHas (ret e) s G r T = HasType G e T
  ActHas (spawn q c) s G r T = (A : Type') × CodeHas c s G q A × (T ≡ thread q A) × (type_nodes T ≤ most_nodes)
  ActHas (sync h) s G r T = (q : Prio) × (slice_get G h ≡ Some (thread q T)) × Holds s r q
  ActHas (call f ps es) s G r T = CallFits s G r f ps es T
  ActHas (do_block c) s G r T = CodeHas c s G r T
  ActHas input s G r T = T ≡ sum unit int
  ActHas (output e) s G r T = HasType G e int × (T ≡ unit)

-- each variable is one of the first n
abbrev pub InScope : ℕ → Term → Type 0
InScope n (var at x) = x < n
InScope n (number at i) = Unit {0}
InScope n (bool_term at b) = Unit {0}
InScope n (unit_term at) = Unit {0}
InScope n (pair_term at a b) = InScope n a × InScope n b
InScope n (first at a) = InScope n a
InScope n (second at a) = InScope n a
InScope n (left at S a) = InScope n a
InScope n (right at S a) = InScope n a
InScope n (binary at op a b) = InScope n a × InScope n b
InScope n (negated at a) = InScope n a

-- the same for each expression of a list
abbrev pub AllInScope : ℕ → List Term → Type 0
AllInScope n [] = Unit {0}
AllInScope n (e ∷ es) = InScope n e × AllInScope n es

-- each variable is in scope, n of them at the start, and each call names one of m procedures
abbrev mutual
  pub CodeInScope : Code → ℕ → ℕ → Type 0
  CodeInScope (block at b) m n = BodyInScope b m n

  pub BodyInScope : Body → ℕ → ℕ → Type 0
  BodyInScope (bind at a rest) m n = ActInScope a m n × BodyInScope rest m (n + 1)
  BodyInScope (ret_tail at e) m n = InScope n e
  BodyInScope (if_tail at e a b) m n = InScope n e × CodeInScope a m n × CodeInScope b m n
  BodyInScope (case_tail at e a b) m n = InScope n e × CodeInScope a m (n + 1) × CodeInScope b m (n + 1)

  pub ActInScope : Act → ℕ → ℕ → Type 0
  ActInScope (ret e) m n = InScope n e
  ActInScope (spawn q c) m n = CodeInScope c m n
  ActInScope (sync h) m n = h < n
  ActInScope (call f ps es) m n = (f < m) × AllInScope n es
  ActInScope (do_block c) m n = CodeInScope c m n
  ActInScope input m n = Unit {0}
  ActInScope (output e) m n = InScope n e
