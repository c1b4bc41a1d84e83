-- Programs as plain trees of numbers, variants and lists. The first number of a term, of a code and of each
-- part of a body is its place: the offset of its first token.
use Rattle.std.specs.Prelude.{ℕ, ℤ, Bool, List, map}
use Rattle.priml_syntax.specs.declared.prio.Prio.{Prio}
use Rattle.priml_syntax.specs.declared.expr.Op.{Op}

-- a type
pub data Type' : Type 0 where
  unit bool int : Type'
  pair sum : Type' → Type' → Type'
  thread : Prio → Type' → Type'

-- an expression
pub data Term : Type 0 where
  var : ℕ → ℕ → Term
  number : ℕ → ℤ → Term
  bool_term : ℕ → Bool → Term
  unit_term : ℕ → Term
  pair_term : ℕ → Term → Term → Term
  first second : ℕ → Term → Term
  left right : ℕ → Type' → Term → Term
  binary : ℕ → Op → Term → Term → Term
  negated : ℕ → Term → Term

mutual
  -- a block
  pub data Code : Type 0 where
    block : ℕ → Body → Code

  -- what is left to run in a block: bound actions, and then an ending
  pub data Body : Type 0 where
    bind : ℕ → Act → Body → Body
    ret_tail : ℕ → Term → Body
    if_tail : ℕ → Term → Code → Code → Body
    case_tail : ℕ → Term → Code → Code → Body

  -- what an action does
  pub data Act : Type 0 where
    ret : Term → Act
    spawn : Prio → Code → Act
    sync : ℕ → Act
    call : ℕ → List Prio → List Term → Act
    do_block : Code → Act
    input : Act
    output : Term → Act

-- what a block holds
abbrev pub inside : Code → Body
inside (block at body) = body

-- a constraint: its first is at most its second
abbrev pub Constraint : Type 0
Constraint = Prio × Prio

-- what a procedure declares
pub record Signature : Type 0 where
  pub vars : ℕ
  pub given : List Constraint
  pub params : List Type'
  pub own : Prio
  pub gives : Type'

-- a procedure or a main: its place, what it declares, and its body
pub record Routine : Type 0 where
  pub at : ℕ
  pub declares : Signature
  pub body : Code

-- a declared pair of priorities, with its place: the first is below the second
pub record Declared : Type 0 where
  pub at : ℕ
  pub pair : ℕ × ℕ

-- a program: the names of its priorities, the declared pairs, the procedures, and the mains in order
pub record Tree : Type 0 where
  pub names : List (List ℕ)
  pub declared : List Declared
  pub procs : List Routine
  pub mains : List Routine

-- the declared pairs, without their places
abbrev pub pairs_of : Tree → List (ℕ × ℕ)
pairs_of p = map (λ (d : Declared). d.pair) p.declared
