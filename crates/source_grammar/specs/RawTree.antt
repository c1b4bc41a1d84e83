-- Programs as they are written, as plain trees: names are not resolved. The first number of a term, of a code and of each part of a body is its
-- place: the offset of its first token.
use Rattle.std.specs.Prelude.{ℕ, Bool, List}
use Rattle.priml_syntax.specs.declared.expr.Op.{Op}
use Rattle.source_grammar.specs.declared.raw.Name.{Name}

-- a written type
pub data RawType : Type 0 where
  unit bool int : RawType
  pair sum : RawType → RawType → RawType
  thread : Name → RawType → RawType

-- a type, and the place of its first token
pub record WrittenType : Type 0 where
  pub at : ℕ
  pub ty : RawType

-- an expression
pub data RawTerm : Type 0 where
  var number : ℕ → ℕ → RawTerm
  bool_term : ℕ → Bool → RawTerm
  unit_term : ℕ → RawTerm
  pair_term : ℕ → RawTerm → RawTerm → RawTerm
  first second : ℕ → RawTerm → RawTerm
  left right : ℕ → WrittenType → RawTerm → RawTerm
  binary : ℕ → Op → RawTerm → RawTerm → RawTerm
  negated : ℕ → RawTerm → RawTerm

mutual
  -- a block
  pub data RawCode : Type 0 where
    block : ℕ → RawBody → RawCode

  -- what is left of a block: bound actions, and then an ending
  pub data RawBody : Type 0 where
    bind : Name → ℕ → RawAct → RawBody → RawBody
    ret_tail : ℕ → RawTerm → RawBody
    if_tail : ℕ → RawTerm → RawCode → RawCode → RawBody
    case_tail : ℕ → RawTerm → Name → RawCode → Name → RawCode → RawBody

  -- an action
  pub data RawAct : Type 0 where
    ret : RawTerm → RawAct
    spawn : Name → RawCode → RawAct
    sync : Name → RawAct
    call : Name → List Name → List RawTerm → RawAct
    do_block : RawCode → RawAct
    input : RawAct
    output : RawTerm → RawAct

-- a parameter and its type
pub record Parameter : Type 0 where
  pub name : Name
  pub ty : WrittenType

-- a main: its place, its own priority, its result type and its body
pub record RawRoutine : Type 0 where
  pub at : ℕ
  pub own : Name
  pub result : WrittenType
  pub body : RawCode

-- a procedure: its name, its priority variables, the pairs that it is given and its parameters, and the parts of a main
pub record RawProcedure : Type 0 where
  pub name : Name
  pub vars : List Name
  pub given : List (Name × Name)
  pub params : List Parameter
  pub routine : RawRoutine

-- a declaration
pub data Declaration : Type 0 where
  priority : Name → Declaration
  order : ℕ → Name → Name → Declaration
  procedure : RawProcedure → Declaration

-- a program: its declarations in order, and its main
pub record RawTree : Type 0 where
  pub decls : List Declaration
  pub main : RawRoutine
