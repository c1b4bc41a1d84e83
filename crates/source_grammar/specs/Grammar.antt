-- The forms of the grammar: which tokens stand for which tree. `IsExpr ts rest e` says that the tokens `ts` are those of the expression `e`, and then
-- `rest`.
use Rattle.std.specs.Prelude.{ℕ, List, [], ◌∷◌, true, false}
use Rattle.source_tokens.specs.declared.token.Token.{Token}
use Rattle.source_tokens.specs.declared.token.Kind.{Kind}
use Rattle.source_tokens.specs.declared.token.Kind.TheVariants as k
use Rattle.source_tokens.specs.declared.token.Word.{Word}
use Rattle.source_tokens.specs.declared.token.Word.TheVariants as w
use Rattle.source_tokens.specs.declared.token.Sign.{Sign}
use Rattle.source_tokens.specs.declared.token.Sign.TheVariants as s
use Rattle.priml_syntax.specs.declared.expr.Op.{Op}
use Rattle.priml_syntax.specs.declared.expr.Op.TheVariants as o
use Rattle.source_grammar.specs.declared.raw.Name.{Name}
use Rattle.source_grammar.specs.RawTree.{RawType, unit, bool, int, pair, sum, thread, WrittenType, RawTerm, var, number, bool_term, unit_term, pair_term, first, second, left, right, binary, negated, RawCode, block, RawBody, bind, ret_tail, if_tail, case_tail, RawAct, ret, spawn, sync, call, do_block, input, output, Parameter, RawRoutine, RawProcedure, Declaration, priority, order, procedure, RawTree}

abbrev pub token : ℕ → Kind → Token
token at kind = record { at = at; kind = kind }

abbrev pub sign : ℕ → Sign → Token
sign at x = token at (k.Sign x)

abbrev pub word : ℕ → Word → Token
word at x = token at (k.Word x)

abbrev pub name : Name → Token
name n = token n.at (k.Name n.id)

-- one or more of a form, with commas between
pub data IsSeparated {A : Type 0} (Is : List Token → List Token → A → Type 0) : List Token → List Token → List A → Type 0 where
  one : {ts rest : List Token} {x : A} → Is ts rest x → IsSeparated Is ts rest (x ∷ [])
  more : (comma : ℕ) {ts us rest : List Token} {x : A} {xs : List A}
      → Is ts (sign comma s.Comma ∷ us) x → IsSeparated Is us rest xs → IsSeparated Is ts rest (x ∷ xs)

-- none or more of a form, with commas between
pub data IsListed {A : Type 0} (Is : List Token → List Token → A → Type 0) : List Token → List Token → List A → Type 0 where
  none : {rest : List Token} → IsListed Is rest rest []
  some : {ts rest : List Token} {xs : List A} → IsSeparated Is ts rest xs → IsListed Is ts rest xs

-- a name
pub data IsName : List Token → List Token → Name → Type 0 where
  is_name : (n : Name) {rest : List Token} → IsName (name n ∷ rest) rest n

-- a type, and the place of its first token
pub data IsType : List Token → List Token → ℕ → RawType → Type 0 where
  is_unit : (at : ℕ) {rest : List Token} → IsType (word at w.Unit ∷ rest) rest at unit
  is_bool : (at : ℕ) {rest : List Token} → IsType (word at w.Bool ∷ rest) rest at bool
  is_int : (at : ℕ) {rest : List Token} → IsType (word at w.Int ∷ rest) rest at int
  is_pair : (at star close i j : ℕ) {ts us rest : List Token} {x y : RawType}
      → IsType ts (sign star s.Star ∷ us) i x → IsType us (sign close s.CloseParen ∷ rest) j y
      → IsType (sign at s.OpenParen ∷ ts) rest at (pair x y)
  is_sum : (at plus close i j : ℕ) {ts us rest : List Token} {x y : RawType}
      → IsType ts (sign plus s.Plus ∷ us) i x → IsType us (sign close s.CloseParen ∷ rest) j y
      → IsType (sign at s.OpenParen ∷ ts) rest at (sum x y)
  is_thread : (at a b c close i : ℕ) (p : Name) {ts rest : List Token} {x : RawType}
      → IsType ts (sign close s.CloseParen ∷ rest) i x
      → IsType (word at w.Thread ∷ sign a s.OpenBracket ∷ name p ∷ sign b s.CloseBracket ∷ sign c s.OpenParen ∷ ts) rest at (thread p x)

pub data IsWritten : List Token → List Token → WrittenType → Type 0 where
  is_written : {at : ℕ} {ts rest : List Token} {x : RawType} → IsType ts rest at x → IsWritten ts rest (record { at = at; ty = x })

-- the tokens of operators
pub data IsOp : Kind → Op → Type 0 where
  is_add : IsOp (k.Sign s.Plus) o.Add
  is_sub : IsOp (k.Sign s.Minus) o.Sub
  is_mul : IsOp (k.Sign s.Star) o.Mul
  is_div : IsOp (k.Sign s.Slash) o.Div
  is_rem : IsOp (k.Sign s.Percent) o.Rem
  is_less : IsOp (k.Sign s.Less) o.Less
  is_at_most : IsOp (k.Sign s.AtMost) o.AtMost
  is_equal : IsOp (k.Sign s.Equal) o.Equal
  is_and : IsOp (k.Word w.And) o.And
  is_or : IsOp (k.Word w.Or) o.Or

-- an expression; brackets around one make no node
pub data IsExpr : List Token → List Token → RawTerm → Type 0 where
  is_var : (n : Name) {rest : List Token} → IsExpr (name n ∷ rest) rest (var n.at n.id)
  is_number : (at n : ℕ) {rest : List Token} → IsExpr (token at (k.Number n) ∷ rest) rest (number at n)
  is_true : (at : ℕ) {rest : List Token} → IsExpr (word at w.True ∷ rest) rest (bool_term at true)
  is_false : (at : ℕ) {rest : List Token} → IsExpr (word at w.False ∷ rest) rest (bool_term at false)
  is_unit_term : (at close : ℕ) {rest : List Token} → IsExpr (sign at s.OpenParen ∷ sign close s.CloseParen ∷ rest) rest (unit_term at)
  is_inside : (at close : ℕ) {ts rest : List Token} {x : RawTerm}
      → IsExpr ts (sign close s.CloseParen ∷ rest) x → IsExpr (sign at s.OpenParen ∷ ts) rest x
  is_pair_term : (at comma close : ℕ) {ts us rest : List Token} {x y : RawTerm}
      → IsExpr ts (sign comma s.Comma ∷ us) x → IsExpr us (sign close s.CloseParen ∷ rest) y
      → IsExpr (sign at s.OpenParen ∷ ts) rest (pair_term at x y)
  is_binary : (at mid close : ℕ) (kind : Kind) (op : Op) {ts us rest : List Token} {x y : RawTerm}
      → IsExpr ts (token mid kind ∷ us) x → IsOp kind op → IsExpr us (sign close s.CloseParen ∷ rest) y
      → IsExpr (sign at s.OpenParen ∷ ts) rest (binary at op x y)
  is_first : (at a close : ℕ) {ts rest : List Token} {x : RawTerm}
      → IsExpr ts (sign close s.CloseParen ∷ rest) x → IsExpr (word at w.Fst ∷ sign a s.OpenParen ∷ ts) rest (first at x)
  is_second : (at a close : ℕ) {ts rest : List Token} {x : RawTerm}
      → IsExpr ts (sign close s.CloseParen ∷ rest) x → IsExpr (word at w.Snd ∷ sign a s.OpenParen ∷ ts) rest (second at x)
  is_negated : (at a close : ℕ) {ts rest : List Token} {x : RawTerm}
      → IsExpr ts (sign close s.CloseParen ∷ rest) x → IsExpr (word at w.Not ∷ sign a s.OpenParen ∷ ts) rest (negated at x)
  is_left : (at a b c close : ℕ) {ts us rest : List Token} {t : WrittenType} {x : RawTerm}
      → IsWritten ts (sign b s.CloseBracket ∷ sign c s.OpenParen ∷ us) t → IsExpr us (sign close s.CloseParen ∷ rest) x
      → IsExpr (word at w.Inl ∷ sign a s.OpenBracket ∷ ts) rest (left at t x)
  is_right : (at a b c close : ℕ) {ts us rest : List Token} {t : WrittenType} {x : RawTerm}
      → IsWritten ts (sign b s.CloseBracket ∷ sign c s.OpenParen ∷ us) t → IsExpr us (sign close s.CloseParen ∷ rest) x
      → IsExpr (word at w.Inr ∷ sign a s.OpenBracket ∷ ts) rest (right at t x)

-- the priorities of a call, in square brackets or left out before the bracket of the arguments
pub data IsPriorities : List Token → List Token → List Name → Type 0 where
  absent : (at : ℕ) {rest : List Token} → IsPriorities (sign at s.OpenParen ∷ rest) (sign at s.OpenParen ∷ rest) []
  present : (at close : ℕ) {ts rest : List Token} {ns : List Name}
      → IsListed IsName ts (sign close s.CloseBracket ∷ rest) ns → IsPriorities (sign at s.OpenBracket ∷ ts) rest ns

mutual
  -- a block in braces
  pub data IsBlock : List Token → List Token → RawCode → Type 0 where
    is_block : (at close : ℕ) {ts rest : List Token} {b : RawBody}
        → IsBody ts (sign close s.CloseBrace ∷ rest) b
        → IsBlock (sign at s.OpenBrace ∷ ts) rest (block at b)

  -- bound actions, as far as names come, and then the ending
  pub data IsBody : List Token → List Token → RawBody → Type 0 where
    is_ret_tail : (at : ℕ) {ts rest : List Token} {e : RawTerm} → IsExpr ts rest e → IsBody (word at w.Ret ∷ ts) rest (ret_tail at e)
    is_if_tail : (at other : ℕ) {ts us vs rest : List Token} {e : RawTerm} {x y : RawCode}
        → IsExpr ts us e → IsBlock us (word other w.Else ∷ vs) x → IsBlock vs rest y
        → IsBody (word at w.If ∷ ts) rest (if_tail at e x y)
    is_case_tail : (at b c : ℕ) (m n : Name) {ts us vs rest : List Token} {e : RawTerm} {x y : RawCode}
        → IsExpr ts (word b w.Inl ∷ name m ∷ us) e → IsBlock us (word c w.Inr ∷ name n ∷ vs) x → IsBlock vs rest y
        → IsBody (word at w.Case ∷ ts) rest (case_tail at e m x n y)
    is_bind : (n : Name) (arrow at end : ℕ) {ts us rest : List Token} {a : RawAct} {b : RawBody}
        → IsAction ts (sign end s.Semicolon ∷ us) at a → IsBody us rest b
        → IsBody (name n ∷ sign arrow s.Arrow ∷ ts) rest (bind n at a b)

  -- an action, and the place of its word
  pub data IsAction : List Token → List Token → ℕ → RawAct → Type 0 where
    is_ret : (at : ℕ) {ts rest : List Token} {e : RawTerm} → IsExpr ts rest e → IsAction (word at w.Ret ∷ ts) rest at (ret e)
    is_spawn : (at from close : ℕ) (p : Name) {ts rest : List Token} {b : RawCode}
        → IsBlock ts rest b
        → IsAction (word at w.Spawn ∷ sign from s.OpenBracket ∷ name p ∷ sign close s.CloseBracket ∷ ts) rest at (spawn p b)
    is_sync : (at : ℕ) (h : Name) {rest : List Token} → IsAction (word at w.Sync ∷ name h ∷ rest) rest at (sync h)
    is_call : (at from close : ℕ) (f : Name) {ts us rest : List Token} {ps : List Name} {es : List RawTerm}
        → IsPriorities ts (sign from s.OpenParen ∷ us) ps → IsListed IsExpr us (sign close s.CloseParen ∷ rest) es
        → IsAction (word at w.Call ∷ name f ∷ ts) rest at (call f ps es)
    is_do_block : (at : ℕ) {ts rest : List Token} {b : RawCode} → IsBlock ts rest b → IsAction (word at w.Do ∷ ts) rest at (do_block b)
    is_input : (at : ℕ) {rest : List Token} → IsAction (word at w.Input ∷ rest) rest at input
    is_output : (at : ℕ) {ts rest : List Token} {e : RawTerm} → IsExpr ts rest e → IsAction (word at w.Output ∷ ts) rest at (output e)

-- a constraint: the first priority is at most the second
pub data IsConstraint : List Token → List Token → Name × Name → Type 0 where
  is_constraint : (p q : Name) (at : ℕ) {rest : List Token} → IsConstraint (name p ∷ sign at s.AtMost ∷ name q ∷ rest) rest (p, q)

-- a parameter
pub data IsParameter : List Token → List Token → Parameter → Type 0 where
  is_parameter : (n : Name) (colon : ℕ) {ts rest : List Token} {t : WrittenType} → IsWritten ts rest t
      → IsParameter (name n ∷ sign colon s.Colon ∷ ts) rest (record { name = n; ty = t })

-- the priority variables and the constraints of a procedure, in square brackets or left out before the bracket of the parameters
pub data IsHead : List Token → List Token → List Name → List (Name × Name) → Type 0 where
  absent : (at : ℕ) {rest : List Token} → IsHead (sign at s.OpenParen ∷ rest) (sign at s.OpenParen ∷ rest) [] []
  free : (at close : ℕ) {ts rest : List Token} {ns : List Name}
      → IsListed IsName ts (sign close s.CloseBracket ∷ rest) ns → IsHead (sign at s.OpenBracket ∷ ts) rest ns []
  bound : (at mid close : ℕ) {ts us rest : List Token} {ns : List Name} {gs : List (Name × Name)}
      → IsListed IsName ts (sign mid s.Semicolon ∷ us) ns → IsSeparated IsConstraint us (sign close s.CloseBracket ∷ rest) gs
      → IsHead (sign at s.OpenBracket ∷ ts) rest ns gs

-- an own priority, a result type and a body, for a routine whose place is `at`
pub data IsRoutine : List Token → List Token → ℕ → RawRoutine → Type 0 where
  is_routine : (at by colon : ℕ) (own : Name) {ts us rest : List Token} {t : WrittenType} {b : RawCode}
      → IsWritten ts us t → IsBlock us rest b
      → IsRoutine (word by w.At ∷ name own ∷ sign colon s.Colon ∷ ts) rest at (record { at = at; own = own; result = t; body = b })

-- a procedure
pub data IsProcedure : List Token → List Token → RawProcedure → Type 0 where
  is_procedure : (at from close : ℕ) (n : Name)
      {ts us vs rest : List Token} {ns : List Name} {gs : List (Name × Name)} {ps : List Parameter} {r : RawRoutine}
      → IsHead ts (sign from s.OpenParen ∷ us) ns gs → IsListed IsParameter us (sign close s.CloseParen ∷ vs) ps → IsRoutine vs rest at r
      → IsProcedure (word at w.Proc ∷ name n ∷ ts) rest (record { name = n; vars = ns; given = gs; params = ps; routine = r })

-- declarations
pub data IsDecls : List Token → List Token → List Declaration → Type 0 where
  no_more : {rest : List Token} → IsDecls rest rest []
  is_priority : (at end : ℕ) (n : Name) {ts rest : List Token} {ds : List Declaration}
      → IsDecls ts rest ds
      → IsDecls (word at w.Priority ∷ name n ∷ sign end s.Semicolon ∷ ts) rest (priority n ∷ ds)
  is_order : (at less end : ℕ) (m n : Name) {ts rest : List Token} {ds : List Declaration}
      → IsDecls ts rest ds
      → IsDecls (word at w.Order ∷ name m ∷ sign less s.Less ∷ name n ∷ sign end s.Semicolon ∷ ts) rest (order at m n ∷ ds)
  is_declared : {ts us rest : List Token} {f : RawProcedure} {ds : List Declaration}
      → IsProcedure ts us f → IsDecls us rest ds
      → IsDecls ts rest (procedure f ∷ ds)

-- the main procedure
pub data IsMain : List Token → List Token → RawRoutine → Type 0 where
  is_main : (at : ℕ) {ts rest : List Token} {r : RawRoutine} → IsRoutine ts rest at r → IsMain (word at w.Main ∷ ts) rest r

-- all tokens stand for the program
pub data IsProgram : List Token → RawTree → Type 0 where
  is_program : {ts us : List Token} {ds : List Declaration} {m : RawRoutine}
      → IsDecls ts us ds → IsMain us [] m → IsProgram ts (record { decls = ds; main = m })
