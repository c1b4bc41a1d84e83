-- The plain tree of a declared value: a pointer, the room of a list and its allocator play no part.
use Rattle.std.specs.Prelude.{ℕ, [], ◌∷◌, map, string_bytes}
use Rattle.priml_syntax.specs.declared.ty.Ty.{Ty}
use Rattle.priml_syntax.specs.declared.ty.Ty.TheVariants as ty
use Rattle.priml_syntax.specs.declared.expr.Expr.{Expr}
use Rattle.priml_syntax.specs.declared.expr.ExprForm.{ExprForm}
use Rattle.priml_syntax.specs.declared.expr.ExprForm.TheVariants as form
use Rattle.priml_syntax.specs.declared.block.Action.{Action}
use Rattle.priml_syntax.specs.declared.block.Action.TheVariants as action
use Rattle.priml_syntax.specs.declared.block.TailForm.{TailForm}
use Rattle.priml_syntax.specs.declared.block.TailForm.TheVariants as tail
use Rattle.priml_syntax.specs.declared.block.Block.{Block, Block', Row_of-Bind, end_of-Bind, more_of-Bind}
use Rattle.priml_syntax.specs.declared.program.Proc.{Proc}
use Rattle.priml_syntax.specs.declared.program.Program.{Program}
use Rattle.priml_syntax.specs.declared.value.Value.{Value}
use Rattle.priml_syntax.specs.declared.value.Value.TheVariants as value
use Rattle.priml_syntax.specs.declared.value.Outcome.{Outcome}
use Rattle.priml_syntax.specs.declared.value.Outcome.TheVariants as outcome
use Rattle.priml_syntax.specs.declared.record.Record.{Record}
use Rattle.priml_syntax.specs.Tree as tree
use Rattle.priml_syntax.specs.Tree.{Type', Term, Code, Body, Act, Signature, Routine, Declared, Tree}
use Rattle.priml_syntax.specs.Values.{Value', unit_value, bool_value, int_value, pair_value, left_value, right_value, thread_value, Outcome', returned, faulted, Entry}

-- a type
abbrev pub read_type : Ty → Type'
read_type ty.Unit = tree.unit
read_type ty.Bool = tree.bool
read_type ty.Int = tree.int
read_type (ty.Pair' p a q b) = tree.pair (read_type a) (read_type b)
read_type (ty.Sum' p a q b) = tree.sum (read_type a) (read_type b)
read_type (ty.Thread' r p a) = tree.thread r (read_type a)

-- the form of an expression, with the place of the expression
abbrev pub read_form : ExprForm → ℕ → Term
read_form (form.Var x) at = tree.var at x
read_form (form.Int n) at = tree.number at n
read_form (form.Bool b) at = tree.bool_term at b
read_form form.Unit at = tree.unit_term at
read_form (form.Pair' p i a q j b) at = tree.pair_term at (read_form a i) (read_form b j)
read_form (form.Fst' p i a) at = tree.first at (read_form a i)
read_form (form.Snd' p i a) at = tree.second at (read_form a i)
read_form (form.Inl' t p i a) at = tree.left at (read_type t) (read_form a i)
read_form (form.Inr' t p i a) at = tree.right at (read_type t) (read_form a i)
read_form (form.Op' op p i a q j b) at = tree.binary at op (read_form a i) (read_form b j)
read_form (form.Not' p i a) at = tree.negated at (read_form a i)

-- an expression
abbrev pub read_term : Expr → Term
read_term e = read_form e.form e.at

abbrev mutual
  -- a block
  pub read_code : Block → Code
  read_code (Block' at shape binds i tail) = tree.block at (read_binds binds (read_tail tail i))

  -- a row of bound actions, above the body that they lead to
  pub read_binds : {n : _} → Row_of-Bind n → Body → Body
  read_binds end_of-Bind body = body
  read_binds (more_of-Bind at a rest) body = tree.bind at (read_act a) (read_binds rest body)

  -- the form of an ending, with the place of the ending
  pub read_tail : TailForm → ℕ → Body
  read_tail (tail.Ret e) at = tree.ret_tail at (read_term e)
  read_tail (tail.If' e p a q b) at = tree.if_tail at (read_term e) (read_code a) (read_code b)
  read_tail (tail.Case' e p a q b) at = tree.case_tail at (read_term e) (read_code a) (read_code b)

  -- an action
  pub read_act : Action → Act
  read_act (action.Ret e) = tree.ret (read_term e)
  read_act (action.Spawn' r p b) = tree.spawn r (read_code b)
  read_act (action.Sync h) = tree.sync h
  read_act (action.Call f ps es) = tree.call f ps.items (map read_term es.items)
  read_act (action.Do' p b) = tree.do_block (read_code b)
  read_act action.Input = tree.input
  read_act (action.Output e) = tree.output (read_term e)

-- what a procedure declares
abbrev pub read_sig : Proc → Signature
read_sig f = record { vars = f.vars; given = f.given.items; params = map read_type f.params.items; own = f.own; gives = read_type f.result }

-- a procedure, or a main
abbrev pub read_proc : Proc → Routine
read_proc f = record { at = f.at; declares = read_sig f; body = read_code f.body }

-- a declared pair with its place
abbrev pub read_pair : ℕ × ℕ × ℕ → Declared
read_pair d = record { at = d.0; pair = (d.1, d.2) }

-- a program, which has one main
abbrev pub read_program : Program → Tree
read_program p = record {
  names = map string_bytes p.names.items;
  declared = map read_pair p.pairs.items;
  procs = map read_proc p.procs.items;
  mains = read_proc p.main ∷ [];
}

-- a value
abbrev pub read_value : Value → Value'
read_value value.Unit = unit_value
read_value (value.Bool b) = bool_value b
read_value (value.Int n) = int_value n
read_value (value.Pair' p a q b) = pair_value (read_value a) (read_value b)
read_value (value.Inl' p a) = left_value (read_value a)
read_value (value.Inr' p a) = right_value (read_value a)
read_value (value.Thread path prio) = thread_value path prio

-- how a thread ended
abbrev pub read_outcome : Outcome → Outcome'
read_outcome (outcome.Value v) = returned (read_value v)
read_outcome (outcome.Fault f) = faulted f

-- a thread that has ended
abbrev pub read_record : Record → Entry
read_record r = record { path = r.path; prio = r.prio; events = r.events.items; outcome = read_outcome r.outcome }
