-- The plain tree of a program as it is written: a pointer, and the room of a list, play no part.
use Rattle.std.specs.Prelude.{ℕ, map}
use Rattle.source_grammar.specs.declared.raw.RawTy.{RawTy}
use Rattle.source_grammar.specs.declared.raw.RawTy.TheVariants as ty
use Rattle.source_grammar.specs.declared.raw.Written.{Written}
use Rattle.source_grammar.specs.declared.raw.RawForm.{RawForm}
use Rattle.source_grammar.specs.declared.raw.RawForm.TheVariants as form
use Rattle.source_grammar.specs.declared.raw.RawExpr.{RawExpr}
use Rattle.source_grammar.specs.declared.raw.RawAction.{RawAction}
use Rattle.source_grammar.specs.declared.raw.RawAction.TheVariants as action
use Rattle.source_grammar.specs.declared.raw.RawTailForm.{RawTailForm}
use Rattle.source_grammar.specs.declared.raw.RawTailForm.TheVariants as tail
use Rattle.source_grammar.specs.declared.raw.RawBlock.{RawBlock, RawBlock', Row_of-RawBind, end_of-RawBind, more_of-RawBind}
use Rattle.source_grammar.specs.declared.raw.RawParam.{RawParam}
use Rattle.source_grammar.specs.declared.raw.RawProc.{RawProc}
use Rattle.source_grammar.specs.declared.raw.RawDecl.{RawDecl}
use Rattle.source_grammar.specs.declared.raw.RawDecl.TheVariants as decl
use Rattle.source_grammar.specs.declared.raw.RawMain.{RawMain}
use Rattle.source_grammar.specs.declared.raw.RawProgram.{RawProgram}
use Rattle.source_grammar.specs.RawTree as tree
use Rattle.source_grammar.specs.RawTree.{RawType, RawTerm, RawCode, RawBody, RawAct, WrittenType, Parameter, RawRoutine, RawProcedure, Declaration, RawTree}

abbrev pub read_ty : RawTy → RawType
read_ty ty.Unit = tree.unit
read_ty ty.Bool = tree.bool
read_ty ty.Int = tree.int
read_ty (ty.Thread' n p a) = tree.thread n (read_ty a)
read_ty (ty.Pair' p a q b) = tree.pair (read_ty a) (read_ty b)
read_ty (ty.Sum' p a q b) = tree.sum (read_ty a) (read_ty b)

abbrev pub read_written : Written → WrittenType
read_written w = record { at = w.at; ty = read_ty w.ty }

abbrev pub read_form : RawForm → ℕ → RawTerm
read_form (form.Var id) at = tree.var at id
read_form (form.Int n) at = tree.number at n
read_form (form.Bool b) at = tree.bool_term at b
read_form form.Unit at = tree.unit_term at
read_form (form.Pair' p i a j b) at = tree.pair_term at (read_form a i) (read_form b j)
read_form (form.Fst' p i a) at = tree.first at (read_form a i)
read_form (form.Snd' p i a) at = tree.second at (read_form a i)
read_form (form.Inl' p t i a) at = tree.left at (read_written t) (read_form a i)
read_form (form.Inr' p t i a) at = tree.right at (read_written t) (read_form a i)
read_form (form.Op' op p i a j b) at = tree.binary at op (read_form a i) (read_form b j)
read_form (form.Not' p i a) at = tree.negated at (read_form a i)

abbrev pub read_expr : RawExpr → RawTerm
read_expr e = read_form e.form e.at

abbrev mutual
  pub read_action : RawAction → RawAct
  read_action (action.Ret e) = tree.ret (read_expr e)
  read_action (action.Spawn' p q b) = tree.spawn p (read_block b)
  read_action (action.Sync h) = tree.sync h
  read_action (action.Call c) = tree.call c.value.procedure c.value.priorities.items (map read_expr c.value.arguments.items)
  read_action (action.Do' p b) = tree.do_block (read_block b)
  read_action action.Input = tree.input
  read_action (action.Output e) = tree.output (read_expr e)

  pub read_tail : RawTailForm → ℕ → RawBody
  read_tail (tail.Ret e) at = tree.ret_tail at (read_expr e)
  read_tail (tail.If' e p a q b) at = tree.if_tail at (read_expr e) (read_block a) (read_block b)
  read_tail (tail.Case' e m p a n q b) at = tree.case_tail at (read_expr e) m (read_block a) n (read_block b)

  pub read_binds : {n : _} → Row_of-RawBind n → RawBody → RawBody
  read_binds end_of-RawBind body = body
  read_binds (more_of-RawBind name at a rest) body = tree.bind name at (read_action a) (read_binds rest body)

  pub read_block : RawBlock → RawCode
  read_block (RawBlock' at shape binds i tail) = tree.block at (read_binds binds (read_tail tail i))

abbrev pub read_param : RawParam → Parameter
read_param p = record { name = p.name; ty = read_written p.ty }

abbrev pub read_main : RawMain → RawRoutine
read_main m = record { at = m.at; own = m.own; result = read_written m.result; body = read_block m.body }

abbrev pub read_proc : RawProc → RawProcedure
read_proc f = record {
  name = f.name;
  vars = f.vars.items;
  given = f.given.items;
  params = map read_param f.params.items;
  routine = record { at = f.at; own = f.own; result = read_written f.result; body = read_block f.body };
}

abbrev pub read_decl : RawDecl → Declaration
read_decl (decl.Priority n) = tree.priority n
read_decl (decl.Order at m n) = tree.order at m n
read_decl (decl.Proc f) = tree.procedure (read_proc f)

abbrev pub read_raw : RawProgram → RawTree
read_raw p = record { decls = map read_decl p.decls.items; main = read_main p.main }
