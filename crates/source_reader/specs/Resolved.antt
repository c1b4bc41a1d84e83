-- What a program without faults means: each name is the number of what it stands for.
use Rattle.std.specs.Prelude.{ℕ, pos, Option, List, [], ◌∷◌, ◌++◌, map, get_or, length}
use Rattle.priml_syntax.specs.declared.prio.Prio.{Prio}
use Rattle.priml_syntax.specs.Tree as tree
use Rattle.priml_syntax.specs.Tree.{Type', Term, Code, Body, Act, Constraint, Routine, Declared, Tree}
use Rattle.source_grammar.specs.declared.raw.Name.{Name}
use Rattle.source_grammar.specs.RawTree.{RawType, unit, bool, int, pair, sum, thread, RawTerm, var, number, bool_term, unit_term, pair_term, first, second, left, right, binary, negated, RawCode, block, RawBody, bind, ret_tail, if_tail, case_tail, RawAct, ret, spawn, sync, call, do_block, input, output, Parameter, RawProcedure, Declaration, priority, order, procedure, RawRoutine, RawTree}
use Rattle.source_reader.specs.Names.{number_of, place_of, priorities, param_ids, Env, prio_of, env_of, with_vars}

abbrev pub type_meant : Env → RawType → Type'
type_meant env unit = tree.unit
type_meant env bool = tree.bool
type_meant env int = tree.int
type_meant env (pair a b) = tree.pair (type_meant env a) (type_meant env b)
type_meant env (sum a b) = tree.sum (type_meant env a) (type_meant env b)
type_meant env (thread p a) = tree.thread (prio_of env p.id) (type_meant env a)

-- an expression, by the names of the variables in scope: a variable is its place in scope, 0 for the outermost
abbrev pub term_meant : Env → RawTerm → List ℕ → Term
term_meant env (var at id) scope = tree.var at (place_of id scope)
term_meant env (number at n) scope = tree.number at (pos n)
term_meant env (bool_term at b) scope = tree.bool_term at b
term_meant env (unit_term at) scope = tree.unit_term at
term_meant env (pair_term at a b) scope = tree.pair_term at (term_meant env a scope) (term_meant env b scope)
term_meant env (first at a) scope = tree.first at (term_meant env a scope)
term_meant env (second at a) scope = tree.second at (term_meant env a scope)
term_meant env (left at w a) scope = tree.left at (type_meant env w.ty) (term_meant env a scope)
term_meant env (right at w a) scope = tree.right at (type_meant env w.ty) (term_meant env a scope)
term_meant env (binary at op a b) scope = tree.binary at op (term_meant env a scope) (term_meant env b scope)
term_meant env (negated at a) scope = tree.negated at (term_meant env a scope)

abbrev pub terms_meant : Env → List RawTerm → List ℕ → List Term
terms_meant env es scope = map (λ (e : RawTerm). term_meant env e scope) es

abbrev pub prios_meant : Env → List Name → List Prio
prios_meant env ns = map (λ (n : Name). prio_of env n.id) ns

-- blocks, bodies and actions
abbrev mutual
  pub code_meant : RawCode → Env → List ℕ → Code
  code_meant (block at b) env scope = tree.block at (body_meant b env scope)

  pub body_meant : RawBody → Env → List ℕ → Body
  body_meant (bind n at a rest) env scope = tree.bind at (act_meant a env scope) (body_meant rest env (scope ++ n.id ∷ []))
  body_meant (ret_tail at e) env scope = tree.ret_tail at (term_meant env e scope)
  body_meant (if_tail at e a b) env scope = tree.if_tail at (term_meant env e scope) (code_meant a env scope) (code_meant b env scope)
  body_meant (case_tail at e m a n b) env scope =
      tree.case_tail at (term_meant env e scope) (code_meant a env (scope ++ m.id ∷ [])) (code_meant b env (scope ++ n.id ∷ []))

  pub act_meant : RawAct → Env → List ℕ → Act
  act_meant (ret e) env scope = tree.ret (term_meant env e scope)
  act_meant (spawn p b) env scope = tree.spawn (prio_of env p.id) (code_meant b env scope)
  act_meant (sync h) env scope = tree.sync (place_of h.id scope)
  act_meant (call f ps es) env scope = tree.call (number_of (env.procs f.id)) (prios_meant env ps) (terms_meant env es scope)
  act_meant (do_block b) env scope = tree.do_block (code_meant b env scope)
  act_meant input env scope = tree.input
  act_meant (output e) env scope = tree.output (term_meant env e scope)

abbrev pub given_meant : Env → Name × Name → Constraint
given_meant env g = (prio_of env g.0.id, prio_of env g.1.id)

abbrev pub param_meant : Env → Parameter → Type'
param_meant env p = type_meant env p.ty.ty

-- a routine with these variables, constraints and parameters
abbrev pub routine_meant : Env → List Name → List (Name × Name) → List Parameter → RawRoutine → Routine
routine_meant env vars given params r = record {
  at = r.at;
  declares = record {
    vars = length vars;
    given = map (given_meant env) given;
    params = map (param_meant env) params;
    own = prio_of env r.own.id;
    gives = type_meant env r.result.ty;
  };
  body = code_meant r.body env (param_ids params);
}

-- a procedure whose priority variables are known
abbrev pub inside_meant : Env → RawProcedure → Routine
inside_meant env f = routine_meant env f.vars f.given f.params f.routine

abbrev pub proc_meant : Env → RawProcedure → Routine
proc_meant outer f = inside_meant (with_vars outer f.vars) f

-- the procedures, in order
abbrev pub procs_meant : Env → List Declaration → List Routine
procs_meant env [] = []
procs_meant env (priority n ∷ ds) = procs_meant env ds
procs_meant env (order at m n ∷ ds) = procs_meant env ds
procs_meant env (procedure f ∷ ds) = proc_meant env f ∷ procs_meant env ds

-- the declared pairs, in order, by the places of the priorities
abbrev pub pairs_meant : (ℕ → Option ℕ) → List Declaration → List Declared
pairs_meant prios [] = []
pairs_meant prios (priority n ∷ ds) = pairs_meant prios ds
pairs_meant prios (order at m n ∷ ds) = record { at = at; pair = (number_of (prios m.id), number_of (prios n.id)) } ∷ pairs_meant prios ds
pairs_meant prios (procedure f ∷ ds) = pairs_meant prios ds

-- a main is a routine without priority variables, constraints and parameters
abbrev pub main_meant : Env → RawRoutine → Routine
main_meant env m = routine_meant env [] [] [] m

-- what a program means, by the spellings of the distinct names of its text
abbrev pub resolved : List (List ℕ) → RawTree → Tree
resolved names p = record {
  names = map (λ id. get_or names id []) (priorities p.decls);
  declared = pairs_meant (env_of p.decls).prios p.decls;
  procs = procs_meant (env_of p.decls) p.decls;
  mains = main_meant (env_of p.decls) p.main ∷ [];
}
