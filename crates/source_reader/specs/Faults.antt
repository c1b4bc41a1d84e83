-- The faults of a program's names and limits, in the order of its text. Where two stand at one place, the one that counts is the first.
use Rattle.std.specs.Prelude.{ℕ, ◌+◌, Bool, true, false, not, is_some, nat_lt, nat_le, List, [], ◌∷◌, ◌++◌, length}
use Rattle.priml_syntax.specs.Limits.{most_priorities, most_pairs, most_procedures, most_nodes, most_in_scope, most_priority_variables, most_constraints, most_parameters}
use Rattle.source_grammar.specs.declared.raw.Name.{Name}
use Rattle.source_grammar.specs.RawTree.{RawType, unit, bool, int, pair, sum, thread, WrittenType, RawTerm, var, number, bool_term, unit_term, pair_term, first, second, left, right, binary, negated, RawCode, block, RawBody, bind, ret_tail, if_tail, case_tail, RawAct, ret, spawn, sync, call, do_block, input, output, Parameter, RawProcedure, Declaration, priority, order, procedure, RawRoutine, RawTree}
use Rattle.source_reader.specs.declared.faults.What.{What}
use Rattle.source_reader.specs.declared.faults.What.TheVariants.{Priorities, Pairs, Procedures, PrioVars, Constraints, Parameters, Scope, TypeNodes}
use Rattle.source_reader.specs.declared.faults.Fault.{Fault}
use Rattle.source_reader.specs.declared.faults.Fault.TheVariants.{UnknownName, TwiceNamed, TooMany}
use Rattle.source_reader.specs.Names.{is_among, priorities, procedures, pairs_in, param_ids, Env, prio_in, env_of, with_vars}

-- the fault, unless the test holds
abbrev pub unless : Bool → Fault → List Fault
unless true f = []
unless false f = f ∷ []

-- a name that is no priority here
abbrev pub prio_faults : Env → Name → List Fault
prio_faults env n = unless (is_some (prio_in env n.id)) (UnknownName n.at)

abbrev pub prios_faults : Env → List Name → List Fault
prios_faults env [] = []
prios_faults env (n ∷ ns) = prio_faults env n ++ prios_faults env ns

-- a name that is no procedure
abbrev pub proc_faults : Env → Name → List Fault
proc_faults env n = unless (is_some (env.procs n.id)) (UnknownName n.at)

-- a variable that is not in scope
abbrev pub var_faults : ℕ → ℕ → List ℕ → List Fault
var_faults at id scope = unless (is_among id scope) (UnknownName at)

-- one more of a kind of which there are so many, and may be at most so many
abbrev pub room_faults : ℕ → ℕ → ℕ → What → List Fault
room_faults at have most what = unless (nat_lt have most) (TooMany at what)

-- a name that is declared again, where these are declared before it, or that is one too many
abbrev pub again_faults : Name → List ℕ → ℕ → What → List Fault
again_faults n before most what = unless (not (is_among n.id before)) (TwiceNamed n.at) ++ room_faults n.at (length before) most what

-- the nodes of a type
abbrev pub raw_nodes : RawType → ℕ
raw_nodes unit = 1
raw_nodes bool = 1
raw_nodes int = 1
raw_nodes (pair a b) = 1 + (raw_nodes a + raw_nodes b)
raw_nodes (sum a b) = 1 + (raw_nodes a + raw_nodes b)
raw_nodes (thread p a) = 1 + raw_nodes a

abbrev pub type_faults : Env → RawType → List Fault
type_faults env unit = []
type_faults env bool = []
type_faults env int = []
type_faults env (pair a b) = type_faults env a ++ type_faults env b
type_faults env (sum a b) = type_faults env a ++ type_faults env b
type_faults env (thread p a) = prio_faults env p ++ type_faults env a

-- a written type is not too large
abbrev pub written_faults : Env → WrittenType → List Fault
written_faults env w = unless (nat_le (raw_nodes w.ty) most_nodes) (TooMany w.at TypeNodes) ++ type_faults env w.ty

-- an expression, by the names of the variables in scope, the outermost first
abbrev pub term_faults : Env → RawTerm → List ℕ → List Fault
term_faults env (var at id) scope = var_faults at id scope
term_faults env (number at n) scope = []
term_faults env (bool_term at b) scope = []
term_faults env (unit_term at) scope = []
term_faults env (pair_term at a b) scope = term_faults env a scope ++ term_faults env b scope
term_faults env (first at a) scope = term_faults env a scope
term_faults env (second at a) scope = term_faults env a scope
term_faults env (left at w a) scope = written_faults env w ++ term_faults env a scope
term_faults env (right at w a) scope = written_faults env w ++ term_faults env a scope
term_faults env (binary at op a b) scope = term_faults env a scope ++ term_faults env b scope
term_faults env (negated at a) scope = term_faults env a scope

abbrev pub terms_faults : Env → List RawTerm → List ℕ → List Fault
terms_faults env [] scope = []
terms_faults env (e ∷ es) scope = term_faults env e scope ++ terms_faults env es scope

-- one variable more in scope
abbrev pub scope_faults : Name → List ℕ → List Fault
scope_faults n scope = room_faults n.at (length scope) most_in_scope Scope

-- blocks, bodies and actions
abbrev mutual
  pub code_faults : RawCode → Env → List ℕ → List Fault
  code_faults (block at b) env scope = body_faults b env scope

  -- a bound name is in scope from the next action on, and the variable of a branch in it
  pub body_faults : RawBody → Env → List ℕ → List Fault
  body_faults (bind n at a rest) env scope = scope_faults n scope ++ (act_faults a env scope ++ body_faults rest env (scope ++ n.id ∷ []))
  body_faults (ret_tail at e) env scope = term_faults env e scope
  body_faults (if_tail at e a b) env scope = term_faults env e scope ++ (code_faults a env scope ++ code_faults b env scope)
  body_faults (case_tail at e m a n b) env scope =
      term_faults env e scope
      ++ ((scope_faults m scope ++ code_faults a env (scope ++ m.id ∷ [])) ++ (scope_faults n scope ++ code_faults b env (scope ++ n.id ∷ [])))

  -- a block inside a block sees the scope at its place
  pub act_faults : RawAct → Env → List ℕ → List Fault
  act_faults (ret e) env scope = term_faults env e scope
  act_faults (spawn p b) env scope = prio_faults env p ++ code_faults b env scope
  act_faults (sync h) env scope = var_faults h.at h.id scope
  act_faults (call f ps es) env scope = proc_faults env f ++ (prios_faults env ps ++ terms_faults env es scope)
  act_faults (do_block b) env scope = code_faults b env scope
  act_faults input env scope = []
  act_faults (output e) env scope = term_faults env e scope

-- priority variables, behind these
abbrev pub vars_faults : List Name → List ℕ → List Fault
vars_faults [] before = []
vars_faults (n ∷ ns) before = again_faults n before most_priority_variables PrioVars ++ vars_faults ns (before ++ n.id ∷ [])

-- a constraint, behind so many
abbrev pub given_faults : Env → Name × Name → ℕ → List Fault
given_faults env g before = prio_faults env g.0 ++ (room_faults g.0.at before most_constraints Constraints ++ prio_faults env g.1)

-- constraints, behind so many
abbrev pub givens_faults : Env → List (Name × Name) → ℕ → List Fault
givens_faults env [] before = []
givens_faults env (g ∷ gs) before = given_faults env g before ++ givens_faults env gs (before + 1)

-- parameters, behind these
abbrev pub params_faults : Env → List Parameter → List ℕ → List Fault
params_faults env [] before = []
params_faults env (p ∷ ps) before =
    (again_faults p.name before most_parameters Parameters ++ written_faults env p.ty) ++ params_faults env ps (before ++ p.name.id ∷ [])

-- a routine behind its parameters: its priority, its result and its body
abbrev pub routine_faults : Env → RawRoutine → List ℕ → List Fault
routine_faults env r params = prio_faults env r.own ++ (written_faults env r.result ++ code_faults r.body env params)

-- a procedure behind its priority variables, which are known
abbrev pub inside_faults : Env → RawProcedure → List Fault
inside_faults env f = givens_faults env f.given 0 ++ (params_faults env f.params [] ++ routine_faults env f.routine (param_ids f.params))

-- a procedure behind its name
abbrev pub procedure_faults : Env → RawProcedure → List Fault
procedure_faults outer f = vars_faults f.vars [] ++ inside_faults (with_vars outer f.vars) f

-- a declaration, behind these names of priorities, so many pairs and these names of procedures
abbrev pub declared_faults : Env → Declaration → List ℕ → ℕ → List ℕ → List Fault
declared_faults env (priority n) names pairs called = again_faults n names most_priorities Priorities
declared_faults env (order at m n) names pairs called = room_faults at pairs most_pairs Pairs ++ (prio_faults env m ++ prio_faults env n)
declared_faults env (procedure f) names pairs called = again_faults f.name called most_procedures Procedures ++ procedure_faults env f

-- a declaration, behind those before it
abbrev pub decl_faults : Env → Declaration → List Declaration → List Fault
decl_faults env d before = declared_faults env d (priorities before) (pairs_in before) (procedures before)

-- declarations, behind those before them
abbrev pub decls_faults : Env → List Declaration → List Declaration → List Fault
decls_faults env [] before = []
decls_faults env (d ∷ ds) before = decl_faults env d before ++ decls_faults env ds (before ++ d ∷ [])

abbrev pub main_faults : Env → RawRoutine → List Fault
main_faults env m = routine_faults env m []

-- the faults of a program. Priorities and procedures are known wherever in the text they are declared
abbrev pub faults : RawTree → List Fault
faults p = decls_faults (env_of p.decls) p.decls [] ++ main_faults (env_of p.decls) p.main
