-- Programs whose names, variables and priorities are in scope, and which keep the limits.
use Rattle.std.specs.Prelude.{◌≡◌, ℕ, ◌+◌, ◌<◌, ◌≤◌, List, [], ◌∷◌, length}
use Rattle.std.specs.List.{All}
use Rattle.priml_syntax.specs.declared.prio.Prio.{Prio}
use Rattle.priml_syntax.specs.declared.prio.Prio.TheVariants.{Const, Var}
use Rattle.priml_syntax.specs.Tree.{Type', unit, bool, int, pair, sum, thread, Term, var, number, bool_term, unit_term, pair_term, first, second, left, right, binary, negated, Code, block, Body, bind, ret_tail, if_tail, case_tail, Act, ret, spawn, sync, call, do_block, input, output, Constraint, Routine, Tree, Declared}
use Rattle.priml_syntax.specs.Size.{type_nodes}
use Rattle.priml_syntax.specs.Limits.{most_priorities, most_pairs, most_procedures, most_nodes, most_in_scope, most_priority_variables, most_constraints, most_parameters}

-- how many priorities are declared, how many priority variables there are, and how many procedures
pub record NameCounts : Type 0 where
  pub prios : ℕ
  pub vars : ℕ
  pub procs : ℕ

-- a declared priority, or a variable of the procedure
abbrev pub PrioIn : NameCounts → Prio → Type 0
PrioIn s (Const a) = a < s.prios
PrioIn s (Var v) = v < s.vars

-- so is each of these priorities
abbrev pub PriosIn : NameCounts → List Prio → Type 0
PriosIn s [] = Unit {0}
PriosIn s (p ∷ ps) = PrioIn s p × PriosIn s ps

-- each priority in the type is in scope
abbrev pub TypeIn : NameCounts → Type' → Type 0
TypeIn s unit = Unit {0}
TypeIn s bool = Unit {0}
TypeIn s int = Unit {0}
TypeIn s (pair a b) = TypeIn s a × TypeIn s b
TypeIn s (sum a b) = TypeIn s a × TypeIn s b
TypeIn s (thread p a) = PrioIn s p × TypeIn s a

-- a type as it is written: in scope, and not too large
abbrev pub Written : NameCounts → Type' → Type 0
Written s t = TypeIn s t × (type_nodes t ≤ most_nodes)

-- each variable is one of the n in scope, and each type is in scope as it is written
abbrev pub TermIn : NameCounts → ℕ → Term → Type 0
TermIn s n (var at x) = x < n
TermIn s n (number at z) = Unit {0}
TermIn s n (bool_term at b) = Unit {0}
TermIn s n (unit_term at) = Unit {0}
TermIn s n (pair_term at a b) = TermIn s n a × TermIn s n b
TermIn s n (first at a) = TermIn s n a
TermIn s n (second at a) = TermIn s n a
TermIn s n (left at t a) = Written s t × TermIn s n a
TermIn s n (right at t a) = Written s t × TermIn s n a
TermIn s n (binary at op a b) = TermIn s n a × TermIn s n b
TermIn s n (negated at a) = TermIn s n a

-- so is each of these expressions
abbrev pub TermsIn : NameCounts → ℕ → List Term → Type 0
TermsIn s n [] = Unit {0}
TermsIn s n (e ∷ es) = TermIn s n e × TermsIn s n es

abbrev mutual
  -- a block with n variables in scope at its beginning
  pub CodeIn : Code → NameCounts → ℕ → Type 0
  CodeIn (block at b) s n = BodyIn b s n

  -- what is left of a block; nowhere are too many variables in scope
  pub BodyIn : Body → NameCounts → ℕ → Type 0
  BodyIn (bind at a rest) s n = ActIn a s n × (n < most_in_scope) × BodyIn rest s (n + 1)
  BodyIn (ret_tail at e) s n = TermIn s n e
  BodyIn (if_tail at e a b) s n = TermIn s n e × CodeIn a s n × CodeIn b s n
  BodyIn (case_tail at e a b) s n = TermIn s n e × (n < most_in_scope) × CodeIn a s (n + 1) × CodeIn b s (n + 1)

  -- an action: variables, priorities and procedures are in scope
  pub ActIn : Act → NameCounts → ℕ → Type 0
  ActIn (ret e) s n = TermIn s n e
  ActIn (spawn q c) s n = PrioIn s q × CodeIn c s n
  ActIn (sync x) s n = x < n
  ActIn (call f ps es) s n = (f < s.procs) × PriosIn s ps × TermsIn s n es
  ActIn (do_block c) s n = CodeIn c s n
  ActIn input s n = Unit {0}
  ActIn (output e) s n = TermIn s n e

-- the scope of a procedure of the program
abbrev pub scope_in : Tree → Routine → NameCounts
scope_in p f = record { prios = length p.names; vars = f.declares.vars; procs = length p.procs }

-- a procedure that keeps its limits, with all that it names in scope
pub record RoutineIn (p : Tree) (f : Routine) : Type 0 where
  pub vars : f.declares.vars ≤ most_priority_variables
  pub few_given : length f.declares.given ≤ most_constraints
  pub given : All (λ (c : Constraint). PrioIn (scope_in p f) c.0 × PrioIn (scope_in p f) c.1) f.declares.given
  pub few_params : length f.declares.params ≤ most_parameters
  pub params : All (Written (scope_in p f)) f.declares.params
  pub own : PrioIn (scope_in p f) f.declares.own
  pub gives : Written (scope_in p f) f.declares.gives
  pub body : CodeIn f.body (scope_in p f) (length f.declares.params)

-- a main has no variables, constraints or parameters
pub record MainIn (p : Tree) (f : Routine) : Type 0 where
  pub routine : RoutineIn p f
  pub no_vars : f.declares.vars ≡ 0
  pub no_given : f.declares.given ≡ []
  pub no_params : f.declares.params ≡ []

-- the most that a program may have of each
pub record Limits : Type 0 where
  pub names : ℕ
  pub pairs : ℕ
  pub procs : ℕ
  pub mains : ℕ

-- the limits of a program
abbrev pub limits : Limits
limits = record { names = most_priorities; pairs = most_pairs; procs = most_procedures; mains = 1 }

-- the program has at most so many of each, and at least one main
pub record KeepsLimits (most : Limits) (p : Tree) : Type 0 where
  pub names : length p.names ≤ most.names
  pub pairs : length p.declared ≤ most.pairs
  pub procs : length p.procs ≤ most.procs
  pub some_main : 0 < length p.mains
  pub mains : length p.mains ≤ most.mains

-- what the reader promises of a program, and the checker asks
pub record IsScoped (p : Tree) : Type 0 where
  pub keeps : KeepsLimits limits p
  pub pairs : All (λ (d : Declared). (d.pair.0 < length p.names) × (d.pair.1 < length p.names)) p.declared
  pub procs : All (RoutineIn p) p.procs
  pub mains : All (MainIn p) p.mains
