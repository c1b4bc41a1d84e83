-- What a name stands for among the names of its kind. A name is known by its number among the distinct names of the text.
use Rattle.std.specs.Prelude.{ℕ, ◌+◌, ◌==◌, Bool, List, [], ◌∷◌, map, Option, Some, None, is_some, unwrap_or, if◌then◌else◌}
use Rattle.priml_syntax.specs.declared.prio.Prio.{Prio}
use Rattle.priml_syntax.specs.declared.prio.Prio.TheVariants.{Const, Var}
use Rattle.source_grammar.specs.declared.raw.Name.{Name}
use Rattle.source_grammar.specs.RawTree.{Declaration, priority, order, procedure, Parameter}

-- the place of the last of the names that is this one, 0 for the first name: a later name hides an earlier one
abbrev pub lookup : ℕ → List ℕ → Option ℕ
lookup name [] = None
lookup name (x ∷ xs) = elim (lookup name xs) [ None ↦ if x == name then Some 0 else None | Some k ↦ Some (k + 1) ]

-- a place as a number, where there is one
abbrev pub number_of : Option ℕ → ℕ
number_of place = unwrap_or place 0

-- the same of a name
abbrev pub place_of : ℕ → List ℕ → ℕ
place_of name names = number_of (lookup name names)

-- whether the name is one of them
abbrev pub is_among : ℕ → List ℕ → Bool
is_among name names = is_some (lookup name names)

-- the names that are declared as priorities, in order
abbrev pub priorities : List Declaration → List ℕ
priorities [] = []
priorities (priority n ∷ ds) = n.id ∷ priorities ds
priorities (order at m n ∷ ds) = priorities ds
priorities (procedure f ∷ ds) = priorities ds

-- the names that are declared as procedures, in order
abbrev pub procedures : List Declaration → List ℕ
procedures [] = []
procedures (priority n ∷ ds) = procedures ds
procedures (order at m n ∷ ds) = procedures ds
procedures (procedure f ∷ ds) = f.name.id ∷ procedures ds

-- how many pairs are declared
abbrev pub pairs_in : List Declaration → ℕ
pairs_in [] = 0
pairs_in (priority n ∷ ds) = pairs_in ds
pairs_in (order at m n ∷ ds) = 1 + pairs_in ds
pairs_in (procedure f ∷ ds) = pairs_in ds

-- the numbers of names
abbrev pub ids : List Name → List ℕ
ids ns = map (λ (n : Name). n.id) ns

-- the names of parameters
abbrev pub param_ids : List Parameter → List ℕ
param_ids ps = map (λ (p : Parameter). p.name.id) ps

-- what the names of priorities and procedures stand for where a block stands: the place of the declared priority of a name, the priority
-- variables of the procedure, which hide declared priorities, and the place of the procedure of a name
pub record Env : Type 0 where
  pub prios : ℕ → Option ℕ
  pub vars : List ℕ
  pub procs : ℕ → Option ℕ

-- the priority of a name, where a variable of the procedure hides a declared one
abbrev pub prio_named : Option ℕ → Option ℕ → Option Prio
prio_named (Some v) declared = Some (Var v)
prio_named None (Some a) = Some (Const a)
prio_named None None = None

abbrev pub prio_in : Env → ℕ → Option Prio
prio_in env id = prio_named (lookup id env.vars) (env.prios id)

-- the same as a priority, where there is one
abbrev pub prio_of : Env → ℕ → Prio
prio_of env id = unwrap_or (prio_in env id) (Const 0)

-- the names of a program's declarations, outside its procedures
abbrev pub env_of : List Declaration → Env
env_of ds = record { prios = λ id. lookup id (priorities ds); vars = []; procs = λ id. lookup id (procedures ds) }

-- inside a procedure with these priority variables
abbrev pub with_vars : Env → List Name → Env
with_vars env ns = record { prios = env.prios; vars = ids ns; procs = env.procs }
