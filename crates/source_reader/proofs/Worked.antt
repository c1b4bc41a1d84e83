-- Worked cases of what names mean, and of the faults of names and limits.
use Rattle.std.proofs.Common.{◌≡◌, ℕ, List, [], ◌∷◌, ◌++◌, map, refl}
use Rattle.std.specs.Prelude.{pos, codes}
use Rattle.priml_syntax.specs.declared.prio.Prio.TheVariants.{Const, Var}
use Rattle.priml_syntax.specs.Tree as tree
use Rattle.priml_syntax.specs.Tree.{Tree, Code, Routine}
use Rattle.source_grammar.specs.declared.raw.Name.{Name}
use Rattle.source_grammar.specs.RawTree.{RawType, int, pair, thread, WrittenType, var, number, block, RawBody, bind, ret_tail, case_tail, ret, spawn, sync, call, Parameter, Declaration, priority, order, procedure, RawTree}
use Rattle.source_reader.specs.declared.faults.Fault.{Fault}
use Rattle.source_reader.specs.declared.faults.Fault.TheVariants.{UnknownName, TwiceNamed, TooMany}
use Rattle.source_reader.specs.declared.faults.What.TheVariants.{Priorities, PrioVars, Constraints, Parameters, Scope, TypeNodes}
use Rattle.source_reader.specs.Faults.{faults}
use Rattle.source_reader.specs.Resolved.{resolved}

abbrev name : ℕ → ℕ → Name
name at id = record { at = at; id = id }

abbrev written : ℕ → RawType → WrittenType
written at ty = record { at = at; ty = ty }

abbrev param : ℕ → ℕ → Parameter
param at id = record { name = name at id; ty = written 900 int }

-- the program of these declarations whose main, at the priority of the name 0, has this body
abbrev program : List Declaration → RawBody → RawTree
program ds body = record { decls = ds; main = record { at = 1000; own = name 1008 0; result = written 1012 int; body = block 1016 body } }

abbrev one : List Declaration
one = priority (name 9 0) ∷ []

-- a procedure of the name 50 at the own priority of this name
abbrev proc : List Name → List (Name × Name) → List Parameter → Name → RawBody → Declaration
proc vars given params own body = procedure (record { name = name 500 50; vars = vars; given = given; params = params; routine = record { at = 501; own = own; result = written 502 int; body = block 503 body } })

abbrev number_one : RawBody
number_one = ret_tail 600 (number 601 1)

abbrev body_in : Tree → List Code
body_in p = map (λ (f : Routine). f.body) p.mains

-- `priority bg; priority ui; order bg < ui; main at bg : int { h <- spawn[ui] { ret 5 }; x <- sync h; ret x }`
abbrev spawning : RawTree
spawning =
    program (priority (name 9 0) ∷ priority (name 22 1) ∷ order 26 (name 32 0) (name 37 1) ∷ [])
    (bind (name 60 2) 65 (spawn (name 71 1) (block 75 (ret_tail 77 (number 81 5)))) (bind (name 86 3) 91 (sync (name 96 2)) (ret_tail 99 (var 103 3))))

no_fault : faults spawning ≡ []
no_fault = refl

abbrev spelled : List (List ℕ)
spelled = codes "bg" ∷ codes "ui" ∷ codes "h" ∷ codes "x" ∷ []

abbrev spawning_meant : Tree
spawning_meant = record {
  names = codes "bg" ∷ codes "ui" ∷ [];
  declared = record { at = 26; pair = (0, 1) } ∷ [];
  procs = [];
  mains = record {
    at = 1000;
    declares = record { vars = 0; given = []; params = []; own = Const 0; gives = tree.int };
    body = tree.block 1016 (tree.bind 65 (tree.spawn (Const 1) (tree.block 75 (tree.ret_tail 77 (tree.number 81 (pos 5))))) (tree.bind 91 (tree.sync 0) (tree.ret_tail 99 (tree.var 103 1))));
  } ∷ [];
}

meant : resolved spelled spawning ≡ spawning_meant
meant = refl

-- `{ x <- ret 1; x <- ret x; ret x }`: the action of the second x sees the first, the ending sees the second
hidden : body_in (resolved [] (program one (bind (name 1 5) 2 (ret (number 3 1)) (bind (name 4 5) 5 (ret (var 6 5)) (ret_tail 7 (var 8 5)))))) ≡
    tree.block 1016 (tree.bind 2 (tree.ret (tree.number 3 (pos 1))) (tree.bind 5 (tree.ret (tree.var 6 0)) (tree.ret_tail 7 (tree.var 8 1)))) ∷ []
hidden = refl

-- `{ h <- spawn[p] { y <- ret 1; ret y }; ret y }`
out_of_scope : faults (program one (bind (name 1 5) 2 (spawn (name 3 0) (block 4 (bind (name 5 6) 6 (ret (number 7 1)) (ret_tail 8 (var 9 6))))) (ret_tail 10 (var 11 6)))) ≡ UnknownName 11 ∷ []
out_of_scope = refl

-- `case x inl a { ret a } inr b { ret a }`: the variable of one branch is unknown in the other
branches : faults (program one (bind (name 1 5) 2 (ret (number 3 1)) (case_tail 4 (var 5 5) (name 6 6) (block 7 (ret_tail 8 (var 9 6))) (name 10 7) (block 11 (ret_tail 12 (var 13 6)))))) ≡ UnknownName 13 ∷ []
branches = refl

-- a priority is declared wherever its declaration stands, also behind its use
behind : faults (program (order 1 (name 2 0) (name 3 4) ∷ priority (name 4 4) ∷ priority (name 5 0) ∷ []) number_one) ≡ []
behind = refl

-- a variable is no priority, and a priority no variable
other_kind : faults (program one (bind (name 1 5) 2 (ret (var 3 0)) (bind (name 4 6) 5 (spawn (name 6 5) (block 7 (ret_tail 8 (number 9 1)))) (ret_tail 10 (number 11 1))))) ≡ UnknownName 3 ∷ UnknownName 6 ∷ []
other_kind = refl

-- `priority p; priority p;`, and an order of two unknown names
twice : faults (program (priority (name 1 0) ∷ priority (name 2 0) ∷ order 3 (name 4 7) (name 5 8) ∷ []) number_one) ≡ TwiceNamed 2 ∷ UnknownName 4 ∷ UnknownName 5 ∷ []
twice = refl

-- `priority p; proc f[q, p; p <= q](x : int) at p : int { y <- call f[p, q](x); ret y }`: the variables hide the declared priority, parameters are the
-- outermost variables, and a procedure may call itself
abbrev calling : RawTree
calling =
    program (priority (name 9 0) ∷ proc (name 10 1 ∷ name 11 0 ∷ []) ((name 12 0, name 13 1) ∷ []) (param 14 2 ∷ []) (name 15 0)
    (bind (name 16 3) 17 (call (name 18 50) (name 19 0 ∷ name 20 1 ∷ []) (var 21 2 ∷ [])) (ret_tail 22 (var 23 3))) ∷ []) number_one

calling_clean : faults calling ≡ []
calling_clean = refl

abbrev procs_in : Tree → List Routine
procs_in p = p.procs

calling_meant : procs_in (resolved [] calling) ≡ record {
  at = 501;
  declares = record { vars = 2; given = (Var 1, Var 0) ∷ []; params = tree.int ∷ []; own = Var 1; gives = tree.int };
  body = tree.block 503 (tree.bind 17 (tree.call 0 (Var 1 ∷ Var 0 ∷ []) (tree.var 21 0 ∷ [])) (tree.ret_tail 22 (tree.var 23 1)));
} ∷ []
calling_meant = refl

-- priority variables are unknown behind the procedure, and the own priority of a main is a declared one
gone : faults (program (proc (name 10 0 ∷ []) [] [] (name 11 0) number_one ∷ order 12 (name 13 0) (name 14 0) ∷ []) number_one) ≡ UnknownName 13 ∷ UnknownName 14 ∷ UnknownName 1008 ∷ []
gone = refl

-- a procedure is called where it is declared, and is no variable
uncalled : faults (program one (bind (name 1 5) 2 (call (name 3 50) (name 4 7 ∷ []) (var 5 50 ∷ [])) number_one)) ≡ UnknownName 3 ∷ UnknownName 4 ∷ UnknownName 5 ∷ []
uncalled = refl

-- a parameter of a name that stands already; the name of a priority variable may be that of a parameter
parameters_twice : faults (program (priority (name 9 0) ∷ proc (name 10 2 ∷ []) [] (param 11 2 ∷ param 12 2 ∷ []) (name 13 0) number_one ∷ []) number_one) ≡ TwiceNamed 12 ∷ []
parameters_twice = refl

abbrev eight : List ℕ
eight = 100 ∷ 101 ∷ 102 ∷ 103 ∷ 104 ∷ 105 ∷ 106 ∷ 107 ∷ []

abbrev names : List ℕ → List Name
names = map (λ id. name id id)

abbrev params : List ℕ → List Parameter
params = map (λ id. param id id)

nine : faults (program (priority (name 9 0) ∷ proc (names (eight ++ 108 ∷ [])) [] (params (eight ++ 109 ∷ [])) (name 13 0) number_one ∷ []) number_one) ≡ TooMany 108 PrioVars ∷ TooMany 109 Parameters ∷ []
nine = refl

-- constraints with the first and the second name at these places
abbrev givens : List (ℕ × ℕ) → List (Name × Name)
givens = map (λ (p : ℕ × ℕ). (name p.0 0, name p.1 0))

abbrev sixteen : List ℕ
sixteen = 0 ∷ 1 ∷ 2 ∷ 3 ∷ 4 ∷ 5 ∷ 6 ∷ 7 ∷ 8 ∷ 9 ∷ 10 ∷ 11 ∷ 12 ∷ 13 ∷ 14 ∷ 15 ∷ []

-- the 17th has its fault at its first name
constraints : faults (program (priority (name 9 0) ∷ proc [] (givens (map (λ n. (n, 1)) sixteen) ++ (name 70 0, name 71 7) ∷ []) [] (name 13 0) number_one ∷ []) number_one) ≡ TooMany 70 Constraints ∷ UnknownName 71 ∷ []
constraints = refl

-- a type of 16 nodes, and one of 17, with its unknown priorities
abbrev nodes : ℕ → RawType
nodes at = pair (pair (pair int int) (pair int int)) (pair (pair int int) (pair int (thread (name at 7) int)))

-- the faults of a program with a procedure that has this result type
abbrev result_faults : WrittenType → List Fault
result_faults w = faults (program (priority (name 9 0) ∷ procedure (record { name = name 500 50; vars = name 1 7 ∷ []; given = []; params = []; routine = record { at = 501; own = name 502 0; result = w; body = block 503 number_one } }) ∷ []) number_one)

wide_type : result_faults (written 30 (nodes 31)) ≡ []
wide_type = refl

too_wide_type : result_faults (written 30 (thread (name 32 8) (nodes 33))) ≡ TooMany 30 TypeNodes ∷ UnknownName 32 ∷ []
too_wide_type = refl

abbrev all_declared : List ℕ → List Declaration
all_declared = map (λ id. priority (name id id))

full : faults (program (all_declared sixteen) number_one) ≡ []
full = refl

-- the 17th, and at one place the smaller number first
overfull : faults (program (all_declared (sixteen ++ 16 ∷ [])) number_one) ≡ TooMany 16 Priorities ∷ []
overfull = refl

overfull_twice : faults (program (all_declared (sixteen ++ 7 ∷ [])) number_one) ≡ TwiceNamed 7 ∷ TooMany 7 Priorities ∷ []
overfull_twice = refl

-- one variable for each name, hidden ones too
abbrev all_bound : List ℕ → RawBody
all_bound [] = number_one
all_bound (id ∷ ids) = bind (name id 5) 3 (ret (number 4 1)) (all_bound ids)

wide : faults (program one (all_bound (sixteen ++ sixteen))) ≡ []
wide = refl

too_wide : faults (program one (all_bound (sixteen ++ sixteen ++ 99 ∷ []))) ≡ TooMany 99 Scope ∷ []
too_wide = refl
