-- What a program without faults means is in scope: procedures, and the whole.
use Rattle.std.proofs.Common.{◌≡◌, ℕ, ◌+◌, ◌<◌, ◌≤◌, true, is_some, Option, Some, None, unwrap_or, get_or, List, [], ◌∷◌, ◌++◌, length, map, arith, sym, refl, subst, ◌∙◌}
use Rattle.std.specs.List.{All}
use Rattle.std.proofs.lemmas.List.{length-append, length-map}
use Rattle.std.proofs.lemmas.List.Elements.{All-nil, All-cons}
use Rattle.priml_syntax.specs.Tree.{Constraint, Declared, Tree}
use Rattle.priml_syntax.specs.Scoped as scoped
use Rattle.priml_syntax.specs.Scoped.{PrioIn, Written, CodeIn, scope_in, RoutineIn, MainIn, IsScoped}
use Rattle.source_grammar.specs.declared.raw.Name.{Name}
use Rattle.source_grammar.specs.RawTree.{Parameter, RawProcedure, Declaration, priority, order, procedure, RawTree}
use Rattle.source_reader.specs.declared.faults.Fault.TheVariants.{UnknownName}
use Rattle.source_reader.specs.declared.faults.What.{What}
use Rattle.source_reader.specs.declared.faults.What.TheVariants as what
use Rattle.source_reader.specs.Names.{lookup, param_ids, priorities, procedures, Env, env_of, with_vars, prio_named, prio_in, ids, number_of}
use Rattle.source_reader.specs.Faults.{prio_faults, room_faults, again_faults, written_faults, vars_faults, givens_faults, params_faults, procedure_faults, code_faults, decl_faults, decls_faults, main_faults, faults}
use Rattle.source_reader.specs.Resolved.{given_meant, param_meant, proc_meant, procs_meant, pairs_meant, main_meant, resolved}
use Rattle.source_reader.proofs.Lists.{no_faults, holds, has_room}
use Rattle.source_reader.proofs.Lookup.{lookup_within}
use Rattle.source_reader.proofs.Clean.{Places, prio_scoped, written_scoped, code_scoped}
use Rattle.source_reader.proofs.Tables.{few_declared, pairs_long, procs_long}

again_room : (n : Name) (before : List ℕ) (most : ℕ) (w : What) → again_faults n before most w ≡ [] → length before < most
again_room n before most w e = has_room n.at (length before) most w (no_faults _ (room_faults n.at (length before) most w) e).1

few_vars : (ns : List Name) (before : List ℕ) → vars_faults ns before ≡ [] → length before ≤ 8 → length before + length ns ≤ 8
few_vars [] before e few = omega (arith, few)
few_vars (n ∷ ns) before e few =
    let p = no_faults (again_faults n before 8 what.PrioVars) (vars_faults ns (before ++ n.id ∷ [])) e in
    let r = again_room n before 8 what.PrioVars p.0 in
    let l = length-append before (n.id ∷ []) in
    let h = few_vars ns (before ++ n.id ∷ []) p.1 (omega (arith, r, l)) in
    omega (arith, l, h)

few_givens : (env : Env) (gs : List (Name × Name)) (before : ℕ) → givens_faults env gs before ≡ [] → before ≤ 16 → before + length gs ≤ 16
few_givens env [] before e few = omega (arith, few)
few_givens env (g ∷ gs) before e few =
    let p = no_faults (prio_faults env g.0 ++ (room_faults g.0.at before 16 what.Constraints ++ prio_faults env g.1)) (givens_faults env gs (before + 1)) e in
    let q = no_faults (prio_faults env g.0) (room_faults g.0.at before 16 what.Constraints ++ prio_faults env g.1) p.0 in
    let r = has_room g.0.at before 16 what.Constraints (no_faults (room_faults g.0.at before 16 what.Constraints) (prio_faults env g.1) q.1).0 in
    let h = few_givens env gs (before + 1) p.1 (omega (arith, r)) in
    omega (arith, h)

abbrev InScope : scoped.NameCounts → Constraint → Type 0
InScope s c = PrioIn s c.0 × PrioIn s c.1

givens_scoped : (s : scoped.NameCounts) (env : Env) → Places s env → (gs : List (Name × Name)) (before : ℕ) → givens_faults env gs before ≡ [] → All (InScope s) (map (given_meant env) gs)
givens_scoped s env places [] before e = All-nil (InScope s)
givens_scoped s env places (g ∷ gs) before e =
    let p = no_faults (prio_faults env g.0 ++ (room_faults g.0.at before 16 what.Constraints ++ prio_faults env g.1)) (givens_faults env gs (before + 1)) e in
    let q = no_faults (prio_faults env g.0) (room_faults g.0.at before 16 what.Constraints ++ prio_faults env g.1) p.0 in
    let r = no_faults (room_faults g.0.at before 16 what.Constraints) (prio_faults env g.1) q.1 in
    All-cons (InScope s) (given_meant env g) (map (given_meant env) gs) (prio_scoped s env places g.0 q.0, prio_scoped s env places g.1 r.1) (givens_scoped s env places gs (before + 1) p.1)

few_params : (env : Env) (ps : List Parameter) (before : List ℕ) → params_faults env ps before ≡ [] → length before ≤ 8 → length before + length ps ≤ 8
few_params env [] before e few = omega (arith, few)
few_params env (x ∷ ps) before e few =
    let p = no_faults (again_faults x.name before 8 what.Parameters ++ written_faults env x.ty) (params_faults env ps (before ++ x.name.id ∷ [])) e in
    let q = no_faults (again_faults x.name before 8 what.Parameters) (written_faults env x.ty) p.0 in
    let r = again_room x.name before 8 what.Parameters q.0 in
    let l = length-append before (x.name.id ∷ []) in
    let h = few_params env ps (before ++ x.name.id ∷ []) p.1 (omega (arith, r, l)) in
    omega (arith, l, h)

params_scoped : (s : scoped.NameCounts) (env : Env) → Places s env → (ps : List Parameter) (before : List ℕ) → params_faults env ps before ≡ [] → All (Written s) (map (param_meant env) ps)
params_scoped s env places [] before e = All-nil (Written s)
params_scoped s env places (x ∷ ps) before e =
    let p = no_faults (again_faults x.name before 8 what.Parameters ++ written_faults env x.ty) (params_faults env ps (before ++ x.name.id ∷ [])) e in
    let q = no_faults (again_faults x.name before 8 what.Parameters) (written_faults env x.ty) p.0 in
    All-cons (Written s) (param_meant env x) (map (param_meant env) ps) (written_scoped s env places x.ty q.1) (params_scoped s env places ps (before ++ x.name.id ∷ []) p.1)

proc_scoped : (p : Tree) (outer : Env) (f : RawProcedure) → Places (scope_in p (proc_meant outer f)) (with_vars outer f.vars) → procedure_faults outer f ≡ [] → RoutineIn p (proc_meant outer f)
proc_scoped p outer f places e =
    let env = with_vars outer f.vars in
    let s = scope_in p (proc_meant outer f) in
    let body = code_faults f.routine.body env (param_ids f.params) in
    let result = written_faults env f.routine.result ++ body in
    let own = prio_faults env f.routine.own ++ result in
    let params = params_faults env f.params [] ++ own in
    let a = no_faults (vars_faults f.vars []) (givens_faults env f.given 0 ++ params) e in
    let b = no_faults (givens_faults env f.given 0) params a.1 in
    let c = no_faults (params_faults env f.params []) own b.1 in
    let d = no_faults (prio_faults env f.routine.own) result c.1 in
    let r = no_faults (written_faults env f.routine.result) body d.1 in
    let vars = few_vars f.vars [] a.0 (omega arith) in
    let given = few_givens env f.given 0 b.0 (omega arith) in
    let few = few_params env f.params [] c.0 (omega arith) in
    let given_long = length-map f.given (given_meant env) in
    let params_long : length (map (param_meant env) f.params) ≡ length f.params = length-map f.params (param_meant env) in
    let ids_long : length (param_ids f.params) ≡ length f.params = length-map f.params (λ (x : Parameter). x.name.id) in
    record {
      vars = omega (arith, vars);
      few_given = omega (arith, given, given_long);
      given = givens_scoped s env places f.given 0 b.0;
      few_params = omega (arith, few, params_long);
      params = params_scoped s env places f.params [] c.0;
      own = prio_scoped s env places f.routine.own d.0;
      gives = written_scoped s env places f.routine.result r.0;
      body = subst (CodeIn (proc_meant outer f).body s) (ids_long ∙ sym params_long) (code_scoped s env places f.routine.body (param_ids f.params) r.1);
    }

procs_scoped : (p : Tree) (env : Env) → ((f : RawProcedure) → Places (scope_in p (proc_meant env f)) (with_vars env f.vars)) → (ds before : List Declaration) → decls_faults env ds before ≡ [] → All (RoutineIn p) (procs_meant env ds)
procs_scoped p env places [] before e = All-nil (RoutineIn p)
procs_scoped p env places (priority n ∷ ds) before e = procs_scoped p env places ds (before ++ priority n ∷ []) (no_faults (decl_faults env (priority n) before) _ e).1
procs_scoped p env places (order at m n ∷ ds) before e = procs_scoped p env places ds (before ++ order at m n ∷ []) (no_faults (decl_faults env (order at m n) before) _ e).1
procs_scoped p env places (procedure f ∷ ds) before e =
    let a = no_faults (decl_faults env (procedure f) before) (decls_faults env ds (before ++ procedure f ∷ [])) e in
    let b = no_faults (again_faults f.name (procedures before) 256 what.Procedures) (procedure_faults env f) a.0 in
    All-cons (RoutineIn p) (proc_meant env f) (procs_meant env ds) (proc_scoped p env f (places f) b.1) (procs_scoped p env places ds (before ++ procedure f ∷ []) a.1)

-- outside procedures a priority is a declared one
declared_below : (o : Option ℕ) (l : ℕ) → ((k : ℕ) → o ≡ Some k → k < l) → is_some (prio_named None o) ≡ true → unwrap_or o 0 < l
declared_below None l h e = absurd (cc)
declared_below (Some k) l h e = h k refl

place_below : (l : ℕ) (prios procs : ℕ → Option ℕ) → ((id k : ℕ) → prios id ≡ Some k → k < l) → (n : Name) → prio_faults (record { prios = prios; vars = []; procs = procs }) n ≡ [] → number_of (prios n.id) < l
place_below l prios procs below n e =
    let env : Env = record { prios = prios; vars = []; procs = procs } in
    declared_below (prios n.id) l (λ k q. below n.id k q) (holds (is_some (prio_in env n.id)) (UnknownName n.at) e)

abbrev PairIn : ℕ → Declared → Type 0
PairIn n d = (d.pair.0 < n) × (d.pair.1 < n)

pairs_scoped : (l : ℕ) (prios procs : ℕ → Option ℕ) → ((id k : ℕ) → prios id ≡ Some k → k < l) → (ds before : List Declaration) → decls_faults (record { prios = prios; vars = []; procs = procs }) ds before ≡ [] → All (PairIn l) (pairs_meant prios ds)
pairs_scoped l prios procs below [] before e = All-nil (PairIn l)
pairs_scoped l prios procs below (priority n ∷ ds) before e = pairs_scoped l prios procs below ds (before ++ priority n ∷ []) (no_faults (decl_faults (record { prios = prios; vars = []; procs = procs }) (priority n) before) _ e).1
pairs_scoped l prios procs below (order at m n ∷ ds) before e =
    let env : Env = record { prios = prios; vars = []; procs = procs } in
    let a = no_faults (decl_faults env (order at m n) before) (decls_faults env ds (before ++ order at m n ∷ [])) e in
    let b = no_faults (room_faults at _ 256 what.Pairs) (prio_faults env m ++ prio_faults env n) a.0 in
    let c = no_faults (prio_faults env m) (prio_faults env n) b.1 in
    All-cons (PairIn l) (record { at = at; pair = (number_of (prios m.id), number_of (prios n.id)) }) (pairs_meant prios ds) (place_below l prios procs below m c.0, place_below l prios procs below n c.1)
    (pairs_scoped l prios procs below ds (before ++ order at m n ∷ []) a.1)
pairs_scoped l prios procs below (procedure f ∷ ds) before e = pairs_scoped l prios procs below ds (before ++ procedure f ∷ []) (no_faults (decl_faults (record { prios = prios; vars = []; procs = procs }) (procedure f) before) _ e).1

-- places among names are below their number
below_as : (xs : List ℕ) (l : ℕ) → l ≡ length xs → (id k : ℕ) → lookup id xs ≡ Some k → k < l
below_as xs l e id k q = let h = lookup_within xs id k q in omega (arith, e, h)

pub resolved_scoped : (names : List (List ℕ)) (p : RawTree) → faults p ≡ [] → IsScoped (resolved names p)
resolved_scoped names p e =
    let ds = p.decls in
    let env = env_of ds in
    let tree = resolved names p in
    let main = main_meant env p.main in
    let parts = no_faults (decls_faults env ds []) (main_faults env p.main) e in
    let few = few_declared env ds parts.0 in
    let names_long : length tree.names ≡ length (priorities ds) = length-map (priorities ds) (λ id. get_or names id []) in
    let procs_same : length tree.procs ≡ length (procedures ds) = procs_long env ds in
    let here = no_faults (prio_faults env p.main.own) (written_faults env p.main.result ++ code_faults p.main.body env []) parts.1 in
    let there = no_faults (written_faults env p.main.result) (code_faults p.main.body env []) here.1 in
    let prios = below_as (priorities ds) (length tree.names) names_long in
    let procs = below_as (procedures ds) (length tree.procs) procs_same in
    let places : Places (scope_in tree main) env = record { prios = prios; vars = λ id k q. absurd (cc); procs = procs } in
    let in_proc : (f : RawProcedure) → Places (scope_in tree (proc_meant env f)) (with_vars env f.vars) =
    λ f. record { prios = prios; vars = below_as (ids f.vars) (length f.vars) (sym (length-map f.vars (λ (n : Name). n.id))); procs = procs } in
    let s = scope_in tree main in
    let routine : RoutineIn tree main = record {
      vars = omega arith;
      few_given = omega arith;
      given = All-nil (InScope s);
      few_params = omega arith;
      params = All-nil (Written s);
      own = prio_scoped s env places p.main.own here.0;
      gives = written_scoped s env places p.main.result there.0;
      body = code_scoped s env places p.main.body [] there.1;
    } in
    record {
      keeps = record { names = omega (arith, names_long, few.names); pairs = omega (arith, pairs_long env.prios ds, few.pairs); procs = omega (arith, procs_same, few.procs); some_main = omega arith; mains = omega arith };
      pairs = pairs_scoped (length tree.names) env.prios env.procs prios ds [] parts.0;
      procs = procs_scoped tree env in_proc ds [] parts.0;
      mains = All-cons (MainIn tree) main [] (record { routine = routine; no_vars = refl; no_given = refl; no_params = refl }) (All-nil (MainIn tree));
    }
