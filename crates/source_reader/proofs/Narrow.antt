-- Places that are kept as numbers of u32: no fault is another, and where the limits are kept each place is as it was.
use Rattle.std.proofs.Common.{◌≡◌, ℕ, ◌+◌, ◌<◌, ◌≤◌, is_some, nat_le, Option, Some, None, List, [], ◌∷◌, ◌++◌, length, arith, refl, ap, ap₂}
use Rattle.source_grammar.specs.declared.raw.Name.{Name}
use Rattle.source_grammar.specs.RawTree.{RawType, unit, bool, int, pair, sum, thread, WrittenType, RawTerm, var, number, bool_term, unit_term, pair_term, first, second, left, right, binary, negated, RawCode, block, RawBody, bind, ret_tail, if_tail, case_tail, RawAct, ret, spawn, sync, call, do_block, input, output, Parameter, RawProcedure, Declaration, priority, order, procedure, RawRoutine}
use Rattle.source_reader.specs.declared.faults.Fault.{Fault}
use Rattle.source_reader.specs.declared.faults.Fault.TheVariants.{UnknownName, TooMany}
use Rattle.source_reader.specs.declared.faults.What.TheVariants.{Pairs, Procedures, Constraints, Parameters, TypeNodes}
use Rattle.source_reader.specs.Names.{lookup, priorities, procedures, pairs_in, param_ids, Env, prio_named, env_of, with_vars}
use Rattle.source_reader.specs.Faults.{unless, prio_faults, prios_faults, proc_faults, room_faults, again_faults, raw_nodes, type_faults, written_faults, term_faults, terms_faults, scope_faults, code_faults, body_faults, act_faults, vars_faults, givens_faults, params_faults, procedure_faults, decl_faults, decls_faults, main_faults}
use Rattle.source_reader.specs.Inside.Narrow.{narrow, narrowed}
use Rattle.source_reader.proofs.Lookup.{lookup_within}
use Rattle.source_reader.proofs.Tables.{Few}

known_narrow : (o : Option ℕ) → is_some (narrow o) ≡ is_some o
known_narrow None = refl
known_narrow (Some k) = refl

named_narrow : (v d : Option ℕ) → is_some (prio_named v (narrow d)) ≡ is_some (prio_named v d)
named_narrow (Some v) None = refl
named_narrow (Some v) (Some k) = refl
named_narrow None None = refl
named_narrow None (Some k) = refl

join : {a b x y : List Fault} → a ≡ x → b ≡ y → a ++ b ≡ x ++ y
join p q = ap₂ (λ u v. u ++ v) p q

behind : {b y : List Fault} (a : List Fault) → b ≡ y → a ++ b ≡ a ++ y
behind a q = ap (λ v. a ++ v) q

module _ (env : Env) where
  prio_same : (n : Name) → prio_faults (narrowed env) n ≡ prio_faults env n
  prio_same n = ap (λ b. unless b (UnknownName n.at)) (named_narrow (lookup n.id env.vars) (env.prios n.id))

  prios_same : (ns : List Name) → prios_faults (narrowed env) ns ≡ prios_faults env ns
  prios_same [] = refl
  prios_same (n ∷ ns) = join (prio_same n) (prios_same ns)

  proc_same : (n : Name) → proc_faults (narrowed env) n ≡ proc_faults env n
  proc_same n = ap (λ b. unless b (UnknownName n.at)) (known_narrow (env.procs n.id))

  type_same : (t : RawType) → type_faults (narrowed env) t ≡ type_faults env t
  type_same unit = refl
  type_same bool = refl
  type_same int = refl
  type_same (pair a b) = join (type_same a) (type_same b)
  type_same (sum a b) = join (type_same a) (type_same b)
  type_same (thread p a) = join (prio_same p) (type_same a)

  written_same : (w : WrittenType) → written_faults (narrowed env) w ≡ written_faults env w
  written_same w = behind (unless (nat_le (raw_nodes w.ty) 16) (TooMany w.at TypeNodes)) (type_same w.ty)

  term_same : (t : RawTerm) (scope : List ℕ) → term_faults (narrowed env) t scope ≡ term_faults env t scope
  term_same (var at id) scope = refl
  term_same (number at n) scope = refl
  term_same (bool_term at b) scope = refl
  term_same (unit_term at) scope = refl
  term_same (pair_term at a b) scope = join (term_same a scope) (term_same b scope)
  term_same (first at a) scope = term_same a scope
  term_same (second at a) scope = term_same a scope
  term_same (left at w a) scope = join (written_same w) (term_same a scope)
  term_same (right at w a) scope = join (written_same w) (term_same a scope)
  term_same (binary at op a b) scope = join (term_same a scope) (term_same b scope)
  term_same (negated at a) scope = term_same a scope

  terms_same : (es : List RawTerm) (scope : List ℕ) → terms_faults (narrowed env) es scope ≡ terms_faults env es scope
  terms_same [] scope = refl
  terms_same (e ∷ es) scope = join (term_same e scope) (terms_same es scope)

  mutual
    code_same : (c : RawCode) (scope : List ℕ) → code_faults c (narrowed env) scope ≡ code_faults c env scope
    code_same (block at b) scope = body_same b scope

    body_same : (b : RawBody) (scope : List ℕ) → body_faults b (narrowed env) scope ≡ body_faults b env scope
    body_same (bind n at a rest) scope = behind (scope_faults n scope) (join (act_same a scope) (body_same rest (scope ++ n.id ∷ [])))
    body_same (ret_tail at e) scope = term_same e scope
    body_same (if_tail at e a b) scope = join (term_same e scope) (join (code_same a scope) (code_same b scope))
    body_same (case_tail at e m a n b) scope =
        join (term_same e scope) (join (behind (scope_faults m scope) (code_same a (scope ++ m.id ∷ []))) (behind (scope_faults n scope) (code_same b (scope ++ n.id ∷ []))))

    act_same : (a : RawAct) (scope : List ℕ) → act_faults a (narrowed env) scope ≡ act_faults a env scope
    act_same (ret e) scope = term_same e scope
    act_same (spawn p b) scope = join (prio_same p) (code_same b scope)
    act_same (sync h) scope = refl
    act_same (call f ps es) scope = join (proc_same f) (join (prios_same ps) (terms_same es scope))
    act_same (do_block b) scope = code_same b scope
    act_same input scope = refl
    act_same (output e) scope = term_same e scope

  givens_same : (gs : List (Name × Name)) (before : ℕ) → givens_faults (narrowed env) gs before ≡ givens_faults env gs before
  givens_same [] before = refl
  givens_same (g ∷ gs) before = join (join (prio_same g.0) (behind (room_faults g.0.at before 16 Constraints) (prio_same g.1))) (givens_same gs (before + 1))

  params_same : (ps : List Parameter) (before : List ℕ) → params_faults (narrowed env) ps before ≡ params_faults env ps before
  params_same [] before = refl
  params_same (p ∷ ps) before = join (behind (again_faults p.name before 8 Parameters) (written_same p.ty)) (params_same ps (before ++ p.name.id ∷ []))

  pub main_same : (m : RawRoutine) → main_faults (narrowed env) m ≡ main_faults env m
  main_same m = join (prio_same m.own) (join (written_same m.result) (code_same m.body []))

procedure_same : (outer : Env) (f : RawProcedure) → procedure_faults (narrowed outer) f ≡ procedure_faults outer f
procedure_same outer f =
    let env = with_vars outer f.vars in
    behind (vars_faults f.vars [])
    (join (givens_same env f.given 0) (join (params_same env f.params []) (join (prio_same env f.routine.own) (join (written_same env f.routine.result) (code_same env f.routine.body (param_ids f.params))))))

decl_same : (env : Env) (d : Declaration) (before : List Declaration) → decl_faults (narrowed env) d before ≡ decl_faults env d before
decl_same env (priority n) before = refl
decl_same env (order at m n) before = behind (room_faults at (pairs_in before) 256 Pairs) (join (prio_same env m) (prio_same env n))
decl_same env (procedure f) before = behind (again_faults f.name (procedures before) 256 Procedures) (procedure_same env f)

pub decls_same : (env : Env) (ds before : List Declaration) → decls_faults (narrowed env) ds before ≡ decls_faults env ds before
decls_same env [] before = refl
decls_same env (d ∷ ds) before = join (decl_same env d before) (decls_same env ds (before ++ d ∷ []))

-- the place of one of few names fits a u32
small : (o : Option ℕ) (l : ℕ) → ((k : ℕ) → o ≡ Some k → k < l) → l ≤ 256 → narrow o ≡ o
small None l h few = refl
small (Some k) l h few = let b = h k refl in ap Some (omega (arith, b, few))

place_same : (xs : List ℕ) (id : ℕ) → length xs ≤ 256 → narrow (lookup id xs) ≡ lookup id xs
place_same xs id few = small (lookup id xs) (length xs) (λ k q. lookup_within xs id k q) few

pub env_same : (ds : List Declaration) → Few ds → narrowed (env_of ds) ≡ env_of ds
env_same ds few =
    let names = few.names in
    let a : (id : ℕ) → narrow (lookup id (priorities ds)) ≡ lookup id (priorities ds) = λ id. place_same (priorities ds) id (omega (arith, names)) in
    let b : (id : ℕ) → narrow (lookup id (procedures ds)) ≡ lookup id (procedures ds) = λ id. place_same (procedures ds) id few.procs in
    λ i. record { prios = λ id. a id i; vars = []; procs = λ id. b id i }
