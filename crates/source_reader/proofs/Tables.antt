-- Laws of lists of declarations.
use Rattle.std.proofs.Common.{Option, ◌≡◌, ℕ, ◌+◌, ◌≤◌, List, [], ◌∷◌, ◌++◌, length, append_assoc, append-nil, arith, sym, refl, ap, subst}
use Rattle.std.proofs.lemmas.List.{length-append}
use Rattle.priml_syntax.specs.Tree.{Declared}
use Rattle.source_grammar.specs.RawTree.{Declaration, priority, order, procedure}
use Rattle.source_reader.specs.declared.faults.What.TheVariants.{Priorities, Pairs, Procedures}
use Rattle.source_reader.specs.Names.{priorities, procedures, pairs_in, Env, number_of}
use Rattle.source_reader.specs.Faults.{again_faults, room_faults, prio_faults, procedure_faults, decl_faults, decls_faults}
use Rattle.source_reader.specs.Resolved.{pairs_meant, procs_meant, proc_meant}
use Rattle.source_reader.proofs.Lists.{no_faults, has_room}

-- one declaration more
pub names_push : (ds : List Declaration) (d : Declaration) → priorities (ds ++ d ∷ []) ≡ priorities ds ++ priorities (d ∷ [])
names_push [] d = refl
names_push (priority n ∷ ds) d = ap (λ v. n.id ∷ v) (names_push ds d)
names_push (order at m n ∷ ds) d = names_push ds d
names_push (procedure f ∷ ds) d = names_push ds d

pub called_push : (ds : List Declaration) (d : Declaration) → procedures (ds ++ d ∷ []) ≡ procedures ds ++ procedures (d ∷ [])
called_push [] d = refl
called_push (priority n ∷ ds) d = called_push ds d
called_push (order at m n ∷ ds) d = called_push ds d
called_push (procedure f ∷ ds) d = ap (λ v. f.name.id ∷ v) (called_push ds d)

pub pairs_push : (prios : ℕ → Option ℕ) (ds : List Declaration) (d : Declaration) → pairs_meant prios (ds ++ d ∷ []) ≡ pairs_meant prios ds ++ pairs_meant prios (d ∷ [])
pairs_push prios [] d = refl
pairs_push prios (priority n ∷ ds) d = pairs_push prios ds d
pairs_push prios (order at m n ∷ ds) d = let p : Declared = record { at = at; pair = (number_of (prios m.id), number_of (prios n.id)) } in ap (λ v. p ∷ v) (pairs_push prios ds d)
pairs_push prios (procedure f ∷ ds) d = pairs_push prios ds d

pub procs_push : (env : Env) (ds : List Declaration) (d : Declaration) → procs_meant env (ds ++ d ∷ []) ≡ procs_meant env ds ++ procs_meant env (d ∷ [])
procs_push env [] d = refl
procs_push env (priority n ∷ ds) d = procs_push env ds d
procs_push env (order at m n ∷ ds) d = procs_push env ds d
procs_push env (procedure f ∷ ds) d = ap (λ v. proc_meant env f ∷ v) (procs_push env ds d)

pub pairs_long : (prios : ℕ → Option ℕ) (ds : List Declaration) → length (pairs_meant prios ds) ≡ pairs_in ds
pairs_long prios [] = refl
pairs_long prios (priority n ∷ ds) = pairs_long prios ds
pairs_long prios (order at m n ∷ ds) = let e = pairs_long prios ds in omega (arith, e)
pairs_long prios (procedure f ∷ ds) = pairs_long prios ds

pub procs_long : (env : Env) (ds : List Declaration) → length (procs_meant env ds) ≡ length (procedures ds)
procs_long env [] = refl
procs_long env (priority n ∷ ds) = procs_long env ds
procs_long env (order at m n ∷ ds) = procs_long env ds
procs_long env (procedure f ∷ ds) = let e = procs_long env ds in omega (arith, e)

in_push : (ds : List Declaration) (d : Declaration) → pairs_in (ds ++ d ∷ []) ≡ pairs_in ds + pairs_in (d ∷ [])
in_push [] d = omega arith
in_push (priority n ∷ ds) d = in_push ds d
in_push (order at m n ∷ ds) d = let e = in_push ds d in omega (arith, e)
in_push (procedure f ∷ ds) d = in_push ds d

-- declarations that keep the limits
pub record Few (ds : List Declaration) : Type 0 where
  pub names : length (priorities ds) ≤ 16
  pub pairs : pairs_in ds ≤ 256
  pub procs : length (procedures ds) ≤ 256

few_one : (env : Env) (d : Declaration) (before : List Declaration) → decl_faults env d before ≡ [] → Few before → Few (before ++ d ∷ [])
few_one env (priority n) before e few =
    let r = has_room n.at (length (priorities before)) 16 Priorities (no_faults _ (room_faults n.at (length (priorities before)) 16 Priorities) e).1 in
    let a = ap length (names_push before (priority n)) in
    let b = length-append (priorities before) (n.id ∷ []) in
    let c = in_push before (priority n) in
    let f = ap length (called_push before (priority n)) in
    let g = length-append {A = ℕ} (procedures before) [] in
    record { names = omega (arith, r, a, b); pairs = omega (arith, c, few.pairs); procs = omega (arith, f, g, few.procs) }
few_one env (order at m n) before e few =
    let r = has_room at (pairs_in before) 256 Pairs (no_faults (room_faults at (pairs_in before) 256 Pairs) (prio_faults env m ++ prio_faults env n) e).0 in
    let a = ap length (names_push before (order at m n)) in
    let b = length-append {A = ℕ} (priorities before) [] in
    let c = in_push before (order at m n) in
    let f = ap length (called_push before (order at m n)) in
    let g = length-append {A = ℕ} (procedures before) [] in
    record { names = omega (arith, a, b, few.names); pairs = omega (arith, c, r); procs = omega (arith, f, g, few.procs) }
few_one env (procedure x) before e few =
    let p = no_faults (again_faults x.name (procedures before) 256 Procedures) (procedure_faults env x) e in
    let r = has_room x.name.at (length (procedures before)) 256 Procedures (no_faults _ (room_faults x.name.at (length (procedures before)) 256 Procedures) p.0).1 in
    let a = ap length (names_push before (procedure x)) in
    let b = length-append {A = ℕ} (priorities before) [] in
    let c = in_push before (procedure x) in
    let f = ap length (called_push before (procedure x)) in
    let g = length-append (procedures before) (x.name.id ∷ []) in
    record { names = omega (arith, a, b, few.names); pairs = omega (arith, c, few.pairs); procs = omega (arith, f, g, r) }

keep_limits : (env : Env) (ds before : List Declaration) → decls_faults env ds before ≡ [] → Few before → Few (before ++ ds)
keep_limits env [] before e few = subst Few (sym (append-nil before)) few
keep_limits env (d ∷ ds) before e few =
    let p = no_faults (decl_faults env d before) (decls_faults env ds (before ++ d ∷ [])) e in
    subst Few (append_assoc before (d ∷ []) ds) (keep_limits env ds (before ++ d ∷ []) p.1 (few_one env d before p.0 few))

pub few_declared : (env : Env) (ds : List Declaration) → decls_faults env ds [] ≡ [] → Few ds
few_declared env ds e = keep_limits env ds [] e (record { names = omega arith; pairs = omega arith; procs = omega arith })
