-- The steps of a walk over declarations: what is known of all of them from what is known of each.
use Rattle.std.proofs.Common.{Option, ◌≡◌, ℕ, zero, suc, ◌+◌, ◌<◌, List, [], ◌∷◌, ◌++◌, length, map, take, drop, get_or, string_bytes, arith, sym, refl, ap, ap₂, subst, ◌∙◌}
use Rattle.std.proofs.lemmas.List.{length-map, take_more, map-append}
use Rattle.priml_syntax.specs.declared.program.Program.{Program}
use Rattle.priml_syntax.specs.Tree.{Declared, Routine, Tree}
use Rattle.priml_syntax.specs.Read.{read_pair, read_proc, read_program}
use Rattle.source_grammar.specs.declared.raw.RawDecl.{RawDecl}
use Rattle.source_grammar.specs.RawTree.{Declaration, priority, order, procedure, RawTree}
use Rattle.source_grammar.specs.RawRead.{read_decl}
use Rattle.source_reader.specs.declared.faults.Fault.{Fault}
use Rattle.source_reader.specs.declared.faults.What.TheVariants.{Priorities, Pairs, Procedures}
use Rattle.source_reader.specs.declared.faults.ResolveStop.{ResolveStop}
use Rattle.source_reader.specs.Names.{priorities, procedures, Env, env_of}
use Rattle.source_reader.specs.Faults.{again_faults, room_faults, prio_faults, procedure_faults, decl_faults, decls_faults, main_faults, faults, declared_faults}
use Rattle.source_reader.specs.Resolved.{pairs_meant, procs_meant, main_meant, resolved}
use Rattle.source_reader.specs.Inside.Fits.{DeclsFit, BodiesFit}
use Rattle.source_reader.specs.Inside.Gives.{First}
use Rattle.source_reader.proofs.Walk.{next_of}
use Rattle.source_reader.proofs.Tables.{names_push, called_push, pairs_push, procs_push, pairs_long}

-- the first fault of what comes behind a part without faults
pub past : (fs es gs : List Fault) (e : ResolveStop) → fs ≡ es ++ gs → es ≡ [] → First gs e → First fs e
past fs es gs e p none g = subst (λ v. First v e) (sym (p ∙ ap (λ v. v ++ gs) none)) g

-- the readings of a list from its element at i on
pub mapped_next : {A B : Type 0} (f : A → B) (xs : List A) (i : ℕ) (d : A) → i < length xs → d ≡ get_or xs i d → map f (drop i xs) ≡ f d ∷ map f (drop (i + 1) xs)
mapped_next f xs i d l e = ap (map f) (next_of xs i d l) ∙ ap (λ x. f x ∷ map f (drop (i + 1) xs)) (sym e)

-- and those up to it
pub mapped_take : {A B : Type 0} (f : A → B) (xs : List A) (i : ℕ) (d : A) → i < length xs → d ≡ get_or xs i d → map f (take (i + 1) xs) ≡ map f (take i xs) ++ f d ∷ []
mapped_take f xs i d l e = ap (map f) (take_more xs i d l) ∙ map-append f (take i xs) (get_or xs i d ∷ []) ∙ ap (λ x. map f (take i xs) ++ f x ∷ []) (sym e)

first_fits : (n : ℕ) (d : Declaration) (ds : List Declaration) → DeclsFit n (d ∷ ds) → DeclsFit n ds
first_fits n (priority x) ds h = h.1
first_fits n (order at x y) ds h = h
first_fits n (procedure f) ds h = h.1

first_bodies : (d : Declaration) (ds : List Declaration) → BodiesFit (d ∷ ds) → BodiesFit ds
first_bodies (priority x) ds h = h
first_bodies (order at x y) ds h = h
first_bodies (procedure f) ds h = h.1

pub next_fits : (n : ℕ) (xs : List RawDecl) (i : ℕ) (d : RawDecl) → i < length xs → d ≡ get_or xs i d → DeclsFit n (map read_decl (drop i xs)) → DeclsFit n (map read_decl (drop (i + 1) xs))
next_fits n xs i d l e h = first_fits n (read_decl d) _ (subst (DeclsFit n) (mapped_next read_decl xs i d l e) h)

pub next_bodies : (xs : List RawDecl) (i : ℕ) (d : RawDecl) → i < length xs → d ≡ get_or xs i d → BodiesFit (map read_decl (drop i xs)) → BodiesFit (map read_decl (drop (i + 1) xs))
next_bodies xs i d l e h = first_bodies (read_decl d) _ (subst BodiesFit (mapped_next read_decl xs i d l e) h)

-- what is declared up to the declaration at i, with it
pub next_names : (xs : List RawDecl) (i : ℕ) (d : RawDecl) → i < length xs → d ≡ get_or xs i d → priorities (map read_decl (take (i + 1) xs)) ≡ priorities (map read_decl (take i xs)) ++ priorities (read_decl d ∷ [])
next_names xs i d l e = ap priorities (mapped_take read_decl xs i d l e) ∙ names_push (map read_decl (take i xs)) (read_decl d)

pub next_called : (xs : List RawDecl) (i : ℕ) (d : RawDecl) → i < length xs → d ≡ get_or xs i d → procedures (map read_decl (take (i + 1) xs)) ≡ procedures (map read_decl (take i xs)) ++ procedures (read_decl d ∷ [])
next_called xs i d l e = ap procedures (mapped_take read_decl xs i d l e) ∙ called_push (map read_decl (take i xs)) (read_decl d)

pub next_pairs : (prios : ℕ → Option ℕ) (xs : List RawDecl) (i : ℕ) (d : RawDecl) → i < length xs → d ≡ get_or xs i d
    → pairs_meant prios (map read_decl (take (i + 1) xs)) ≡ pairs_meant prios (map read_decl (take i xs)) ++ pairs_meant prios (read_decl d ∷ [])
next_pairs prios xs i d l e = ap (pairs_meant prios) (mapped_take read_decl xs i d l e) ∙ pairs_push prios (map read_decl (take i xs)) (read_decl d)

pub next_procs : (env : Env) (xs : List RawDecl) (i : ℕ) (d : RawDecl) → i < length xs → d ≡ get_or xs i d
    → procs_meant env (map read_decl (take (i + 1) xs)) ≡ procs_meant env (map read_decl (take i xs)) ++ procs_meant env (read_decl d ∷ [])
next_procs env xs i d l e = ap (procs_meant env) (mapped_take read_decl xs i d l e) ∙ procs_push env (map read_decl (take i xs)) (read_decl d)

-- the faults from the declaration at i on
pub next_faults : (env : Env) (xs : List RawDecl) (i : ℕ) (d : RawDecl) → i < length xs → d ≡ get_or xs i d
    → decls_faults env (map read_decl (drop i xs)) (map read_decl (take i xs)) ≡ decl_faults env (read_decl d) (map read_decl (take i xs)) ++ decls_faults env (map read_decl (drop (i + 1) xs)) (map read_decl (take (i + 1) xs))
next_faults env xs i d l e =
    ap (λ v. decls_faults env v (map read_decl (take i xs))) (mapped_next read_decl xs i d l e)
    ∙ ap (λ v. decl_faults env (read_decl d) (map read_decl (take i xs)) ++ decls_faults env (map read_decl (drop (i + 1) xs)) v) (sym (mapped_take read_decl xs i d l e))

-- what is declared before, as the walk keeps it
pub so_far : (env : Env) (ds : List Declaration) (d : Declaration) (names called : List ℕ) (pairs : List (ℕ × ℕ × ℕ)) → names ≡ priorities ds → called ≡ procedures ds → map read_pair pairs ≡ pairs_meant env.prios ds
    → declared_faults env d names (length pairs) called ≡ decl_faults env d ds
so_far env ds (priority n) names called pairs p q r = ap (λ v. again_faults n v 16 Priorities) p
so_far env ds (order at m n) names called pairs p q r = ap (λ k. room_faults at k 256 Pairs ++ (prio_faults env m ++ prio_faults env n)) (sym (length-map pairs read_pair) ∙ ap length r ∙ pairs_long env.prios ds)
so_far env ds (procedure f) names called pairs p q r = ap (λ v. again_faults f.name v 256 Procedures ++ procedure_faults env f) q

-- the same where the walk knows the environment by another name
pub seen_so_far : {now env : Env} (ds : List Declaration) (d : Declaration) {names called : List ℕ} (pairs : List (ℕ × ℕ × ℕ)) → now ≡ env → names ≡ priorities ds → called ≡ procedures ds → map read_pair pairs ≡ pairs_meant env.prios ds
    → declared_faults now d names (length pairs) called ≡ decl_faults env d ds
seen_so_far {env = env} ds d {names} {called} pairs same p q r = ap (λ v. declared_faults v d names (length pairs) called) same ∙ so_far env ds d names called pairs p q r

-- each declared priority is one of the text's names
pub declared_fit : (n : ℕ) (ds : List Declaration) → DeclsFit n ds → (k d : ℕ) → k < length (priorities ds) → get_or (priorities ds) k d < n
declared_fit n [] h k d l = absurd (omega arith)
declared_fit n (priority x ∷ ds) h zero d l = h.0
declared_fit n (priority x ∷ ds) h (suc k) d l = declared_fit n ds h.1 k d (omega arith)
declared_fit n (order at x y ∷ ds) h k d l = declared_fit n ds h k d l
declared_fit n (procedure f ∷ ds) h k d l = declared_fit n ds h.1 k d l

-- a program without faults in its declarations and its main has none
pub all_clean : (p : RawTree) (known now : Env) → known ≡ env_of p.decls → now ≡ known → decls_faults known p.decls [] ≡ [] → main_faults now p.main ≡ [] → faults p ≡ []
all_clean p known now k n d m = ap₂ (λ a b. a ++ b) (sym (ap (λ v. decls_faults v p.decls []) k) ∙ d) (sym (ap (λ v. main_faults v p.main) (n ∙ k)) ∙ m)

same_tree : (a w : List (List ℕ)) (b x : List Declared) (c y : List Routine) (d z : Routine) → a ≡ w → b ≡ x → c ≡ y → d ≡ z
    → ◌≡◌ {A = Tree} (record { names = a; declared = b; procs = c; mains = d ∷ [] }) (record { names = w; declared = x; procs = y; mains = z ∷ [] })
same_tree a w b x c y d z p q r s = rw (p, q, r, s) refl

-- and its parts are those of what it means
pub all_made : (names : List (List ℕ)) (p : RawTree) (known now : Env) (r : Program) → known ≡ env_of p.decls → now ≡ known → map string_bytes r.names.items ≡ map (λ id. get_or names id []) (priorities p.decls)
    → map read_pair r.pairs.items ≡ pairs_meant known.prios p.decls → map read_proc r.procs.items ≡ procs_meant known p.decls → read_proc r.main ≡ main_meant now p.main → read_program r ≡ resolved names p
all_made names p known now r k n a b c d =
    same_tree _ _ _ _ _ _ _ _ a (b ∙ ap (λ v. pairs_meant v.prios p.decls) k) (c ∙ ap (λ v. procs_meant v p.decls) k) (d ∙ ap (λ v. main_meant v p.main) (n ∙ k))
