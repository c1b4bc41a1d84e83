-- The faults of a program stand in the order of its text.
use Rattle.std.proofs.Common.{◌≡◌, ℕ, ◌+◌, ◌≤◌, List, [], ◌∷◌, ◌++◌, length, is_some, nat_le, arith, sym, refl, subst, append_assoc}
use Rattle.source_tokens.specs.declared.token.Token.{Token}
use Rattle.source_tokens.specs.declared.token.Stop.TheVariants as stop
use Rattle.source_tokens.specs.declared.token.Sign.TheVariants as s'
use Rattle.source_tokens.specs.Laws.{AreInOrder}
use Rattle.source_grammar.specs.declared.raw.Name.{Name}
use Rattle.source_grammar.specs.RawTree.{RawType, RawTerm, RawCode, RawBody, RawAct, WrittenType, Parameter, RawRoutine, RawProcedure, Declaration, priority, order, procedure, RawTree}
use Rattle.source_grammar.specs.Grammar.{sign, IsSeparated, IsListed, IsName, IsType, IsWritten, IsExpr, IsPriorities, IsBlock, IsBody, IsAction, IsConstraint, IsParameter, IsHead, IsRoutine, IsProcedure, IsDecls, IsMain, IsProgram}
use Rattle.source_reader.specs.declared.faults.Fault.{Fault}
use Rattle.source_reader.specs.declared.faults.Fault.TheVariants.{UnknownName, TooMany}
use Rattle.source_reader.specs.declared.faults.What.TheVariants as what
use Rattle.source_reader.specs.Names.{is_among, priorities, procedures, pairs_in, param_ids, Env, env_of, with_vars}
use Rattle.source_reader.specs.Faults.{unless, prio_faults, prios_faults, room_faults, again_faults, raw_nodes, type_faults, written_faults, term_faults, terms_faults, code_faults, body_faults, act_faults, vars_faults, givens_faults, params_faults, procedure_faults, decls_faults, main_faults, faults}
use Rattle.source_reader.specs.Order.{Ascends}
use Rattle.source_reader.proofs.Ordered.{behind}
use Rattle.source_reader.proofs.Runs.{Rises, Runs, tail, none_here, here, sooner, after, sooner, ending, then_runs, one_at, prio_at, room_at, again_at, prio_room_at}

-- Names and types.
pub name_runs : (env : Env) {ts rest : List Token} {n : Name} → IsName ts rest n → {total from : ℕ} → Rises total from ts → Runs total from rest (prio_faults env n)
name_runs env (IsName.is_name n) o = here o (prio_at env n)

var_runs : (before : List ℕ) {ts rest : List Token} {n : Name} → IsName ts rest n → {total from : ℕ} → Rises total from ts → Runs total from rest (again_faults n before 8 what.PrioVars)
var_runs before (IsName.is_name n) o = here o (again_at n before 8 what.PrioVars)

-- the faults of a type stand behind its first token
record Behind (total from at : ℕ) (rest : List Token) (fs : List Fault) : Type 0 where
  low : from ≤ at
  runs : Runs total (at + 1) rest fs

from_first : {total from at : ℕ} {rest : List Token} {fs : List Fault} → Behind total from at rest fs → Runs total from rest fs
from_first {total} {from} {at} b = let l = b.low in sooner {low = at + 1} (omega (arith, l)) b.runs

type_runs : (env : Env) {ts rest : List Token} {at : ℕ} {t : RawType} → IsType ts rest at t → {total from : ℕ} → Rises total from ts → Behind total from at rest (type_faults env t)
type_runs env (IsType.is_unit at) o = record { low = o.order.0; runs = none_here (tail o) }
type_runs env (IsType.is_bool at) o = record { low = o.order.0; runs = none_here (tail o) }
type_runs env (IsType.is_int at) o = record { low = o.order.0; runs = none_here (tail o) }
type_runs env (IsType.is_pair at star close i j x y) o = record {
  low = o.order.0;
  runs = ending (then_runs (ending (from_first (type_runs env x (tail o)))) (λ m p. from_first (type_runs env y p)));
}
type_runs env (IsType.is_sum at plus close i j x y) o = record {
  low = o.order.0;
  runs = ending (then_runs (ending (from_first (type_runs env x (tail o)))) (λ m p. from_first (type_runs env y p)));
}
type_runs env (IsType.is_thread at a b c close i n x) o =
    record { low = o.order.0; runs = after (tail o) (λ q. then_runs (ending (ending (here q (prio_at env n)))) (λ m r. ending (from_first (type_runs env x r)))) }

written_runs : (env : Env) {ts rest : List Token} {w : WrittenType} → IsWritten ts rest w → {total from : ℕ} → Rises total from ts → Runs total from rest (written_faults env w)
written_runs env {rest = rest} (IsWritten.is_written {at = at} {x = x} h) {total} {from} o =
    let b = type_runs env h o in
    let r = b.runs in
    let many = unless (nat_le (raw_nodes x) 16) (TooMany at what.TypeNodes) in
    let all : Runs total at rest (many ++ type_faults env x) = record {
      mid = r.mid;
      later = omega (arith, r.later);
      rises = r.rises;
      within = behind at (at + 1) r.mid many (type_faults env x) (omega arith) r.later (one_at (nat_le (raw_nodes x) 16) (TooMany at what.TypeNodes)) r.within;
    } in
    sooner b.low all

-- Expressions.
expr_runs : (env : Env) (scope : List ℕ) {ts rest : List Token} {e : RawTerm} → IsExpr ts rest e → {total from : ℕ} → Rises total from ts → Runs total from rest (term_faults env e scope)
expr_runs env scope (IsExpr.is_var n) o = here o (one_at (is_among n.id scope) (UnknownName n.at))
expr_runs env scope (IsExpr.is_number at n) o = after o (λ p. none_here p)
expr_runs env scope (IsExpr.is_true at) o = after o (λ p. none_here p)
expr_runs env scope (IsExpr.is_false at) o = after o (λ p. none_here p)
expr_runs env scope (IsExpr.is_unit_term at close) o = after o (λ p. after p (λ q. none_here q))
expr_runs env scope (IsExpr.is_inside at close x) o = ending (after o (λ p. expr_runs env scope x p))
expr_runs env scope (IsExpr.is_pair_term at comma close x y) o = ending (after o (λ p. then_runs (ending (expr_runs env scope x p)) (λ m q. expr_runs env scope y q)))
expr_runs env scope (IsExpr.is_binary at mid close kind op x is y) o = ending (after o (λ p. then_runs (ending (expr_runs env scope x p)) (λ m q. expr_runs env scope y q)))
expr_runs env scope (IsExpr.is_first at a close x) o = ending (after o (λ p. after p (λ q. expr_runs env scope x q)))
expr_runs env scope (IsExpr.is_second at a close x) o = ending (after o (λ p. after p (λ q. expr_runs env scope x q)))
expr_runs env scope (IsExpr.is_negated at a close x) o = ending (after o (λ p. after p (λ q. expr_runs env scope x q)))
expr_runs env scope (IsExpr.is_left at a b c close t x) o = ending (after o (λ p. after p (λ q. then_runs (ending (ending (written_runs env t q))) (λ m r. expr_runs env scope x r))))
expr_runs env scope (IsExpr.is_right at a b c close t x) o = ending (after o (λ p. after p (λ q. then_runs (ending (ending (written_runs env t q))) (λ m r. expr_runs env scope x r))))

-- Lists of a form: the faults of all are those of the first, and then those of the rest behind it.
record Listing {A S : Type 0} (each : S → A → List Fault) (next : S → A → S) (all : S → List A → List Fault) : Type 0 where
  empty : (s : S) → all s [] ≡ []
  cons : (s : S) (x : A) (xs : List A) → all s (x ∷ xs) ≡ each s x ++ all (next s x) xs

abbrev EachRuns : {A S : Type 0} → (List Token → List Token → A → Type 0) → (S → A → List Fault) → Type 0
EachRuns {A} {S} Is each = (ts rest : List Token) (x : A) → Is ts rest x → (s : S) (total from : ℕ) → Rises total from ts → Runs total from rest (each s x)

separated_runs : {A S : Type 0} {Is : List Token → List Token → A → Type 0} (each : S → A → List Fault) (next : S → A → S) (all : S → List A → List Fault) → Listing each next all → EachRuns Is each
    → {ts rest : List Token} {xs : List A} → IsSeparated Is ts rest xs → (s : S) {total from : ℕ} → Rises total from ts → Runs total from rest (all s xs)
separated_runs each next all list runs (IsSeparated.one {ts = ts} {rest = rest} {x = x} h) s {total} {from} o =
    subst (Runs total from rest) (sym (list.cons s x [])) (then_runs (runs ts rest x h s total from o) (λ m p. subst (Runs total m rest) (sym (list.empty (next s x))) (none_here p)))
separated_runs each next all list runs (IsSeparated.more comma {ts = ts} {us = us} {rest = rest} {x = x} {xs = xs} h hs) s {total} {from} o =
    subst (Runs total from rest) (sym (list.cons s x xs)) (then_runs (ending (runs ts (sign comma s'.Comma ∷ us) x h s total from o)) (λ m p. separated_runs each next all list runs hs (next s x) p))

listed_runs : {A S : Type 0} {Is : List Token → List Token → A → Type 0} (each : S → A → List Fault) (next : S → A → S) (all : S → List A → List Fault) → Listing each next all → EachRuns Is each
    → {ts rest : List Token} {xs : List A} → IsListed Is ts rest xs → (s : S) {total from : ℕ} → Rises total from ts → Runs total from rest (all s xs)
listed_runs each next all list runs (IsListed.none {rest = rest}) s {total} {from} o = subst (Runs total from rest) (sym (list.empty s)) (none_here o)
listed_runs each next all list runs (IsListed.some hs) s o = separated_runs each next all list runs hs s o

prios_run : (env : Env) {ts rest : List Token} {ns : List Name} → IsListed IsName ts rest ns → {total from : ℕ} → Rises total from ts → Runs total from rest (prios_faults env ns)
prios_run env h o =
    listed_runs (λ (s : ℕ) (n : Name). prio_faults env n) (λ (s : ℕ) (n : Name). s) (λ (s : ℕ) (ns : List Name). prios_faults env ns) (record { empty = λ s. refl; cons = λ s x xs. refl })
    (λ ts rest x d s total from p. name_runs env d p) h 0 o

called_run : (env : Env) {ts rest : List Token} {ns : List Name} → IsPriorities ts rest ns → {total from : ℕ} → Rises total from ts → Runs total from rest (prios_faults env ns)
called_run env (IsPriorities.absent at) o = none_here o
called_run env (IsPriorities.present at close h) o = ending (after o (λ p. prios_run env h p))

vars_run : {ts rest : List Token} {ns : List Name} → IsListed IsName ts rest ns → {total from : ℕ} → Rises total from ts → Runs total from rest (vars_faults ns [])
vars_run h o =
    listed_runs (λ (s : List ℕ) (n : Name). again_faults n s 8 what.PrioVars) (λ (s : List ℕ) (n : Name). s ++ n.id ∷ []) (λ (s : List ℕ) (ns : List Name). vars_faults ns s) (record { empty = λ s. refl; cons = λ s x xs. refl })
    (λ ts rest x d s total from p. var_runs s d p) h [] o

terms_run : (env : Env) (scope : List ℕ) {ts rest : List Token} {es : List RawTerm} → IsListed IsExpr ts rest es → {total from : ℕ} → Rises total from ts → Runs total from rest (terms_faults env es scope)
terms_run env scope h o =
    listed_runs (λ (s : ℕ) (e : RawTerm). term_faults env e scope) (λ (s : ℕ) (e : RawTerm). s) (λ (s : ℕ) (es : List RawTerm). terms_faults env es scope) (record { empty = λ s. refl; cons = λ s x xs. refl })
    (λ ts rest x d s total from p. expr_runs env scope d p) h 0 o

-- Blocks, bodies and actions.
mutual
  block_runs : {ts rest : List Token} {c : RawCode} → IsBlock ts rest c → (env : Env) (scope : List ℕ) {total from : ℕ} → Rises total from ts → Runs total from rest (code_faults c env scope)
  block_runs (IsBlock.is_block at close b) env scope o = ending (after o (λ p. body_runs b env scope p))

  body_runs : {ts rest : List Token} {b : RawBody} → IsBody ts rest b → (env : Env) (scope : List ℕ) {total from : ℕ} → Rises total from ts → Runs total from rest (body_faults b env scope)
  body_runs (IsBody.is_ret_tail at e) env scope o = after o (λ p. expr_runs env scope e p)
  body_runs (IsBody.is_if_tail at other e x y) env scope o =
      after o (λ p. then_runs (expr_runs env scope e p) (λ i q. then_runs (ending (block_runs x env scope q)) (λ j r. block_runs y env scope r)))
  body_runs (IsBody.is_case_tail at b c m n e x y) env scope o =
      after o (λ p. then_runs (expr_runs env scope e p) (λ i q. then_runs
      (after q (λ r. then_runs (here r (room_at m.at (length scope) 32 what.Scope)) (λ k t. block_runs x env (scope ++ m.id ∷ []) t)))
      (λ j r. after r (λ t. then_runs (here t (room_at n.at (length scope) 32 what.Scope)) (λ k u. block_runs y env (scope ++ n.id ∷ []) u)))))
  body_runs (IsBody.is_bind n arrow at end a b) env scope o =
      then_runs (ending (here o (room_at n.at (length scope) 32 what.Scope))) (λ i p. then_runs (ending (action_runs a env scope p)) (λ j q. body_runs b env (scope ++ n.id ∷ []) q))

  action_runs : {ts rest : List Token} {at : ℕ} {a : RawAct} → IsAction ts rest at a → (env : Env) (scope : List ℕ) {total from : ℕ} → Rises total from ts → Runs total from rest (act_faults a env scope)
  action_runs (IsAction.is_ret at e) env scope o = after o (λ p. expr_runs env scope e p)
  action_runs (IsAction.is_spawn at i close n b) env scope o = after o (λ p. after p (λ q. then_runs (ending (here q (prio_at env n))) (λ j r. block_runs b env scope r)))
  action_runs (IsAction.is_sync at h) env scope o = after o (λ p. here p (one_at (is_among h.id scope) (UnknownName h.at)))
  action_runs (IsAction.is_call at i close f ps es) env scope o =
      after o (λ p. then_runs (here p (one_at (is_some (env.procs f.id)) (UnknownName f.at))) (λ j q. then_runs (ending (called_run env ps q)) (λ k r. ending (terms_run env scope es r))))
  action_runs (IsAction.is_do_block at b) env scope o = after o (λ p. block_runs b env scope p)
  action_runs (IsAction.is_input at) env scope o = after o (λ p. none_here p)
  action_runs (IsAction.is_output at e) env scope o = after o (λ p. expr_runs env scope e p)

-- Procedures.
given_runs : (env : Env) (before : ℕ) {ts rest : List Token} {g : Name × Name} → IsConstraint ts rest g → {total from : ℕ} → Rises total from ts
    → Runs total from rest (prio_faults env g.0 ++ (room_faults g.0.at before 16 what.Constraints ++ prio_faults env g.1))
given_runs env before (IsConstraint.is_constraint m n at {rest = rest}) {total} {from} o =
    subst (Runs total from rest) (append_assoc (prio_faults env m) (room_faults m.at before 16 what.Constraints) (prio_faults env n))
    (then_runs (ending (here o (prio_room_at env m before 16 what.Constraints))) (λ i p. here p (prio_at env n)))

givens_run : (env : Env) {ts rest : List Token} {gs : List (Name × Name)} → IsSeparated IsConstraint ts rest gs → {total from : ℕ} → Rises total from ts → Runs total from rest (givens_faults env gs 0)
givens_run env h o =
    separated_runs (λ (s : ℕ) (g : Name × Name). prio_faults env g.0 ++ (room_faults g.0.at s 16 what.Constraints ++ prio_faults env g.1)) (λ (s : ℕ) (g : Name × Name). s + 1) (λ (s : ℕ) (gs : List (Name × Name)). givens_faults env gs s) (record { empty = λ s. refl; cons = λ s x xs. refl })
    (λ ts rest x d s total from p. given_runs env s d p) h 0 o

param_runs : (env : Env) (before : List ℕ) {ts rest : List Token} {x : Parameter} → IsParameter ts rest x → {total from : ℕ} → Rises total from ts
    → Runs total from rest (again_faults x.name before 8 what.Parameters ++ written_faults env x.ty)
param_runs env before (IsParameter.is_parameter n colon t) o = then_runs (ending (here o (again_at n before 8 what.Parameters))) (λ i p. written_runs env t p)

params_run : (env : Env) {ts rest : List Token} {xs : List Parameter} → IsListed IsParameter ts rest xs → {total from : ℕ} → Rises total from ts → Runs total from rest (params_faults env xs [])
params_run env h o =
    listed_runs (λ (s : List ℕ) (x : Parameter). again_faults x.name s 8 what.Parameters ++ written_faults env x.ty) (λ (s : List ℕ) (x : Parameter). s ++ x.name.id ∷ []) (λ (s : List ℕ) (xs : List Parameter). params_faults env xs s) (record { empty = λ s. refl; cons = λ s x xs. refl })
    (λ ts rest x d s total from p. param_runs env s d p) h [] o

head_runs : (env : Env) {ts rest : List Token} {ns : List Name} {gs : List (Name × Name)} → IsHead ts rest ns gs → {total from : ℕ} → Rises total from ts → Runs total from rest (vars_faults ns [] ++ givens_faults env gs 0)
head_runs env (IsHead.absent at) o = none_here o
head_runs env (IsHead.free at close h) o = after o (λ p. then_runs (ending (vars_run h p)) (λ i q. none_here q))
head_runs env (IsHead.bound at mid close h g) o = ending (after o (λ p. then_runs (ending (vars_run h p)) (λ i q. givens_run env g q)))

routine_runs : (env : Env) (scope : List ℕ) {ts rest : List Token} {at : ℕ} {r : RawRoutine} → IsRoutine ts rest at r → {total from : ℕ} → Rises total from ts
    → Runs total from rest (prio_faults env r.own ++ (written_faults env r.result ++ code_faults r.body env scope))
routine_runs env scope (IsRoutine.is_routine at by colon own t b) o =
    after o (λ p. then_runs (ending (here p (prio_at env own))) (λ i q. then_runs (written_runs env t q) (λ j r. block_runs b env scope r)))

procedure_runs : (outer : Env) (before : List ℕ) {ts rest : List Token} {f : RawProcedure} → IsProcedure ts rest f → {total from : ℕ} → Rises total from ts
    → Runs total from rest (again_faults f.name before 256 what.Procedures ++ procedure_faults outer f)
procedure_runs outer before (IsProcedure.is_procedure at i' close n {rest = rest} {ns = ns} {gs = gs} {ps = ps} {r = r} h l d) {total} {from} o =
    let env = with_vars outer ns in
    let vars = vars_faults ns [] in
    let givens = givens_faults env gs 0 in
    let more = params_faults env ps [] ++ (prio_faults env r.own ++ (written_faults env r.result ++ code_faults r.body env (param_ids ps))) in
    after o (λ p. then_runs (here p (again_at n before 256 what.Procedures)) (λ i q.
    subst (Runs total i rest) (append_assoc vars givens more)
    (then_runs (ending (head_runs env h q)) (λ j t. then_runs (ending (params_run env l t)) (λ k u. routine_runs env (param_ids ps) d u)))))

-- Declarations.
decls_run : (env : Env) {ts rest : List Token} {ds : List Declaration} → IsDecls ts rest ds → (before : List Declaration) {total from : ℕ} → Rises total from ts → Runs total from rest (decls_faults env ds before)
decls_run env IsDecls.no_more before o = none_here o
decls_run env (IsDecls.is_priority at end n ds) before o =
    then_runs (ending (after o (λ p. here p (again_at n (priorities before) 16 what.Priorities)))) (λ i q. decls_run env ds (before ++ priority n ∷ []) q)
decls_run env (IsDecls.is_order at less end m n ds) before o =
    then_runs (ending (then_runs (here o (room_at at (pairs_in before) 256 what.Pairs)) (λ i p. then_runs (ending (here p (prio_at env m))) (λ j q. here q (prio_at env n)))))
    (λ k r. decls_run env ds (before ++ order at m n ∷ []) r)
decls_run env (IsDecls.is_declared {f = f} d ds) before o =
    then_runs (procedure_runs env (procedures before) d o) (λ i p. decls_run env ds (before ++ procedure f ∷ []) p)

main_runs : (env : Env) {ts rest : List Token} {m : RawRoutine} → IsMain ts rest m → {total from : ℕ} → Rises total from ts → Runs total from rest (main_faults env m)
main_runs env (IsMain.is_main at d) o = after o (λ p. routine_runs env [] d p)

program_runs : {ts : List Token} {raw : RawTree} → IsProgram ts raw → {total from : ℕ} → Rises total from ts → Runs total from [] (faults raw)
program_runs (IsProgram.is_program {ds = ds} d m) o = then_runs (decls_run (env_of ds) d [] o) (λ i p. main_runs (env_of ds) m p)

-- the faults of a text's program ascend
pub faults_ascend : (tokens : List Token) (raw : RawTree) (total : ℕ) → IsProgram tokens raw → AreInOrder 0 total tokens stop.Done → Ascends (faults raw)
faults_ascend tokens raw total d o = (program_runs d {total = total} {from = 0} (record { order = o })).within.ascends
