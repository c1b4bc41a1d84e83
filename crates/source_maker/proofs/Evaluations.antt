-- What an evaluation comes to behind its first action, or at its ending.
use Rattle.std.proofs.Common.{◌≡◌, ℕ, suc, ◌+◌, List, [], ◌∷◌, ◌++◌, Some, true, false, slice_get, Bool, refl, ap, ◌∙◌}
use Rattle.std.specs.Prelude.{ℤ}
use Rattle.priml_syntax.specs.declared.prio.Prio.{Prio}
use Rattle.priml_syntax.specs.Tree.{Term, Code, Body, bind, ret_tail, if_tail, spawn, sync, call, output, inside, Routine}
use Rattle.priml_syntax.specs.Values.{Value', unit_value, bool_value, int_value, thread_value, returned, faulted, Entry}
use Rattle.priml_syntax.specs.declared.value.FaultKind.TheVariants.{Depth}
use Rattle.priml_syntax.specs.declared.event.Event.TheVariants.{Plain, Spawn, Join, Wrote}
use Rattle.priml_syntax.specs.Paths.{child_path}
use Rattle.core_steps.specs.Expressions.{result_of, results_of, AllGave}
use Rattle.core_steps.specs.Steps.{Job, prio_of, thread_in}
use Rattle.core_steps.specs.Meaning.{Here, noted, entered, closing, outcome_at, may_spawn, after_thread, Answer, Back, eval}

module _ (job : Job) (d : ℕ) (h : Here) (done : List Entry) (scope : List Value') (ps : List ℕ) (at : ℕ) where
  pub gives : (e : Term) (v : Value') → result_of scope e ≡ Some (returned v) → eval job (suc d) h done (ret_tail at e) scope ps ≡ Back (returned v) h done
  gives e v is = rw is refl

  pub takes_first : (e : Term) (a b : Code) → result_of scope e ≡ Some (returned (bool_value true)) → eval job (suc d) h done (if_tail at e a b) scope ps ≡ eval job d (noted h Plain) done (inside a) scope ps
  takes_first e a b is = rw is refl

  pub takes_second : (e : Term) (a b : Code) → result_of scope e ≡ Some (returned (bool_value false)) → eval job (suc d) h done (if_tail at e a b) scope ps ≡ eval job d (noted h Plain) done (inside b) scope ps
  takes_second e a b is = rw is refl

  pub writes : (e : Term) (k : Body) (z : ℤ) → result_of scope e ≡ Some (returned (int_value z)) →
      eval job (suc d) h done (bind at (output e) k) scope ps ≡ eval job d (noted h (Wrote z)) done k (scope ++ unit_value ∷ []) ps
  writes e k z is = rw is refl

  pub joins : (x : ℕ) (k : Body) (b : List ℕ) (v : Value') → thread_in (slice_get scope x) ≡ Some b → outcome_at done b ≡ Some (returned v) →
      eval job (suc d) h done (bind at (sync x) k) scope ps ≡ eval job d (noted h (Join b)) done k (scope ++ v ∷ []) ps
  joins x k b v is ended = rw (is, ended) refl

  pub spawns : (p : Prio) (b : Code) (k : Body) (more : List Entry) → may_spawn h ≡ true →
      closing (eval job d (entered (child_path h.path h.children) (prio_of ps p)) done (inside b) scope ps) ≡ Some more →
      eval job (suc d) h done (bind at (spawn p b) k) scope ps
      ≡ eval job d (record h { children = h.children + 1; events = h.events ++ Spawn ∷ [] }) more k (scope ++ thread_value (child_path h.path h.children) (prio_of ps p) ∷ []) ps
  spawns p b k more may child =
      let next : List Entry → Answer = λ after. eval job d (record h { children = h.children + 1; events = h.events ++ Spawn ∷ [] }) after k (scope ++ thread_value (child_path h.path h.children) (prio_of ps p) ∷ []) ps in
      let whole = closing (eval job d (entered (child_path h.path h.children) (prio_of ps p)) done (inside b) scope ps) in
      ap (λ (t : Bool). elim t [ true ↦ after_thread whole next | false ↦ Back (faulted Depth) h done ]) may ∙ ap (λ w. after_thread w next) child

  pub calls : (f : ℕ) (es : List Term) (k : Body) (vs : List Value') (g : Routine) (w : Value') (h' : Here) (more : List Entry) →
      results_of scope es ≡ Some (AllGave vs) → slice_get job.program.procs f ≡ Some g →
      eval job d (noted h Plain) done (inside g.body) vs [] ≡ Back (returned w) h' more →
      eval job (suc d) h done (bind at (call f [] es) k) scope ps ≡ eval job d (noted h' Plain) more k (scope ++ w ∷ []) ps
  calls f es k vs g w h' more are is came = rw (are, is, came) refl
