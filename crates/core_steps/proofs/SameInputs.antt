-- The meaning of a job rests on the lists that its threads read alone.
use Rattle.std.proofs.Common.{◌≡◌, ℕ, zero, suc, ◌+◌, ℤ, true, false, List, [], ◌∷◌, ◌++◌, map, refl, ap, ap₂}
use Rattle.std.specs.Prelude.{slice_get}
use Rattle.std.specs.Option.{option_and_then}
use Rattle.std.proofs.Math.Path.{fun_ext}
use Rattle.priml_syntax.specs.declared.event.Event.TheVariants.{Plain, Spawn, Join, Read, Wrote}
use Rattle.priml_syntax.specs.Tree.{Body, bind, ret_tail, if_tail, case_tail, ret, spawn, sync, call, do_block, input, output, inside, Routine, Tree}
use Rattle.priml_syntax.specs.Values.{Value', unit_value, bool_value, thread_value, faulted, Entry}
use Rattle.priml_syntax.specs.declared.value.FaultKind.TheVariants.{Depth}
use Rattle.priml_syntax.specs.Paths.{child_path}
use Rattle.priml_syntax.specs.Inputs.{inputs_of}
use Rattle.core_steps.specs.Expressions.{result_of, results_of}
use Rattle.core_steps.specs.Steps.{Job, prio_of, thread_in}
use Rattle.core_steps.specs.Meaning.{Here, Answer, Out, Back, noted, with_value, with_values, entered, closing, after_thread, after_block, synced, called, drawn, written, cased, may_spawn, eval, roots_done, within}
use Rattle.core_steps.specs.Laws.{MeaningReadsInputs}

-- what blocks give
abbrev Eval : Type 0
Eval = Here → List Entry → Body → List Value' → List ℕ → Answer

-- the inputs of the one job, and of the other
abbrev with_inputs : Tree → List (List ℕ × List ℤ) → Job
with_inputs p i = record { program = p; inputs = i }

module _ (p : Tree) (i j : List (List ℕ × List ℤ)) (same : (path : List ℕ) → inputs_of i path ≡ inputs_of j path) where
  -- a block gives the same where what follows it does
  block_same : (d : ℕ) → eval (with_inputs p i) d ≡ eval (with_inputs p j) d → (h : Here) (done : List Entry) (c : Body) (scope : List Value') (ps : List ℕ) →
      eval (with_inputs p i) (suc d) h done c scope ps ≡ eval (with_inputs p j) (suc d) h done c scope ps
  block_same d is h done (ret_tail at e) scope ps = refl
  block_same d is h done (if_tail at e x y) scope ps =
      ap (λ (f : Eval). with_value h done (result_of scope e) (λ v. elim v [ bool_value c ↦ elim c [ true ↦ f (noted h Plain) done (inside x) scope ps | false ↦ f (noted h Plain) done (inside y) scope ps ] | _ ↦ Out ])) is
  block_same d is h done (case_tail at e x y) scope ps =
      ap (λ (f : Eval). with_value h done (result_of scope e) (λ v. cased v (λ w. f (noted h Plain) done (inside x) (scope ++ w ∷ []) ps) (λ w. f (noted h Plain) done (inside y) (scope ++ w ∷ []) ps))) is
  block_same d is h done (bind at (ret e) k) scope ps = ap (λ (f : Eval). with_value h done (result_of scope e) (λ v. f (noted h Plain) done k (scope ++ v ∷ []) ps)) is
  block_same d is h done (bind at (spawn q x) k) scope ps =
      ap (λ (f : Eval). elim (may_spawn h) [
        | true ↦ after_thread (closing (f (entered (child_path h.path h.children) (prio_of ps q)) done (inside x) scope ps)) (λ done'. f (record h { children = h.children + 1; events = h.events ++ Spawn ∷ [] }) done' k (scope ++ thread_value (child_path h.path h.children) (prio_of ps q) ∷ []) ps)
        | false ↦ Back (faulted Depth) h done
      ]) is
  block_same d is h done (bind at (sync x) k) scope ps = ap (λ (f : Eval). synced h done (thread_in (slice_get scope x)) (λ b v. f (noted h (Join b)) done k (scope ++ v ∷ []) ps)) is
  block_same d is h done (bind at (call g qs es) k) scope ps =
      ap (λ (f : Eval). with_values h done (results_of scope es) (λ vs. called (slice_get p.procs g) (λ r. after_block (f (noted h Plain) done (inside r.body) vs (map (prio_of ps) qs)) (λ w h' done'. f (noted h' Plain) done' k (scope ++ w ∷ []) ps)))) is
  block_same d is h done (bind at (do_block x) k) scope ps = ap (λ (f : Eval). after_block (f (noted h Plain) done (inside x) scope ps) (λ w h' done'. f (noted h' Plain) done' k (scope ++ w ∷ []) ps)) is
  block_same d is h done (bind at input k) scope ps =
      ap₂ (λ (f : Eval) (l : List ℤ). drawn (slice_get l h.reads) (λ v n. f (record h { reads = h.reads + n; events = h.events ++ Read ∷ [] }) done k (scope ++ v ∷ []) ps)) is (same h.path)
  block_same d is h done (bind at (output e) k) scope ps = ap (λ (f : Eval). with_value h done (result_of scope e) (λ v. written v (λ z. f (noted h (Wrote z)) done k (scope ++ unit_value ∷ []) ps))) is

  blocks_same : (d : ℕ) → eval (with_inputs p i) d ≡ eval (with_inputs p j) d
  blocks_same zero = fun_ext (λ h. fun_ext (λ done. fun_ext (λ c. fun_ext (λ scope. fun_ext (λ ps. refl)))))
  blocks_same (suc d) = fun_ext (λ h. fun_ext (λ done. fun_ext (λ c. fun_ext (λ scope. fun_ext (λ ps. block_same d (blocks_same d) h done c scope ps)))))

  roots_same : (n : ℕ) (ms : List Routine) (k : ℕ) (done : List Entry) → roots_done (with_inputs p i) n ms k done ≡ roots_done (with_inputs p j) n ms k done
  roots_same n [] k done = refl
  roots_same n (m ∷ ms) k done =
      ap₂ option_and_then (fun_ext (λ rs. roots_same n ms (k + 1) rs)) (ap (λ (f : Eval). closing (f (entered (k ∷ []) (prio_of [] m.declares.own)) done (inside m.body) [] [])) (blocks_same n))

pub meaning_reads_inputs : MeaningReadsInputs
meaning_reads_inputs p i j same n = ap (within n) (roots_same p i j same n p.mains 0 [])
