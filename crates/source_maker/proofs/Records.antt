-- The records of all threads.
use Rattle.std.proofs.Common.{◌≡◌, ℕ, zero, suc, ◌+◌, ◌*◌, ◌≤◌, List, [], ◌∷◌, ◌++◌, Some, length, refl, ◌∙◌, ap, arith, pos, length-append}
use Rattle.priml_syntax.specs.declared.prio.Prio.TheVariants.{Const}
use Rattle.priml_syntax.specs.Tree.{var, number, Body, bind, ret_tail, output, inside}
use Rattle.priml_syntax.specs.Values.{Value', int_value, thread_value, unit_value, returned, Entry}
use Rattle.priml_syntax.specs.Records.{work}
use Rattle.priml_syntax.specs.declared.event.Event.{Event}
use Rattle.priml_syntax.specs.declared.event.Event.TheVariants.{Start, Plain, Spawn, Join, Wrote, End}
use Rattle.std.specs.Fmt.{decimal}
use Rattle.std.proofs.Math.ListN.{replicate}
use Rattle.std.specs.Option.{option_and_then}
use Rattle.core_steps.specs.Meaning.{placed, entered, closing, eval, roots_done}
use Rattle.source_maker.specs.Tree.{chain_code, call_chain, main_code, procedure, made_job}
use Rattle.source_maker.specs.Runs.{written, outputs, lengths}
use Rattle.source_maker.proofs.Evaluations.{gives, writes, spawns, calls}
use Rattle.source_maker.proofs.Leaf.{leaves}
use Rattle.source_maker.proofs.Chain.{total, call_events, fuel_for, chain_at, chain_gives}

abbrev chain_events : ℕ → List Event
chain_events n = (Start ∷ Plain ∷ []) ++ call_events 0 n

abbrev pub chain_entry : ℕ → Entry
chain_entry n = record { path = 0 ∷ 0 ∷ []; prio = 0; events = (chain_events n ++ Plain ∷ []) ++ End ∷ []; outcome = returned (int_value (pos (total n))) }

abbrev pub root_entry : ℕ → Entry
root_entry n = record { path = 0 ∷ []; prio = 1; events = Start ∷ Spawn ∷ Wrote (pos n) ∷ End ∷ []; outcome = returned (int_value (pos n)) }

abbrev pub records : ℕ → List Entry
records n = root_entry n ∷ chain_entry n ∷ leaves 0 n

-- the chain's record comes before those of the leaves
placed_first : (n k : ℕ) → placed (chain_entry n) (leaves 0 k) ≡ chain_entry n ∷ leaves 0 k
placed_first n zero = refl
placed_first n (suc k) = refl

module _ (n d : ℕ) (small : n ≤ 5000) where
  chain_done : closing (eval (made_job n) (suc (suc (suc (fuel_for n d)))) (entered (0 ∷ 0 ∷ []) 0) [] (inside (call_chain n)) [] []) ≡ Some (chain_entry n ∷ leaves 0 n)
  chain_done =
      let digits = length (decimal n) in
      ap closing
      (calls (made_job n) (suc (suc (fuel_for n d))) (entered (0 ∷ 0 ∷ []) 0) [] [] [] 340 1 (number 351 (pos n) ∷ []) (ret_tail (digits + 354) (var (digits + 358) 0)) (int_value (pos n) ∷ []) (procedure 113 chain_code)
      (int_value (pos (total n))) (chain_at (0 + n) (chain_events n)) (leaves 0 n) refl refl
      (chain_gives n n 0 d (Start ∷ Plain ∷ []) [] (omega arith) tt)
      ∙ gives (made_job n) (suc (fuel_for n d)) (chain_at (0 + n) (chain_events n ++ Plain ∷ [])) (leaves 0 n) (int_value (pos (total n)) ∷ []) [] (digits + 354) (var (digits + 358) 0) (int_value (pos (total n))) refl)
      ∙ ap Some (placed_first n n)

  root_done : closing (eval (made_job n) (suc (suc (suc (suc (fuel_for n d))))) (entered (0 ∷ []) 1) [] (inside (main_code n)) [] []) ≡ Some (records n)
  root_done =
      let digits = length (decimal n) in
      let last : Body = ret_tail (2 * digits + 381) (number (2 * digits + 385) (pos n)) in
      let write : Body = bind (digits + 370) (output (number (digits + 377) (pos n))) last in
      let scope : List Value' = thread_value (0 ∷ 0 ∷ []) 0 ∷ [] in
      ap closing
      (spawns (made_job n) (suc (suc (suc (fuel_for n d)))) (entered (0 ∷ []) 1) [] [] [] 323 (Const 0) (call_chain n) write (chain_entry n ∷ leaves 0 n) refl chain_done
      ∙ writes (made_job n) (suc (suc (fuel_for n d))) (record { path = 0 ∷ []; prio = 1; reads = 0; children = 1; events = Start ∷ Spawn ∷ [] }) (chain_entry n ∷ leaves 0 n) scope [] (digits + 370) (number (digits + 377) (pos n)) last (pos n) refl
      ∙ gives (made_job n) (suc (fuel_for n d)) (record { path = 0 ∷ []; prio = 1; reads = 0; children = 1; events = Start ∷ Spawn ∷ Wrote (pos n) ∷ [] }) (chain_entry n ∷ leaves 0 n) (scope ++ unit_value ∷ []) [] (2 * digits + 381) (number (2 * digits + 385) (pos n)) (int_value (pos n)) refl)

fuel_is : (k d : ℕ) → fuel_for k d ≡ 3 * k + d
fuel_is zero d = omega arith
fuel_is (suc k) d = omega (arith, fuel_is k d)

pub all_done : (n : ℕ) → n ≤ 5000 → roots_done (made_job n) (10 * n + 9) (made_job n).program.mains 0 [] ≡ Some (records n)
all_done n small =
    let enough : 10 * n + 9 ≡ suc (suc (suc (suc (fuel_for n (7 * n + 5))))) = omega (arith, fuel_is n (7 * n + 5)) in
    ap (λ fuel. roots_done (made_job n) fuel (made_job n).program.mains 0 []) enough ∙ ap (λ o. option_and_then Some o) (root_done n (7 * n + 5) small)

-- the numbers of steps, of threads and of outputs
call_steps : (i k : ℕ) → length (call_events i k) ≡ 5 * k + 1
call_steps i zero = omega arith
call_steps i (suc k) = omega (arith, call_steps (i + 1) k, length-append (call_events (i + 1) k) (Plain ∷ Join (0 ∷ 0 ∷ i ∷ []) ∷ []))

written_append : (es fs : List Event) → written (es ++ fs) ≡ written es + written fs
written_append [] fs = omega arith
written_append (e ∷ es) fs = omega (arith, written_append es fs)

call_writes : (i k : ℕ) → written (call_events i k) ≡ 0
call_writes i zero = refl
call_writes i (suc k) = omega (arith, call_writes (i + 1) k, written_append (call_events (i + 1) k) (Plain ∷ Join (0 ∷ 0 ∷ i ∷ []) ∷ []))

leaf_steps : (i k : ℕ) → work (leaves i k) ≡ 5 * k
leaf_steps i zero = omega arith
leaf_steps i (suc k) = omega (arith, leaf_steps (i + 1) k)

leaf_count : (i k : ℕ) → length (leaves i k) ≡ k
leaf_count i zero = refl
leaf_count i (suc k) = omega (arith, leaf_count (i + 1) k)

leaf_writes : (i k : ℕ) → outputs (leaves i k) ≡ k
leaf_writes i zero = refl
leaf_writes i (suc k) = omega (arith, leaf_writes (i + 1) k)

pub steps : (n : ℕ) → work (records n) ≡ 10 * n + 9
steps n =
    omega (arith, length-append (call_events 0 n ++ Plain ∷ []) (End ∷ []), length-append (call_events 0 n) (Plain ∷ []), call_steps 0 n, leaf_steps 0 n)

leaf_lengths : (i k : ℕ) → lengths (leaves i k) ≡ replicate k 5
leaf_lengths i zero = refl
leaf_lengths i (suc k) = ap (λ xs. 5 ∷ xs) (leaf_lengths (i + 1) k)

pub each : (n : ℕ) → lengths (records n) ≡ 4 ∷ (5 * n + 5) ∷ replicate n 5
each n =
    let chain : length ((chain_events n ++ Plain ∷ []) ++ End ∷ []) ≡ 5 * n + 5 = omega (arith, length-append (call_events 0 n ++ Plain ∷ []) (End ∷ []), length-append (call_events 0 n) (Plain ∷ []), call_steps 0 n) in
    λ i. 4 ∷ chain i ∷ leaf_lengths 0 n i

pub threads : (n : ℕ) → length (records n) ≡ n + 2
threads n = omega (arith, leaf_count 0 n)

pub writes_of : (n : ℕ) → outputs (records n) ≡ n + 1
writes_of n =
    omega (arith, written_append (call_events 0 n ++ Plain ∷ []) (End ∷ []), written_append (call_events 0 n) (Plain ∷ []), call_writes 0 n, leaf_writes 0 n)
