-- The chain's thread: each call spawns a leaf, calls the next, and joins the leaf.
use Rattle.std.proofs.Common.{◌≡◌, ℕ, zero, suc, ◌+◌, ◌*◌, ◌%◌, ◌^◌, ◌≤◌, ◌<◌, List, [], ◌∷◌, ◌++◌, Some, refl, sym, ◌∙◌, ap, arith, pos, append_assoc, add-zero}
use Rattle.std.proofs.lemmas.Bool.{lt-ltb}
use Rattle.std.proofs.lemmas.List.{append-nil}
use Rattle.std.proofs.lemmas.Nat.{mul-le}
use Rattle.priml_syntax.specs.declared.prio.Prio.TheVariants.{Const}
use Rattle.priml_syntax.specs.declared.expr.Op.TheVariants.{Add, Sub, Less}
use Rattle.priml_syntax.specs.Tree.{Term, var, number, binary, Code, block, Body, bind, ret_tail, sync, call, inside}
use Rattle.priml_syntax.specs.Values.{int_value, bool_value, thread_value, returned, Entry}
use Rattle.priml_syntax.specs.declared.event.Event.{Event}
use Rattle.priml_syntax.specs.declared.event.Event.TheVariants.{Start, Plain, Spawn, Join}
use Rattle.core_steps.specs.Expressions.{checked, AllGave, one_more}
use Rattle.core_steps.specs.Meaning.{Here, Back, closing, eval}
use Rattle.source_maker.specs.Tree.{call_leaf, chain_rest, chain_code, procedure, made_job}
use Rattle.source_maker.proofs.Numbers.{checked_small, one_less, some_left}
use Rattle.source_maker.proofs.Evaluations.{gives, takes_first, takes_second, joins, spawns, calls}
use Rattle.source_maker.proofs.Leaf.{leaf_gives, leaf_entry, leaves}
use Rattle.source_maker.proofs.Leaves.{AreEarlier, placed_last, earlier_more, leaf_ended}

-- what the leaves of the numbers up to k give together
abbrev pub total : ℕ → ℕ
total zero = 0
total (suc k) = total k + suc k % 7

-- the events of the call with number k, whose leaf is the thread with number i among the chain's
abbrev pub call_events : ℕ → ℕ → List Event
call_events i zero = Plain ∷ []
call_events i (suc k) = Plain ∷ Spawn ∷ Plain ∷ (call_events (i + 1) k ++ Plain ∷ Join (0 ∷ 0 ∷ i ∷ []) ∷ [])

-- three actions for each call
abbrev pub fuel_for : ℕ → ℕ → ℕ
fuel_for zero d = d
fuel_for (suc k) d = suc (suc (suc (fuel_for k d)))

abbrev pub chain_at : ℕ → List Event → Here
chain_at i es = record { path = 0 ∷ 0 ∷ []; prio = 0; reads = 0; children = i; events = es }

pub total_small : (k : ℕ) → total k ≤ 6 * k
total_small zero = omega arith
total_small (suc k) = omega (arith, total_small k)

came : (v w i j : ℕ) (es fs : List Event) (rs qs : List Entry) → v ≡ w → i ≡ j → es ≡ fs → rs ≡ qs →
    Back (returned (int_value (pos v))) (chain_at i es) rs ≡ Back (returned (int_value (pos w))) (chain_at j fs) qs
came v w i j es fs rs qs a b c d = λ k. Back (returned (int_value (pos (a k)))) (chain_at (b k) (c k)) (d k)

in_row : (es fs : List Event) (a b c d e : Event) → (((((es ++ a ∷ []) ++ b ∷ []) ++ c ∷ []) ++ fs) ++ d ∷ []) ++ e ∷ [] ≡ es ++ (a ∷ b ∷ c ∷ (fs ++ d ∷ e ∷ []))
in_row es fs a b c d e = simp append_assoc

square_small : (k : ℕ) → k ≤ 5000 → k * k < 2 ^ 63
square_small k l = omega (arith, mul-le k k 5000 5000 l l)

-- the parts of a chain's body
abbrev is_last : Term
is_last = binary 152 Less (var 153 0) (number 157 (pos 1))

abbrev last_code : Code
last_code = block 160 (ret_tail 162 (number 166 (pos 0)))

abbrev one_less_of : Term
one_less_of = binary 248 Sub (var 249 0) (number 253 (pos 1))

abbrev both_terms : Term
both_terms = binary 283 Add (var 284 2) (var 288 3)

abbrev last_join : Body
last_join = bind 267 (sync 1) (ret_tail 279 both_terms)

abbrev next_call : Body
next_call = bind 237 (call 1 [] (one_less_of ∷ [])) last_join

module _ (n : ℕ) where
  leaf_done : (d k i : ℕ) (done : List Entry) → k ≤ 5000 → AreEarlier i done →
      closing (eval (made_job n) (suc (suc (suc d))) (record { path = 0 ∷ 0 ∷ i ∷ []; prio = 0; reads = 0; children = 0; events = Start ∷ [] }) done (inside call_leaf) (int_value (pos k) ∷ []) []) ≡ Some (done ++ leaf_entry i k ∷ [])
  leaf_done d k i done l earlier = ap closing (leaf_gives n d k (0 ∷ 0 ∷ i ∷ []) done (square_small k l) (omega arith)) ∙ ap Some (placed_last i k done earlier)

  pub chain_gives : (k i d : ℕ) (es : List Event) (done : List Entry) → i + k ≤ 5000 → AreEarlier i done →
      eval (made_job n) (suc (suc (fuel_for k d))) (chain_at i es) done (inside chain_code) (int_value (pos k) ∷ []) []
      ≡ Back (returned (int_value (pos (total k)))) (chain_at (i + k) (es ++ call_events i k)) (done ++ leaves i k)
  chain_gives zero i d es done l earlier =
      takes_first (made_job n) (suc d) (chain_at i es) done (int_value (pos 0) ∷ []) [] 149 is_last last_code chain_rest refl
      ∙ gives (made_job n) d (chain_at i (es ++ Plain ∷ [])) done (int_value (pos 0) ∷ []) [] 162 (number 166 (pos 0)) (int_value (pos 0)) refl
      ∙ came 0 0 i (i + 0) (es ++ Plain ∷ []) (es ++ Plain ∷ []) done (done ++ []) refl (sym (add-zero i)) refl (sym (append-nil done))
  chain_gives (suc k) i d es done l earlier =
      let scope = int_value (pos (suc k)) ∷ [] in
      let spawned = scope ++ thread_value (0 ∷ 0 ∷ i ∷ []) 0 ∷ [] in
      let called = spawned ++ int_value (pos (total k)) ∷ [] in
      let chosen = es ++ Plain ∷ [] in
      let going = (chosen ++ Spawn ∷ []) ++ Plain ∷ [] in
      let back = (going ++ call_events (i + 1) k) ++ Plain ∷ [] in
      let more = done ++ leaf_entry i (suc k) ∷ [] in
      let all = more ++ leaves (i + 1) k in
      let small = total_small k in
      takes_second (made_job n) (suc (suc (suc (suc (fuel_for k d))))) (chain_at i es) done scope [] 149 is_last last_code chain_rest (ap (λ b. Some (returned (bool_value b))) (some_left k))
      ∙ spawns (made_job n) (suc (suc (suc (fuel_for k d)))) (chain_at i chosen) done scope [] 188 (Const 0) call_leaf next_call more (lt-ltb i 4294967295 (omega arith)) (leaf_done (fuel_for k d) (suc k) i done (omega arith) earlier)
      ∙ calls (made_job n) (suc (suc (fuel_for k d))) (chain_at (i + 1) (chosen ++ Spawn ∷ [])) more spawned [] 237 1 (one_less_of ∷ []) last_join (int_value (pos k) ∷ []) (procedure 113 chain_code)
      (int_value (pos (total k))) (chain_at (i + 1 + k) (going ++ call_events (i + 1) k)) all
      (ap (λ o. one_more (Some o) (Some (AllGave []))) (ap checked (one_less k) ∙ checked_small k (omega arith))) refl
      (chain_gives k (i + 1) d going more (omega arith) (earlier_more i (suc k) done earlier))
      ∙ joins (made_job n) (suc (fuel_for k d)) (chain_at (i + 1 + k) back) all called [] 267 1 (ret_tail 279 both_terms) (0 ∷ 0 ∷ i ∷ []) (int_value (pos (suc k % 7))) refl
      (leaf_ended i (suc k) done (leaves (i + 1) k) earlier)
      ∙ gives (made_job n) (fuel_for k d) (chain_at (i + 1 + k) (back ++ Join (0 ∷ 0 ∷ i ∷ []) ∷ [])) all (called ++ int_value (pos (suc k % 7)) ∷ []) [] 279 both_terms
      (int_value (pos (total k + suc k % 7))) (ap Some (checked_small (total k + suc k % 7) (omega (arith, small))))
      ∙ came (total k + suc k % 7) (total k + suc k % 7) (i + 1 + k) (i + suc k) (back ++ Join (0 ∷ 0 ∷ i ∷ []) ∷ []) (es ++ call_events i (suc k)) all (done ++ leaves i (suc k)) refl (omega arith) (in_row es (call_events (i + 1) k) Plain Spawn Plain Plain (Join (0 ∷ 0 ∷ i ∷ []))) (append_assoc done (leaf_entry i (suc k) ∷ []) (leaves (i + 1) k))
