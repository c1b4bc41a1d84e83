-- The records of the evaluation are in the order of paths.
use Rattle.std.proofs.Common.{◌≡◌, ℕ, zero, suc, ◌+◌, List, [], ◌∷◌, ◌++◌, Option, Some, None, inl, inr, refl, sym, subst, arith, Bool, true, false, if◌then◌else◌}
use Rattle.std.specs.Prelude.{ℤ, slice_get}
use Rattle.std.specs.Option.{option_and_then, IfSome}
use Rattle.priml_syntax.specs.declared.event.Event.TheVariants.{Plain, Spawn, Join, Read, Wrote}
use Rattle.priml_syntax.specs.declared.value.FaultKind.TheVariants.{Depth}
use Rattle.priml_syntax.specs.Tree.{Code, Body, bind, ret_tail, if_tail, case_tail, ret, spawn, sync, call, do_block, input, output, inside, Routine}
use Rattle.priml_syntax.specs.Values.{Value', unit_value, bool_value, int_value, left_value, right_value, thread_value, Outcome', returned, faulted, Entry}
use Rattle.priml_syntax.specs.Paths.{child_path, path_lt, Precedes, Left}
use Rattle.priml_syntax.specs.Records.{Each, InPathOrder}
use Rattle.priml_syntax.specs.Inputs.{inputs_of}
use Rattle.priml_syntax.proofs.Orders.{transitive, Told, told}
use Rattle.core_steps.specs.Expressions.{result_of, Results, AllGave, OneFault, results_of}
use Rattle.core_steps.specs.Steps.{Job, prio_of, thread_in}
use Rattle.core_steps.specs.Meaning.{placed, outcome_at, Here, Answer, Out, Back, noted, with_value, with_values, entered, closing, after_thread, after_block, after_sync, synced, called, drawn, written, cased, may_spawn, eval, roots_done}
use Rattle.core_steps.proofs.Order.{left_longer, left_through, left_sibling, before_from_left, before_irreflexive}
use Rattle.core_steps.proofs.Complete.{each_map, each_placed}
use Rattle.core_steps.proofs.Simulation.{own}

placed_choice : (r x : Entry) (xs : List Entry) (b : Bool) → Told r.path x.path b → (x.path ≡ r.path → ⊥) → Each (λ y. Precedes x.path y.path) xs → InPathOrder xs → InPathOrder (placed r xs) → InPathOrder (if b then r ∷ x ∷ xs else x ∷ placed r xs)
placed_choice r x xs true h n e s t = ((h, each_map xs (λ y l. transitive r.path x.path y.path h l) e), (e, s))
placed_choice r x xs false h n e s t = elim h [ inl a ↦ absurd (n (sym a)) | inr a ↦ (each_placed (λ y. Precedes x.path y.path) r xs a e, t) ]

-- a record of a new thread is put in its place
placed_in_order : (r : Entry) (rs : List Entry) → Each (λ x. x.path ≡ r.path → ⊥) rs → InPathOrder rs → InPathOrder (placed r rs)
placed_in_order r [] n s = (tt, tt)
placed_in_order r (x ∷ xs) n s = placed_choice r x xs (path_lt r.path x.path) (told r.path x.path) n.0 s.0 s.1 (placed_in_order r xs n.1 s.1)

-- the records are in order, and left of the thread's next child
abbrev IsTidy : List ℕ → ℕ → List Entry → Type 0
IsTidy p k done = InPathOrder done × Each (λ r. Left r.path (child_path p k)) done

-- an answer of this thread leaves tidy records
abbrev OnAnswer : List ℕ → Answer → Type 0
OnAnswer p Out = Unit {0}
OnAnswer p (Back o h done) = (h.path ≡ p) × IsTidy h.path h.children done

abbrev KeepsOrder : Job → ℕ → Type 0
KeepsOrder job d = (h : Here) (done : List Entry) (c : Body) (scope : List Value') (ps : List ℕ) → IsTidy h.path h.children done → OnAnswer h.path (eval job d h done c scope ps)

-- the record of a thread whose block is done takes its place
own_in_order : (o : Outcome') (h : Here) (done : List Entry) → IsTidy h.path h.children done → InPathOrder (placed (own o h) done)
own_in_order o h done t = placed_in_order (own o h) done (each_map done (λ r l e. before_irreflexive h.path (before_from_left h.path h.path (h.children ∷ []) (subst (λ p. Left p (child_path h.path h.children)) e l))) t.1) t.0

module _ (h : Here) (done : List Entry) (t : IsTidy h.path h.children done) where
  value_order : (o : Option Outcome') (f : Value' → Answer) → ((v : Value') → OnAnswer h.path (f v)) → OnAnswer h.path (with_value h done o f)
  value_order None f k = tt
  value_order (Some (faulted x)) f k = (refl, t)
  value_order (Some (returned v)) f k = k v

  values_order : (o : Option Results) (f : List Value' → Answer) → ((vs : List Value') → OnAnswer h.path (f vs)) → OnAnswer h.path (with_values h done o f)
  values_order None f k = tt
  values_order (Some (OneFault x)) f k = (refl, t)
  values_order (Some (AllGave vs)) f k = k vs

  joined_order : (b : List ℕ) (o : Option Outcome') (f : Value' → Answer) → ((v : Value') → OnAnswer h.path (f v)) → OnAnswer h.path (after_sync h done o b f)
  joined_order b None f k = tt
  joined_order b (Some (faulted x)) f k = (refl, t)
  joined_order b (Some (returned v)) f k = k v

  synced_order : (o : Option (List ℕ)) (f : List ℕ → Value' → Answer) → ((b : List ℕ) (v : Value') → OnAnswer h.path (f b v)) → OnAnswer h.path (synced h done o f)
  synced_order None f k = tt
  synced_order (Some b) f k = joined_order b (outcome_at done b) (f b) (k b)

called_order : (p : List ℕ) (o : Option Routine) (f : Routine → Answer) → ((g : Routine) → OnAnswer p (f g)) → OnAnswer p (called o f)
called_order p None f k = tt
called_order p (Some g) f k = k g

drawn_order : (p : List ℕ) (o : Option ℤ) (f : Value' → ℕ → Answer) → ((v : Value') (n : ℕ) → OnAnswer p (f v n)) → OnAnswer p (drawn o f)
drawn_order p None f k = k (left_value unit_value) 0
drawn_order p (Some z) f k = k (right_value (int_value z)) 1

written_order : (p : List ℕ) (v : Value') (f : ℤ → Answer) → ((z : ℤ) → OnAnswer p (f z)) → OnAnswer p (written v f)
written_order p (int_value z) f k = k z
written_order p v f k = tt

cased_order : (p : List ℕ) (v : Value') (f g : Value' → Answer) → ((w : Value') → OnAnswer p (f w)) → ((w : Value') → OnAnswer p (g w)) → OnAnswer p (cased v f g)
cased_order p (left_value v) f g k l = k v
cased_order p (right_value v) f g k l = l v
cased_order p v f g k l = tt

block_order : (p : List ℕ) (a : Answer) (f : Value' → Here → List Entry → Answer) → OnAnswer p a → ((v : Value') (h : Here) (done : List Entry) → IsTidy h.path h.children done → OnAnswer h.path (f v h done)) → OnAnswer p (after_block a f)
block_order p Out f t k = tt
block_order p (Back (faulted x) h done) f t k = t
block_order p (Back (returned v) h done) f t k = subst (λ q. OnAnswer q (f v h done)) t.0 (k v h done t.1)

-- the records with that of the k-th child
closed_tidy : (p : List ℕ) (k : ℕ) (o : Outcome') (h : Here) (done : List Entry) → OnAnswer (child_path p k) (Back o h done) → IsTidy p (k + 1) (placed (own o h) done)
closed_tidy p k o h done t =
    let next : Left (child_path p k) (child_path p (k + 1)) = left_sibling p k (k + 1) (omega arith) in (
      own_in_order o h done t.1,
      each_placed (λ r. Left r.path (child_path p (k + 1))) (own o h) done
          (subst (λ q. Left q (child_path p (k + 1))) (sym t.0) next)
          (each_map done (λ r l. left_through r.path (child_path p k) (h.children ∷ []) (child_path p (k + 1)) (subst (λ q. Left r.path (q ++ h.children ∷ [])) t.0 l) next) t.1.1),
    )

thread_order : (p : List ℕ) (k : ℕ) (a : Answer) (f : List Entry → Answer) → OnAnswer (child_path p k) a → ((done : List Entry) → IsTidy p (k + 1) done → OnAnswer p (f done)) → OnAnswer p (after_thread (closing a) f)
thread_order p k Out f t g = tt
thread_order p k (Back o h done) f t g = g (placed (own o h) done) (closed_tidy p k o h done t)

module _ (job : Job) (d : ℕ) (ih : KeepsOrder job d) where
  branch_order : (h : Here) (done : List Entry) (a b : Code) (scope : List Value') (ps : List ℕ) → IsTidy h.path h.children done → (v : Value') →
      OnAnswer h.path (elim v [ bool_value c ↦ elim c [ true ↦ eval job d (noted h Plain) done (inside a) scope ps | false ↦ eval job d (noted h Plain) done (inside b) scope ps ] | _ ↦ Out ])
  branch_order h done a b scope ps t (bool_value true) = ih (noted h Plain) done (inside a) scope ps t
  branch_order h done a b scope ps t (bool_value false) = ih (noted h Plain) done (inside b) scope ps t
  branch_order h done a b scope ps t v = tt

  spawn_order : (h : Here) (done : List Entry) (q : ℕ) (b : Code) (k : Body) (scope : List Value') (ps : List ℕ) → IsTidy h.path h.children done → (may : Bool) →
      OnAnswer h.path (elim may [
        | true ↦ after_thread (closing (eval job d (entered (child_path h.path h.children) q) done (inside b) scope ps)) (λ done'. eval job d (record h { children = h.children + 1; events = h.events ++ Spawn ∷ [] }) done' k (scope ++ thread_value (child_path h.path h.children) q ∷ []) ps)
        | false ↦ Back (faulted Depth) h done
      ])
  spawn_order h done q b k scope ps t false = (refl, t)
  spawn_order h done q b k scope ps t true =
      thread_order h.path h.children (eval job d (entered (child_path h.path h.children) q) done (inside b) scope ps) _
      (ih (entered (child_path h.path h.children) q) done (inside b) scope ps (t.0, each_map done (λ r l. left_longer r.path (child_path h.path h.children) (0 ∷ []) l) t.1))
      (λ done' t'. ih (record h { children = h.children + 1; events = h.events ++ Spawn ∷ [] }) done' k (scope ++ thread_value (child_path h.path h.children) q ∷ []) ps t')

  body_order : KeepsOrder job (suc d)
  body_order h done (ret_tail at e) scope ps t = value_order h done t (result_of scope e) _ (λ v. (refl, t))
  body_order h done (if_tail at e a b) scope ps t = value_order h done t (result_of scope e) _ (branch_order h done a b scope ps t)
  body_order h done (case_tail at e a b) scope ps t = value_order h done t (result_of scope e) _ (λ v. cased_order h.path v _ _ (λ w. ih (noted h Plain) done (inside a) (scope ++ w ∷ []) ps t) (λ w. ih (noted h Plain) done (inside b) (scope ++ w ∷ []) ps t))
  body_order h done (bind at (ret e) k) scope ps t = value_order h done t (result_of scope e) _ (λ v. ih (noted h Plain) done k (scope ++ v ∷ []) ps t)
  body_order h done (bind at (spawn p b) k) scope ps t = spawn_order h done (prio_of ps p) b k scope ps t (may_spawn h)
  body_order h done (bind at (sync x) k) scope ps t = synced_order h done t (thread_in (slice_get scope x)) _ (λ b v. ih (noted h (Join b)) done k (scope ++ v ∷ []) ps t)
  body_order h done (bind at (call f qs es) k) scope ps t = values_order h done t (results_of scope es) _ (λ vs. called_order h.path (slice_get job.program.procs f) _ (λ g. block_order h.path _ _ (ih (noted h Plain) done (inside g.body) vs _ t) (λ w h' done' t'. ih (noted h' Plain) done' k (scope ++ w ∷ []) ps t')))
  body_order h done (bind at (do_block b) k) scope ps t = block_order h.path _ _ (ih (noted h Plain) done (inside b) scope ps t) (λ w h' done' t'. ih (noted h' Plain) done' k (scope ++ w ∷ []) ps t')
  body_order h done (bind at input k) scope ps t = drawn_order h.path (slice_get (inputs_of job.inputs h.path) h.reads) _ (λ v m. ih (record h { reads = h.reads + m; events = h.events ++ Read ∷ [] }) done k (scope ++ v ∷ []) ps t)
  body_order h done (bind at (output e) k) scope ps t = value_order h done t (result_of scope e) _ (λ v. written_order h.path v _ (λ z. ih (noted h (Wrote z)) done k (scope ++ unit_value ∷ []) ps t))

no_fuel : (job : Job) → KeepsOrder job zero
no_fuel job h done c scope ps t = tt

-- the evaluation of a block leaves tidy records
keeps_order : (job : Job) (d : ℕ) → KeepsOrder job d
keeps_order job zero = no_fuel job
keeps_order job (suc d) = body_order job d (keeps_order job d)

root_order : (k : ℕ) (f : List Entry → Option (List Entry)) (a : Answer) → OnAnswer (k ∷ []) a → ((all : List Entry) → IsTidy [] (k + 1) all → IfSome (f all) InPathOrder) → IfSome (option_and_then f (closing a)) InPathOrder
root_order k f Out t g = tt
root_order k f (Back o h done) t g = g (placed (own o h) done) (closed_tidy [] k o h done t)

-- the roots are in order like the children of one thread
roots_order : (job : Job) (n : ℕ) (ms : List Routine) (k : ℕ) (done : List Entry) → IsTidy [] k done → IfSome (roots_done job n ms k done) InPathOrder
roots_order job n [] k done t = t.0
roots_order job n (m ∷ ms) k done t =
    let h0 : Here = entered (k ∷ []) (prio_of [] m.declares.own) in
    root_order k (roots_done job n ms (k + 1)) (eval job n h0 done (inside m.body) [] []) (keeps_order job n h0 done (inside m.body) [] [] (t.0, each_map done (λ r l. left_longer r.path (k ∷ []) (0 ∷ []) l) t.1)) (roots_order job n ms (k + 1))

-- the evaluation of all mains leaves the records in the order of paths
pub sorted : (job : Job) (n : ℕ) → IfSome (roots_done job n job.program.mains 0 []) InPathOrder
sorted job n = roots_order job n job.program.mains 0 [] (tt, tt)
