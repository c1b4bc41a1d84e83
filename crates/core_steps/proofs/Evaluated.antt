-- The evaluation of all mains gives complete records, or the job has threads with more events than the fuel.
use Rattle.std.proofs.Common.{◌≡◌, ℕ, ◌+◌, ◌<◌, ◌≤◌, List, [], ◌∷◌, ◌++◌, Option, Some, None, length, refl, sym, ◌∙◌, ap, subst, arith, length-append, append_assoc}
use Rattle.std.specs.Prelude.{slice_get}
use Rattle.std.specs.Option.{option_and_then}
use Rattle.std.proofs.lemmas.List.{length_push}
use Rattle.priml_syntax.specs.declared.event.Event.TheVariants.{Start}
use Rattle.priml_syntax.specs.Tree.{inside, Routine}
use Rattle.priml_syntax.specs.Values.{Entry}
use Rattle.priml_syntax.specs.Records.{Each, In}
use Rattle.core_steps.specs.Steps.{Job, Ran, root, alone, root_state, prio_of}
use Rattle.core_steps.specs.Laws.{NeverStuck}
use Rattle.core_steps.specs.Meaning.{placed, Here, Answer, Out, Back, entered, closing, eval, roots_done}
use Rattle.core_steps.proofs.Complete.{Complete, each_map, in_placed, in_placed_self}
use Rattle.core_steps.proofs.Simulation.{Grows, Good, Long, state_at, IsResult, long_less, own, closed_table, below_more, simulates}

-- what the evaluation with fuel n tells: where it is out and no thread is stuck, there are more events than n
abbrev pub IsWhole : Job → ℕ → Option (List Entry) → Type 0
IsWhole job n None = NeverStuck job → (p : List ℕ) × Long job p (n + 1)
IsWhole job n (Some rs) = Complete job rs

at_seam : {X : Type 0} (xs ys : List X) (y : X) → slice_get (xs ++ y ∷ ys) (length xs) ≡ Some y
at_seam [] ys y = refl
at_seam (x ∷ xs) ys y = at_seam xs ys y

root_entered : (job : Job) (k : ℕ) (m : Routine) → slice_get job.program.mains k ≡ Some m → Ran job (k ∷ []) (Start ∷ []) (state_at (entered (k ∷ []) (prio_of [] m.declares.own)) (inside m.body) [] [] [])
root_entered job k m g = let fresh : Ran job (k ∷ []) [] (root_state m k) = root g refl refl refl in alone fresh refl refl refl refl

-- the roots below k have their records
abbrev HasRoots : ℕ → List Entry → Type 0
HasRoots k done = (j : ℕ) → j < k → In (j ∷ []) done

after_root : (job : Job) (n k : ℕ) (h0 : Here) (done : List Entry) (f : List Entry → Option (List Entry)) (a : Answer) → h0.path ≡ k ∷ [] → 1 ≤ length h0.events → IsResult job h0 done [] n a →
    ((all : List Entry) → Each (Good job all) all → Grows done all → In (k ∷ []) all → IsWhole job n (f all)) → IsWhole job n (option_and_then f (closing a))
after_root job n k h0 done f Out e l r go_on = λ never. (h0.path, long_less (length h0.events + n) (n + 1) (omega (arith, l)) (r never))
after_root job n k h0 done f (Back o h' done') e l b go_on =
    go_on (placed (own o h') done') (closed_table job h0 h' done done' o b) (λ p i. in_placed (own o h') done' p (b.grows p i)) (subst (λ p. In p (placed (own o h') done')) (b.path ∙ e) (in_placed_self (own o h') done'))

roots_whole : (job : Job) (n : ℕ) (ms : List Routine) (k : ℕ) (done : List Entry) (earlier : List Routine) → job.program.mains ≡ earlier ++ ms → length earlier ≡ k → Each (Good job done) done → HasRoots k done → IsWhole job n (roots_done job n ms k done)
roots_whole job n [] k done earlier e l good has = record {
  each = each_map done (λ r g. g.is) good;
  roots = λ j m. has j (omega (arith, m, l, ap length e, length-append earlier []));
  children = each_map done (λ r g. g.children) good;
}
roots_whole job n (m ∷ ms) k done earlier e l good has =
    let h0 : Here = entered (k ∷ []) (prio_of [] m.declares.own) in
    let g : slice_get job.program.mains k ≡ Some m = subst (λ z. slice_get job.program.mains z ≡ Some m) l (ap (λ xs. slice_get xs (length earlier)) e ∙ at_seam earlier ms m) in
    after_root job n k h0 done (roots_done job n ms (k + 1)) (eval job n h0 done (inside m.body) [] []) refl (omega arith)
    (simulates job n h0 done (inside m.body) [] [] [] (root_entered job k m g) (record { good = good; children = λ j z. absurd (omega (arith, z)) }) tt)
    (λ all good' grows i. roots_whole job n ms (k + 1) all (earlier ++ m ∷ []) (e ∙ sym (append_assoc earlier (m ∷ []) ms)) (length_push earlier m ∙ ap (λ z. z + 1) l) good' (below_more (λ j. In (j ∷ []) all) k (λ j l. grows (j ∷ []) (has j l)) i))

-- the evaluation with any fuel gives all records of the job, or the job has different threads with more events than the fuel
pub evaluated : (job : Job) (n : ℕ) → IsWhole job n (roots_done job n job.program.mains 0 [])
evaluated job n = roots_whole job n job.program.mains 0 [] [] refl refl tt (λ j l. absurd (omega (arith, l)))
