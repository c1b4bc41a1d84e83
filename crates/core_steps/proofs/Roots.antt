-- The slots of the roots, made one after another.
use Rattle.std.proofs.Common.{◌≡◌, ℕ, ◌+◌, ◌<◌, List, [], ◌∷◌, ◌++◌, Some, length, refl, sym, ◌∙◌, ap, subst, arith, length-append, append_assoc, append-nil}
use Rattle.std.specs.Prelude.{slice_get}
use Rattle.std.specs.List.{AllByRecursion}
use Rattle.std.proofs.lemmas.List.{nil_from_length}
use Rattle.priml_syntax.specs.Tree.{Routine, Tree}
use Rattle.core_steps.specs.Steps.{Job, root_state}
use Rattle.core_steps.specs.Config.{Thread, roots_from, begin}
use Rattle.core_steps.specs.Configs.{SlotFields, IsCounted, thread_of, threads_from, AreSlots}
use Rattle.core_steps.proofs.Slots.{Stands, AllStand, stands, all_stand, all_read}
use Rattle.core_steps.proofs.Starts.{starts}

abbrev root_thread : Routine → ℕ → Thread
root_thread m k = record { state = root_state m k; events = [] }

-- these slots are those of the first mains
pub record FirstRoots (job : Job) (k : ℕ) (ss : List SlotFields) : Type 0 where
  pub earlier : List Routine
  pub later : List Routine
  pub all : job.program.mains ≡ earlier ++ later
  pub many : length earlier ≡ k
  pub reads : threads_from job.program ss ≡ Some (roots_from earlier 0)
  pub counted : AllByRecursion IsCounted ss

pub no_roots : (job : Job) (ss : List SlotFields) → ss ≡ [] → FirstRoots job 0 ss
no_roots job ss e = record { earlier = []; later = job.program.mains; all = refl; many = refl; reads = ap (threads_from job.program) e; counted = subst (AllByRecursion IsCounted) (sym e) tt }

-- one thread more
stand_push : (p : Tree) (ss : List SlotFields) (ts : List Thread) (s : SlotFields) (t : Thread) → AllStand p ss ts → Stands p s t → AllStand p (ss ++ s ∷ []) (ts ++ t ∷ [])
stand_push p [] [] s t a h = (h, tt)
stand_push p [] (u ∷ ts) s t a h = absurd a
stand_push p (x ∷ ss) [] s t a h = absurd a
stand_push p (x ∷ ss) (u ∷ ts) s t a h = (a.0, stand_push p ss ts s t a.1 h)

counted_push : (ss : List SlotFields) (s : SlotFields) → AllByRecursion IsCounted ss → IsCounted s → AllByRecursion IsCounted (ss ++ s ∷ [])
counted_push [] s a h = (h, tt)
counted_push (x ∷ ss) s a h = (a.0, counted_push ss s a.1 h)

roots_push : (ms : List Routine) (m : Routine) (j : ℕ) → roots_from (ms ++ m ∷ []) j ≡ roots_from ms j ++ root_thread m (j + length ms) ∷ []
roots_push [] m j = let z : j ≡ j + 0 = omega arith in ap (λ n. root_thread m n ∷ []) z
roots_push (x ∷ ms) m j = let z : j + 1 + length ms ≡ j + length (x ∷ ms) = omega arith in ap (λ ts. root_thread x j ∷ ts) (roots_push ms m (j + 1) ∙ ap (λ n. roots_from ms (j + 1) ++ root_thread m n ∷ []) z)

at_seam : (xs ys : List Routine) (m : Routine) → slice_get (xs ++ m ∷ ys) (length xs) ≡ Some m
at_seam [] ys m = refl
at_seam (x ∷ xs) ys m = at_seam xs ys m

pub more_roots : (job : Job) (k : ℕ) (ss : List SlotFields) (s : SlotFields) (ts : List SlotFields) → FirstRoots job k ss → k < length job.program.mains →
    ((m : Routine) → slice_get job.program.mains k ≡ Some m → thread_of job.program s ≡ Some (root_thread m k)) → IsCounted s → ts ≡ ss ++ s ∷ [] → FirstRoots job (k + 1) ts
more_roots job k ss s ts r l f counted is = go r.later r.all
  where
    go : (later : List Routine) → job.program.mains ≡ r.earlier ++ later → FirstRoots job (k + 1) ts
    go [] e = absurd (omega (arith, l, ap length e, length-append r.earlier [], r.many))
    go (m ∷ ms) e =
        let there : slice_get job.program.mains k ≡ Some m = subst (λ n. slice_get job.program.mains n ≡ Some m) r.many (ap (λ xs. slice_get xs (length r.earlier)) e ∙ at_seam r.earlier ms m) in
        let z : k ≡ 0 + length r.earlier = omega (arith, r.many) in
        let new : Stands job.program s (root_thread m (0 + length r.earlier)) = stands job.program s (root_thread m (0 + length r.earlier)) (f m there ∙ ap (λ n. Some (root_thread m n)) z) in
        let all : AllStand job.program (ss ++ s ∷ []) (roots_from r.earlier 0 ++ root_thread m (0 + length r.earlier) ∷ []) =
        stand_push job.program ss (roots_from r.earlier 0) s (root_thread m (0 + length r.earlier)) (all_stand job.program ss (roots_from r.earlier 0) r.reads) new in
        record {
          earlier = r.earlier ++ m ∷ [];
          later = ms;
          all = e ∙ sym (append_assoc r.earlier (m ∷ []) ms);
          many = omega (arith, length-append r.earlier (m ∷ []), r.many);
          reads = ap (threads_from job.program) is ∙ (all_read job.program (ss ++ s ∷ []) (roots_from r.earlier 0 ++ root_thread m (0 + length r.earlier) ∷ []) all ∙ ap Some (sym (roots_push r.earlier m 0)));
          counted = subst (AllByRecursion IsCounted) (sym is) (counted_push ss s r.counted counted);
        }

-- once each main has its slot, they are the start
pub all_roots : (job : Job) (k : ℕ) (ss : List SlotFields) → FirstRoots job k ss → k ≡ length job.program.mains → (threads_from job.program ss ≡ Some (begin job)) × AreSlots job ss
all_roots job k ss r l =
    let none : r.later ≡ [] = nil_from_length r.later (omega (arith, l, ap length r.all, length-append r.earlier r.later, r.many)) in
    let whole : r.earlier ≡ job.program.mains = sym (r.all ∙ (ap (λ xs. r.earlier ++ xs) none ∙ append-nil r.earlier)) in
    let reads : threads_from job.program ss ≡ Some (begin job) = r.reads ∙ ap (λ ms. Some (roots_from ms 0)) whole in
    (reads, record { threads = begin job; reads = reads; reached = (starts job).reached; counted = r.counted })
