-- Laws of reached configurations: their threads, the counts of these, and which have ended.
use Rattle.std.proofs.Common.{◌≡◌, ◌↔◌, ℕ, ◌<◌, List, [], ◌∷◌, ◌++◌, Option, Some, None, length, inl, inr, refl, sym, ◌∙◌, ap, subst, arith}
use Rattle.std.proofs.lemmas.List.{nil_from_length}
use Rattle.std.proofs.lemmas.Option.{same_Some, none-some}
use Rattle.priml_syntax.specs.declared.event.Event.{Event}
use Rattle.priml_syntax.specs.declared.event.Event.TheVariants.{End}
use Rattle.priml_syntax.specs.Tree.{pairs_of}
use Rattle.priml_syntax.specs.Paths.{child_path}
use Rattle.priml_syntax.specs.Events.{spawns}
use Rattle.priority_order.specs.Order.{AtMost}
use Rattle.core_steps.specs.Steps.{Job, awaits, outcome_in}
use Rattle.core_steps.specs.Config.{Thread, thread_by_path, Reached, IsFinished, WaitsOn}
use Rattle.core_steps.specs.Determined.{events_in, events_of, IsIn, HasEnded, one_live, unended}
use Rattle.core_steps.specs.Laws.{EachIsDetermined, ThreadsAreSpawned, ChildrenAreIn, AwaitedAreIn, Counts, AwaitsSafely}
use Rattle.core_steps.proofs.StepFacts.{ended_or_live}
use Rattle.core_steps.proofs.Named.{named, spawns_append, push_not_nil}
use Rattle.core_steps.proofs.StepNames.{awaited_named}
use Rattle.core_steps.proofs.OneState.{leads}
use Rattle.core_steps.proofs.Endings.{ended_last, last_ended, live_or}
use Rattle.core_steps.proofs.Threads.{same_or_not, found_first, found_behind}
use Rattle.core_steps.proofs.Closed.{Closed, HasParent}
use Rattle.core_steps.proofs.Starts.{reached_closed, reached_steps}

-- each thread of a reached configuration is in its determined state
pub each_is_determined : (job : Job) → EachIsDetermined job
each_is_determined job c p t r = (reached_closed job c r).ran p t

-- the threads are the roots, and those that were spawned
pub threads_are_spawned : (job : Job) → ThreadsAreSpawned job
threads_are_spawned job c p r = (k.parents p, back)
  where
    k : Closed job c
    k = reached_closed job c r

    back : HasParent job c p → IsIn c p
    back (inl x) = k.roots p x
    back (inr x) = subst (IsIn c) (sym x.2) (k.children x.0 x.1 x.3)

-- a spawned thread is there
pub children_are_in : (job : Job) → ChildrenAreIn job
children_are_in job c q es s n r d l m = go (thread_by_path c q) refl
  where
    k : Closed job c
    k = reached_closed job c r

    go : (o : Option Thread) → thread_by_path c q ≡ o → IsIn c (child_path q n)
    go None e = absurd (let z : es ≡ [] = nil_from_length es (omega (arith, l, ap (λ x. length (events_in x)) e)) in omega (arith, m, (named d).children, ap spawns z))
    go (Some t) e =
        let z : events_of c q ≡ t.events = ap events_in e in
        let x = leads (k.ran q t e) es s d (omega (arith, l, ap length z)) in
        k.children q n (omega (arith, m, (named d).children, spawns_append es x.rest, ap spawns x.joins, ap spawns z))

-- what a thread awaits is there, for a state names only threads that are
pub awaited_are_in : (job : Job) → AwaitedAreIn job
awaited_are_in job c p b t r e a = let k : Closed job c = reached_closed job c r in awaited_named (IsIn c) t.state b (k.names p t e) a

-- no thread is left that has not ended, exactly where each has
none_left : (c : List Thread) → unended c ≡ 0 → IsFinished c
none_left [] e = tt
none_left (t ∷ ts) e = (live_or (outcome_in t.state.phase) (omega (arith, e)), none_left ts (omega (arith, e)))

all_ended : (c : List Thread) → IsFinished c → unended c ≡ 0
all_ended [] h = refl
all_ended (t ∷ ts) h = omega (arith, ap one_live h.0.1, all_ended ts h.1)

some_left : (c : List Thread) (p : List ℕ) (t : Thread) → thread_by_path c p ≡ Some t → outcome_in t.state.phase ≡ None → 0 < unended c
some_left [] p t e h = absurd (none-some t e)
some_left (x ∷ ts) p t e h = elim (same_or_not x.state.path p) [
  | inl s ↦ (let z : x ≡ t = same_Some x t (sym (found_first x ts p s) ∙ e) in omega (arith, ap (λ y. one_live (outcome_in y.state.phase)) z, ap one_live h))
  | inr n ↦ omega (arith, some_left ts p t (sym (found_behind x ts p n) ∙ e) h)
]

left_where : (c : List Thread) (p : List ℕ) → IsIn c p → (HasEnded c p → ⊥) → 0 < unended c
left_where c p i n = elim (ended_or_live i.0.state.phase) [ inl h ↦ absurd (n (i.0, h.0, i.1, h.1)) | inr h ↦ some_left c p i.0 i.1 h ]

end_last : (job : Job) (c : List Thread) (p : List ℕ) → Closed job c → HasEnded c p ↔ ((es : List Event) × (events_of c p ≡ es ++ End ∷ []))
end_last job c p k = (forth, λ x. back x.0 x.1 (thread_by_path c p) refl)
  where
    forth : HasEnded c p → (es : List Event) × (events_of c p ≡ es ++ End ∷ [])
    forth h = let x = ended_last h.1 (k.ran p h.0 h.2) h.3 in (x.0, ap events_in h.2 ∙ x.1)

    back : (es : List Event) → events_of c p ≡ es ++ End ∷ [] → (o : Option Thread) → thread_by_path c p ≡ o → HasEnded c p
    back es e None f = absurd (push_not_nil es End (sym e ∙ ap events_in f))
    back es e (Some t) f = let x = last_ended es (k.ran p t f) (sym (ap events_in f) ∙ e) in (t, x.0, f, x.1)

pub counts : (job : Job) → Counts job
counts job = record {
  none = λ c r. (none_left c, all_ended c);
  some = λ c p r. left_where c p;
  last = λ c p r. end_last job c p (reached_closed job c r);
  steps = reached_steps job;
}

-- where what a thread awaits has a priority that its own is at most, that holds of each wait of a reached configuration
pub safe_waits : (job : Job) → AwaitsSafely job → (c : List Thread) (a b : List ℕ) (s t : Thread) → Reached job c → WaitsOn c a b → thread_by_path c a ≡ Some s → thread_by_path c b ≡ Some t → AtMost (pairs_of job.program) s.state.prio t.state.prio
safe_waits job h c a b s t r w e f =
    let z : w.0 ≡ s = same_Some w.0 s (sym w.1 ∙ e) in
    h a b s.events t.events s.state t.state (each_is_determined job c a s r e) (each_is_determined job c b t r f) (ap (λ x. awaits x.state) (sym z) ∙ w.2)
