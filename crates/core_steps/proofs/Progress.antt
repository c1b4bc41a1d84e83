-- While some thread of a reached configuration has not ended some thread can step: one that none which has not ended comes before.
use Rattle.std.proofs.Common.{◌≡◌, ℕ, List, [], ◌∷◌, Option, Some, None, ◌⊎◌, inl, inr, refl, sym, ◌∙◌, ap, subst}
use Rattle.std.specs.List.{AllByRecursion}
use Rattle.priml_syntax.specs.Values.{Outcome'}
use Rattle.priml_syntax.specs.Paths.{Before}
use Rattle.core_steps.specs.Steps.{Job, awaits, Ran, outcome_in}
use Rattle.core_steps.specs.Config.{Thread, thread_by_path, handed, after, followed, Reached, IsFinished}
use Rattle.core_steps.specs.Determined.{IsIn}
use Rattle.core_steps.specs.Laws.{GoesOn, NeverStuck}
use Rattle.core_steps.proofs.Order.{before_irreflexive, before_transitive, before_total}
use Rattle.core_steps.proofs.StepFacts.{ended_phase, ended_or_live}
use Rattle.core_steps.proofs.StepNames.{awaited_named, names_before}
use Rattle.core_steps.proofs.Threads.{InOrder, found_first, found_later, found_path, each_found, all_map}
use Rattle.core_steps.proofs.Closed.{Closed, Choice, choice_followed, given_ended}
use Rattle.core_steps.proofs.Starts.{reached_closed}

abbrev HasOutcome : Thread → Type 0
HasOutcome t = (o : Outcome') × (outcome_in t.state.phase ≡ Some o)

-- the thread has ended, or does not come before p
abbrev NotBefore : List ℕ → Thread → Type 0
NotBefore p x = HasOutcome x ⊎ (Before x.state.path p → ⊥)

-- a thread that has not ended, and none before it that has not
record Least (ts : List Thread) : Type 0 where
  pub first : Thread
  pub found : thread_by_path ts first.state.path ≡ Some first
  pub live : outcome_in first.state.phase ≡ None
  pub least : AllByRecursion (NotBefore first.state.path) ts

finished_before : (p : List ℕ) (ts : List Thread) → IsFinished ts → AllByRecursion (NotBefore p) ts
finished_before p [] h = tt
finished_before p (t ∷ ts) h = (inl h.0, finished_before p ts h.1)

least_of : (ts : List Thread) → InOrder ts → IsFinished ts ⊎ Least ts
least_of [] s = inl tt
least_of (t ∷ ts) s = go (ended_or_live t.state.phase) (least_of ts s.1)
  where
    here : outcome_in t.state.phase ≡ None → AllByRecursion (NotBefore t.state.path) ts → Least (t ∷ ts)
    here n a = record { first = t; found = found_first t ts t.state.path refl; live = n; least = (inr (before_irreflexive t.state.path), a) }

    later : (l : Least ts) → NotBefore l.first.state.path t → Least (t ∷ ts)
    later l a = record { first = l.first; found = found_later t ts l.first.state.path l.first s.0 l.found; live = l.live; least = (a, l.least) }

    lower : (p q : List ℕ) (x : Thread) → Before p q → NotBefore q x → NotBefore p x
    lower p q x b (inl e) = inl e
    lower p q x b (inr f) = inr (λ h. f (before_transitive x.state.path p q h b))

    pick : outcome_in t.state.phase ≡ None → (l : Least ts) → (t.state.path ≡ l.first.state.path) ⊎ (Before t.state.path l.first.state.path ⊎ Before l.first.state.path t.state.path) → Least (t ∷ ts)
    pick n l (inl e) = later l (inr (λ h. before_irreflexive l.first.state.path (subst (λ z. Before z l.first.state.path) e h)))
    pick n l (inr (inl b)) = here n (all_map ts (λ x. lower t.state.path l.first.state.path x b) l.least)
    pick n l (inr (inr b)) = later l (inr (λ h. before_irreflexive t.state.path (before_transitive t.state.path l.first.state.path t.state.path h b)))

    go : HasOutcome t ⊎ (outcome_in t.state.phase ≡ None) → IsFinished ts ⊎ Least ts → IsFinished (t ∷ ts) ⊎ Least (t ∷ ts)
    go (inl e) (inl a) = inl (e, a)
    go (inl e) (inr l) = inr (later l (inl e))
    go (inr n) (inl a) = inr (here n (finished_before t.state.path ts a))
    go (inr n) (inr l) = inr (pick n l (before_total t.state.path l.first.state.path))

-- such a thread can step: what it awaits is there and comes before it, so has ended
least_goes : (job : Job) → NeverStuck job → (ts : List Thread) → Closed job ts → (l : Least ts) → Choice job ts l.first.state.path
least_goes job never ts k l = go (awaits l.first.state) refl
  where
    ran : Ran job l.first.state.path l.first.events l.first.state
    ran = k.ran l.first.state.path l.first l.found

    goes : GoesOn job l.first.state
    goes = never l.first.state.path l.first.events l.first.state ran l.live

    fed : (b : List ℕ) → awaits l.first.state ≡ Some b → (u : Thread) → thread_by_path ts b ≡ Some u → NotBefore l.first.state.path u → Choice job ts l.first.state.path
    fed b a u e (inl h) =
        let x = goes.fed b h.0 a (u.events, u.state, k.ran b u e, ended_phase u.state.phase h.0 h.1) in
        record { thread = l.first; outcome = Some h.0; move = x.0; found = l.found; given = ap (handed ts) a ∙ given_ended ts b u h.0 e h.1; steps = x.1 }
    fed b a u e (inr f) = absurd (f (subst (λ q. Before q l.first.state.path) (sym (found_path ts b u e)) (awaited_named (λ q. Before q l.first.state.path) l.first.state b (names_before ran) a)))

    go : (o : Option (List ℕ)) → awaits l.first.state ≡ o → Choice job ts l.first.state.path
    go None a = let x = goes.free a in record { thread = l.first; outcome = None; move = x.0; found = l.found; given = ap (handed ts) a; steps = x.1 }
    go (Some b) a =
        let i : IsIn ts b = awaited_named (IsIn ts) l.first.state b (k.names l.first.state.path l.first l.found) a in
        fed b a i.0 i.1 (each_found (NotBefore l.first.state.path) ts b i.0 l.least i.1)

-- a reached configuration is finished, or can go on
pub finished_or_goes_on : (job : Job) → NeverStuck job → (c : List Thread) → Reached job c → IsFinished c ⊎ ((p : List ℕ) × (d : List Thread) × (followed job c (p ∷ []) ≡ Some d))
finished_or_goes_on job never c r = go (least_of c k.order)
  where
    k : Closed job c
    k = reached_closed job c r

    go : IsFinished c ⊎ Least c → IsFinished c ⊎ ((p : List ℕ) × (d : List Thread) × (followed job c (p ∷ []) ≡ Some d))
    go (inl f) = inl f
    go (inr l) = let x = least_goes job never c k l in inr (l.first.state.path, after c x.thread x.move, choice_followed job c l.first.state.path x)

pub always_a_step : (job : Job) → NeverStuck job → (c : List Thread) → Reached job c → (IsFinished c → ⊥) → (p : List ℕ) × (d : List Thread) × (followed job c (p ∷ []) ≡ Some d)
always_a_step job never c r n = elim (finished_or_goes_on job never c r) [ inl f ↦ absurd (n f) | inr x ↦ x ]
