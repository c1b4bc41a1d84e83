-- Slots and the threads that they stand for, one for one: which slot a path finds, their order, and which have ended.
use Rattle.std.proofs.Common.{◌≡◌, ◌↔◌, ℕ, List, [], ◌∷◌, Option, Some, None, refl, sym, ◌∙◌, ap, ap₂, subst, Bool, true, false, if◌then◌else◌}
use Rattle.std.specs.Option.{is_some, option_and_then, option_map}
use Rattle.std.specs.List.{AllByRecursion}
use Rattle.std.proofs.lemmas.Option.{same_Some, none-some}
use Rattle.priml_syntax.specs.Tree.{Tree}
use Rattle.priml_syntax.specs.Values.{Outcome'}
use Rattle.priml_syntax.specs.Paths.{same_path, Precedes}
use Rattle.core_steps.specs.Fields.{LocalFields, Mode', fresh, running, failing, ended, phase_of, state_of}
use Rattle.core_steps.specs.Locals.{ended_with}
use Rattle.core_steps.specs.Steps.{Job, Phase, State, outcome_in}
use Rattle.core_steps.specs.Config.{Thread, thread_by_path, IsFinished}
use Rattle.core_steps.specs.Configs.{SlotFields, thread_of, threads_from, SlotsRise, AreKept, AreSlots, all_end}
use Rattle.core_steps.specs.Inside.Configs.{slot_at}
use Rattle.core_steps.proofs.StepLaws.{state_path, live_phase}
use Rattle.core_steps.proofs.Standing.{ended_state}
use Rattle.core_steps.proofs.Moves.{in_phase}
use Rattle.core_steps.proofs.Threads.{InOrder}
use Rattle.core_steps.proofs.Closed.{Closed}
use Rattle.core_steps.proofs.Starts.{reached_closed}

-- the slot stands for the thread
pub record Stands (p : Tree) (s : SlotFields) (t : Thread) : Type 0 where
  pub state : state_of p s.local ≡ Some t.state
  pub events : s.events ≡ t.events

-- each for each
abbrev pub AllStand : Tree → List SlotFields → List Thread → Type 0
AllStand p [] [] = Unit {0}
AllStand p [] (t ∷ ts) = ⊥
AllStand p (s ∷ ss) [] = ⊥
AllStand p (s ∷ ss) (t ∷ ts) = Stands p s t × AllStand p ss ts

pub stands : (p : Tree) (s : SlotFields) (t : Thread) → thread_of p s ≡ Some t → Stands p s t
stands p s t e = go (state_of p s.local) refl e
  where
    go : (o : Option State) → state_of p s.local ≡ o → option_map (λ x. record { state = x; events = s.events }) o ≡ Some t → Stands p s t
    go None q h = absurd (none-some t h)
    go (Some x) q h = let z : record { state = x; events = s.events } ≡ t = same_Some _ t h in record { state = q ∙ ap (λ y. Some y.state) z; events = ap (λ y. y.events) z }

pub all_stand : (p : Tree) (ss : List SlotFields) (ts : List Thread) → threads_from p ss ≡ Some ts → AllStand p ss ts
all_stand p [] [] e = tt
all_stand p [] (t ∷ ts) e = absurd (cc)
all_stand p (s ∷ ss) ts e = go ts (thread_of p s) (threads_from p ss) (all_stand p ss) refl refl e
  where
    go : (ts : List Thread) (o : Option Thread) (r : Option (List Thread)) → ((us : List Thread) → threads_from p ss ≡ Some us → AllStand p ss us) → thread_of p s ≡ o → threads_from p ss ≡ r → option_and_then (λ t. option_map (λ us. t ∷ us) r) o ≡ Some ts → AllStand p (s ∷ ss) ts
    go ts None r f a b h = absurd (none-some ts h)
    go ts (Some t) None f a b h = absurd (none-some ts h)
    go ts (Some t) (Some us) f a b h = subst (AllStand p (s ∷ ss)) (same_Some (t ∷ us) ts h) (stands p s t a, f us b)

stands_reads : (p : Tree) (s : SlotFields) (t : Thread) → Stands p s t → thread_of p s ≡ Some t
stands_reads p s t h = ap₂ (λ (o : Option State) es. option_map (λ x. record { state = x; events = es }) o) h.state h.events

pub all_read : (p : Tree) (ss : List SlotFields) (ts : List Thread) → AllStand p ss ts → threads_from p ss ≡ Some ts
all_read p [] [] h = refl
all_read p [] (t ∷ ts) h = absurd h
all_read p (s ∷ ss) [] h = absurd h
all_read p (s ∷ ss) (t ∷ ts) h = ap₂ (λ o r. option_and_then (λ t. option_map (λ us. t ∷ us) r) o) (stands_reads p s t h.0) (all_read p ss ts h.1)

-- the same path
pub path_stands : (p : Tree) (s : SlotFields) (t : Thread) → Stands p s t → s.local.path ≡ t.state.path
path_stands p s t h = sym (state_path p s.local t.state h.state)

pub prio_stands : (p : Tree) (s : SlotFields) (t : Thread) → Stands p s t → s.local.prio ≡ t.state.prio
prio_stands p s t h = go (phase_of p s.local s.local.mode) h.state
  where
    go : (o : Option Phase) → option_map (in_phase s.local) o ≡ Some t.state → s.local.prio ≡ t.state.prio
    go None e = absurd (none-some t.state e)
    go (Some f) e = ap (λ (x : State). x.prio) (same_Some (in_phase s.local f) t.state e)

live_state : (p : Tree) (l : LocalFields) (s : State) → ended_with l.mode ≡ None → state_of p l ≡ Some s → outcome_in s.phase ≡ None
live_state p l s none e = go (phase_of p l l.mode) refl e
  where
    go : (o : Option Phase) → phase_of p l l.mode ≡ o → option_map (in_phase l) o ≡ Some s → outcome_in s.phase ≡ None
    go None q h = absurd (none-some s h)
    go (Some f) q h = ap (λ (x : State). outcome_in x.phase) (sym (same_Some (in_phase l f) s h)) ∙ live_phase p l l.mode f none q

-- the same ending
pub ended_stands : (p : Tree) (s : SlotFields) (t : Thread) → Stands p s t → ended_with s.local.mode ≡ outcome_in t.state.phase
ended_stands p s t h = go s.local.mode refl
  where
    live : (m : Mode') → s.local.mode ≡ m → ended_with m ≡ None → None ≡ outcome_in t.state.phase
    live m q n = sym (live_state p s.local t.state (ap ended_with q ∙ n) h.state)

    go : (m : Mode') → s.local.mode ≡ m → ended_with m ≡ outcome_in t.state.phase
    go fresh q = live fresh q refl
    go running q = live running q refl
    go (failing k) q = live (failing k) q refl
    go (ended o) q = sym (ended_state p s.local o t.state q h.state)

-- so each thread has ended exactly where each slot has
pub all_end_stands : (p : Tree) (ss : List SlotFields) (ts : List Thread) → AllStand p ss ts → (all_end ss ≡ true) ↔ IsFinished ts
all_end_stands p [] [] h = (λ e. tt, λ e. refl)
all_end_stands p [] (t ∷ ts) h = absurd h
all_end_stands p (s ∷ ss) [] h = absurd h
all_end_stands p (s ∷ ss) (t ∷ ts) h = subst (λ o. ((if is_some o then all_end ss else false) ≡ true) ↔ (((x : Outcome') × (outcome_in t.state.phase ≡ Some x)) × IsFinished ts)) (sym (ended_stands p s t h.0)) (go (outcome_in t.state.phase) (all_end_stands p ss ts h.1))
  where
    go : (o : Option Outcome') → (all_end ss ≡ true) ↔ IsFinished ts → ((if is_some o then all_end ss else false) ≡ true) ↔ (((x : Outcome') × (o ≡ Some x)) × IsFinished ts)
    go None k = (λ e. absurd (cc), λ f. absurd (none-some f.0.0 f.0.1))
    go (Some x) k = (λ e. ((x, refl), k.0 e), λ f. k.1 f.1)

pub finished_where : (job : Job) (ss : List SlotFields) (c : AreSlots job ss) → (all_end ss ≡ true) ↔ IsFinished c.threads
finished_where job ss c = all_end_stands job.program ss c.threads (all_stand job.program ss c.threads c.reads)

-- and they are in the order of paths
rise_each : (p : Tree) (q : List ℕ) (ss : List SlotFields) (ts : List Thread) → AllStand p ss ts → AllByRecursion (λ t. Precedes q t.state.path) ts → AllByRecursion (λ s. Precedes q s.local.path) ss
rise_each p q [] ts h a = tt
rise_each p q (s ∷ ss) [] h a = absurd h
rise_each p q (s ∷ ss) (t ∷ ts) h a = (subst (Precedes q) (sym (path_stands p s t h.0)) a.0, rise_each p q ss ts h.1 a.1)

rise_stands : (p : Tree) (ss : List SlotFields) (ts : List Thread) → AllStand p ss ts → InOrder ts → SlotsRise ss
rise_stands p [] ts h o = tt
rise_stands p (s ∷ ss) [] h o = absurd h
rise_stands p (s ∷ ss) (t ∷ ts) h o = (rise_each p s.local.path ss ts h.1 (subst (λ q. AllByRecursion (λ x. Precedes q x.state.path) ts) (sym (path_stands p s t h.0)) o.0), rise_stands p ss ts h.1 o.1)

pub slots_rise : (job : Job) (ss : List SlotFields) → AreSlots job ss → SlotsRise ss
slots_rise job ss c = rise_stands job.program ss c.threads (all_stand job.program ss c.threads c.reads) (Closed.order (reached_closed job c.threads c.reached))

-- what holds of each configuration holds of one of a job
pub kept_slots : (job : Job) (ss : List SlotFields) → AreSlots job ss → AreKept ss
kept_slots job ss c = record { rise = slots_rise job ss c; counted = c.counted }

-- what a path finds
abbrev pub BothFind : Tree → Option SlotFields → Option Thread → Type 0
BothFind p None None = Unit {0}
BothFind p None (Some t) = ⊥
BothFind p (Some s) None = ⊥
BothFind p (Some s) (Some t) = Stands p s t

pub both_find : (p : Tree) (ss : List SlotFields) (ts : List Thread) (q : List ℕ) → AllStand p ss ts → BothFind p (slot_at ss q) (thread_by_path ts q)
both_find p [] [] q h = tt
both_find p [] (t ∷ ts) q h = absurd h
both_find p (s ∷ ss) [] q h = absurd h
both_find p (s ∷ ss) (t ∷ ts) q h = subst (λ r. BothFind p (if same_path s.local.path q then Some s else slot_at ss q) (if same_path r q then Some t else thread_by_path ts q)) (path_stands p s t h.0) (go (same_path s.local.path q) (both_find p ss ts q h.1))
  where
    go : (b : Bool) → BothFind p (slot_at ss q) (thread_by_path ts q) → BothFind p (if b then Some s else slot_at ss q) (if b then Some t else thread_by_path ts q)
    go true k = h.0
    go false k = k
