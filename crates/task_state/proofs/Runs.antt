-- Several steps of a task.
use Rattle.std.proofs.Common.{◌≡◌, ℕ, ◌+◌, ◌<◌, ◌≤◌, List, [], ◌∷◌, ◌++◌, length, true, false, ◌||◌, true≢false, Option, Some, None, ◌⊎◌, inl, inr, refl, sym, ◌∙◌, ap, subst, arith}
use Rattle.std.specs.Prelude.{is_some}
use Rattle.std.proofs.lemmas.List.{length_push}
use Rattle.std.proofs.lemmas.Bool.{cases_lt}
use Rattle.priml_syntax.specs.declared.event.Event.TheVariants.{End}
use Rattle.priml_syntax.specs.Values.{Outcome'}
use Rattle.priml_syntax.specs.Events.{AllJoins, one_end}
use Rattle.core_steps.specs.Determined.{one_live}
use Rattle.core_steps.specs.Locals.{ended_with}
use Rattle.core_steps.specs.Steps.{Job}
use Rattle.task_state.specs.Tasks.{TaskFields, has_ended}
use Rattle.task_state.specs.Turns.{AllGoOn, LastIs, Turn, WasFed}
use Rattle.task_state.specs.Inside.Steps.{IsChildOf, Stepped, WentOn}
use Rattle.task_state.proofs.Events.{end_of, joins_push, on_of, on_push}
use Rattle.task_state.proofs.States.{not_over}

module _ (job : Job) (t : TaskFields) (n : ℕ) (t' : TaskFields) (w : WentOn job t n t') (child : Option TaskFields) (t'' : TaskFields) (s : Stepped job t' child t'') where
  -- what was fed before the step was fed at first
  fed_first : (b : List ℕ) → WasFed t' b → WasFed t b
  fed_first b f = go (cases_lt 0 n)
    where
      go : (0 < n) ⊎ (n ≤ 0) → WasFed t b
      go (inl l) = absurd (true≢false (sym f.0 ∙ ap is_some (w.later l)))
      go (inr l) = let k = w.first (omega (arith, l)) in (ap is_some (sym k.1) ∙ f.0, sym k.0 ∙ f.1)

  joins_on : AllJoins (WasFed t) t''.pending
  joins_on = subst (AllJoins (WasFed t)) (sym s.pending) (joins_push (WasFed t) t'.pending s.event w.joins (λ b e. fed_first b (s.joins b e)))

  long_on : length t''.pending ≡ n + 1
  long_on = ap length s.pending ∙ (length_push t'.pending s.event ∙ ap (λ k. k + 1) w.long)

  -- a step after which the run may come to its end
  pub turn_stepped : (q : ℕ) → n < q → Turn job q t t''
  turn_stepped q l = record {
    task = s.task;
    few = omega (arith, long_on, l);
    path = s.path ∙ w.path;
    prio = s.prio ∙ w.prio;
    steps = omega (arith, s.steps, w.steps, long_on);
    joins = joins_on;
    still = λ z. absurd (omega (arith, z, long_on));
    used = λ z. s.fed;
  }

  -- a step after which it goes on
  pub went_more : child ≡ None → has_ended t'' ≡ false → WentOn job t (n + 1) t''
  went_more none live = record {
    task = s.task;
    long = long_on;
    on = subst AllGoOn (sym s.pending) (on_push t'.pending s.event w.on (on_of s.event (subst (IsChildOf job t'' s.event) none s.born) (omega (arith, s.ends, ap one_live (not_over t'' live).1))));
    live = live;
    name = s.name;
    path = s.path ∙ w.path;
    prio = s.prio ∙ w.prio;
    steps = omega (arith, s.steps, w.steps);
    first = λ z. absurd (omega (arith, z));
    later = λ z. s.fed;
    joins = joins_on;
  }

  -- one that ended the thread
  pub last_end : has_ended t'' ≡ true → LastIs End t''.pending
  last_end over = (t'.pending, s.pending ∙ ap (λ e. t'.pending ++ e ∷ []) (end_of s.event (go (ended_with t''.local.mode) refl)))
    where
      go : (o : Option Outcome') → ended_with t''.local.mode ≡ o → one_end s.event ≡ 1
      go None e = absurd (true≢false (sym over ∙ (ap (λ b. b || is_some (ended_with t''.local.mode)) s.over ∙ ap is_some e)))
      go (Some o) e = omega (arith, s.ends, ap one_live e)

-- no step more
pub turn_went : (job : Job) (t : TaskFields) (n q : ℕ) (t' : TaskFields) → WentOn job t n t' → n ≤ q → Turn job q t t'
turn_went job t n q t' w l = record {
  task = w.task;
  few = omega (arith, w.long, l);
  path = w.path;
  prio = w.prio;
  steps = omega (arith, w.steps, w.long);
  joins = w.joins;
  still = λ z. w.first (sym w.long ∙ z);
  used = λ z. w.later (omega (arith, z, w.long));
}
