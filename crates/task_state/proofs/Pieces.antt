-- The segments of a task, and what is left of it.
use Rattle.std.proofs.Common.{◌≡◌, ℕ, ◌<◌, List, [], length, Bool, true, false, Option, Some, None, refl, sym, ◌∙◌, ap, subst, arith}
use Rattle.std.specs.Prelude.{is_some}
use Rattle.std.specs.Option.{option_map}
use Rattle.priml_syntax.specs.declared.event.Event.{Event}
use Rattle.priml_syntax.specs.declared.value.Outcome.{Outcome}
use Rattle.priml_syntax.specs.Read.{read_outcome}
use Rattle.core_steps.specs.Determined.{Determined, Trace, here}
use Rattle.core_steps.specs.Fields.{LocalFields, state_of}
use Rattle.core_steps.specs.Locals.{awaited_at, ended_with}
use Rattle.core_steps.specs.Steps.{Job}
use Rattle.core_steps.proofs.StepLaws.{state_path}
use Rattle.trace_book.specs.Segments.{SegmentFields}
use Rattle.task_state.specs.Tasks.{TaskFields, OfJob, IsNamed, OnlyLast, Stands}
use Rattle.task_state.specs.Segments.{IsSegmentFrom, IsSegmentOf}
use Rattle.task_state.proofs.States.{determined, mode_outcome, opens, state_prio}

-- a task with pending steps still has its outcome
there : (job : Job) (t : TaskFields) → OfJob job t → 0 < length t.pending → t.over ≡ false
there job t h some = go t.over refl
  where
    go : (b : Bool) → t.over ≡ b → b ≡ false
    go true e = absurd (omega (arith, some, ap length (h.rest e)))
    go false e = refl

-- the segment is one of the job
pub segment_of : (job : Job) (t : TaskFields) (by : ℕ) (s : SegmentFields) → OfJob job t → 0 < length t.pending → IsSegmentFrom t by s → IsSegmentOf job s
segment_of job t by s h some f =
    let o = opens job t h (there job t h some) in
    record {
      state = h.state;
      trace = subst (λ p. Trace job p s.from s.events h.state) (sym f.path) (subst (λ n. Trace job t.local.path n s.events h.state) from (subst (λ es. Trace job t.local.path h.from es h.state) (sym f.events) h.trace));
      some = omega (arith, some, ap length f.events);
      prio = f.prio ∙ sym (state_prio job.program t.local h.state o);
      outcome = f.outcome ∙ mode_outcome job.program t.local h.state o;
      only_last = subst OnlyLast (sym f.events) h.only_last;
    }
  where
    from : h.from ≡ s.from
    from = omega (arith, h.counted, f.from, ap length f.events)

-- what is left is a task of the job without pending steps
pub segmented : (job : Job) (t : TaskFields) (l : LocalFields) (ds : List Event) (n : Option (List ℕ)) (out : Option Outcome) (b : Bool) → OfJob job t → 0 < length t.pending →
    option_map read_outcome out ≡ ended_with t.local.mode → b ≡ is_some out → (out ≡ None → l ≡ t.local) → l.path ≡ t.local.path → l.prio ≡ t.local.prio → l.steps ≡ t.local.steps → l.top ≡ t.local.top → ds ≡ [] → n ≡ None →
    OfJob job (record { local = l; pending = ds; fed = t.fed; variable = t.variable; name = n; over = b })
segmented job t l ds n out b h some value is kept path prio steps top none name =
    record {
      state = h.state;
      from = t.local.steps;
      stands = subst (λ x. Stands job l x h.state) (sym is) (stands out value kept);
      trace = here none (subst (λ p. Determined job p t.local.steps h.state) (sym path) (determined job t h));
      counted = omega (arith, ap length none, steps);
      only_last = subst OnlyLast (sym none) tt;
      awaits = h.awaits ∙ ap (λ f. awaited_at f t.variable) (sym top);
      fed = h.fed;
      named = subst (IsNamed l.path ds) (sym name) none;
      rest = λ e. none;
    }
  where
    o : state_of job.program t.local ≡ Some h.state
    o = opens job t h (there job t h some)

    stands : (x : Option Outcome) → option_map read_outcome x ≡ ended_with t.local.mode → (x ≡ None → l ≡ t.local) → Stands job l (is_some x) h.state
    stands None v k = subst (λ y. state_of job.program y ≡ Some h.state) (sym (k refl)) o
    stands (Some x) v k = (state_path job.program t.local h.state o ∙ sym path, state_prio job.program t.local h.state o ∙ sym prio, (read_outcome x, sym (mode_outcome job.program t.local h.state o) ∙ sym v))
