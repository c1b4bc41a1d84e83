-- Where a job has complete records, none of its threads is stuck.
use Rattle.std.proofs.Common.{◌≡◌, inl, inr, List, Some, None, sym, ◌∙◌, ap, subst}
use Rattle.std.proofs.lemmas.Option.{none-some}
use Rattle.priml_syntax.specs.declared.event.Event.{Event}
use Rattle.priml_syntax.specs.Values.{Outcome', Entry}
use Rattle.core_steps.specs.Steps.{Job, State, Ended, Moved, step, awaits, outcome_in, Ran}
use Rattle.core_steps.specs.Laws.{NeverStuck}
use Rattle.core_steps.proofs.StepFacts.{free_step, fed_step}
use Rattle.core_steps.proofs.Extends.{Extends, at_end_or_steps}
use Rattle.core_steps.proofs.Complete.{Complete, found, record_extends, absorbed}

-- a thread whose record goes on makes its next step
goes_free : {job : Job} {es fs : List Event} {s u : State} (o : Outcome') → Extends job es s fs u → u.phase ≡ Ended o → outcome_in s.phase ≡ None → awaits s ≡ None → (m : Moved) × (step job s None ≡ Some m)
goes_free {job} {s} o x e n a = elim (at_end_or_steps x) [
  | inl h ↦ absurd (none-some o (sym n ∙ (ap (λ z. outcome_in z.phase) h.1 ∙ ap outcome_in e)))
  | inr y ↦ (y.move, sym (free_step job s y.outcome a) ∙ y.steps)
]

-- each state of a thread stands in its record, which goes on until it has ended
pub none_stuck : (job : Job) (rs : List Entry) → Complete job rs → NeverStuck job
none_stuck job rs all p es s d n =
    let x = found rs p all.each (absorbed rs all d) in
    let y : Extends job es s x.0.events x.2.state = record_extends x.0 x.2 (subst (λ q. Ran job q es s) (sym x.1) d) in
    record { free = goes_free x.0.outcome y x.2.ended n; fed = λ b o a k. fed_step job s b o a }
