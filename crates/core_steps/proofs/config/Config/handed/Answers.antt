use Rattle.std.proofs.Common.{rules, ◌≡◌, map, sym, ◌∙◌, ap, subst}
use Rattle.std.specs.Prelude.{Err}
use Rattle.core_steps.specs.Configs.{SlotsRise, read_slot, slots_of}
use Rattle.core_steps.specs.Inside.Configs.{IsEnded, IsNeedIn, outcome_of, slot_at}
use Rattle.core_steps.specs.Moves.{read_job}
use Rattle.core_steps.proofs.Advanced.{found_there}
use Rattle.core_steps.proofs.Choices.{handed_ended, handed_free, handed_awaits, handed_stops}
use Rattle.core_steps.proofs.config.Config.handed.Goals as goal

pub ended-requires : goal.ended-requires
ended-requires c = subst (λ xs. SlotsRise (map read_slot xs)) (sym c.deref.ensures.value) c.self.invariant.rise

pub returns-in_err-ended-in-Awaits : goal.returns-in_err-ended-in-Awaits
returns-in_err-ended-in-Awaits c =
    let why = c.in_err-ended-in-Awaits.field-0.0 in
    let is : c.from_residual.result ≡ Err why = search rules in
    λ p stands ts reads. subst (IsNeedIn ts p) (sym is)
    (handed_stops (read_job c.args.job.now) (slots_of c.args.self.now) p c.in-Awaits.awaited.now (read_slot c.index.result.now) why
    (found_there c.args.self.now _ p c.args.at c.index.result.now c.self.view_is stands c.index.ensures) c.in-Awaits.ensures
    (subst (λ xs. IsEnded (map read_slot xs) c.in-Awaits.awaited.now (Err why)) (c.deref.ensures.value ∙ c.self.view_is) c.in_err-ended-in-Awaits.ensures) ts reads)

pub returns-in-Free : goal.returns-in-Free
returns-in-Free c = λ p stands.
    handed_free (read_job c.args.job.now) (slots_of c.args.self.now) p (read_slot c.index.result.now) (found_there c.args.self.now _ p c.args.at c.index.result.now c.self.view_is stands c.index.ensures) c.in-Free.ensures

pub returns-in_ok-ended-in-Awaits : goal.returns-in_ok-ended-in-Awaits
returns-in_ok-ended-in-Awaits c = λ p stands.
    handed_awaits (read_job c.args.job.now) (slots_of c.args.self.now) p c.in-Awaits.awaited.now (read_slot c.index.result.now) c.in_ok-ended-in-Awaits.field-0
    (found_there c.args.self.now _ p c.args.at c.index.result.now c.self.view_is stands c.index.ensures) c.in-Awaits.ensures
    (let e = c.in_ok-ended-in-Awaits.ensures in (e.0, ap (λ xs. outcome_of (slot_at (map read_slot xs) c.in-Awaits.awaited.now)) (sym (c.deref.ensures.value ∙ c.self.view_is)) ∙ e.1))

pub returns-in-Ended : goal.returns-in-Ended
returns-in-Ended c = λ p stands.
    handed_ended (read_job c.args.job.now) (slots_of c.args.self.now) p (read_slot c.index.result.now) (found_there c.args.self.now _ p c.args.at c.index.result.now c.self.view_is stands c.index.ensures) c.in-Ended.ensures
