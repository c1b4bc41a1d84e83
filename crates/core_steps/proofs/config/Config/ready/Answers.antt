use Rattle.std.proofs.Common.{map, sym, ◌∙◌, ap, subst}
use Rattle.std.specs.Option.{is_some}
use Rattle.core_steps.specs.Configs.{SlotsRise, read_slot, slots_of}
use Rattle.core_steps.specs.Inside.Configs.{outcome_of, slot_at}
use Rattle.core_steps.specs.Moves.{read_job}
use Rattle.core_steps.proofs.Choices.{ready_none, ready_ended, ready_free, ready_awaits}
use Rattle.core_steps.proofs.config.Config.ready.Goals as goal

pub find-requires : goal.find-requires
find-requires c = subst (λ xs. SlotsRise (map read_slot xs)) (sym c.deref.ensures.value) c.self.invariant.rise

pub has_ended-requires : goal.has_ended-requires
has_ended-requires c = subst (λ xs. SlotsRise (map read_slot xs)) (sym c.deref-in-Awaits.ensures.value) c.self.invariant.rise

pub returns-in-Free : goal.returns-in-Free
returns-in-Free c =
    ready_free (read_job c.args.job.now) c.job_is_checked.ensures (slots_of c.args.self.now) c.args.path.now (read_slot c.in-Some.slot.now) c.requires
    (ap (λ xs. slot_at (map read_slot xs) c.args.path.now) (sym (c.deref.ensures.value ∙ c.self.view_is)) ∙ sym c.in-Some.ensures) c.in-Free.ensures

pub returns-in-Awaits : goal.returns-in-Awaits
returns-in-Awaits c =
    ready_awaits (read_job c.args.job.now) (slots_of c.args.self.now) c.args.path.now c.in-Awaits.awaited.now (read_slot c.in-Some.slot.now) c.has_ended.result
    (ap (λ xs. slot_at (map read_slot xs) c.args.path.now) (sym (c.deref.ensures.value ∙ c.self.view_is)) ∙ sym c.in-Some.ensures) c.in-Awaits.ensures
    (c.has_ended.ensures ∙ ap (λ xs. is_some (outcome_of (slot_at (map read_slot xs) c.in-Awaits.awaited.now))) (c.deref-in-Awaits.ensures.value ∙ c.self.view_is))

pub returns-in-Ended : goal.returns-in-Ended
returns-in-Ended c =
    ready_ended (read_job c.args.job.now) (slots_of c.args.self.now) c.args.path.now (read_slot c.in-Some.slot.now)
    (ap (λ xs. slot_at (map read_slot xs) c.args.path.now) (sym (c.deref.ensures.value ∙ c.self.view_is)) ∙ sym c.in-Some.ensures) c.in-Ended.ensures

pub returns-in-None : goal.returns-in-None
returns-in-None c = ready_none (read_job c.args.job.now) (slots_of c.args.self.now) c.args.path.now (ap (λ xs. slot_at (map read_slot xs) c.args.path.now) (sym (c.deref.ensures.value ∙ c.self.view_is)) ∙ sym c.in-None.ensures)
