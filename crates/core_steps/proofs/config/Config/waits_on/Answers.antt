use Rattle.std.proofs.Common.{map, sym, ◌∙◌, ap, subst}
use Rattle.std.specs.Option.{is_some}
use Rattle.core_steps.specs.Configs.{SlotsRise, read_slot, slots_of}
use Rattle.core_steps.specs.Inside.Configs.{outcome_of, slot_at}
use Rattle.core_steps.specs.Moves.{read_job}
use Rattle.core_steps.proofs.Choices.{wait_none, wait_free, wait_ended, wait_given, wait_on}
use Rattle.core_steps.proofs.config.Config.waits_on.Goals as goal

pub find-requires : goal.find-requires
find-requires c = subst (λ xs. SlotsRise (map read_slot xs)) (sym c.deref.ensures.value) c.self.invariant.rise

pub returns-then-has_ended : goal.returns-then-has_ended
returns-then-has_ended c =
    wait_given (read_job c.args.job.now) (slots_of c.args.self.now) c.args.path.now c.in-Awaits.awaited.now (read_slot c.in-Some.slot.now)
    (ap (λ xs. slot_at (map read_slot xs) c.args.path.now) (sym (c.deref.ensures.value ∙ c.self.view_is)) ∙ sym c.in-Some.ensures) c.in-Awaits.ensures
    (sym c.if-has_ended.true ∙ (c.has_ended.ensures ∙ ap (λ xs. is_some (outcome_of (slot_at (map read_slot xs) c.in-Awaits.awaited.now))) (c.deref-in-Awaits.ensures.value ∙ c.self.view_is)))

pub returns-else-has_ended : goal.returns-else-has_ended
returns-else-has_ended c =
    wait_on (read_job c.args.job.now) (slots_of c.args.self.now) c.args.path.now c.in-Awaits.awaited.now (read_slot c.in-Some.slot.now)
    (ap (λ xs. slot_at (map read_slot xs) c.args.path.now) (sym (c.deref.ensures.value ∙ c.self.view_is)) ∙ sym c.in-Some.ensures) c.in-Awaits.ensures
    (sym c.if-has_ended.false ∙ (c.has_ended.ensures ∙ ap (λ xs. is_some (outcome_of (slot_at (map read_slot xs) c.in-Awaits.awaited.now))) (c.deref-in-Awaits.ensures.value ∙ c.self.view_is)))

pub returns-in-Ended : goal.returns-in-Ended
returns-in-Ended c =
    wait_ended (read_job c.args.job.now) (slots_of c.args.self.now) c.args.path.now (read_slot c.in-Some.slot.now)
    (ap (λ xs. slot_at (map read_slot xs) c.args.path.now) (sym (c.deref.ensures.value ∙ c.self.view_is)) ∙ sym c.in-Some.ensures) c.in-Ended.ensures

pub returns-in-Free : goal.returns-in-Free
returns-in-Free c =
    wait_free (read_job c.args.job.now) (slots_of c.args.self.now) c.args.path.now (read_slot c.in-Some.slot.now)
    (ap (λ xs. slot_at (map read_slot xs) c.args.path.now) (sym (c.deref.ensures.value ∙ c.self.view_is)) ∙ sym c.in-Some.ensures) (λ x is. (c.in-Free.ensures x is).0)

pub returns-in-None : goal.returns-in-None
returns-in-None c = wait_none (read_job c.args.job.now) (slots_of c.args.self.now) c.args.path.now (ap (λ xs. slot_at (map read_slot xs) c.args.path.now) (sym (c.deref.ensures.value ∙ c.self.view_is)) ∙ sym c.in-None.ensures)

pub has_ended-requires : goal.has_ended-requires
has_ended-requires c = subst (λ xs. SlotsRise (map read_slot xs)) (sym c.deref-in-Awaits.ensures.value) c.self.invariant.rise
