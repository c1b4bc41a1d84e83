use Rattle.std.proofs.Common.{◌<◌, ◌∙◌, length, map, sym, subst}
use Rattle.core_steps.specs.Configs.{AreSlots, Advances, read_slot, slots_of}
use Rattle.core_steps.specs.Inside.Configs.{SlotNeeds, StandsAt}
use Rattle.core_steps.specs.Locals.{read_awaited}
use Rattle.core_steps.specs.Moves.{read_job}
use Rattle.core_steps.proofs.Slots.{kept_slots}
use Rattle.core_steps.proofs.Went.{went_rises, went_slots, went_on}
use Rattle.core_steps.proofs.config.Config.go.Goals as goal

pub step_at-requires-clause-there : goal.step_at-requires-clause-there
step_at-requires-clause-there c = subst (λ xs. c.args.at < length xs) (sym (c.reserve.ensures.items ∙ c.self.view_is)) c.requires.there

pub step_at-requires-clause-told : goal.step_at-requires-clause-told
step_at-requires-clause-told c = λ p stands.
    let same = c.reserve.ensures.items ∙ c.self.view_is in
    subst (λ xs. SlotNeeds (read_job c.args.job.now) (map read_slot xs) p c.args.join (read_awaited c.args.outcome)) (sym same) (c.requires.told p (subst (λ xs. StandsAt xs p c.args.at) same stands))

pub add_child-last-requires-clause-rise : goal.add_child-last-requires-clause-rise
add_child-last-requires-clause-rise c =
    went_rises (read_job c.args.job.now) c.args.self.now c.reserve.new.self.items c.step_at.new.threads.items c.args.at c.args.join (read_awaited c.args.outcome) c.in_ok-made.made c.requires.config c.requires.there c.requires.told (c.reserve.ensures.items ∙ c.self.view_is) c.in_ok-made.ensures.goes

pub returns-clause-goes : goal.returns-clause-goes
returns-clause-goes c = λ p stands.
    subst (Advances (read_job c.args.job.now) (slots_of c.args.self.now) p c.in_ok-made.made.event) (sym c.add_child-last.ensures)
    (went_on (read_job c.args.job.now) c.args.self.now c.reserve.new.self.items c.step_at.new.threads.items c.args.at c.args.join (read_awaited c.args.outcome) c.in_ok-made.made c.requires.config c.requires.there c.requires.told (c.reserve.ensures.items ∙ c.self.view_is) c.in_ok-made.ensures.goes p stands)

pub returns-clause-config : goal.returns-clause-config
returns-clause-config c = subst (AreSlots (read_job c.args.job.now)) (sym c.add_child-last.ensures)
    (went_slots (read_job c.args.job.now) c.args.self.now c.reserve.new.self.items c.step_at.new.threads.items c.args.at c.args.join (read_awaited c.args.outcome) c.in_ok-made.made c.requires.config c.requires.there c.requires.told (c.reserve.ensures.items ∙ c.self.view_is) c.in_ok-made.ensures.goes)

pub invariant_of-self-2 : goal.invariant_of-self-2
invariant_of-self-2 c = kept_slots (read_job c.args.job.now) (map read_slot c.add_child-last.new.threads.items) (subst (AreSlots (read_job c.args.job.now)) (sym c.add_child-last.ensures)
    (went_slots (read_job c.args.job.now) c.args.self.now c.reserve.new.self.items c.step_at.new.threads.items c.args.at c.args.join (read_awaited c.args.outcome) c.in_ok-made.made c.requires.config c.requires.there c.requires.told (c.reserve.ensures.items ∙ c.self.view_is) c.in_ok-made.ensures.goes))
