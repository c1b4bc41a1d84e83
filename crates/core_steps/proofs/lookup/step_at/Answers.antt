use Rattle.std.proofs.Common.{◌≡◌, Some, map, refl}
use Rattle.core_steps.specs.Configs.{read_slot}
use Rattle.core_steps.specs.Inside.Configs.{StandsAt, SlotNeeds, slot_at}
use Rattle.core_steps.specs.Locals.{read_awaited}
use Rattle.core_steps.specs.Moves.{read_job}
use Rattle.core_steps.proofs.Slots.{slots_rise}
use Rattle.core_steps.proofs.Searched.{stands_there}
use Rattle.core_steps.proofs.Advanced.{at_index, slot_local, slot_counted, slot_live, slot_joins, slot_fed, steps_there, kept_at}
use Rattle.core_steps.proofs.lookup.step_at.Goals as goal

-- the slot there is that of its own path
own : (c : goal.After-index_mut) → StandsAt c.args.threads.now.items c.index_mut.result.now.local.path c.args.at
own c = stands_there c.args.threads.now.items c.index_mut.result.now.local.path c.args.at c.index_mut.result.now (slots_rise (read_job c.args.job.now) (map read_slot c.args.threads.now.items) c.requires.slots) c.requires.there c.index_mut.ensures.value refl

found : (c : goal.After-index_mut) → slot_at (map read_slot c.args.threads.now.items) c.index_mut.result.now.local.path ≡ Some (read_slot c.index_mut.result.now)
found c = at_index c.args.threads.now.items c.args.threads.now.items c.index_mut.result.now.local.path c.args.at c.index_mut.result.now refl (own c).1 c.index_mut.ensures.value

told : (c : goal.After-index_mut) → SlotNeeds (read_job c.args.job.now) (map read_slot c.args.threads.now.items) c.index_mut.result.now.local.path c.args.join (read_awaited c.args.outcome)
told c = c.requires.told c.index_mut.result.now.local.path (own c)

pub step-requires-clause-state : goal.step-requires-clause-state
step-requires-clause-state c = slot_local (read_job c.args.job.now) (map read_slot c.args.threads.now.items) c.requires.slots c.index_mut.result.now.local.path (read_slot c.index_mut.result.now) (found c)

pub step-requires-clause-counted : goal.step-requires-clause-counted
step-requires-clause-counted c = slot_counted (read_job c.args.job.now) (map read_slot c.args.threads.now.items) c.requires.slots c.index_mut.result.now.local.path (read_slot c.index_mut.result.now) (found c)

pub step-requires-clause-live : goal.step-requires-clause-live
step-requires-clause-live c = slot_live (read_job c.args.job.now) (map read_slot c.args.threads.now.items) c.requires.slots c.index_mut.result.now.local.path (read_slot c.index_mut.result.now) (found c) c.args.join (read_awaited c.args.outcome) (told c)

pub step-requires-clause-fed : goal.step-requires-clause-fed
step-requires-clause-fed c = slot_fed (read_job c.args.job.now) (map read_slot c.args.threads.now.items) c.requires.slots c.index_mut.result.now.local.path (read_slot c.index_mut.result.now) (found c) c.args.join (read_awaited c.args.outcome) (told c)

pub step-requires-clause-joins : goal.step-requires-clause-joins
step-requires-clause-joins c = slot_joins (read_job c.args.job.now) (map read_slot c.args.threads.now.items) c.requires.slots c.index_mut.result.now.local.path (read_slot c.index_mut.result.now) (found c) c.args.join (read_awaited c.args.outcome) (told c)

pub returns-clause-goes : goal.returns-clause-goes
returns-clause-goes c =
    steps_there (read_job c.args.job.now) c.args.threads.now.items (read_awaited c.args.outcome) c.args.at c.index_mut.result.now c.step.new.self c.step.result
    (slots_rise (read_job c.args.job.now) (map read_slot c.args.threads.now.items) c.requires.slots)
    c.requires.there c.index_mut.ensures.value
    c.step.ensures.goes c.step.ensures.events c.step.ensures.steps

pub returns-clause-kept : goal.returns-clause-kept
returns-clause-kept c =
    kept_at c.args.threads.now.items c.args.at c.index_mut.result.now c.step.new.self c.step.result c.requires.there c.index_mut.ensures.value c.step.ensures.kept
