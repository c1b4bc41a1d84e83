use Rattle.std.proofs.Common.{◌≡◌, ◌<◌, Some, [], ◌∷◌, length, map, sym, ◌∙◌, ap, arith}
use Rattle.std.specs.Option.{option_map}
use Rattle.std.proofs.lemmas.List.{map-append}
use Rattle.core_steps.specs.Config.{begin}
use Rattle.core_steps.specs.Configs.{AreSlots, read_slot, threads_from}
use Rattle.core_steps.specs.Moves.{read_job}
use Rattle.core_steps.specs.Steps.{root_state}
use Rattle.core_steps.proofs.Roots.{all_roots, more_roots, no_roots}
use Rattle.core_steps.proofs.Slots.{kept_slots}
use Rattle.core_steps.proofs.config.Config.start.Goals as goal

pub loop-k-init : goal.loop-k-init
loop-k-init c = no_roots (read_job c.args.job.now) (map read_slot c.new-threads.result.items) (ap (map read_slot) c.new-threads.ensures.items)

pub loop-k-preserved : goal.loop-k-preserved
loop-k-preserved c =
    let job = read_job c.args.job.now in
    let s = c.in_ok-root_slot.field-0 in
    let below : c.loop-k.k < length job.program.mains = omega arith in
    more_roots job c.loop-k.k (map read_slot c.loop-k.threads.items) (read_slot s) (map read_slot c.push.new.self.items) c.loop-k.invariant below
    (λ m e. sym c.in_ok-root_slot.ensures.root ∙ ap (option_map (λ x. record { state = root_state x c.loop-k.k; events = [] })) e) c.in_ok-root_slot.ensures.counted
    (ap (map read_slot) c.in_ok-push.ensures.items ∙ map-append read_slot c.loop-k.threads.items (s ∷ []))

start : (c : goal.After-loop-k) → (threads_from (read_job c.args.job.now).program (map read_slot c.loop-k.threads.items) ≡ Some (begin (read_job c.args.job.now))) × AreSlots (read_job c.args.job.now) (map read_slot c.loop-k.threads.items)
start c = all_roots (read_job c.args.job.now) c.loop-k.k (map read_slot c.loop-k.threads.items) c.loop-k.invariant (omega arith)

pub invariant_of-result : goal.invariant_of-result
invariant_of-result c = kept_slots (read_job c.args.job.now) (map read_slot c.loop-k.threads.items) (start c).1

pub returns-clause-threads : goal.returns-clause-threads
returns-clause-threads c = (start c).0

pub returns-clause-config : goal.returns-clause-config
returns-clause-config c = (start c).1
