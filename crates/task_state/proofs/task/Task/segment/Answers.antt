use Rattle.std.proofs.Common.{rules, ◌≡◌, ◌<◌, ◌∙◌, length, None, ap}
use Rattle.std.specs.Option.{option_map}
use Rattle.priml_syntax.specs.Read.{read_outcome}
use Rattle.core_steps.specs.Fields.{read_local}
use Rattle.core_steps.specs.Locals.{ended_with}
use Rattle.task_state.specs.Tasks.{read_task}
use Rattle.task_state.proofs.Pieces.{segmented}
use Rattle.task_state.proofs.task.Task.segment.Goals as goal

pub returns-clause-task : goal.returns-clause-task
returns-clause-task c = λ job h.
    let t = read_task c.args.self.now in
    let l = read_local c.take_outcome-outcome.new.self in
    let out = c.take_outcome-outcome.result in
    let some : 0 < length t.pending = search rules in
    let value : option_map read_outcome out ≡ ended_with t.local.mode = search rules in
    let boxed : read_local c.deref_mut.result.now ≡ t.local = search rules in
    let kept : out ≡ None → l ≡ t.local = λ e. ap read_local (c.take_outcome-outcome.ensures.kept e) ∙ boxed in
    segmented job t l c.replace-events.new.dest.items c.take.new.self out c.is_some-self.result h some value (search rules) kept (search rules) (search rules) (search rules) (search rules) (search rules) (search rules)
