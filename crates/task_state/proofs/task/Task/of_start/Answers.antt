use Rattle.std.proofs.Common.{rules, ◌≡◌, subst}
use Rattle.core_steps.specs.Fields.{read_local}
use Rattle.task_state.specs.Tasks.{IsStart, begun}
use Rattle.task_state.proofs.States.{start_of}
use Rattle.task_state.proofs.task.Task.of_start.Goals as goal

pub returns-in-Ok-clause-start : goal.returns-in-Ok-clause-start
returns-in-Ok-clause-start c = λ job h.
    let same : begun (read_local c.args.local) ≡ record (begun (read_local c.in-Ok.local.value)) { pending = c.new-in-Ok.result.items } = search rules in
    subst (IsStart job) same (start_of job (read_local c.args.local) h c.requires)
