use Rattle.std.proofs.Common.{rules, ◌≡◌, ◌∙◌, Some, ap, sym, subst}
use Rattle.priml_syntax.specs.Read.{read_outcome}
use Rattle.core_steps.specs.Determined.{EndsWith}
use Rattle.core_steps.specs.Moves.{read_job}
use Rattle.task_state.specs.Tasks.{TaskFields, awaited_of, read_task}
use Rattle.worked_tasks.proofs.Ends.{meant_ends}
use Rattle.worked_tasks.proofs.whole.feed.Goals as goal

pub returns : goal.returns
returns c =
    let job = read_job c.args.job.now in
    let b = c.in-Some.path.now in
    let found = c.in-Some-get.ensures in
    let its : EndsWith job b (read_outcome c.in-Some-get.record.now.outcome) = subst (λ p. EndsWith job p (read_outcome c.in-Some-get.record.now.outcome)) found.0 (meant_ends job c.args.records.now c.in-Some-get.record.now c.requires.meant found.1) in
    let awaits : awaited_of (read_task c.args.task.now) ≡ Some b = search rules in
    (c.feed.ensures.task job b c.requires.task.0 awaits (subst (EndsWith job b) (sym c.in_ok-outcome.ensures) its), ap (λ (t : TaskFields). t.pending) c.feed.ensures.fed ∙ c.requires.task.1)
