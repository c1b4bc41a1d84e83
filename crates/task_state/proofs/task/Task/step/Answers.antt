use Rattle.std.proofs.Common.{rules, ◌≡◌, ◌+◌, ◌++◌, ◌∷◌, [], Some, sym, subst}
use Rattle.std.specs.Option.{option_copied, option_map}
use Rattle.priml_syntax.specs.Read.{read_outcome}
use Rattle.core_steps.specs.declared.local.Local.{Local}
use Rattle.core_steps.specs.Fields.{read_local, state_of}
use Rattle.core_steps.specs.Locals.{IsFed, IsLocal, awaited_at}
use Rattle.core_steps.specs.Moves.{Goes, read_job}
use Rattle.core_steps.specs.Steps.{State, awaits}
use Rattle.task_state.specs.Tasks.{read_task}
use Rattle.task_state.proofs.States.{fed_of, local_of, not_over}
use Rattle.task_state.proofs.Steps.{stepped}
use Rattle.task_state.proofs.task.Task.step.Goals as goal

pub step-requires-clause-state : goal.step-requires-clause-state
step-requires-clause-state c =
    let t = read_task c.args.self.now in
    let boxed : c.args.self.now.local.value ≡ c.deref_mut.result.now = search rules in
    subst (λ (l : Local). IsLocal (read_job c.args.job.now) (read_local l)) boxed (local_of (read_job c.args.job.now) t c.requires.task (not_over t c.requires.live).0)

pub step-requires-clause-fed : goal.step-requires-clause-fed
step-requires-clause-fed c =
    let job = read_job c.args.job.now in
    let t = read_task c.args.self.now in
    let boxed : c.args.self.now.local.value ≡ c.deref_mut.result.now = search rules in
    subst (λ (l : Local). IsFed job (read_local l) (option_map read_outcome (option_copied c.as_ref.result))) boxed
    (subst (λ o. IsFed job t.local (option_map read_outcome o)) (sym c.as_ref.ensures.value) (fed_of job t c.requires.task (not_over t c.requires.live).0 c.requires.free))

pub returns-clause-ok : goal.returns-clause-ok
returns-clause-ok c =
    let job = read_job c.args.job.now in
    let t = read_task c.args.self.now in
    let m = c.in_ok-moved.moved in
    let facts = c.in_ok-moved.ensures in
    let child = option_map read_local m.child in
    let l = read_local c.step.new.self in
    let v = c.awaited_variable-self.result in
    let boxed : c.deref_mut.result.now ≡ c.args.self.now.local.value = search rules in
    let goes : Goes job t.local t.fed m.event child l = subst (λ (x : Local). Goes job (read_local x) t.fed m.event child l) boxed (subst (λ o. Goes job (read_local c.deref_mut.result.now) (option_map read_outcome o) m.event child l) c.as_ref.ensures.value facts.goes) in
    let count : l.steps ≡ t.local.steps + 1 = search rules in
    let knows = subst (λ (x : Local). (s : State) → state_of job.program (read_local x) ≡ Some s → awaits s ≡ awaited_at (read_local x).top v) c.deref.ensures c.awaited_variable-self.ensures in
    let pushed : c.push.new.self.items ≡ t.pending ++ m.event ∷ [] = search rules in
    stepped job t l m.event child v c.push.new.self.items c.requires.task c.requires.live c.requires.name goes (fed_of job t c.requires.task (not_over t c.requires.live).0 c.requires.free) count facts.state facts.child knows c.requires.on pushed
