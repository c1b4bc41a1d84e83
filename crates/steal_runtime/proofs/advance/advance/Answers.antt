use Rattle.std.proofs.Common.{rules, ◌≡◌, ℕ, ◌<◌, List, [], ◌∷◌, length, length-append, true, sym, ap, subst, arith}
use Rattle.priml_syntax.specs.declared.event.Event.TheVariants.{Spawn}
use Rattle.core_steps.specs.Moves.{read_job}
use Rattle.core_steps.specs.Steps.{Job}
use Rattle.task_state.specs.Tasks.{OfJob, read_task}
use Rattle.task_state.specs.Turns.{Halts, IsLastChild}
use Rattle.join_board.specs.Handles.{about, knows}
use Rattle.join_board.specs.Jobs.{the_job}
use Rattle.join_board.specs.Threads.{PrioOf}
use Rattle.join_board.specs.Views.{HasSeenSpawn}
use Rattle.steal_runtime.proofs.Tasks.{has_spawned, prio_of, turn_joins}
use Rattle.steal_runtime.proofs.advance.advance.Goals as goal

pub settle-requires-clause-steps : goal.settle-requires-clause-steps
settle-requires-clause-steps g c = let turn = c.run.ensures.turn in
    (turn.few, turn_joins (the_job (about c.args.board.now)) (read_job c.args.job.now) (knows c.args.seat.now) (read_task c.args.task) (read_task c.run.new.self) c.args.duty.quantum c.requires.task turn)

pub enroll-requires-clause-thread : goal.enroll-requires-clause-thread
enroll-requires-clause-thread g c = let b = c.args.board.now in let job = the_job (about b) in let u = read_task c.run.new.self in let child = read_task c.in-Spawned.child in
    let h = subst (Halts (read_job c.args.job.now) c.args.duty.quantum u) c.in-Spawned.is c.in_ok-halt.ensures.halt in
    let last : IsLastChild job u child = subst (λ (j : Job). IsLastChild j u child) (sym c.requires.duty.0) h.2 in
    let of : OfJob job u = subst (λ (j : Job). OfJob j u) (sym c.requires.duty.0) c.run.ensures.turn.task in
    let long : 0 < length u.pending = (let e = ap length h.0.1 in let l = length-append h.0.0 (Spawn ∷ []) in omega (arith, e, l)) in
    let on : c.in_ok-settle.field-0 ≡ true = search rules in
    let seen = c.in_ok-settle.ensures.seen on long in (
      subst (HasSeenSpawn (knows c.settle.new.seat)) (sym c.path.ensures) (has_spawned b c.settle.new.seat u child seen.0 c.settle.ensures.seat.0 of h.1 last seen.1),
      subst (λ (z : List ℕ × ℕ). PrioOf job z.0 z.1) (λ i. (sym c.path.ensures i, sym c.priority.ensures i)) (prio_of job child last.start),
    )
