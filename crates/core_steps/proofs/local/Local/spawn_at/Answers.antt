use Rattle.std.proofs.Common.{Some, None, map, refl, ap, ◌∙◌}
use Rattle.priml_syntax.specs.Read.{read_code}
use Rattle.core_steps.specs.Fields.{read_local, read_frame}
use Rattle.core_steps.specs.Moves.{read_job}
use Rattle.core_steps.specs.declared.local.Local.{Local}
use Rattle.core_steps.proofs.StepRows.{made, spawn_row, child_made, spawner_made}
use Rattle.core_steps.proofs.local.Local.spawn_at.Goals as goal

pub returns-clause-goes : goal.returns-clause-goes
returns-clause-goes c =
    let l = read_local c.args.self.now in
    made (read_job c.args.job.now) l None _ _ _ _ _ _
    (spawn_row (read_job c.args.job.now) l c.args.prio (read_code c.args.block.now) c.requires.can c.requires.mode c.requires.next c.requires.deep c.requires.many)
    refl
    (ap (λ (x : Local). Some (read_local x)) c.in_ok-child.ensures.ok ∙ child_made (read_job c.args.job.now) l c.args.prio c.args.path c.number-number.result (read_frame c.in_ok-top.top) _ c.requires.path c.number-number.ensures c.in_ok-top.ensures (ap (map read_frame) c.new.ensures.items))
    (spawner_made (read_job c.args.job.now) l c.args.prio c.in_ok-name.name c.number-number.result (read_local c.bind.new.self) c.in_ok-bind.ensures.ok (c.in_ok-name.ensures ∙ c.requires.path) c.number-number.ensures)
