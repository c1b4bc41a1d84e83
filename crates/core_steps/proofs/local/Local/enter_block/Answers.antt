use Rattle.std.proofs.Common.{None, [], ◌∷◌, ◌++◌, ap, ◌∙◌}
use Rattle.std.specs.Option.{option_map}
use Rattle.priml_syntax.specs.Read.{read_code}
use Rattle.core_steps.specs.Fields.{read_local}
use Rattle.core_steps.specs.Inside.Locals.{read_boxed}
use Rattle.core_steps.specs.Moves.{read_job}
use Rattle.core_steps.specs.Inside.Moves.{past}
use Rattle.core_steps.proofs.StepRows.{made, block_row}
use Rattle.core_steps.proofs.local.Local.enter_block.Goals as goal

pub returns-clause-goes : goal.returns-clause-goes
returns-clause-goes c =
    let l = read_local c.args.self.now in
    made (read_job c.args.job.now) l None _ _ None _ _ _
    (block_row (read_job c.args.job.now) l (read_code c.args.block.now) c.requires.can c.requires.mode c.requires.next)
    c.without_child.ensures.event (ap (option_map read_boxed) c.without_child.ensures.child)
    (c.in_ok-enter.ensures.ok ∙ ap (λ t. record l { top = t; below = l.below ++ past l.top ∷ [] }) c.in_ok-frame.ensures)
