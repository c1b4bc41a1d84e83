use Rattle.priml.specs.Inside.Prefixes.{NoGraph}
use Rattle.priml.proofs.Chains.{handed_on, before_records, behind_records, stopped}
use Rattle.priml.proofs.Sound.{sound}
use Rattle.priml.proofs.prefixes.graphed.Goals as goal

pub returns-in_err-sections-clause-refused : goal.returns-in_err-sections-clause-refused
returns-in_err-sections-clause-refused c =
    handed_on (NoGraph c.args.most c.args.input.now) _ _ c.from_residual.ensures.1 (before_records _ _ _ _ c.in_err-sections.ensures.refused)

pub returns-in_err-graph-clause-refused : goal.returns-in_err-graph-clause-refused
returns-in_err-graph-clause-refused c =
    handed_on (NoGraph c.args.most c.args.input.now) _ _ c.from_residual-in_err-graph.ensures.1 (behind_records _ _ _ _ _ _ _ c.in_ok-sections.ensures.ok (stopped _ _ _ c.in_err-graph.ensures.graph))

pub returns-clause-sound : goal.returns-clause-sound
returns-clause-sound c = λ o is. sound _ _ _ _ _ c.in_ok-sections.ensures.ok _ c.in_ok-graph.ensures.graph o is
