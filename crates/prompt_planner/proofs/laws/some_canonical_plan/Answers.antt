use Rattle.prompt_planner.proofs.SomePlan.{canonical_some}
use Rattle.prompt_planner.proofs.laws.some_canonical_plan.Goals as goal

pub returns : goal.returns
returns c = canonical_some
