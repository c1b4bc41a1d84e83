use Rattle.prompt_planner.proofs.OneCanonical.{canonical_one}
use Rattle.prompt_planner.proofs.laws.one_canonical_plan.Goals as goal

pub returns : goal.returns
returns c = canonical_one
