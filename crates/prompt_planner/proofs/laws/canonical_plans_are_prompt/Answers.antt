use Rattle.prompt_planner.proofs.CanonicalPrompt.{canonical_prompt}
use Rattle.prompt_planner.proofs.laws.canonical_plans_are_prompt.Goals as goal

pub returns : goal.returns
returns c = canonical_prompt
