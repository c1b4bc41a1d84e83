use Rattle.std.proofs.Common.{ap, ◌∙◌, ◌∷◌, []}
use Rattle.std.proofs.lemmas.List.{map-append}
use Rattle.prompt_checker.specs.Read.{lists}
use Rattle.prompt_checker.proofs.reader.add_step.Goals as goal

pub returns : goal.returns
returns c = ap lists c.in_ok-push.ensures.items ∙ map-append (λ l. l.items) c.args.steps.now.items (c.args.step ∷ [])
