use Rattle.std.proofs.Common.{[], ◌∷◌, map, ap, ◌∙◌}
use Rattle.std.proofs.lemmas.List.{map-append}
use Rattle.core_steps.specs.Fields.{read_frame, read_local}
use Rattle.core_steps.proofs.local.Local.leave.Goals as goal

pub returns-in-Ok-clause-ok : goal.returns-in-Ok-clause-ok
returns-in-Ok-clause-ok c = (
  map read_frame c.pop.new.self.items,
  read_frame c.in-Some.frame,
  ap (map read_frame) c.in-Some.ensures.items ∙ map-append read_frame c.pop.new.self.items (c.in-Some.frame ∷ []),
  ap (λ t. record (read_local c.args.self.now) { top = t; below = map read_frame c.pop.new.self.items }) c.in-Ok.ensures.ok,
)
