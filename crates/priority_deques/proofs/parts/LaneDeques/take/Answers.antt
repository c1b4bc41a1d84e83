use Rattle.std.proofs.Common.{suc}
use Rattle.priority_deques.proofs.parts.LaneDeques.take.Goals as goal

pub returns-in-Some-remove_any : goal.returns-in-Some-remove_any
returns-in-Some-remove_any g c = let h = c.in-Some-remove_any.ensures in (suc h.0, (c.in_default.ensures, h.1))
