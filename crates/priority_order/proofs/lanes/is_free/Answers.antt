use Rattle.priority_order.proofs.Decided.{failed}
use Rattle.priority_order.proofs.lanes.is_free.Goals as goal

pub returns-then-not-is_gone : goal.returns-then-not-is_gone
returns-then-not-is_gone c =
    (λ h. ((c.requires, failed c.is_gone.result c.if-not-is_gone.true c.is_gone.ensures.1), c.is_top.ensures.0 h), λ x. c.is_top.ensures.1 x.1)
