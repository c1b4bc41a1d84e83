use Rattle.std.proofs.Math.Dec.{eqb}
use Rattle.std.proofs.lemmas.Bool.Decides.{Decides-eqb}
use Rattle.std.proofs.lemmas.List.Elements.{contains_decides, Decides-contains}
use Rattle.priority_order.proofs.lanes.is_gone.Goals as goal

pub returns : goal.returns
returns c =
    Decides-contains c.args.gone.now c.args.a c.contains.result
    (contains_decides eqb Decides-eqb c.args.gone.now c.args.a c.contains.result c.contains.ensures.cases)
