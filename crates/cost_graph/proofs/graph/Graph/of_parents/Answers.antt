use Rattle.cost_graph.proofs.graph.Graph.of_parents.Goals as goal

pub invariant_of-result : goal.invariant_of-result
invariant_of-result c =
    let made = c.in-Ok.ensures in
    record { graph = c.requires; turned = made.turned; firsts = made.firsts; owners = made.owners }
