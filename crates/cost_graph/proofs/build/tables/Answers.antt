use Rattle.std.proofs.Common.{arith, ◌∙◌}
use Rattle.cost_graph.specs.View.{lists, graph_of}
use Rattle.cost_graph.proofs.Threads.{threads_few}
use Rattle.cost_graph.proofs.Grown.{lists_length}
use Rattle.cost_graph.proofs.build.tables.Goals as goal

pub turn-requires-clause-ends : goal.turn-requires-clause-ends
turn-requires-clause-ends c = λ u v e. omega (arith, c.requires.ends u v e, lists_length c.args.parents.now.items)

pub owners_of-requires : goal.owners_of-requires
owners_of-requires c = omega (arith, threads_few (graph_of c.args.threads.now.items c.args.parents.now.items) c.requires, c.requires.small)

pub returns-clause-turned : goal.returns-clause-turned
returns-clause-turned c = record { covers = c.in_ok-children.ensures.covers; are = c.in_ok-children.ensures.are }

pub returns-clause-firsts : goal.returns-clause-firsts
returns-clause-firsts c = record { covers = c.in_ok-firsts.ensures.long; are = c.in_ok-firsts.ensures.are }

pub returns-clause-owners : goal.returns-clause-owners
returns-clause-owners c =
    record {
      covers = c.in_ok-owners.ensures.long ∙ c.requires.covers;
      are = λ v lt. c.in_ok-owners.ensures.are (lists c.args.parents.now.items) v (omega (arith, lt, c.in_ok-owners.ensures.long, c.requires.covers));
    }
