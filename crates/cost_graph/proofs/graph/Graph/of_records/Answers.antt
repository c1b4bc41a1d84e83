use Rattle.std.proofs.Common.{List, sym, subst}
use Rattle.priml_syntax.specs.declared.record.Record.{Record}
use Rattle.cost_graph.specs.Records.{parts_in, AreFinished, IsGraphOf}
use Rattle.cost_graph.proofs.Made.{firsts_known, made_of_list, apart_of_list}
use Rattle.cost_graph.proofs.Carried.{same_acyclic, same_well_formed}
use Rattle.cost_graph.proofs.OneGraph.{one_graph}
use Rattle.cost_graph.proofs.Said.{lines_said}
use Rattle.cost_graph.proofs.graph.Graph.of_records.Goals as goal

pub all_parents-requires : goal.all_parents-requires
all_parents-requires c =
    record {
      in_order = c.list-list.ensures.in_order;
      finished = subst (λ (l : List Record). AreFinished (parts_in l)) (sym c.list-list.ensures.value) c.requires;
      firsts = firsts_known (parts_in c.list-list.result.now) c.in_ok-threads.threads.items c.in_ok-firsts.firsts.items c.in_ok-threads.ensures c.in_ok-firsts.ensures.long c.in_ok-firsts.ensures.are;
      spawns = c.in_ok-spawns.ensures;
    }

pub of_parents-requires : goal.of_parents-requires
of_parents-requires c =
    let whole = made_of_list c.list-list.result.now c.args.records.now c.in_ok-threads.threads.items c.in_ok-parents.parents.items c.list-list.ensures.value c.list-list.ensures.in_order c.requires c.in_ok-threads.ensures c.in_ok-parents.ensures.long c.in_ok-parents.ensures.right in
    whole.kept

pub returns-clause-graph : goal.returns-clause-graph
returns-clause-graph c =
    subst (IsGraphOf (parts_in c.args.records.now)) (sym c.in_ok-graph.ensures.made)
    (made_of_list c.list-list.result.now c.args.records.now c.in_ok-threads.threads.items c.in_ok-parents.parents.items c.list-list.ensures.value c.list-list.ensures.in_order c.requires c.in_ok-threads.ensures c.in_ok-parents.ensures.long c.in_ok-parents.ensures.right)

pub returns-clause-only : goal.returns-clause-only
returns-clause-only c = λ other h. one_graph (parts_in c.args.records.now) c.in_ok-graph.graph other (returns-clause-graph c) h

pub returns-clause-lines : goal.returns-clause-lines
returns-clause-lines c =
    let apart = apart_of_list c.list-list.result.now c.args.records.now c.list-list.ensures.value c.list-list.ensures.in_order in
    lines_said (parts_in c.args.records.now) c.requires apart c.in_ok-graph.graph (returns-clause-graph c)

pub returns-clause-acyclic : goal.returns-clause-acyclic
returns-clause-acyclic c =
    let apart = apart_of_list c.list-list.result.now c.args.records.now c.list-list.ensures.value c.list-list.ensures.in_order in
    same_acyclic (parts_in c.args.records.now) apart c.in_ok-graph.graph (returns-clause-graph c)

pub returns-clause-well_formed : goal.returns-clause-well_formed
returns-clause-well_formed c =
    let apart = apart_of_list c.list-list.result.now c.args.records.now c.list-list.ensures.value c.list-list.ensures.in_order in
    same_well_formed (parts_in c.args.records.now) apart c.in_ok-graph.graph (returns-clause-graph c)
