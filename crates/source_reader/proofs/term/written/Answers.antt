use Rattle.source_grammar.specs.RawRead.{read_ty}
use Rattle.source_reader.specs.declared.faults.What.TheVariants.{TypeNodes}
use Rattle.source_reader.specs.Faults.{raw_nodes, type_faults}
use Rattle.source_reader.specs.Inside.Known.{env_in}
use Rattle.source_reader.proofs.Lists.{crowded}
use Rattle.source_reader.proofs.term.written.Goals as goal

pub returns-then-nodes-gt-MOST_NODES : goal.returns-then-nodes-gt-MOST_NODES
returns-then-nodes-gt-MOST_NODES c =
    let ty = read_ty c.args.raw.now.ty in
    crowded c.args.raw.now.at (raw_nodes ty) c.nodes.result TypeNodes (type_faults (env_in c.args.names.now) ty) c.nodes.ensures c.if-nodes-gt-MOST_NODES.true
