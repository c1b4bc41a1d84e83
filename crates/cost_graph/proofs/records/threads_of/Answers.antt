use Rattle.std.proofs.Common.{◌++◌, ◌∷◌, [], map, take, sym, ap, ◌∙◌}
use Rattle.cost_graph.specs.declared.graph.Thread.{Thread}
use Rattle.cost_graph.specs.Records.{parts_in, thread_of}
use Rattle.cost_graph.proofs.JobEnds.{record_few}
use Rattle.cost_graph.proofs.Made.{parts_more}
use Rattle.cost_graph.proofs.records.threads_of.Goals as goal

pub one_thread-requires : goal.one_thread-requires
one_thread-requires c = record_few c.args.list.now c.loop-record.record-index c.record-item.result c.loop-record-test.true c.record-item.is c.requires

pub loop-record-preserved : goal.loop-record-preserved
loop-record-preserved c =
    c.in_ok-push.ensures.items ∙ ap (λ l. l ++ c.in_ok-thread.thread ∷ []) c.loop-record.invariant
    ∙ ap (λ (x : Thread). map thread_of (parts_in (take c.loop-record.record-index c.args.list.now)) ++ x ∷ []) c.in_ok-thread.ensures
    ∙ sym (parts_more c.args.list.now c.loop-record.record-index c.record-item.result c.loop-record-test.true c.record-item.is)
