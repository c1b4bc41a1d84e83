use Rattle.std.proofs.Common.{◌≡◌, map, take}
use Rattle.cost_graph.specs.Records.{parts_in, thread_of}
use Rattle.cost_graph.proofs.records.threads_of.Given as goal

abbrev pub invariant-loop-record : goal.invariant-loop-record
invariant-loop-record l = l.threads.items ≡ map thread_of (parts_in (take l.record-index l.list))
