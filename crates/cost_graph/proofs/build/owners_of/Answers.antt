use Rattle.std.proofs.Common.{◌≡◌, ◌<◌, ◌++◌, length, get_or, replicate, ap, ◌∙◌, arith}
use Rattle.std.proofs.lemmas.List.{get_or_read}
use Rattle.cost_graph.specs.declared.graph.Thread.{Thread}
use Rattle.cost_graph.specs.Graph.{no_thread}
use Rattle.cost_graph.proofs.Grown.{owners_on, owners_more}
use Rattle.cost_graph.proofs.build.owners_of.Goals as goal

pub loop-t-preserved : goal.loop-t-preserved
loop-t-preserved c =
    let ts = c.args.threads.now.items in
    let t = c.loop-t.t in
    let lt : t < length ts = omega (arith, c.loop-t-test.true, c.len-t-end.ensures) in
    let here : c.index.result.now ≡ get_or ts t no_thread = get_or_read ts t c.index.result.now lt c.index.ensures no_thread in
    let next : c.add_times.new.numbers.items ≡ c.loop-t.owners.items ++ replicate (get_or ts t no_thread).vertices t = c.in_ok-add_times.ensures ∙ ap (λ (x : Thread). c.loop-t.owners.items ++ replicate x.vertices t) here in
    record {
      long = owners_more ts t c.loop-t.owners.items c.add_times.new.numbers.items lt c.loop-t.invariant.long next;
      are = λ parents. owners_on ts parents t c.loop-t.owners.items c.add_times.new.numbers.items lt c.loop-t.invariant.long next (c.loop-t.invariant.are parents);
    }
