use Rattle.std.proofs.Common.{arith, ◌≡◌, ◌<◌, subst, sym, ap, ◌∙◌, List, length, get_or}
use Rattle.std.proofs.lemmas.List.{get_or_read}
use Rattle.cost_graph.specs.declared.graph.Thread.{Thread}
use Rattle.cost_graph.specs.Graph.{CostGraph, thread_at, IsGraph, no_thread}
use Rattle.cost_graph.proofs.Threads.{one_path}
use Rattle.cost_graph.proofs.graph.Graph.find.Goals as goal

pub returns-else-number-index : goal.returns-else-number-index
returns-else-number-index c = λ v at.
    let g = c.args.self.now in
    let t = c.in-Ok.t in
    let found = c.in-Ok.ensures.found in
    let threads : c.self.inside.threads.items ≡ g.threads = ap (λ (x : CostGraph). x.threads) c.self.view_is in
    let ok : IsGraph g = subst IsGraph c.self.view_is c.self.invariant.graph in
    let same = one_path g at.thread t ok at.within found.0 (at.path_is ∙ sym found.1) in
    let here : c.index.result.now ≡ thread_at g t = get_or_read c.self.inside.threads.items t c.index.result.now (subst (λ l. t < l) (sym (ap (λ (x : List Thread). length x) threads)) found.0) c.index.ensures no_thread ∙ ap (λ l. get_or l t no_thread) threads in
    let below : c.args.number < (thread_at g t).vertices = subst (λ s. c.args.number < (thread_at g s).vertices) same at.below in
    omega (arith, below, c.if-number-index.false, ap (λ (x : Thread). x.vertices) here)
