use Rattle.std.proofs.Common.{◌≡◌, ◌≢◌, ◌++◌, sym, ap, ◌∙◌, subst}
use Rattle.std.specs.Prelude.{OnOk}
use Rattle.std.specs.String.{string_bytes}
use Rattle.std.proofs.lemmas.List.{append-nil}
use Rattle.cost_graph.specs.Graph.{first_vertex}
use Rattle.cost_graph.proofs.Appended.{join_first, join_later}
use Rattle.cost_graph.proofs.lines.push_join.Goals as goal

pub returns-then-first_of-vertex : goal.returns-then-first_of-vertex
returns-then-first_of-vertex c =
    let old = string_bytes c.args.text.now in
    let none = join_first c.args.graph.now c.args.vertex c.thread_of-thread.result c.thread_of-thread.ensures (sym c.first_of.ensures ∙ c.if-first_of-vertex.true) in
    sym (ap (λ l. old ++ l) none ∙ append-nil old)

pub returns : goal.returns
returns c =
    let old = string_bytes c.args.text.now in
    let other : first_vertex c.args.graph.now c.thread_of-thread.result ≢ c.args.vertex = λ e. c.if-first_of-vertex.false (c.first_of.ensures ∙ e) in
    let later = join_later c.args.graph.now c.args.vertex c.thread_of-thread.result c.thread_of-thread.ensures other in
    subst (λ l. OnOk c.push_others.result (string_bytes c.push_others.new.text ≡ old ++ l)) (sym later) c.push_others.ensures
