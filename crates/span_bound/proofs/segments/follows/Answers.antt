use Rattle.std.proofs.Common.{ap, sym, ◌∙◌, length}
use Rattle.std.proofs.lemmas.Bool.{eqb-true}
use Rattle.span_bound.proofs.Following.{follows_if}
use Rattle.span_bound.proofs.segments.follows.Goals as goal

pub returns-then-parents_of-eq1 : goal.returns-then-parents_of-eq1
returns-then-parents_of-eq1 c = λ h.
    follows_if c.args.graph.now c.args.vertex c.thread_of-thread.result c.vertex_count-count.ensures.kept c.thread_of-thread.ensures
    (λ e. c.if-first_of-vertex.false (c.first_of.ensures ∙ e))
    (ap length (sym c.parents_of.ensures) ∙ c.if-parents_of-eq1.true)
    (ap length (sym c.children_of.ensures) ∙ eqb-true (length c.children_of.result.now) 1 h)
