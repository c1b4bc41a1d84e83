use Rattle.std.proofs.Common.{append_assoc, ap, subst, sym, ◌∙◌}
use Rattle.std.specs.Prelude.{◌≡◌, ◌++◌, codes}
use Rattle.std.specs.Fmt.{decimal}
use Rattle.priml_syntax.specs.Text.{path_text}
use Rattle.cost_graph.specs.Text.{name_text, vertex_text}
use Rattle.cost_graph.proofs.Names.{owned_name}
use Rattle.priml_io.specs.Whole.{Writes}
use Rattle.priml.proofs.flaw.write_vertex.Goals as goal

pub returns-clause-bytes : goal.returns-clause-bytes
returns-clause-bytes g c =
    let graph = c.args.graph.now in
    let t = c.thread_of-thread.result in
    let own = c.thread_of-thread.ensures in
    let number = c.number_of-number.result in
    let named = owned_name graph c.args.vertex t number own (c.number_of-number.ensures t own) in
    let same : path_text c.parts.result.now ++ (codes ":" ++ decimal number) ≡ vertex_text graph c.args.vertex =
    sym (append_assoc (path_text c.parts.result.now) (codes ":") (decimal number)) ∙ ap (λ p. path_text p ++ codes ":" ++ decimal number) (c.parts.ensures.value ∙ c.path_of.ensures) ∙ ap name_text (sym named) in
    subst (λ text. Writes (g.K.Sink.written c.args.sink.now) (g.K.Sink.written c.write_name.new.sink) text c.write_name.result) same c.write_name.ensures.bytes
