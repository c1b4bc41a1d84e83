use Rattle.std.proofs.Common.{◌≡◌, ◌++◌, append_assoc, ap, subst, sym, ◌∙◌}
use Rattle.std.specs.Prelude.{List, ℕ, codes, OnOk}
use Rattle.std.specs.String.{string_bytes}
use Rattle.std.specs.Fmt.{decimal}
use Rattle.priml_syntax.specs.Text.{path_text}
use Rattle.cost_graph.specs.Text.{name_text, vertex_text}
use Rattle.cost_graph.proofs.Names.{owned_name}
use Rattle.cost_graph.proofs.text.push_vertex.Goals as goal

pub returns-clause-ok : goal.returns-clause-ok
returns-clause-ok c =
    let g = c.args.graph.now in
    let t = c.thread_of-thread.result in
    let own = c.thread_of-thread.ensures in
    let named = owned_name g c.args.vertex t c.number_of-number.result own (c.number_of-number.ensures t own) in
    let same : path_text c.path_of.result.now ++ (codes ":" ++ decimal c.number_of-number.result) ≡ vertex_text g c.args.vertex =
    sym (append_assoc (path_text c.path_of.result.now) (codes ":") (decimal c.number_of-number.result)) ∙ ap (λ p. path_text p ++ codes ":" ++ decimal c.number_of-number.result) c.path_of.ensures ∙ ap name_text (sym named) in
    let P : List ℕ → Type 0 = λ l. OnOk c.push_path_and.result (string_bytes c.push_path_and.new.text ≡ string_bytes c.args.text.now ++ l) in
    subst P same c.push_path_and.ensures.ok
