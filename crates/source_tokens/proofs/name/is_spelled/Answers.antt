use Rattle.std.proofs.Common.{sym, ◌∙◌}
use Rattle.std.specs.Cmp.Lexicographic.{same_text}
use Rattle.source_tokens.proofs.Numbered.{numbered_at}
use Rattle.source_tokens.proofs.name.is_spelled.Goals as goal

pub returns-in-Some : goal.returns-in-Some
returns-in-Some c = λ same.
    let v = c.in-Some.name.now in
    numbered_at c.args.names.now.keys c.args.id v c.args.spelling.now (sym c.in-Some.ensures.key)
    (sym c.as_slice.ensures.value ∙ same_text c.as_slice.result.now c.args.spelling.now (sym same ∙ c.eq.ensures))
