use Rattle.std.proofs.Common.{[], ◌∙◌, sym, subst, IsAscii}
use Rattle.std.proofs.lemmas.Str.{IsUtf8-from_ascii}
use Rattle.source_reader.proofs.Spelled.{name_at, name_within}
use Rattle.source_reader.proofs.resolve.spelling.Goals as goal

pub unreachable-requires : goal.unreachable-requires
unreachable-requires c =
    let at = name_at c.args.names.now c.args.id c.index.result.now c.index.ensures in
    let ascii : IsAscii c.deref.result.now = subst IsAscii (at ∙ sym c.deref.ensures.value) (c.requires.ascii c.args.id [] (name_within c.args.names.now c.args.id c.index.result.now c.index.ensures)) in
    c.in-Err.ensures.cases.0 (IsUtf8-from_ascii c.deref.result.now ascii)

pub returns : goal.returns
returns c =
    let at = name_at c.args.names.now c.args.id c.index.result.now c.index.ensures in
    c.in_ok-from_str-in-Ok.ensures.ok ∙ c.in-Ok.ensures.cases.0 ∙ c.deref.ensures.value ∙ sym at
