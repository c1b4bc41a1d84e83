use Rattle.std.proofs.Common.{◌≡◌, ap, ◌∙◌, is_some, true, sym}
use Rattle.source_reader.specs.Names.{lookup}
use Rattle.source_reader.proofs.Lists.{twice}
use Rattle.source_reader.proofs.once.once.Goals as goal

pub returns-then-is_some-clause-faults : goal.returns-then-is_some-clause-faults
returns-then-is_some-clause-faults c =
    let known : is_some (lookup c.args.name.now.id c.args.known.now.items) ≡ true = ap (λ xs. is_some (lookup c.args.name.now.id xs)) (sym c.deref.ensures.value) ∙ ap is_some (sym c.find.ensures) ∙ sym c.is_some.ensures ∙ c.if-is_some.true in
    twice _ _ _ known
