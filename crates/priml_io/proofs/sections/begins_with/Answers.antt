use Rattle.std.proofs.Common.{ap, arith, length-take}
use Rattle.std.specs.Cmp.Lexicographic.{told_text}
use Rattle.priml_io.proofs.sections.begins_with.Goals as goal

pub returns-then-text-start : goal.returns-then-text-start
returns-then-text-start c =
    λ e. omega (arith, ap Rattle.std.proofs.Common.length e, length-take (Rattle.std.proofs.Common.length c.args.start.now) c.args.text.now)

pub returns : goal.returns
returns c = told_text _ _ _ c.eq.ensures
