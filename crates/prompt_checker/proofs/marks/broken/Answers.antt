use Rattle.std.proofs.Common.{◌<◌, ◌≤◌, length, refl, rules, arith}
use Rattle.std.proofs.lemmas.Grind.{common_steps}
use Rattle.prompt_checker.proofs.marks.broken.Goals as goal

pub returns-in-Some-first_early-clause-flaw : goal.returns-in-Some-first_early-clause-flaw
returns-in-Some-first_early-clause-flaw c =
    let some : 0 < length c.args.line.now.items = first_of (search rules, grind (arith, common_steps)) in
    let fits : length c.args.line.now.items ≤ c.args.cores = first_of (search rules, grind (arith, common_steps)) in
    (some, fits, c.in_default.ensures.first c.args.frontier.now.ran c.requires.stood, c.in-Some-first_early.ensures)

pub returns-clause-flaw : goal.returns-clause-flaw
returns-clause-flaw c =
    let some : 0 < length c.args.line.now.items = first_of (search rules, grind (arith, common_steps)) in
    let fits : length c.args.line.now.items ≤ c.args.cores = first_of (search rules, grind (arith, common_steps)) in
    (some, fits, c.in_default.ensures.first c.args.frontier.now.ran c.requires.stood, c.in_default-first_early.ensures)

pub returns-clause-stood : goal.returns-clause-stood
returns-clause-stood c = λ _. c.in_default.ensures.marked refl c.args.frontier.now.ran c.requires.stood
