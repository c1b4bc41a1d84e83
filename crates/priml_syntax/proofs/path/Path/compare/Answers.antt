use Rattle.std.proofs.Common.{◌≡◌, ◌∙◌, ap₂}
use Rattle.std.specs.Ordering.{nat_cmp}
use Rattle.std.specs.Cmp.Lexicographic.{slice_cmp}
use Rattle.priml_syntax.proofs.Orders.{answers-less, answers-equal, answers-greater}
use Rattle.priml_syntax.proofs.path.Path.compare.Goals as goal

compared : (c : goal.After-cmp) → c.cmp.result ≡ slice_cmp nat_cmp c.args.self.now c.args.other.now
compared c = c.cmp.ensures ∙ ap₂ (slice_cmp nat_cmp) (c.as_slice.ensures.value ∙ c.self.view_is) (c.as_slice-2.ensures.value ∙ c.other.view_is)

pub returns-clause-less : goal.returns-clause-less
returns-clause-less c = answers-less c.cmp.result c.args.self.now c.args.other.now (compared c)

pub returns-clause-equal : goal.returns-clause-equal
returns-clause-equal c = answers-equal c.cmp.result c.args.self.now c.args.other.now (compared c)

pub returns-clause-greater : goal.returns-clause-greater
returns-clause-greater c = answers-greater c.cmp.result c.args.self.now c.args.other.now (compared c)
