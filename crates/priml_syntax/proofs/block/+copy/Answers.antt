use Rattle.std.proofs.Common.{◌≡◌, refl, ap, ◌∙◌, map}
use Rattle.std.proofs.lemmas.List.{take_all}
use Rattle.priml_syntax.specs.Lists.{read_bind}
use Rattle.priml_syntax.specs.declared.block.Block.{out-Block}
use Rattle.priml_syntax.proofs.Blocks.{copied}
use Rattle.priml_syntax.proofs.block.+copy.Goals as goal

pub Block::copy-returns : goal.Block::copy-returns
Block::copy-returns t c =
    let b = c.args.self.now in
    let xs = c.deref-bind-items.result.now in
    let same : map read_bind c.loop-bind.binds.items ≡ map read_bind (out-Block b).binds.items = c.loop-bind.invariant ∙ ap (map read_bind) (take_all c.loop-bind.bind-index xs c.loop-bind-test.false ∙ c.deref-bind-items.ensures.value) in
    copied b _ refl same c.in_ok-tail.ensures
