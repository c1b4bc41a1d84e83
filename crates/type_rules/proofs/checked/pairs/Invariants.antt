use Rattle.std.proofs.Common.{◌≡◌, take, map}
use Rattle.priml_syntax.specs.Read.{read_pair}
use Rattle.priml_syntax.specs.Tree.{Declared}
use Rattle.type_rules.proofs.checked.pairs.Given as goal

abbrev pub invariant-loop-pair : goal.invariant-loop-pair
invariant-loop-pair l = l.all.items ≡ map (λ (d : Declared). d.pair) (map read_pair (take l.pair-index l.declared))
