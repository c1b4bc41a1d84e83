use Rattle.std.proofs.Common.{◌≡◌, ◌≤◌, ◌+◌, ◌*◌, length, take, drop}
use Rattle.priml_syntax.specs.declared.block.Block.{out-Block, size-Block}
use Rattle.priml_syntax.specs.declared.block.Action.{size-Action}
use Rattle.priml_syntax.specs.declared.block.Tail.{size-Tail}
use Rattle.priml_syntax.specs.Read.{read_tail}
use Rattle.priml_syntax.specs.Lists.{body_of}
use Rattle.type_rules.specs.Typing.{BodyInScope}
use Rattle.type_rules.specs.Inside.Answers.{CarriesOn, setting, scope_of}
use Rattle.type_rules.proofs.block.+check.Given as goal

abbrev pub decreases-type_of_action : goal.decreases-type_of_action
decreases-type_of_action l = size-Action l.action.now * 2

abbrev pub decreases-type_of_block : goal.decreases-type_of_block
decreases-type_of_block l = size-Block l.block.now * 2

abbrev pub decreases-type_of_branch : goal.decreases-type_of_branch
decreases-type_of_branch l = size-Block l.block.now * 2 + 1

abbrev pub decreases-type_of_tail : goal.decreases-type_of_tail
decreases-type_of_tail l = size-Tail l.tail.now * 2

abbrev pub invariant-type_of_block-loop-bind : goal.invariant-type_of_block-loop-bind
invariant-type_of_block-loop-bind l =
    let tail = read_tail (out-Block l.block).tail.form (out-Block l.block).tail.at in
    record {
      deep : l.depth ≤ length l.scope.items;
      kept : take l.depth l.scope.items ≡ l.initial.scope.items;
      in_scope : BodyInScope (body_of (drop l.bind-index l.bind-items) tail) (length l.procs) (length l.scope.items);
      leads : CarriesOn (setting l.known l.procs) l.r (scope_of l.scope.items) (body_of (drop l.bind-index l.bind-items) tail) (scope_of l.initial.scope.items) (body_of l.bind-items tail);
    }
