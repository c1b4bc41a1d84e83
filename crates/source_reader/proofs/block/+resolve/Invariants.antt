use Rattle.std.proofs.Common.{◌≡◌, ◌≤◌, ◌+◌, ◌*◌, length, take, drop}
use Rattle.source_grammar.specs.declared.raw.RawBlock.{size-RawBlock}
use Rattle.source_grammar.specs.declared.raw.RawBind.{size-RawBind}
use Rattle.source_grammar.specs.declared.raw.RawAction.{size-RawAction}
use Rattle.source_grammar.specs.declared.raw.RawTail.{size-RawTail}
use Rattle.source_grammar.specs.declared.raw.RawTailForm.{size-RawTailForm}
use Rattle.priml_syntax.specs.Lists.{body_of}
use Rattle.source_reader.specs.Faults.{body_faults}
use Rattle.source_reader.specs.Resolved.{body_meant}
use Rattle.source_reader.specs.Inside.Fits.{BodyFits}
use Rattle.source_reader.specs.Inside.Bodies.{raw_body_of}
use Rattle.source_reader.specs.Inside.Known.{env_in}
use Rattle.source_reader.proofs.RawBlocks.{raw_tail_of}
use Rattle.source_reader.proofs.block.+resolve.Given as goal

abbrev pub decreases-block_of : goal.decreases-block_of
decreases-block_of l = size-RawBlock l.raw.now * 3

abbrev pub decreases-boxed_block : goal.decreases-boxed_block
decreases-boxed_block l = size-RawBlock l.raw.now * 3 + 1

abbrev pub decreases-branch : goal.decreases-branch
decreases-branch l = size-RawBlock l.raw.now * 3 + 2

abbrev pub decreases-bound : goal.decreases-bound
decreases-bound l = size-RawBind l.raw.now * 3

abbrev pub decreases-action_of : goal.decreases-action_of
decreases-action_of l = size-RawAction l.raw.now * 3

abbrev pub decreases-ending : goal.decreases-ending
decreases-ending l = size-RawTail l.raw.now * 3

abbrev pub decreases-form_of : goal.decreases-form_of
decreases-form_of l = size-RawTailForm l.raw.now * 3

abbrev pub invariant-block_of-loop-bind : goal.invariant-block_of-loop-bind
invariant-block_of-loop-bind l =
    let tail = raw_tail_of l.raw in
    let rest = raw_body_of (drop l.bind-index l.bind-items) tail in
    let env = env_in l.names in
    record {
      room : length l.scope.items ≤ 32;
      deep : l.outer ≤ length l.scope.items;
      kept : take l.outer l.scope.items ≡ l.initial.scope.items;
      fits : BodyFits rest;
      faults : body_faults (raw_body_of l.bind-items tail) env l.initial.scope.items ≡ body_faults rest env l.scope.items;
      made : body_meant (raw_body_of l.bind-items tail) env l.initial.scope.items ≡ body_of l.binds.items (body_meant rest env l.scope.items);
    }
