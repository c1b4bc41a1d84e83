use Rattle.std.proofs.Common.{length, ◌-◌, ◌≡◌, ◌≤◌, drop}
use Rattle.source_tokens.specs.Inside.Gaps.{behind, begins}
use Rattle.source_tokens.proofs.bytes.skip_comments.Given as goal

abbrev pub invariant-loop-at : goal.invariant-loop-at
invariant-loop-at l = record {
  within : l.at ≤ length l.text;
  left : behind l.in_comment (drop l.at l.text) ≡ begins l.text;
}

abbrev pub decreases-loop-at : goal.decreases-loop-at
decreases-loop-at l = length l.text - l.at
