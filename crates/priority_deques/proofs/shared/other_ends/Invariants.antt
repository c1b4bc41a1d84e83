use Rattle.std.proofs.Common.{◌≡◌, length}
use Rattle.priority_deques.specs.Handles.{shared_book}
use Rattle.priority_deques.specs.Parts.{end_books}
use Rattle.priority_deques.proofs.Opened.{NewLanes}
use Rattle.priority_deques.proofs.shared.other_ends.Given as goal

abbrev pub invariant-loop-lane : goal.invariant-loop-lane
invariant-loop-lane l = record {
  same : end_books shared_book shared_book l.lanes.items ≡ end_books shared_book shared_book l.initial.lanes.items;
  long : length l.others.items ≡ l.lane;
  new : NewLanes shared_book shared_book l.fn.job 1 l.others.items;
}
