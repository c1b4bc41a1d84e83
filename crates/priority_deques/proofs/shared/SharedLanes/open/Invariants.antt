use Rattle.std.proofs.Common.{◌≡◌, ◌+◌, length}
use Rattle.std.specs.List.{All}
use Rattle.priority_deques.specs.EndBooks.{shared_books, shared_job}
use Rattle.priority_deques.specs.Ends.{IsOpened}
use Rattle.priority_deques.proofs.shared.SharedLanes.open.Given as goal

abbrev pub invariant-loop-worker : goal.invariant-loop-worker
invariant-loop-worker l = record {
  first : (shared_job l.first ≡ l.fn.job) × IsOpened l.fn.job 1 (shared_books l.first);
  long : length l.ends.items + 1 ≡ l._worker;
  ends : All (λ e. (shared_job e ≡ l.fn.job) × IsOpened l.fn.job 1 (shared_books e)) l.ends.items;
}
