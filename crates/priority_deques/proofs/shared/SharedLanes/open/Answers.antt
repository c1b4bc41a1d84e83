use Rattle.std.proofs.Common.{◌≡◌, ◌+◌, length, sym, ap, ◌∙◌, subst}
use Rattle.std.specs.List.{All}
use Rattle.std.proofs.lemmas.List.{length_push}
use Rattle.type_rules.specs.Jobs.{WithInputs}
use Rattle.priority_deques.specs.declared.ends.SharedEnd.{SharedEnd}
use Rattle.priority_deques.specs.EndBooks.{shared_books, shared_job}
use Rattle.priority_deques.specs.Ends.{IsOpened}
use Rattle.std.proofs.lemmas.List.Elements.{All-push}
use Rattle.priority_deques.proofs.shared.SharedLanes.open.Goals as goal

abbrev New : WithInputs → SharedEnd → Type 0
New job e = (shared_job e ≡ job) × IsOpened job 1 (shared_books e)

pub loop-worker-preserved : goal.loop-worker-preserved
loop-worker-preserved c = let job = c.args.job.now in let i = c.loop-worker.invariant in let e = c.another_end.ensures.first in let items = c.in_ok-push.ensures.items in record {
  first = (e.0 ∙ i.first.0, subst (IsOpened job 1) (sym e.1) i.first.1);
  long = ap (λ n. n + 1) (ap length items ∙ (length_push c.loop-worker.ends.items _ ∙ i.long));
  ends = subst (All (New job)) (sym items) (All-push (New job) c.loop-worker.ends.items _ i.ends c.in_ok-another_end.ensures.another);
}

pub returns-clause-ends : goal.returns-clause-ends
returns-clause-ends c = let job = c.args.job.now in let i = c.loop-worker.invariant in subst (All (New job)) (sym c.in_ok-push-2.ensures.items) (All-push (New job) c.loop-worker.ends.items _ i.ends i.first)
