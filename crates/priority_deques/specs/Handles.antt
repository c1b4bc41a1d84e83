-- What each handle of a deque tells.
use Rattle.crossbeam_deque.specs.Handles.{worker_view, view}
use Rattle.priority_deques.specs.declared.handles.OwnDeque.{OwnDeque}
use Rattle.priority_deques.specs.declared.handles.TheirDeque.{TheirDeque}
use Rattle.priority_deques.specs.declared.handles.SharedDeque.{SharedDeque}
use Rattle.priority_deques.specs.Books.{DequeBook, book_of}

abbrev pub own_book : OwnDeque → DequeBook
own_book d = book_of d.job.value (worker_view d.worker) d.misses d.refusals

abbrev pub their_book : TheirDeque → DequeBook
their_book d = book_of d.job.value (view d.pass) d.misses 0

abbrev pub shared_book : SharedDeque → DequeBook
shared_book d = book_of d.job.value d.pass.me.view.client d.misses d.refusals
