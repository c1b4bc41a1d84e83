use Rattle.task_state.proofs.BookMeaning.{books_agree}
use Rattle.task_state.proofs.laws.finished_books_agree.Goals as goal

pub returns : goal.returns
returns c = books_agree
