-- A book whose logs read as a finished configuration has the records of the serial meaning.
use Rattle.std.proofs.Common.{◌≡◌, Some, sym, ◌∙◌, arith}
use Rattle.std.proofs.lemmas.List.Sorted.{Contains-permutation, IsPermutation-sym}
use Rattle.priml_syntax.specs.Records.{work as work_of_records}
use Rattle.core_steps.specs.Determined.{steps_of}
use Rattle.core_steps.specs.Laws.{CoreLaws}
use Rattle.core_steps.specs.Steps.{Job}
use Rattle.core_steps.proofs.Agree.{finished_is_complete}
use Rattle.core_steps.proofs.CoreLaws.{core_laws}
use Rattle.trace_book.specs.Book.{entries_of, work}
use Rattle.task_state.specs.Books.{FinishedBooksAgree}
use Rattle.task_state.proofs.Books.{entries_work, finished_records, same_records, same_work}

pub books_agree : (job : Job) → FinishedBooksAgree job
books_agree job c logs ls n reached finished read order few =
    let laws : CoreLaws job = core_laws job in
    let r = finished_records c finished in
    let whole = laws.agrees c r.0 (steps_of c) reached r.1 (omega arith) in
    let sorted = (finished_is_complete job r.0 (steps_of c) whole.0).1 in
    let same : entries_of ls ≡ Some r.0 = same_records c ls r.0 r.1 sorted order.1
    (λ t h. let a = read.each t h in (a.0, Contains-permutation logs ls a.0 order.0 a.1, a.2))
    (λ l h. read.only l (Contains-permutation ls logs l (IsPermutation-sym logs ls order.0) h)) in
    let total : work_of_records r.0 ≡ work logs = entries_work ls r.0 same ∙ sym (same_work logs ls order.0) in
    (r.0, same, (laws.agrees c r.0 n reached r.1 (omega (arith, whole.1, total, few))).0, total)
