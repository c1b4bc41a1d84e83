-- What each form of end tells.
use Rattle.std.specs.Prelude.{List}
use Rattle.type_rules.specs.Jobs.{WithInputs}
use Rattle.priority_deques.specs.declared.ends.SharedEnd.{SharedEnd}
use Rattle.priority_deques.specs.declared.ends.StealEnd.{StealEnd}
use Rattle.priority_deques.specs.Books.{DequeBook}
use Rattle.priority_deques.specs.Handles.{own_book, shared_book, their_book}
use Rattle.priority_deques.specs.Parts.{end_books}

abbrev pub shared_job : SharedEnd → WithInputs
shared_job e = e.table

abbrev pub shared_books : SharedEnd → List (List DequeBook)
shared_books e = end_books shared_book shared_book e.lanes.items

abbrev pub steal_job : StealEnd → WithInputs
steal_job e = e.table

abbrev pub steal_books : StealEnd → List (List DequeBook)
steal_books e = end_books own_book their_book e.lanes.items
