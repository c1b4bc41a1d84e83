-- What the deques of an end tell.
use Rattle.std.specs.Prelude.{List, ◌∷◌, map}
use Rattle.priority_deques.specs.declared.parts.LaneDeques.{LaneDeques}
use Rattle.priority_deques.specs.Books.{DequeBook}

module _ {O B : Type 0} (own : O → DequeBook) (theirs : B → DequeBook) where
  -- of one lane, its own first
  abbrev pub lane_books : LaneDeques O B → List DequeBook
  lane_books d = own d.own ∷ map theirs d.others.items

  -- lane by lane
  abbrev pub end_books : List (LaneDeques O B) → List (List DequeBook)
  end_books = map lane_books
