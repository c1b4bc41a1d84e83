use Rattle.std.proofs.Common.{List, length, map, sym, refl, subst}
use Rattle.std.proofs.lemmas.Option.{slice_get_read}
use lib.Seq.{map-set}
use Rattle.task_state.specs.Tasks.{read_task}
use Rattle.priority_deques.specs.Books.{AsBefore, ChangedAt, DequeBook, Got, Refused}
use Rattle.priority_deques.specs.Parts.{lane_books}
use Rattle.priority_deques.proofs.Changes.{at_mapped, changed_one}
use Rattle.priority_deques.proofs.walk.put_into.Goals as goal

pub add-requires : goal.add-requires
add-requires g c = let lanes = c.args.lanes.now.items in let a = c.index_mut.result.now in c.requires.fits a (slice_get_read lanes (length lanes) c.args.lane a refl c.requires.lane c.index_mut.ensures.value)

pub returns-in-Ok-clause-put : goal.returns-in-Ok-clause-put
returns-in-Ok-clause-put g c = let f = lane_books g.O.Bag.book g.B.Bag.book in let i = c.args.lane in let lanes = c.args.lanes.now.items in let a = c.index_mut.result.now in let b = record a { own = c.add.new.self } in let S = ChangedAt AsBefore (Got (read_task c.args.task)) 0 in
    subst (λ (bs : List (List DequeBook)). ChangedAt AsBefore S i (map f lanes) bs) (sym (map-set f lanes i b))
    (changed_one S i (map f lanes) (f a) (f b) (at_mapped f lanes i a (slice_get_read lanes (length lanes) i a refl c.requires.lane c.index_mut.ensures.value)) (c.in-Ok.ensures.put, refl))

pub returns-in-Err-clause-refused : goal.returns-in-Err-clause-refused
returns-in-Err-clause-refused g c = let f = lane_books g.O.Bag.book g.B.Bag.book in let i = c.args.lane in let lanes = c.args.lanes.now.items in let a = c.index_mut.result.now in let b = record a { own = c.add.new.self } in let S = ChangedAt AsBefore Refused 0 in (
  c.in-Err.ensures.refused.0,
  subst (λ (bs : List (List DequeBook)). ChangedAt AsBefore S i (map f lanes) bs) (sym (map-set f lanes i b))
      (changed_one S i (map f lanes) (f a) (f b) (at_mapped f lanes i a (slice_get_read lanes (length lanes) i a refl c.requires.lane c.index_mut.ensures.value)) (c.in-Err.ensures.refused.1, refl)),
)
