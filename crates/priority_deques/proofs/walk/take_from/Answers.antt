use Rattle.std.proofs.Common.{rules, ◌≡◌, ◌<◌, ◌+◌, List, length, map, sym, refl, subst, arith}
use Rattle.std.specs.List.{AllZip}
use Rattle.std.proofs.lemmas.Option.{slice_get_read}
use lib.ListN.{length-map}
use lib.Seq.{map-set}
use Rattle.task_state.specs.Tasks.{read_task}
use Rattle.priority_deques.specs.Books.{ChangedAt, DequeBook, Missed, TookOne}
use Rattle.priority_deques.specs.Parts.{lane_books}
use Rattle.priority_deques.proofs.Changes.{FrontChanged, at_mapped, front_all, front_found, front_next}
use Rattle.priority_deques.proofs.walk.take_from.Goals as goal

pub loop-lane-init : goal.loop-lane-init
loop-lane-init g c = refl

pub returns-in-Some : goal.returns-in-Some
returns-in-Some g c = let f = lane_books g.O.Bag.book g.B.Bag.book in let i = c.loop-lane.lane in let lanes = c.loop-lane.lanes.items in let inside : i < length lanes = search rules in let a = c.index_mut.result.now in let S = TookOne (read_task c.in-Some.task) in
    subst (λ (bs : List (List DequeBook)). ChangedAt (AllZip Missed) S i (map f c.args.lanes.now.items) bs) (sym (map-set f lanes i c.take.new.self))
    (front_found (AllZip Missed) S i _ (map f lanes) (f a) (f c.take.new.self) c.loop-lane.invariant (at_mapped f lanes i a (slice_get_read lanes (length lanes) i a refl inside c.index_mut.ensures.value)) c.in-Some.ensures)

pub loop-lane-preserved : goal.loop-lane-preserved
loop-lane-preserved g c = let f = lane_books g.O.Bag.book g.B.Bag.book in let i = c.loop-lane.lane in let lanes = c.loop-lane.lanes.items in let inside : i < length lanes = search rules in let a = c.index_mut.result.now in
    subst (λ (bs : List (List DequeBook)). FrontChanged (AllZip Missed) (i + 1) (map f c.args.lanes.now.items) bs) (sym (map-set f lanes i c.take.new.self))
    (front_next (AllZip Missed) i _ (map f lanes) (f a) (f c.take.new.self) c.loop-lane.invariant (at_mapped f lanes i a (slice_get_read lanes (length lanes) i a refl inside c.index_mut.ensures.value)) c.in_default.ensures)

pub returns : goal.returns
returns g c = let f = lane_books g.O.Bag.book g.B.Bag.book in let old = c.args.lanes.now.items in let n : c.loop-lane.lane ≡ length (map f old) = (let l = length-map old f in let a = c.loop-lane-test.false in let b = c.loop-lane.auto.lane-end in let e = c.len-lane-end.ensures in let w = c.args.lanes.now.ok in omega arith) in
    front_all (AllZip Missed) (map f old) (map f c.loop-lane.lanes.items) (subst (λ k. FrontChanged (AllZip Missed) k (map f old) (map f c.loop-lane.lanes.items)) n c.loop-lane.invariant)
