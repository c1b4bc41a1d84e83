use Rattle.std.proofs.Common.{rules, ◌≡◌, ◌<◌, ◌+◌, List, length, map, sym, refl, subst, arith}
use Rattle.std.proofs.lemmas.Option.{slice_get_read}
use lib.ListN.{length-map}
use lib.Seq.{map-set}
use Rattle.task_state.specs.Tasks.{read_task}
use Rattle.priority_deques.specs.Books.{ChangedAt, DequeBook, Gave, Missed}
use Rattle.priority_deques.proofs.Changes.{FrontChanged, at_mapped, front_all, front_found, front_next}
use Rattle.priority_deques.proofs.bag.remove_any.Goals as goal

pub returns-in-Some : goal.returns-in-Some
returns-in-Some g c = let f = g.B.Bag.book in let i = c.loop-i.i in let bags = c.loop-i.bags.items in let inside : i < length bags = search rules in let a = c.index_mut.result.now in let S = Gave (read_task c.in-Some.task) in (
  i,
  subst (λ (bs : List DequeBook). ChangedAt Missed S i (map f c.args.bags.now.items) bs) (sym (map-set f bags i c.remove.new.self))
      (front_found Missed S i _ (map f bags) (f a) (f c.remove.new.self) c.loop-i.invariant (at_mapped f bags i a (slice_get_read bags (length bags) i a refl inside c.index_mut.ensures.value)) c.in-Some.ensures),
)

pub loop-i-preserved : goal.loop-i-preserved
loop-i-preserved g c = let f = g.B.Bag.book in let i = c.loop-i.i in let bags = c.loop-i.bags.items in let inside : i < length bags = search rules in let a = c.index_mut.result.now in
    subst (λ (bs : List DequeBook). FrontChanged Missed (i + 1) (map f c.args.bags.now.items) bs) (sym (map-set f bags i c.remove.new.self))
    (front_next Missed i _ (map f bags) (f a) (f c.remove.new.self) c.loop-i.invariant (at_mapped f bags i a (slice_get_read bags (length bags) i a refl inside c.index_mut.ensures.value)) c.in_default.ensures)

pub returns : goal.returns
returns g c = let f = g.B.Bag.book in let old = c.args.bags.now.items in let n : c.loop-i.i ≡ length (map f old) = (let l = length-map old f in let a = c.loop-i-test.false in let b = c.loop-i.auto.i-end in let e = c.len-i-end.ensures in let w = c.args.bags.now.ok in omega arith) in
    front_all Missed (map f old) (map f c.loop-i.bags.items) (subst (λ k. FrontChanged Missed k (map f old) (map f c.loop-i.bags.items)) n c.loop-i.invariant)
