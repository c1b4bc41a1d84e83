use Rattle.std.proofs.Common.{◌≡◌, List, ◌++◌, sym, ap, ◌∙◌, subst, refl, append-nil}
use mathlib.Core.Option.{some-injective}
use Rattle.join_board.specs.Inside.Views.{took_view, quiet_view, back_view}
use Rattle.join_board.specs.Inside.Plays.{Grew}
use Rattle.join_board.specs.Logs.{size, spawned, finished}
use Rattle.join_board.specs.Calls.{NotListed}
use Rattle.join_board.specs.Clauses.{EndedIn}
use Rattle.join_board.specs.Entries.{Entry}
use Rattle.task_state.specs.Tasks.{TaskKey}
use Rattle.join_board.specs.declared.view.View.{View}
use Rattle.task_state.proofs.Sums.{at_lt}
use Rattle.join_board.proofs.Calls.{not_listed, parks, sums_parked, keys_parked, test_end, test_open, went_back}
use Rattle.join_board.proofs.owned.Board.park.Goals as goal

pub has_ended-requires : goal.has_ended-requires
has_ended-requires c = let at = c.in-Some-find.ensures in at_lt c.in-Some.value c.in-Some-find.i at.0 at.1

pub park-requires : goal.park-requires
park-requires c = let at = c.in-Some-find.ensures in at_lt c.in-Some.value c.in-Some-find.i at.0 at.1

pub give_quiet-requires-clause-holds : goal.give_quiet-requires-clause-holds
give_quiet-requires-clause-holds c = let took = c.in-Some.ensures.found.0 in let v = c.args.seat.now.seat.me.0 in let p = c.args.path.now in let k = c.shard_of-shard.result in let x = c.in-Some.value in let y = c.park.new.self in let i = c.in-Some-find.i in let at = c.in-Some-find.ensures in (
  ap (λ m. m.1) took,
  ap (λ m. m.0.hand.hand) took,
  subst (λ (u : View). Grew u k y) (ap (λ m. m.0) (sym took)) (parks v k x y i p c.args.task c.in-Ok.ensures.ok
      (λ e there. let same : at.0 ≡ e = some-injective at.0 e (sym at.1 ∙ there) in (ap (λ (u : Entry). u.log.path) (sym same) ∙ at.2, test_open e.log.outcome (sym (c.has_ended.ensures e there) ∙ c.if-has_ended.false))) c.requires.task),
)

pub give_quiet-requires-clause-quiet : goal.give_quiet-requires-clause-quiet
give_quiet-requires-clause-quiet c = let took = c.in-Some.ensures.found.0 in let y = c.park.new.self in let s = sums_parked c.in-Some.value y c.in-Some-find.i c.args.task c.in-Ok.ensures.ok in let copy = ap (λ m. m.0.hand.copy) (sym took) in
    (s.0 ∙ ap size copy, s.1 ∙ ap spawned copy, s.2 ∙ ap finished copy)

pub returns-then-has_ended-clause-answer : goal.returns-then-has_ended-clause-answer
returns-then-has_ended-clause-answer c = let took = c.in-Some.ensures.found in let v = c.args.seat.now.seat.me.0 in let p = c.args.path.now in let k = c.shard_of-shard.result in let x = c.in-Some.value in let i = c.in-Some-find.i in let at = c.in-Some-find.ensures in
    let back = c.give_back-then-has_ended in let now : back.new.seat.me.0 ≡ back_view (took_view v k x) = ap (λ m. m.0) back.ensures.given ∙ ap (λ m. back_view m.0) took.0 in let copy = ap (λ (u : View). u.hand.copy) (sym now) in
    let went = went_back v back.new.seat.me.0 k x c.args.path.now now c.shard_of-shard.ensures.value in
    (refl, went.0, went.1, subst (λ (z : List Entry). EndedIn z p) copy (test_end v k x p i at.0 took.1 at.1 at.2 (sym (c.has_ended.ensures at.0 at.1) ∙ c.if-has_ended.true)))

pub returns-in_default-find-clause-answer : goal.returns-in_default-find-clause-answer
returns-in_default-find-clause-answer c = let took = c.in-Some.ensures.found in let v = c.args.seat.now.seat.me.0 in let p = c.args.path.now in let k = c.shard_of-shard.result in let x = c.in-Some.value in let missing = c.in_default-find.ensures in
    let now : c.give_back.new.seat.me.0 ≡ back_view (took_view v k x) = ap (λ m. m.0) c.give_back.ensures.given ∙ ap (λ m. back_view m.0) took.0 in let copy = ap (λ (u : View). u.hand.copy) (sym now) in
    let went = went_back v c.give_back.new.seat.me.0 k x c.args.path.now now c.shard_of-shard.ensures.value in
    (refl, went.0, went.1, subst (NotListed v p) copy (not_listed v k x p took.1 (sym c.shard_of-shard.ensures.value) missing))

pub returns-in-Ok-clause-answer : goal.returns-in-Ok-clause-answer
returns-in-Ok-clause-answer c = let took = c.in-Some.ensures.found.0 in let v = c.args.seat.now.seat.me.0 in let p = c.args.path.now in let k = c.shard_of-shard.result in let x = c.in-Some.value in let y = c.park.new.self in
    let now : c.give_quiet.new.seat.me.0 ≡ quiet_view (took_view v k x) y = ap (λ m. m.0) c.give_quiet.ensures.given ∙ ap (λ m. quiet_view m.0 y) took in let moved = keys_parked x y c.in-Some-find.i c.args.task c.in-Ok.ensures.ok in (
      (ap (λ (u : View). u.hand.taken) now, ap (λ (u : View). u.hand.last) now ∙ c.shard_of-shard.ensures.value),
      ap (λ (u : View). u.own) now,
      ap (λ (u : View). u.uncounted) now,
      ap (λ (u : View). u.keys.parked) now ∙ ap (λ (ks : List TaskKey). v.keys.parked ++ ks) moved.0,
      ap (λ (u : View). u.keys.handed) now ∙ (ap (λ (ks : List TaskKey). v.keys.handed ++ ks) moved.1 ∙ append-nil v.keys.handed),
    )
