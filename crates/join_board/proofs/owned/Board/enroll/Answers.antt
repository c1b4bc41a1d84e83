use Rattle.std.proofs.Common.{◌≡◌, List, ◌++◌, length, sym, ap, ◌∙◌, subst, refl, append-nil, false}
use lib.ListN.{get_elem?}
use Rattle.join_board.specs.Inside.Views.{took_view, quiet_view, back_view}
use Rattle.join_board.specs.Threads.{ended}
use Rattle.join_board.specs.Inside.Plays.{Grew}
use Rattle.join_board.specs.Logs.{sights, sight, size, spawned, finished, fresh}
use Rattle.task_state.specs.Tasks.{TaskKey}
use Rattle.join_board.specs.declared.view.View.{View}
use Rattle.join_board.proofs.Calls.{enrolls, sums_snoc, keys_snoc, sees_entry, fresh_at, went_back}
use Rattle.join_board.proofs.owned.Board.enroll.Goals as goal

pub give_quiet-requires-clause-holds : goal.give_quiet-requires-clause-holds
give_quiet-requires-clause-holds c = let took = c.in-Some.ensures.found.0 in let v = c.args.seat.now.seat.me.0 in let k = c.shard_of-shard.result in let x = c.in-Some.value in
    (ap (λ m. m.1) took, ap (λ m. m.0.hand.hand) took, subst (λ (u : View). Grew u k c.enroll_copy.new.self) (ap (λ m. m.0) (sym took)) (enrolls v k x c.enroll_copy.new.self c.args.path.now c.args.prio c.in-Ok.ensures.ok (sym c.shard_of-shard.ensures.value) c.in-None.ensures c.requires.thread.0 c.requires.thread.1))

pub give_quiet-requires-clause-quiet : goal.give_quiet-requires-clause-quiet
give_quiet-requires-clause-quiet c = let took = c.in-Some.ensures.found.0 in let y = c.enroll_copy.new.self in let s = sums_snoc c.in-Some.value y c.args.path.now c.args.prio c.in-Ok.ensures.ok in let copy = ap (λ m. m.0.hand.copy) (sym took) in
    (s.0 ∙ ap size copy, s.1 ∙ ap spawned copy, s.2 ∙ ap finished copy)

pub returns-in-Some-find-clause-answer : goal.returns-in-Some-find-clause-answer
returns-in-Some-find-clause-answer c = let took = c.in-Some.ensures.found.0 in let v = c.args.seat.now.seat.me.0 in let k = c.shard_of-shard.result in let x = c.in-Some.value in let at = c.in-Some-find.ensures in
    let now : c.give_back.new.seat.me.0 ≡ back_view (took_view v k x) = ap (λ m. m.0) c.give_back.ensures.given ∙ ap (λ m. back_view m.0) took in let sees = sees_entry (v.seen ++ sights x) x c.in-Some-find.field-0 at.0 at.1 in
    let went = went_back v c.give_back.new.seat.me.0 k x c.args.path.now now c.shard_of-shard.ensures.value in
    (went.0, went.1, (length at.0.log.events, ended at.0.log.events, (sees.0, sight at.0, ap (λ (u : View). get_elem? u.seen sees.0) now ∙ sees.1, at.2, refl, refl)))

pub returns-in-Ok-clause-answer : goal.returns-in-Ok-clause-answer
returns-in-Ok-clause-answer c = let took = c.in-Some.ensures.found.0 in let v = c.args.seat.now.seat.me.0 in let k = c.shard_of-shard.result in let x = c.in-Some.value in let y = c.enroll_copy.new.self in let is = c.in-Ok.ensures.ok in let p = c.args.path.now in let a = c.args.prio in
    let now : c.give_quiet.new.seat.me.0 ≡ quiet_view (took_view v k x) y = ap (λ m. m.0) c.give_quiet.ensures.given ∙ ap (λ m. quiet_view m.0 y) took in let sees = sees_entry (v.seen ++ sights x) y (length x) (fresh p a) (fresh_at x y p a is) in let moved = keys_snoc x y p a is in
    let parked = ap (λ (ks : List TaskKey). v.keys.parked ++ ks) moved.0 ∙ append-nil v.keys.parked in let handed = ap (λ (ks : List TaskKey). v.keys.handed ++ ks) moved.1 ∙ append-nil v.keys.handed in
    let same : (quiet_view (took_view v k x) y).keys ≡ v.keys = λ i. record { parked = parked i; handed = handed i } in (
      (ap (λ (u : View). u.hand.taken) now, ap (λ (u : View). u.hand.last) now ∙ c.shard_of-shard.ensures.value),
      (ap (λ (u : View). u.own) now, ap (λ (u : View). u.uncounted) now, ap (λ (u : View). u.keys) now ∙ same),
      (0, false, (sees.0, sight (fresh p a), ap (λ (u : View). get_elem? u.seen sees.0) now ∙ sees.1, refl, refl, refl)),
    )
