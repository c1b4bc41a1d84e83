use Rattle.std.proofs.Common.{rules, ◌≡◌, ℕ, ◌+◌, ◌<◌, List, ◌++◌, length, sym, ap, ◌∙◌, subst, refl, inl, inr, arith, cond, append_assoc, append-nil}
use mathlib.Core.Option.{some-injective}
use lib.ListN.{get_elem?}
use Rattle.join_board.specs.Threads.{spawned_last}
use Rattle.join_board.specs.Inside.Views.{took_view, settled_view, back_view, ahead_view}
use Rattle.priml_syntax.specs.Events.{spawns, ends}
use Rattle.trace_book.specs.Segments.{read_segment}
use Rattle.join_board.specs.Inside.Plays.{Grew_by}
use Rattle.join_board.specs.Jobs.{the_job}
use Rattle.join_board.specs.Logs.{CanWait, Each, Missing, sights}
use Rattle.join_board.specs.Calls.{NotListed}
use Rattle.join_board.specs.Entries.{Entry}
use Rattle.task_state.specs.Tasks.{TaskKey}
use Rattle.join_board.specs.declared.view.View.{View}
use Rattle.task_state.proofs.Sums.{at_lt}
use Rattle.join_board.proofs.Calls.{can_grow, handed_wait, not_listed, grows, grown, spawn_is, end_is, bit_few, sees_appended, hands, went_back}
use Rattle.join_board.proofs.owned.Board.commit.Goals as goal

pub len_at-len-requires : goal.len_at-len-requires
len_at-len-requires c = let at = c.in-Some-find.ensures in at_lt c.in-Some.value c.in-Some-find.i at.0 at.1

pub append-requires-clause-inside : goal.append-requires-clause-inside
append-requires-clause-inside c = let at = c.in-Some-find.ensures in at_lt c.in-Some.value c.in-Some-find.i at.0 at.1

pub append-requires-clause-thread : goal.append-requires-clause-thread
append-requires-clause-thread c = λ e there. let at = c.in-Some-find.ensures in let same : at.0 ≡ e = some-injective at.0 e (sym at.1 ∙ there) in let equal : c.len_at-len.result ≡ c.args.segment.from = search rules in
    let path : e.log.path ≡ c.args.segment.path = ap (λ (u : Entry). u.log.path) (sym same) ∙ at.2 in let from : length e.log.events ≡ c.args.segment.from = sym (c.len_at-len.ensures e there) ∙ equal in
    (path, from, can_grow c.args.seat.now.seat.me.0 c.shard_of-shard.result c.in-Some.value c.in-Some-find.i (read_segment c.args.segment) e c.in-Some.ensures.found.1 there path from c.requires.segment)

pub returns-then-len-segment-clause-answer : goal.returns-then-len-segment-clause-answer
returns-then-len-segment-clause-answer c = let took = c.in-Some.ensures.found.0 in let at = c.in-Some-find.ensures in let x = c.in-Some.value in let i = c.in-Some-find.i in let v = c.args.seat.now.seat.me.0 in
    let now : c.give_back-then-len-segment.new.seat.me.0 ≡ back_view (took_view v c.shard_of-shard.result x) = ap (λ m. m.0) c.give_back-then-len-segment.ensures.given ∙ ap (λ m. back_view m.0) took in
    let went = went_back v c.give_back-then-len-segment.new.seat.me.0 c.shard_of-shard.result x c.args.segment.path now c.shard_of-shard.ensures.value in
    (refl, went.0, went.1, inl (at.0, i, ap (λ (u : View). get_elem? u.hand.copy i) now ∙ at.1, at.2, c.len_at-len.ensures at.0 at.1), inl (search rules))

pub returns-in-None-clause-answer : goal.returns-in-None-clause-answer
returns-in-None-clause-answer c = let took = c.in-Some.ensures.found in let v = c.args.seat.now.seat.me.0 in let p = c.args.segment.path in let k = c.shard_of-shard.result in let x = c.in-Some.value in let missing = c.in-None.ensures in
    let now : c.give_back.new.seat.me.0 ≡ back_view (took_view v k x) = ap (λ m. m.0) c.give_back.ensures.given ∙ ap (λ m. back_view m.0) took.0 in let copy = ap (λ (u : View). u.hand.copy) (sym now) in
    let went = went_back v c.give_back.new.seat.me.0 k x c.args.segment.path now c.shard_of-shard.ensures.value in (
      refl,
      went.0,
      went.1,
      inr (subst (λ (z : List Entry). Missing z p) copy missing, refl),
      inr (subst (NotListed v p) copy (not_listed v k x p took.1 (sym c.shard_of-shard.ensures.value) missing)),
    )

pub settle-requires-clause-grew : goal.settle-requires-clause-grew
settle-requires-clause-grew c = let took = c.in-Some.ensures.found.0 in let s = read_segment c.args.segment in let v = c.args.seat.now.seat.me.0 in let k = c.shard_of-shard.result in let x = c.in-Some.value in let i = c.in-Some-find.i in let at = c.in-Some-find.ensures in
    let can = c.requires.segment in let rests = c.args.seat.now.rests in let equal : c.len_at-len.result ≡ s.from = search rules in let n : ℕ = cond c.spawns_last-spawn.result 1 0 in
    let small = c.if-length-gt-MOST_STEPS.false in let room = c.if-seat-length.false in let len = c.len-length.ensures in let own = rests.5 in
    subst (λ (u : View). (g : Grew_by (ahead_view u n) k c.append.new.self) × (spawns g.segment.events ≡ n) × (ends g.segment.events ≡ cond c.is_some-end.result 1 0)) (ap (λ m. m.0) (sym took))
    (grows v k x c.append.new.self i s c.in-Ok.tasks.items n (cond c.is_some-end.result 1 0) can at c.in-Ok.ensures.ok (λ e there. sym (c.len_at-len.ensures e there) ∙ equal)
    (omega (arith, small, room, len, own)) rests.3 (spawn_is v s can c.spawns_last-spawn.result (c.spawns_last-spawn.ensures ∙ ap spawned_last c.deref.ensures.value)) (end_is v s can c.is_some-end.result c.is_some-end.ensures) (bit_few c.is_some-end.result))

pub invariant_of-seat-in-Ok : goal.invariant_of-seat-in-Ok
invariant_of-seat-in-Ok c = let took = c.in-Some.ensures.found.0 in let s = read_segment c.args.segment in let v = c.args.seat.now.seat.me.0 in let k = c.shard_of-shard.result in let x = c.in-Some.value in let y = c.append.new.self in let rests = c.args.seat.now.rests in
    let me = c.settle.ensures.settled in let now : c.settle.new.seat.me.0 ≡ settled_view (took_view v k x) y = ap (λ m. m.0) me ∙ ap (λ m. settled_view m.0 y) took in
    let more = grown x y c.in-Some-find.i s c.in-Ok.tasks.items c.in-Ok.ensures.ok in let len = c.len-length.ensures in
    record {
      rests = (
        ap (λ m. m.1) me,
        ap (λ (u : View). u.hand.hand) now,
        ap (λ (u : View). u.live.ahead) now,
        ap (λ (u : View). u.live.behind) now,
        subst (λ (z : ℕ). 0 < z) (sym (ap (λ (u : View). u.seats) now)) rests.4,
        (let o = rests.5 in let q = ap (λ (u : View). u.own) now in omega (arith, o, q, more, len)),
        (let o = rests.6 in let q = ap (λ (u : View). u.uncounted) now in omega (arith, o, q, more, len)),
        (let o = rests.7 in omega (arith, o)),
      );
    }

pub returns-in-Ok-clause-seat : goal.returns-in-Ok-clause-seat
returns-in-Ok-clause-seat c = let took = c.in-Some.ensures.found.0 in let s = read_segment c.args.segment in let v = c.args.seat.now.seat.me.0 in let k = c.shard_of-shard.result in let x = c.in-Some.value in let y = c.append.new.self in let rests = c.args.seat.now.rests in
    let me = c.settle.ensures.settled in let now : c.settle.new.seat.me.0 ≡ settled_view (took_view v k x) y = ap (λ m. m.0) me ∙ ap (λ m. settled_view m.0 y) took in
    let more = grown x y c.in-Some-find.i s c.in-Ok.tasks.items c.in-Ok.ensures.ok in let len = c.len-length.ensures in (
      search rules,
      (ap (λ (u : View). u.about) now, ap (λ (u : View). u.seats) now, (sights x ++ sights y, ap (λ (u : View). u.seen) now ∙ append_assoc v.seen (sights x) (sights y))),
    )

pub returns-in-Ok-clause-answer : goal.returns-in-Ok-clause-answer
returns-in-Ok-clause-answer c = let took = c.in-Some.ensures.found.0 in let told = c.in-Some.ensures.found.1 in let s = read_segment c.args.segment in let v = c.args.seat.now.seat.me.0 in let k = c.shard_of-shard.result in let x = c.in-Some.value in let y = c.append.new.self in let i = c.in-Some-find.i in let at = c.in-Some-find.ensures in let put = c.in-Ok.ensures.ok in
    let now : c.settle.new.seat.me.0 ≡ settled_view (took_view v k x) y = ap (λ m. m.0) c.settle.ensures.settled ∙ ap (λ m. settled_view m.0 y) took in let can = c.requires.segment in
    let more = grown x y i s c.in-Ok.tasks.items put in let equal : c.len_at-len.result ≡ s.from = search rules in let moved = hands x y i s c.in-Ok.tasks.items put in
    let sees = sees_appended (v.seen ++ sights x) x y i s c.in-Ok.tasks.items at put (λ e there. sym (c.len_at-len.ensures e there) ∙ equal) can.0.some in
    let same : at.0 ≡ put.0 = some-injective at.0 put.0 (sym at.1 ∙ put.1) in (
      (ap (λ (u : View). u.hand.taken) now, ap (λ (u : View). u.hand.last) now ∙ c.shard_of-shard.ensures.value),
      ap (λ (u : View). u.own) now ∙ ap (λ (n : ℕ). v.own + n) more,
      ap (λ (u : View). u.uncounted) now ∙ ap (λ (n : ℕ). v.uncounted + n) more,
      (
        subst (Each (CanWait (the_job v.about) s.path)) (sym put.3) (handed_wait (the_job v.about) s.path s.outcome put.0.waiting (subst (λ (z : List ℕ). Each (CanWait (the_job v.about) z) put.0.waiting) (ap (λ (e : Entry). e.log.path) (sym same) ∙ at.2) (told.waits i put.0 put.1))),
        (put.0, i, ap (λ (u : View). get_elem? u.hand.copy i) now ∙ put.1, ap (λ (e : Entry). e.log.path) (sym same) ∙ at.2, put.3),
        ap (λ (u : View). u.keys.handed) now ∙ ap (λ (ks : List TaskKey). v.keys.handed ++ ks) moved.0,
        ap (λ (u : View). u.keys.parked) now ∙ (ap (λ (ks : List TaskKey). v.keys.parked ++ ks) moved.1 ∙ append-nil v.keys.parked),
      ),
      (sees.0, sees.1, ap (λ (u : View). get_elem? u.seen sees.0) now ∙ sees.2, sees.3, sees.4, sees.5),
    )
