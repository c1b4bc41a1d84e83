use Rattle.std.proofs.Common.{◌≡◌, List, ◌++◌, length, sym, ap, ◌∙◌, subst, refl, inl, inr}
use lib.ListN.{get_elem?}
use Rattle.std.specs.Option.{option_map}
use Rattle.priml_syntax.specs.Read.{read_outcome}
use Rattle.join_board.specs.Inside.Views.{took_view, back_view}
use Rattle.join_board.specs.Logs.{sights, sight, Missing}
use Rattle.join_board.specs.Calls.{NotListed}
use Rattle.join_board.specs.Clauses.{EndedIn, NotEndedIn}
use Rattle.join_board.specs.Entries.{Entry}
use Rattle.join_board.specs.declared.view.View.{View}
use Rattle.task_state.proofs.Sums.{at_lt}
use Rattle.join_board.proofs.Calls.{met_at, not_listed, length_missing, length_here, told_end, told_open, no_outcome, sees_entry, went_back}
use Rattle.join_board.proofs.owned.Board.look.Goals as goal

pub len_at-length-requires : goal.len_at-length-requires
len_at-length-requires c = let at = c.in-Some-find.ensures in at_lt c.in-Some.value c.in-Some-find.i at.0 at.1

pub copy_at-requires : goal.copy_at-requires
copy_at-requires c = let at = c.in-Some-find.ensures in at_lt c.in-Some.value c.in-Some-find.i at.0 at.1

pub returns-in-None-clause-answer : goal.returns-in-None-clause-answer
returns-in-None-clause-answer c = let took = c.in-Some.ensures.found in let v = c.args.seat.now.seat.me.0 in let p = c.args.path.now in let k = c.shard_of-shard.result in let x = c.in-Some.value in let missing = c.in-None.ensures in
    let now : c.give_back.new.seat.me.0 ≡ back_view (took_view v k x) = ap (λ m. m.0) c.give_back.ensures.given ∙ ap (λ m. back_view m.0) took.0 in let copy = ap (λ (u : View). u.hand.copy) (sym now) in
    let went = went_back v c.give_back.new.seat.me.0 k x c.args.path.now now c.shard_of-shard.ensures.value in (
      went.0,
      went.1,
      inr (subst (λ (z : List Entry). Missing z p) copy missing, refl),
      subst (λ (z : List Entry). NotEndedIn z p) copy (λ i e at q. absurd (missing i e at q)),
      met_at v k x p 0 took.1 (sym c.shard_of-shard.ensures.value) (length_missing x p missing),
      inl (subst (NotListed v p) copy (not_listed v k x p took.1 (sym c.shard_of-shard.ensures.value) missing)),
    )

pub returns-in-Ok-Some-clause-answer : goal.returns-in-Ok-Some-clause-answer
returns-in-Ok-Some-clause-answer c = let took = c.in-Some.ensures.found in let v = c.args.seat.now.seat.me.0 in let p = c.args.path.now in let k = c.shard_of-shard.result in let x = c.in-Some.value in let i = c.in-Some-find.i in let at = c.in-Some-find.ensures in
    let back = c.give_back-in-Ok-Some in let now : back.new.seat.me.0 ≡ back_view (took_view v k x) = ap (λ m. m.0) back.ensures.given ∙ ap (λ m. back_view m.0) took.0 in let copy = ap (λ (u : View). u.hand.copy) (sym now) in
    let is = sym (c.in-Ok-Some.ensures at.0 at.1) ∙ ap (option_map read_outcome) c.in-Ok-Some.field-0-is in let told = told_end v k x p i (read_outcome c.in-Ok-Some.outcome) at.0 took.1 at.1 at.2 is in let sees = sees_entry (v.seen ++ sights x) x i at.0 at.1 in
    let went = went_back v back.new.seat.me.0 k x c.args.path.now now c.shard_of-shard.ensures.value in (
      went.0,
      went.1,
      told.0,
      subst (λ (z : List Entry). EndedIn z p) copy told.1,
      (sees.0, sight at.0, ap (λ (u : View). get_elem? u.seen sees.0) now ∙ sees.1, at.2, told.2),
    )

pub returns-in-Ok-None-clause-answer : goal.returns-in-Ok-None-clause-answer
returns-in-Ok-None-clause-answer c = let took = c.in-Some.ensures.found in let v = c.args.seat.now.seat.me.0 in let p = c.args.path.now in let k = c.shard_of-shard.result in let x = c.in-Some.value in let i = c.in-Some-find.i in let at = c.in-Some-find.ensures in
    let back = c.give_back-in-Ok-None in let now : back.new.seat.me.0 ≡ back_view (took_view v k x) = ap (λ m. m.0) back.ensures.given ∙ ap (λ m. back_view m.0) took.0 in let copy = ap (λ (u : View). u.hand.copy) (sym now) in
    let is = no_outcome at.0.log.outcome (sym (c.in-Ok-None.ensures at.0 at.1) ∙ ap (option_map read_outcome) c.in-Ok-None.field-0-is) in let len : c.len_at-length.result ≡ length at.0.log.events = c.len_at-length.ensures at.0 at.1 in
    let went = went_back v back.new.seat.me.0 k x c.args.path.now now c.shard_of-shard.ensures.value in (
      went.0,
      went.1,
      inl (at.0, i, ap (λ (u : View). get_elem? u.hand.copy i) now ∙ at.1, at.2, len),
      subst (λ (z : List Entry). NotEndedIn z p) copy (told_open v k x p i at.0 took.1 at.1 at.2 is),
      met_at v k x p c.len_at-length.result took.1 (sym c.shard_of-shard.ensures.value) (length_here v k x p i c.len_at-length.result at.0 took.1 at.1 at.2 len),
      (let sees = sees_entry (v.seen ++ sights x) x i at.0 at.1 in inr (sees.0, sight at.0, ap (λ (u : View). get_elem? u.seen sees.0) now ∙ sees.1, at.2, sym len, (took.1.told i at.0 at.1).0 is)),
    )
