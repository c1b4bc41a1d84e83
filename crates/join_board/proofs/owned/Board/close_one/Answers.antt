use Rattle.std.proofs.Common.{rules, ◌≡◌, List, get_or, sym, ap, ◌∙◌, subst, Some, false, arith, [], ◌∷◌, ◌++◌, map, refl, length-append, get_or-set_other}
use Rattle.std.specs.Option.{IsSome}
use Rattle.std.specs.Slots.{slots_items, slots_filled}
use Rattle.std.proofs.lemmas.List.{ext_get_or}
use mathlib.Core.Option.{some, some-injective}
use lib.ListN.{get_elem?}
use Rattle.join_board.specs.Inside.Plays.{in_slot}
use Rattle.join_board.specs.Logs.{shard_at}
use Rattle.join_board.specs.Close.{logs_in}
use Rattle.trace_book.specs.Book.{NoPathTwice, all_logs}
use Rattle.trace_book.specs.Log.{Log}
use Rattle.std.specs.declared.vec.Vec.{Vec}
use Rattle.std.specs.declared.alloc.Global.{Global}
use Rattle.join_board.proofs.Books.{flat_snoc, logs_apart}
use Rattle.join_board.specs.Entries.{Entry}
use Rattle.join_board.proofs.Ends.{closing, filled_next, put_next}
use Rattle.join_board.proofs.owned.Board.close_one.Goals as goal

pub unwrap-requires : goal.unwrap-requires
unwrap-requires c = let f = closing c.args.self.table.shared.key _ c.args.seat.me.0 _ _ c.requires.all.0 c.requires.all.1 c.close_with-closed.ensures.values.2 in let i = c.loop-i.i in
    let same = c.loop-i.invariant.1 in let found = sym (ap (λ xs. get_elem? xs i) same) ∙ c.take.ensures.value in let is : Some (shard_at f.0 i) ≡ c.take.result = some-injective _ _ (sym (f.2 i c.loop-i-test.true) ∙ found) in
    subst IsSome is (search rules)

pub loop-i-init : goal.loop-i-init
loop-i-init c = (search rules, refl, (λ k a b. search rules), (λ k a. absurd (omega (arith, a))), search rules, search rules, ([], refl, (λ k a. absurd (omega (arith, a))), search rules))

pub loop-i-preserved : goal.loop-i-preserved
loop-i-preserved c = let i = c.loop-i.i in let inv = c.loop-i.invariant in let same = inv.1 in let found = sym (ap (λ xs. get_elem? xs i) same) ∙ c.take.ensures.value in
    let there : get_elem? (slots_items c.close_with-closed.result.slots) i ≡ some (Some c.unwrap.result) = found ∙ ap some c.unwrap.ensures in let t = inv.6 in let x = c.unwrap.result in (
      search rules,
      search rules,
      (λ k a b. ap (λ fs. get_or fs k false) c.take.ensures.others.1 ∙ (get_or-set_other (slots_filled c.loop-i.closed.slots) i k false false (λ e. omega arith) ∙ inv.2 k (omega arith) b)),
      (λ k a. ap (λ fs. get_or fs k false) c.take.ensures.others.1 ∙ filled_next (slots_filled c.loop-i.closed.slots) i k inv.3 a),
      search rules,
      search rules,
      (
        t.0 ++ x ∷ [],
        (let l = length-append t.0 (x ∷ []) in let n = t.1 in omega (arith, l, n)),
        put_next (slots_items c.close_with-closed.result.slots) t.0 (t.0 ++ x ∷ []) i x t.1 refl t.2 there,
        ap all_logs c.push_reserved.ensures.items ∙ (flat_snoc (λ (v : Vec Log Global). v.items) c.loop-i.room.items c.into_logs.result ∙ ((λ j. t.3 j ++ c.into_logs.ensures j) ∙ sym (flat_snoc (λ (z : List Entry). map (λ (e : Entry). e.log) z) t.0 x))),
      ),
    )

pub of_shards-requires : goal.of_shards-requires
of_shards-requires c = let f = closing c.args.self.table.shared.key _ c.args.seat.me.0 _ _ c.requires.all.0 c.requires.all.1 c.close_with-closed.ensures.values.2 in let t = c.loop-i.invariant.6 in let m = f.1.1.deep in let all : c.loop-i.i ≡ 64 = search rules in let n = t.1 in
    let same : t.0 ≡ f.0 = ext_get_or [] t.0 f.0 (omega (arith, n, m, all)) (λ k l. ap in_slot (some-injective _ _ (sym (t.2 k (omega (arith, l, n))) ∙ f.2 k (omega (arith, l, n, all))))) in
    subst NoPathTwice (sym (t.3 ∙ ap logs_in same)) (logs_apart c.args.self.table.shared.key f.0 f.1.0 f.1.1)

pub returns : goal.returns
returns c = let f = closing c.args.self.table.shared.key _ c.args.seat.me.0 _ _ c.requires.all.0 c.requires.all.1 c.close_with-closed.ensures.values.2 in let t = c.loop-i.invariant.6 in let m = f.1.1.deep in let all : c.loop-i.i ≡ 64 = search rules in let n = t.1 in
    let same : t.0 ≡ f.0 = ext_get_or [] t.0 f.0 (omega (arith, n, m, all)) (λ k l. ap in_slot (some-injective _ _ (sym (t.2 k (omega (arith, l, n))) ∙ f.2 k (omega (arith, l, n, all))))) in
    (f.0, c.of_shards.ensures ∙ (t.3 ∙ ap logs_in same), f.1, f.3)
