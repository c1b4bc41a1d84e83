use Rattle.std.proofs.Common.{◌≡◌, ◌<◌, List, length, set, sym, ap, ◌∙◌, subst, arith, is_some, true, false}
use mathlib.Core.Option.{some}
use lib.ListN.{get_elem?}
use Rattle.atomic_table.proofs.Lists.{at_index}
use Rattle.trace_book.specs.Segments.{read_segment}
use Rattle.join_board.specs.Entries.{Entry}
use Rattle.join_board.proofs.Pairs.{Waiting, pair, paired_length, at_paired, some_at, paired_log, paired_both, kept_some, kept_none, out_some, out_none}
use Rattle.join_board.proofs.shard.Shard.append.Goals as goal

pub index_mut-requires : goal.index_mut-requires
index_mut-requires c = let l = paired_length _ _ c.self.invariant in let v = ap length c.self.view_is in let i = c.requires.inside in omega (arith, l, v, i)

pub append_next-requires : goal.append_next-requires
append_next-requires c = let ls = c.self.inside.logs.items in let ws = c.self.inside.waiting.items in let i = c.args.i in let a = c.index_mut.result.now in
    let inside : i < length ls = (let l = paired_length _ _ c.self.invariant in let v = ap length c.self.view_is in let h = c.requires.inside in omega (arith, l, v, h)) in
    let w = some_at ws i (let even = c.self.invariant in omega (arith, inside, even)) in
    let at = subst (λ (xs : List Entry). get_elem? xs i ≡ some (pair a w.0)) c.self.view_is (at_paired ls ws i a w.0 (at_index ls i a inside c.index_mut.ensures.value) w.1) in
    let h = c.requires.thread (pair a w.0) at in (sym h.0, (sym h.1, h.2))

pub index_mut-requires-then-end : goal.index_mut-requires-then-end
index_mut-requires-then-end c = let l = paired_length _ _ c.self.invariant in let v = ap length c.self.view_is in let i = c.requires.inside in let even = c.self.invariant in omega (arith, l, v, i, even)

pub returns-then-end-clause-ok : goal.returns-then-end-clause-ok
returns-then-end-clause-ok c = let ls = c.self.inside.logs.items in let ws = c.self.inside.waiting.items in let i = c.args.i in let a = c.index_mut.result.now in let s = read_segment c.args.segment in
    let inside : i < length ls = (let l = paired_length _ _ c.self.invariant in let v = ap length c.self.view_is in let h = c.requires.inside in omega (arith, l, v, h)) in
    let w : Waiting = c.index_mut-then-end.result.now in
    let there : get_elem? ws i ≡ some w = at_index ws i w (let even = c.self.invariant in omega (arith, inside, even)) c.index_mut-then-end.ensures.value in
    let at = subst (λ (xs : List Entry). get_elem? xs i ≡ some (pair a w)) c.self.view_is (at_paired ls ws i a w (at_index ls i a inside c.index_mut.ensures.value) there) in
    let ends : is_some s.outcome ≡ true = sym c.is_some-end.ensures ∙ c.if-end.true in
    let bare = ap (λ (v : Waiting). v.items) c.replace.ensures.after ∙ (c.new-none.ensures.items ∙ sym (kept_some s.outcome w.items ends)) in (
      pair a w,
      at,
      paired_both ls ws i c.append_next.new.log c.replace.new.dest ∙ (λ k. set (c.self.view_is k) i (record { log = c.in-Ok.ensures.ok k; waiting = bare k })),
      ap (λ (v : Waiting). v.items) c.replace.ensures.value ∙ sym (out_some s.outcome w.items ends),
    )

pub returns-else-end-clause-ok : goal.returns-else-end-clause-ok
returns-else-end-clause-ok c = let ls = c.self.inside.logs.items in let ws = c.self.inside.waiting.items in let i = c.args.i in let a = c.index_mut.result.now in let s = read_segment c.args.segment in
    let inside : i < length ls = (let l = paired_length _ _ c.self.invariant in let v = ap length c.self.view_is in let h = c.requires.inside in omega (arith, l, v, h)) in
    let w = some_at ws i (let even = c.self.invariant in omega (arith, inside, even)) in
    let at = subst (λ (xs : List Entry). get_elem? xs i ≡ some (pair a w.0)) c.self.view_is (at_paired ls ws i a w.0 (at_index ls i a inside c.index_mut.ensures.value) w.1) in
    let goes_on : is_some s.outcome ≡ false = sym c.is_some-end.ensures ∙ c.if-end.false in
    let same = sym (kept_none s.outcome w.0.items goes_on) in (
      pair a w.0,
      at,
      paired_log ls ws i c.append_next.new.log w.0 w.1 ∙ (λ k. set (c.self.view_is k) i (record { log = c.in-Ok.ensures.ok k; waiting = same k })),
      c.new-none.ensures.items ∙ sym (out_none s.outcome w.0.items goes_on),
    )
