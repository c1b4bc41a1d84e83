use Rattle.std.proofs.Common.{◌≡◌, ◌<◌, List, length, set, ap, ◌∙◌, subst, arith}
use mathlib.Core.Option.{some}
use lib.ListN.{get_elem?}
use Rattle.std.proofs.lemmas.Result.{IfOk-weaker, IfErr-weaker}
use Rattle.atomic_table.proofs.Lists.{at_index}
use Rattle.join_board.specs.Entries.{Entry}
use Rattle.join_board.proofs.Pairs.{Waiting, pair, paired_length, at_paired, some_at, paired_tasks, set_same}
use Rattle.join_board.proofs.shard.Shard.park.Goals as goal

pub index_mut-requires : goal.index_mut-requires
index_mut-requires c = let l = paired_length _ _ c.self.invariant in let v = ap length c.self.view_is in let i = c.requires in let even = c.self.invariant in omega (arith, l, v, i, even)

pub returns-clause-err : goal.returns-clause-err
returns-clause-err c = let ls = c.self.inside.logs.items in let ws = c.self.inside.waiting.items in let i = c.args.i in let w : Waiting = c.index_mut.result.now in
    let inside : i < length ls = (let l = paired_length _ _ c.self.invariant in let v = ap length c.self.view_is in let h = c.requires in omega (arith, l, v, h)) in
    let l = some_at ls i inside in let there : get_elem? ws i ≡ some w = at_index ws i w (let even = c.self.invariant in omega (arith, inside, even)) c.index_mut.ensures.value in
    IfErr-weaker c.put_last.result _ _ (λ t h. (
      h.0,
      paired_tasks ls ws i l.0 c.put_last.new.waiting l.1 ∙ (λ k. set (c.self.view_is k) i (record { log = l.0; waiting = h.1 k }))
          ∙ set_same c.args.self.now i (pair l.0 w) (subst (λ (xs : List Entry). get_elem? xs i ≡ some (pair l.0 w)) c.self.view_is (at_paired ls ws i l.0 w l.1 there)),
    )) c.put_last.ensures.err

pub returns-clause-ok : goal.returns-clause-ok
returns-clause-ok c = let ls = c.self.inside.logs.items in let ws = c.self.inside.waiting.items in let i = c.args.i in let w : Waiting = c.index_mut.result.now in
    let inside : i < length ls = (let l = paired_length _ _ c.self.invariant in let v = ap length c.self.view_is in let h = c.requires in omega (arith, l, v, h)) in
    let l = some_at ls i inside in let there : get_elem? ws i ≡ some w = at_index ws i w (let even = c.self.invariant in omega (arith, inside, even)) c.index_mut.ensures.value in
    IfOk-weaker c.put_last.result _ _ (λ t h. (
      pair l.0 w,
      subst (λ (xs : List Entry). get_elem? xs i ≡ some (pair l.0 w)) c.self.view_is (at_paired ls ws i l.0 w l.1 there),
      paired_tasks ls ws i l.0 c.put_last.new.waiting l.1 ∙ (λ k. set (c.self.view_is k) i (record { log = l.0; waiting = h k })),
    )) c.put_last.ensures.ok
