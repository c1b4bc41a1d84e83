use Rattle.std.proofs.Common.{rules, ◌≡◌, ◌<◌, ◌≤◌, List, length, sym, ap, ◌∙◌, subst, arith}
use mathlib.Core.Option.{some, some-injective}
use mathlib.Core.Logic.{dite}
use native.Mathlib.Decide.{ℕ_discrete}
use lib.ListN.{get_elem?}
use Rattle.atomic_table.proofs.Lists.{at_index}
use Rattle.trace_book.specs.Log.{Log}
use Rattle.join_board.specs.Entries.{Entry}
use Rattle.task_state.proofs.Sums.{at_lt}
use Rattle.join_board.proofs.Pairs.{pair, paired_length, at_paired, some_at, log_paired, equal_of, not_equal}
use Rattle.join_board.proofs.shard.Shard.find.Goals as goal

pub returns-then-eq : goal.returns-then-eq
returns-then-eq c = let a = c.index.result.now in let i = c.loop-i.i in let ls = c.self.inside.logs.items in let ws = c.self.inside.waiting.items in let inside : i < length ls = search rules in let even = c.self.invariant in
    let w = some_at ws i (omega (arith, inside, even)) in
    let is = c.compare.ensures.equal.0 (equal_of c.compare.result (sym c.eq.ensures ∙ c.if-eq.true)) in
    (pair a w.0, subst (λ (xs : List Entry). get_elem? xs i ≡ some (pair a w.0)) c.self.view_is (at_paired ls ws i a w.0 (at_index ls i a inside c.index.ensures) w.1), sym c.path.ensures ∙ is)

pub loop-i-preserved : goal.loop-i-preserved
loop-i-preserved c = λ j e l at p. let a = c.index.result.now in let i = c.loop-i.i in let ls = c.self.inside.logs.items in let inside : i < length ls = search rules in
    dite (ℕ_discrete j i) (λ same. let there = log_paired ls c.self.inside.waiting.items j e (ap (λ (xs : List Entry). get_elem? xs j) c.self.view_is ∙ at) in
    let is : a ≡ e.log = some-injective a e.log (sym (at_index ls i a inside c.index.ensures) ∙ (ap (get_elem? ls) (sym same) ∙ there)) in
    not_equal c.compare.result (sym c.eq.ensures ∙ c.if-eq.false) (c.compare.ensures.equal.1 (c.path.ensures ∙ (ap (λ (x : Log). x.path) is ∙ p))))
    (λ n. c.loop-i.invariant j e (omega arith) at p)

pub returns : goal.returns
returns c = λ i e at p. let l = at_lt c.args.self.now i e at in let n : length c.self.inside.logs.items ≤ c.loop-i.i = search rules in let v = ap (λ (xs : List Entry). length xs) c.self.view_is in
    let same = paired_length _ _ c.self.invariant in c.loop-i.invariant i e (omega (arith, l, n, v, same)) at p
