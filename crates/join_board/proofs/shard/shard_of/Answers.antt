use Rattle.std.proofs.Common.{rules, ◌+◌, ◌<◌, ◌≤◌, ◌%◌, ◌^◌, ℕ, length, get_or, sym, ap, ◌∙◌, refl, arith}
use Rattle.join_board.specs.Logs.{sum_of}
use Rattle.join_board.proofs.Pairs.{sum_next, sum_all}
use Rattle.join_board.proofs.shard.shard_of.Goals as goal

pub loop-part-init : goal.loop-part-init
loop-part-init c = (refl, omega arith, omega arith)

pub overflow_add-sum : goal.overflow_add-sum
overflow_add-sum c = let h = c.loop-part.invariant.1 in let few = c.parts-part-items.ensures.is_path.few in let here = c.loop-part-test.true in
    let fits = (c.type_inv.part-items c.loop-part.part-index).fits in let small : c.loop-part.sum + get_or c.parts-part-items.result.now c.loop-part.part-index 0 < 2 ^ 64 = omega (arith, h, few, here, fits) in search rules

pub loop-part-preserved : goal.loop-part-preserved
loop-part-preserved c = let inv = c.loop-part.invariant in let h = inv.1 in let here = c.loop-part-test.true in let xs = c.parts-part-items.result.now in let i = c.loop-part.part-index in
    let fits = (c.type_inv.part-items i).fits in (ap (λ (z : ℕ). z + get_or xs i 0) inv.0 ∙ sym (sum_next xs i here), omega (arith, h, fits), omega (arith, here))

pub returns-clause-value : goal.returns-clause-value
returns-clause-value c = let xs = c.parts-part-items.result.now in let past : length xs ≤ c.loop-part.part-index = search rules in
    ap (λ (z : ℕ). z % 64) (c.loop-part.invariant.0 ∙ (sum_all xs c.loop-part.part-index past ∙ ap sum_of c.parts-part-items.ensures.value))
