use Rattle.std.proofs.Common.{◌≡◌, ℕ, ◌<◌, true, length, arith, rules}
use Rattle.worked_schedules.proofs.Worked.{each_on}
use Rattle.worked_schedules.proofs.tests.build.are_within.Goals as goal

pub loop-pair-preserved : goal.loop-pair-preserved
loop-pair-preserved c =
    let n = c.args.count in
    let lt : c.loop-pair.pair-index < length c.args.pairs.now = omega arith in
    let good : c.is_within.result ≡ true = search rules in
    each_on (λ (q : ℕ × ℕ). (q.0 < n) × (q.1 < n)) c.args.pairs.now c.loop-pair.pair-index _ lt (c.is_within.ensures.0 good) c.loop-pair.invariant

pub returns-clause-within : goal.returns-clause-within
returns-clause-within c = λ _ k d lt. c.loop-pair.invariant k d (omega arith)
