use Rattle.std.proofs.Common.{◌≡◌, ◌++◌, ◌-◌, ◌≤◌, ℕ, List, length, take, drop, arith, append_assoc}
use Rattle.std.proofs.lemmas.Grind.{common_steps}
use Rattle.priml_io.proofs.Joins.{grows_joined}
use Rattle.priml_io.proofs.whole.write_all.Goals as goal

moved : (piece prefix rest : List ℕ) (n : ℕ) → piece ≡ prefix ++ rest → n ≤ length rest → piece ≡ (prefix ++ take n rest) ++ take (length rest - n) (drop n rest)
moved piece prefix rest n e l = grind (arith, common_steps, append_assoc)

pub loop-rest-preserved : goal.loop-rest-preserved
loop-rest-preserved g c =
    let m = c.loop-rest.invariant.grown in
    record {
      later = omega (arith, c.loop-rest.invariant.later, c.put.ensures.cause.later);
      grown = (m.0 ++ take c.in-Ok.count c.loop-rest.rest.now, moved _ m.0 c.loop-rest.rest.now c.in-Ok.count m.1 c.in-Ok.ensures.bound, grows_joined _ _ _ _ _ m.2 c.in-Ok.ensures.bytes);
    }
