use Rattle.std.proofs.Common.{◌<◌, ◌∙◌, length, get_or, inl, inr, arith}
use Rattle.std.proofs.Math.Nat.{max-eq_left, max-eq_right}
use Rattle.std.proofs.lemmas.Bool.{cases_lt}
use Rattle.std.proofs.lemmas.List.{get_or_read}
use Rattle.response_report.proofs.Places.{release_on}
use Rattle.response_report.proofs.place.release.Goals as goal

pub loop-vertex-preserved : goal.loop-vertex-preserved
loop-vertex-preserved c =
    let places = c.args.places.now.items in
    let vs = c.args.vertices.now in
    let i = c.loop-vertex.vertex-index in
    let best = c.loop-vertex.best in
    let place = c.index.result.now in
    let lt : i < length vs = c.loop-vertex-test.true in
    let small : get_or vs i 0 < length places = c.requires i 0 lt in
    let at = get_or_read places (get_or vs i 0) place small c.index.ensures 0 in
    release_on places vs i best place c.max-best.result lt at c.loop-vertex.invariant
    (elim (cases_lt best place) [
      | inl more ↦ inl (more, c.max-best.ensures ∙ max-eq_right (omega (arith, more)))
      | inr most ↦ inr (most, c.max-best.ensures ∙ max-eq_left most)
    ])
