use Rattle.std.proofs.Common.{◌≡◌, ℕ, ◌<◌, List, length, get_or, take, sym, ap, ◌∙◌, subst, arith}
use Rattle.std.specs.List.{Contains}
use Rattle.std.proofs.lemmas.Grind.{common_steps}
use Rattle.std.proofs.lemmas.List.{length-set}
use Rattle.response_report.proofs.Places.{noted_on}
use Rattle.response_report.proofs.place.note.Goals as goal

pub loop-vertex-preserved : goal.loop-vertex-preserved
loop-vertex-preserved c =
    let xs = c.args.step.now.items in
    let i = c.loop-vertex.vertex-index in
    let same = c.deref-vertex-items.ensures.value in
    let at : get_or c.deref-vertex-items.result.now i 0 ≡ get_or xs i 0 = ap (λ (l : List ℕ). get_or l i 0) same in
    let lt : i < length xs = omega (arith, c.loop-vertex-test.true, ap length same) in
    let inside : get_or xs i 0 < length c.args.places.now.items = c.requires i 0 lt in
    let small : get_or xs i 0 < length c.loop-vertex.places.items = omega (arith, inside, c.loop-vertex.invariant.long) in
    let next = noted_on c.args.places.now.items c.loop-vertex.places.items xs i c.args.number lt small c.loop-vertex.invariant.here c.loop-vertex.invariant.kept in
    rw at (record { long = length-set c.loop-vertex.places.items (get_or xs i 0) c.args.number ∙ c.loop-vertex.invariant.long; here = next.0; kept = next.1 })

pub returns-clause-here : goal.returns-clause-here
returns-clause-here c = λ v k.
    let all : take c.loop-vertex.vertex-index c.args.step.now.items ≡ c.args.step.now.items = grind (arith, common_steps) in
    c.loop-vertex.invariant.here v (subst (λ l. Contains l v) (sym all) k)
