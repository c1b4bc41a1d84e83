use Rattle.std.proofs.Common.{◌≡◌, ◌<◌, length, subst, arith}
use Rattle.std.proofs.lemmas.List.{take_all}
use Rattle.cost_graph.proofs.Spawns.{ArePlaces, places_on, all_places}
use Rattle.cost_graph.proofs.records.spawn_places.Goals as goal

pub loop-n-preserved : goal.loop-n-preserved
loop-n-preserved c =
    let es = c.args.events.now.items in
    let lt : c.loop-n.n < length es = omega (arith, c.loop-n-test.true, c.len-n-end.ensures) in
    places_on es c.loop-n.n c.index.result.now c.loop-n.places.items c.note_spawn.new.places.items lt c.index.ensures c.in_ok-note_spawn.ensures c.loop-n.invariant

pub returns : goal.returns
returns c =
    let es = c.args.events.now.items in
    let all : c.loop-n.n ≡ length es = omega (arith, c.loop-n-test.false, c.loop-n.auto.n-end, c.len-n-end.ensures) in
    all_places es c.loop-n.places.items (take_all (length es) es (omega arith)) (subst (λ k. ArePlaces es k c.loop-n.places.items) all c.loop-n.invariant)
