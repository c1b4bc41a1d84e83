use Rattle.std.proofs.Common.{◌≡◌, true, subst, rules, ◌↔◌}
use Rattle.std.specs.Prelude.{IsTrue, IfOk}
use Rattle.priml_syntax.specs.Events.{spawns}
use Rattle.std.proofs.lemmas.Result.{IfOk-weaker}
use Rattle.priml_syntax.specs.Read.{read_record}
use Rattle.cost_graph.specs.Records.{part_of, parts_in}
use Rattle.cost_graph.specs.Inside.Finished.{AreEventsFit, HasSpawner, HasChildren, IsPartFinished}
use Rattle.cost_graph.proofs.finished.is_part_finished.Goals as goal

pub returns : goal.returns
returns c =
    let xs = parts_in c.args.list.now in
    let x = part_of (read_record c.args.at.now) in
    let fit : c.are_events_fit.result ≡ true = search rules in
    let spawned : c.has_spawner.result ≡ true = search rules in
    let events : AreEventsFit xs x.events = subst (AreEventsFit xs) c.as_slice.ensures.value (c.are_events_fit.ensures.0 fit) in
    let spawner : HasSpawner xs x.path = subst (HasSpawner xs) c.parts.ensures.value (c.has_spawner.ensures.0 spawned) in
    let told = subst (λ p. IfOk c.has_children.result (λ b. IsTrue b ↔ HasChildren xs p c.count_spawns.result)) c.parts-2.ensures.value c.has_children.ensures in
    let counted = subst (λ n. IfOk c.has_children.result (λ b. IsTrue b ↔ HasChildren xs x.path n)) c.count_spawns.ensures told in
    IfOk-weaker c.has_children.result (λ b. IsTrue b ↔ HasChildren xs x.path (spawns x.events)) (λ b. IsTrue b ↔ IsPartFinished xs x)
    (λ b h. (λ e. record { events = events; spawner = spawner; children = h.0 e }, λ w. h.1 w.children)) counted
