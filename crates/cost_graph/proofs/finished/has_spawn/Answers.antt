use Rattle.std.proofs.Common.{◌≡◌, ◌<◌, ◌^◌, ◌∙◌, length, sym, ap, subst}
use Rattle.std.proofs.lemmas.Bool.{ltb-true, lt-ltb}
use Rattle.priml_syntax.specs.declared.record.Record.{Record}
use Rattle.priml_syntax.specs.Events.{spawns}
use Rattle.cost_graph.specs.Records.{Part, parts_in}
use Rattle.cost_graph.specs.Inside.Tables.{part_nth}
use Rattle.cost_graph.proofs.Parts.{nth_of, one_part}
use Rattle.cost_graph.proofs.JobEnds.{there_at, record_few}
use Rattle.cost_graph.proofs.finished.has_spawn.Goals as goal

pub count_spawns-requires : goal.count_spawns-requires
count_spawns-requires c =
    subst (λ (z : Record). length z.events.items < 2 ^ 32) c.index-list-t.is (record_few c.args.list.now c.in-Ok.t c.index-list-t.result c.in-Ok.ensures.found.0 c.index-list-t.is c.requires.few)

pub returns-in-Ok : goal.returns-in-Ok
returns-in-Ok c =
    let rs = c.args.list.now in
    let t = c.in-Ok.t in
    let x = part_nth (parts_in rs) t in
    let lt = c.in-Ok.ensures.found.0 in
    let there = there_at rs t c.args.path.now c.requires.order lt c.in-Ok.ensures.found.1 in
    let count : c.count_spawns.result ≡ spawns x.events =
    c.count_spawns.ensures ∙ ap (λ (z : Record). spawns z.events.items) (sym c.index-list-t.is)
    ∙ sym (ap (λ (y : Part). spawns y.events) (nth_of rs t c.index-list-t.result lt c.index-list-t.is)) in (
      λ e. record { part = x; is = there; some = subst (λ n. c.args.k < n) count (ltb-true c.args.k c.count_spawns.result e) },
      λ h. lt-ltb c.args.k c.count_spawns.result (subst (λ n. c.args.k < n) (sym count) (subst (λ (y : Part). c.args.k < spawns y.events) (one_part h.is there) h.some)),
    )
