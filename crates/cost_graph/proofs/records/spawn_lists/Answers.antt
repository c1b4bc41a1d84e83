use Rattle.std.proofs.Common.{◌≡◌, ℕ, ◌+◌, ◌<◌, ◌∷◌, [], List, length, get_or, sym, ap, subst, arith}
use Rattle.std.proofs.lemmas.List.{length-append}
use Rattle.priml_syntax.specs.declared.event.Event.{Event}
use Rattle.priml_syntax.specs.declared.record.Record.{Record}
use Rattle.cost_graph.specs.View.{lists}
use Rattle.cost_graph.specs.Records.{parts_in}
use Rattle.cost_graph.specs.Inside.Tables.{part_nth, AreSpawnPlaces}
use Rattle.cost_graph.proofs.JobEnds.{record_few}
use Rattle.cost_graph.proofs.Parts.{parts_length}
use Rattle.cost_graph.proofs.Made.{lists_push, each_more, events_read}
use Rattle.cost_graph.proofs.records.spawn_lists.Goals as goal

pub spawn_places-requires : goal.spawn_places-requires
spawn_places-requires c = record_few c.args.list.now c.loop-record.record-index c.record-item.result c.loop-record-test.true c.record-item.is c.requires

pub loop-record-preserved : goal.loop-record-preserved
loop-record-preserved c =
    let rs = c.args.list.now in
    let i = c.loop-record.record-index in
    let now = c.loop-record.all.items in
    let v = c.in_ok-places.places in
    let pushed = lists_push now c.push.new.self.items v c.in_ok-push.ensures.items in
    let same = events_read rs i c.record-item.result c.record-item.result.events.items c.loop-record-test.true c.record-item.is (ap (λ (z : Record). z.events.items) c.record-item.is) in
    let here = subst (λ (es : List Event). AreSpawnPlaces es v.items) same c.in_ok-places.ensures in
    let more = each_more (λ (t : ℕ) (l : List ℕ). AreSpawnPlaces (part_nth (parts_in rs) t).events l) (lists now) v.items i c.loop-record.invariant.covers c.loop-record.invariant.are here in
    record {
      covers = omega (arith, ap (λ (l : List (List ℕ)). length l) pushed, length-append (lists now) (v.items ∷ []), c.loop-record.invariant.covers);
      are = subst (λ (ls : List (List ℕ)). (t : ℕ) → t < i + 1 → AreSpawnPlaces (part_nth (parts_in rs) t).events (get_or ls t [])) (sym pushed) more;
    }

pub returns : goal.returns
returns c =
    let all : c.loop-record.record-index ≡ length (parts_in c.args.list.now) = omega (arith, c.loop-record-test.false, c.loop-record.auto.record-index-end, parts_length c.args.list.now) in
    record { covers = omega (arith, c.loop-record.invariant.covers, all); are = λ t lt. c.loop-record.invariant.are t (omega (arith, lt, all)) }
