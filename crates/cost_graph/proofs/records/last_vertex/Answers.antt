use Rattle.std.proofs.Common.{◌≡◌, ℕ, ◌+◌, ◌-◌, ◌<◌, ◌≤◌, List, length, get_or, ap, ◌∙◌, subst, arith}
use Rattle.priml_syntax.specs.declared.event.Event.{Event}
use Rattle.priml_syntax.specs.declared.record.Record.{Record}
use Rattle.cost_graph.specs.Records.{end_of, event_total, parts_in}
use Rattle.cost_graph.specs.Inside.Tables.{part_nth, first_in, IsNumber}
use Rattle.cost_graph.proofs.Parts.{parts_length, events_few}
use Rattle.cost_graph.proofs.Arrows.{has_events}
use Rattle.cost_graph.proofs.Made.{apart_known, first_read, events_read, end_number}
use Rattle.cost_graph.proofs.records.last_vertex.Goals as goal

-- how many events a record of a list has
record Counted (rs : List Record) (s : ℕ) (es : List Event) : Type 0 where
  pub within : s < length (parts_in rs)
  pub long : length es ≡ length (part_nth (parts_in rs) s).events
  pub few : first_in (parts_in rs) s + length (part_nth (parts_in rs) s).events ≤ event_total (parts_in rs)

counted : (rs : List Record) (s : ℕ) (r : Record) (es : List Event) → s < length rs → r ≡ get_or rs s r → es ≡ (get_or rs s r).events.items → Counted rs s es
counted rs s r es lt is same =
    let within : s < length (parts_in rs) = omega (arith, lt, parts_length rs) in
    record { within = within; long = ap (λ (l : List Event). length l) (events_read rs s r es lt is same); few = events_few (parts_in rs) s within }

pub overflow_cast-result : goal.overflow_cast-result
overflow_cast-result c =
    let n = counted c.args.list.now c.place_of-thread.result c.index-list-thread.result c.as_slice-events.result.now c.place_of-thread.ensures.within c.index-list-thread.is c.as_slice-events.ensures.value in
    omega (arith, n.long, n.few, c.requires.known.finished.few)

pub overflow_sub-result : goal.overflow_sub-result
overflow_sub-result c =
    let n = counted c.args.list.now c.place_of-thread.result c.index-list-thread.result c.as_slice-events.result.now c.place_of-thread.ensures.within c.index-list-thread.is c.as_slice-events.ensures.value in
    omega (arith, n.long, has_events (parts_in c.args.list.now) c.requires.known.finished (apart_known c.args.list.now c.args.tables.now c.requires.known) c.place_of-thread.result n.within)

pub overflow_add-result : goal.overflow_add-result
overflow_add-result c =
    let n = counted c.args.list.now c.place_of-thread.result c.index-list-thread.result c.as_slice-events.result.now c.place_of-thread.ensures.within c.index-list-thread.is c.as_slice-events.ensures.value in
    let first = first_read c.args.list.now c.args.tables.now c.place_of-thread.result c.index.result.now c.requires.known c.place_of-thread.ensures.within c.index.ensures in
    omega (arith, n.long, first, n.few, c.requires.known.finished.few)

pub returns : goal.returns
returns c = λ x there.
    let rs = c.args.list.now in
    let s = c.place_of-thread.result in
    let n = counted rs s c.index-list-thread.result c.as_slice-events.result.now c.place_of-thread.ensures.within c.index-list-thread.is c.as_slice-events.ensures.value in
    let first = first_read rs c.args.tables.now s c.index.result.now c.requires.known c.place_of-thread.ensures.within c.index.ensures in
    let sum : first_in (parts_in rs) s + (length (part_nth (parts_in rs) s).events - 1) ≡ c.index.result.now + (length c.as_slice-events.result.now - 1) = omega (arith, n.long, first) in
    let is = c.place_of-thread.ensures.is ∙ c.parts.ensures.value in
    subst (IsNumber (parts_in rs) (end_of x)) sum (end_number (parts_in rs) s c.args.path.now x c.requires.known.finished (apart_known rs c.args.tables.now c.requires.known) n.within is there)
