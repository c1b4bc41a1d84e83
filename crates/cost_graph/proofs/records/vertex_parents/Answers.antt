use Rattle.std.proofs.Common.{◌≡◌, ◌+◌, ◌-◌, ◌<◌, ◌∷◌, [], List, ℕ, length, get_or, refl, sym, ap, ◌∙◌, subst, arith}
use Rattle.std.specs.Prelude.{Some, slice_get}
use Rattle.std.proofs.lemmas.Result.{IfOk-weaker}
use Rattle.priml_syntax.specs.declared.event.Event.{Event}
use Rattle.priml_syntax.specs.declared.event.Event.TheVariants.{Join}
use Rattle.priml_syntax.specs.declared.record.Record.{Record}
use Rattle.cost_graph.specs.Records.{parts_in}
use Rattle.cost_graph.specs.Inside.Tables.{part_nth, vertex_at, AreParents, ArePair}
use Rattle.cost_graph.proofs.Parts.{parts_length, nth_among}
use Rattle.cost_graph.proofs.Arrows.{plain_parents, join_parents}
use Rattle.cost_graph.proofs.Made.{apart_known, first_read, events_read, event_read}
use Rattle.cost_graph.proofs.records.vertex_parents.Goals as goal

-- an event of a record, as it was read
record ReadAt (rs : List Record) (t n : ℕ) (es : List Event) : Type 0 where
  pub same : es ≡ (part_nth (parts_in rs) t).events
  pub below : n < length es
  pub within : t < length (parts_in rs)

read_at : (rs : List Record) (t n : ℕ) (r : Record) (es : List Event) → t < length rs → r ≡ get_or rs t r → es ≡ (get_or rs t r).events.items → n < length (part_nth (parts_in rs) t).events → ReadAt rs t n es
read_at rs t n r es lt is items below =
    let same = events_read rs t r es lt is items in
    record { same = same; below = omega (arith, ap (λ (l : List Event). length l) same, below); within = omega (arith, lt, parts_length rs) }

pub bounds-events-n : goal.bounds-events-n
bounds-events-n c =
    let at = read_at c.args.list.now c.args.t c.args.n c.index-list-t.result c.as_slice-events.result.now c.requires.within c.index-list-t.is c.as_slice-events.ensures.value c.requires.below in
    omega (arith, at.below)

pub last_vertex-requires-clause-there : goal.last_vertex-requires-clause-there
last_vertex-requires-clause-there c =
    let t = c.args.t in
    let at = read_at c.args.list.now c.args.t c.args.n c.index-list-t.result c.as_slice-events.result.now c.requires.within c.index-list-t.is c.as_slice-events.ensures.value c.requires.below in
    let event = event_read c.as_slice-events.result.now (part_nth (parts_in c.args.list.now) t).events c.args.n c.index-events-n.result (Join c.in-Join.path) at.same at.below c.index-events-n.is c.in-Join.is in
    c.requires.known.finished.joined (part_nth (parts_in c.args.list.now) t) c.args.n c.in-Join.path (nth_among (parts_in c.args.list.now) t at.within) event

pub returns-in-Join : goal.returns-in-Join
returns-in-Join c =
    let t = c.args.t in
    let n = c.args.n in
    let at = read_at c.args.list.now c.args.t c.args.n c.index-list-t.result c.as_slice-events.result.now c.requires.within c.index-list-t.is c.as_slice-events.ensures.value c.requires.below in
    let event = event_read c.as_slice-events.result.now (part_nth (parts_in c.args.list.now) t).events n c.index-events-n.result (Join c.in-Join.path) at.same at.below c.index-events-n.is c.in-Join.is in
    let there = c.requires.known.finished.joined (part_nth (parts_in c.args.list.now) t) n c.in-Join.path (nth_among (parts_in c.args.list.now) t at.within) event in
    let first = first_read c.args.list.now c.args.tables.now t c.index.result.now c.requires.known c.requires.within c.index.ensures in
    let later : 0 < n = omega (arith, c.if-n-eq0.false) in
    let last = c.last_vertex.result in
    let number = c.last_vertex.ensures there.0 there.1 in
    IfOk-weaker c.pair.result (λ v. ArePair (c.index.result.now + (n - 1)) last v.items) (λ v. AreParents (parts_in c.args.list.now) (vertex_at (parts_in c.args.list.now) t n) v.items)
    (λ v pair. join_parents (parts_in c.args.list.now) c.requires.known.finished (apart_known c.args.list.now c.args.tables.now c.requires.known) t at.within n later c.requires.below c.in-Join.path there.0 last v.items event there.1 number (subst (λ k. ArePair (k + (n - 1)) last v.items) first pair))
    c.pair.ensures

pub returns-in_default : goal.returns-in_default
returns-in_default c =
    let t = c.args.t in
    let n = c.args.n in
    let at = read_at c.args.list.now c.args.t c.args.n c.index-list-t.result c.as_slice-events.result.now c.requires.within c.index-list-t.is c.as_slice-events.ensures.value c.requires.below in
    let first = first_read c.args.list.now c.args.tables.now t c.index.result.now c.requires.known c.requires.within c.index.ensures in
    let later : 0 < n = omega (arith, c.if-n-eq0.false) in
    let plain : (p : List ℕ) → slice_get (part_nth (parts_in c.args.list.now) t).events n ≡ Some (Join p) → ⊥ = λ p e.
    let event = event_read c.as_slice-events.result.now (part_nth (parts_in c.args.list.now) t).events n c.index-events-n.result c.index-events-n.result at.same at.below c.index-events-n.is refl in
    let both : Some c.index-events-n.result ≡ Some (Join p) = sym event ∙ e in
    let is : c.index-events-n.result ≡ Join p = cc in
    c.in_default.not-Join p is in
    let right = plain_parents (parts_in c.args.list.now) c.requires.known.finished (apart_known c.args.list.now c.args.tables.now c.requires.known) t at.within n later c.requires.below plain in
    IfOk-weaker c.single.result (λ v. v.items ≡ (c.index.result.now + (n - 1)) ∷ []) (λ v. AreParents (parts_in c.args.list.now) (vertex_at (parts_in c.args.list.now) t n) v.items)
    (λ v e. subst (AreParents (parts_in c.args.list.now) (vertex_at (parts_in c.args.list.now) t n)) (ap (λ k. (k + (n - 1)) ∷ []) (sym first) ∙ sym e) right)
    c.single.ensures
