use Rattle.std.proofs.Common.{◌≡◌, ℕ, ◌+◌, ◌<◌, List, length, get_or, sym, ap, subst, arith}
use Rattle.std.specs.declared.vec.Vec.{Vec}
use Rattle.std.specs.declared.alloc.Global.{Global}
use Rattle.std.proofs.lemmas.Option.{slice_get_within}
use Rattle.priml_syntax.specs.declared.event.Event.TheVariants.{Spawn}
use Rattle.priml_syntax.specs.declared.record.Record.{Record}
use Rattle.priml_syntax.specs.Events.{spawns}
use Rattle.cost_graph.specs.declared.records.Tables.{Tables}
use Rattle.cost_graph.specs.Records.{Part, parts_in}
use Rattle.cost_graph.specs.Inside.Tables.{part_nth, first_in, AreKnown, AreSpawnPlaces, HasSpawn, IsSpawnPlace}
use Rattle.cost_graph.proofs.Parts.{parts_length, events_few}
use Rattle.cost_graph.proofs.Made.{apart_known, first_read, places_read, nth_at}
use Rattle.cost_graph.proofs.records.spawn_vertex.Goals as goal

-- the Spawn that was looked for, in the row of its thread
record Found (xs : List Part) (s k : ℕ) (part : Part) (places : List ℕ) : Type 0 where
  pub within : s < length xs
  pub one : part_nth xs s ≡ part
  pub some : k < length places
  pub place : IsSpawnPlace (part_nth xs s).events k (get_or places k 0)
  pub below : get_or places k 0 < length (part_nth xs s).events

found : (rs : List Record) (tables : Tables) (p : List ℕ) (s k : ℕ) (row : Vec ℕ Global) (places : List ℕ) → AreKnown rs tables → (there : HasSpawn (parts_in rs) p k) → s < length rs → (part_nth (parts_in rs) s).path ≡ p
    → row ≡ get_or tables.spawns.items s row → places ≡ row.items → Found (parts_in rs) s k there.part places
found rs tables p s k row places known there lt is e same =
    let within : s < length (parts_in rs) = omega (arith, lt, parts_length rs) in
    let one = nth_at (parts_in rs) s p there.part (apart_known rs tables known) within is there.is in
    let right : AreSpawnPlaces (part_nth (parts_in rs) s).events places = subst (AreSpawnPlaces (part_nth (parts_in rs) s).events) (sym same) (places_read rs tables s row known lt e) in
    let some : k < length places = omega (arith, right.long, there.some, ap (λ (x : Part). spawns x.events) one) in
    let place = right.are k some in
    record { within = within; one = one; some = some; place = place; below = slice_get_within (part_nth (parts_in rs) s).events (get_or places k 0) Spawn place.event }

pub bounds-places-k : goal.bounds-places-k
bounds-places-k c =
    let f = found c.args.list.now c.args.tables.now c.args.path.now c.place_of-parent.result c.args.k c.index.result.now c.as_slice-places.result.now c.requires.known c.requires.there c.place_of-parent.ensures.within c.place_of-parent.ensures.is c.index.ensures c.as_slice-places.ensures.value in
    omega (arith, f.some)

pub overflow_add-result : goal.overflow_add-result
overflow_add-result c =
    let f = found c.args.list.now c.args.tables.now c.args.path.now c.place_of-parent.result c.args.k c.index.result.now c.as_slice-places.result.now c.requires.known c.requires.there c.place_of-parent.ensures.within c.place_of-parent.ensures.is c.index.ensures c.as_slice-places.ensures.value in
    let first = first_read c.args.list.now c.args.tables.now c.place_of-parent.result c.index-2.result.now c.requires.known c.place_of-parent.ensures.within c.index-2.ensures in
    omega (arith, f.below, first, events_few (parts_in c.args.list.now) c.place_of-parent.result f.within, c.requires.known.finished.few)

pub returns : goal.returns
returns c =
    let f = found c.args.list.now c.args.tables.now c.args.path.now c.place_of-parent.result c.args.k c.index.result.now c.as_slice-places.result.now c.requires.known c.requires.there c.place_of-parent.ensures.within c.place_of-parent.ensures.is c.index.ensures c.as_slice-places.ensures.value in
    let first = first_read c.args.list.now c.args.tables.now c.place_of-parent.result c.index-2.result.now c.requires.known c.place_of-parent.ensures.within c.index-2.ensures in
    let n : ℕ = get_or c.as_slice-places.result.now c.args.k 0 in
    let sum : c.index-2.result.now + n ≡ first_in (parts_in c.args.list.now) c.place_of-parent.result + n = ap (λ a. a + n) first in (
      n,
      record { part = c.requires.there.part; is = c.requires.there.is; place = subst (λ (x : Part). IsSpawnPlace x.events c.args.k n) f.one f.place },
      record { thread = c.place_of-parent.result; within = f.within; path_is = c.place_of-parent.ensures.is; below = f.below; is = sum },
    )
