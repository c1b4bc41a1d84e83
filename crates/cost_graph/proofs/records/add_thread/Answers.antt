use Rattle.std.proofs.Common.{◌≡◌, ℕ, ◌+◌, ◌<◌, ◌∷◌, [], List, length, sym, ap, ◌∙◌, subst, arith}
use Rattle.std.proofs.lemmas.List.{length-append}
use Rattle.std.specs.declared.vec.Vec.{Vec}
use Rattle.std.specs.declared.alloc.Global.{Global}
use Rattle.priml_syntax.specs.declared.event.Event.{Event}
use Rattle.cost_graph.specs.View.{lists}
use Rattle.cost_graph.specs.Records.{parts_in}
use Rattle.cost_graph.specs.Inside.Tables.{part_nth, first_in, AreRight}
use Rattle.cost_graph.proofs.Grown.{lists_length}
use Rattle.cost_graph.proofs.Parts.{parts_length, first_more}
use Rattle.cost_graph.proofs.Made.{lists_push, right_more, events_read}
use Rattle.cost_graph.proofs.records.add_thread.Goals as goal

pub vertex_parents-requires-clause-below : goal.vertex_parents-requires-clause-below
vertex_parents-requires-clause-below c =
    let same = events_read c.args.list.now c.args.t c.index-list-t.result c.as_slice-events.result.now c.requires.within c.index-list-t.is c.as_slice-events.ensures.value in
    omega (arith, ap (λ (l : List Event). length l) same, c.loop-n-test.true)

pub loop-n-preserved : goal.loop-n-preserved
loop-n-preserved c =
    let rs = c.args.list.now in
    let xs = parts_in rs in
    let t = c.args.t in
    let n = c.loop-n.n in
    let now = c.loop-n.parents.items in
    let v = c.in_ok-above.above in
    let same = events_read rs t c.index-list-t.result c.as_slice-events.result.now c.requires.within c.index-list-t.is c.as_slice-events.ensures.value in
    let n_lt : n < length (part_nth xs t).events = omega (arith, ap (λ (l : List Event). length l) same, c.loop-n-test.true) in
    let within : t < length xs = omega (arith, c.requires.within, parts_length rs) in
    let long : length (lists now) ≡ first_in xs t + n = lists_length now ∙ c.loop-n.invariant.long in
    let pushed = lists_push now c.push.new.self.items v c.in_ok-push.ensures.items in
    record {
      long = omega (arith, ap (λ (l : List (Vec ℕ Global)). length l) c.in_ok-push.ensures.items, length-append now (v ∷ []), c.loop-n.invariant.long);
      right = subst (AreRight xs) (sym pushed) (right_more xs (lists now) v.items t n within n_lt long c.loop-n.invariant.right c.in_ok-above.ensures);
    }

pub returns-clause-long : goal.returns-clause-long
returns-clause-long c =
    let rs = c.args.list.now in
    let t = c.args.t in
    let same = events_read rs t c.index-list-t.result c.as_slice-events.result.now c.requires.within c.index-list-t.is c.as_slice-events.ensures.value in
    let within : t < length (parts_in rs) = omega (arith, c.requires.within, parts_length rs) in
    omega (arith, ap (λ (l : List Event). length l) same, c.loop-n-test.false, c.loop-n.auto.n-end, c.loop-n.invariant.long, first_more (parts_in rs) t within)
