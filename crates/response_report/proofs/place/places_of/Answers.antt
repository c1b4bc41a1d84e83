use Rattle.std.proofs.Common.{◌<◌, length, get_or, sym, ◌∙◌, subst, arith}
use Rattle.std.specs.List.{Contains}
use Rattle.std.proofs.lemmas.List.Elements.{Contains-get_or}
use Rattle.cost_graph.proofs.Grown.{list_at, lists_length}
use Rattle.prompt_checker.specs.Read.{steps_of}
use Rattle.response_report.proofs.Places.{in_whole, places_on}
use Rattle.response_report.proofs.place.places_of.Goals as goal

pub note-requires : goal.note-requires
note-requires c = λ k d k_lt.
    let all = c.args.schedule.now.steps.items in
    let i = c.loop-i.i in
    let lt : i < length all = omega (arith, c.loop-i-test.true, c.len-i-end.ensures) in
    let at = list_at all i c.index.result.now lt c.index.ensures in
    let lt' : i < length (steps_of c.args.schedule.now) = omega (arith, lt, lists_length all) in
    let v = get_or c.index.result.now.items k d in
    let small = c.requires.within v (in_whole (steps_of c.args.schedule.now) i v lt' (subst (λ l. Contains l v) (sym at) (Contains-get_or c.index.result.now.items k d k_lt))) in
    omega (arith, small, c.loop-i.invariant.long)

pub loop-i-preserved : goal.loop-i-preserved
loop-i-preserved c =
    let all = c.args.schedule.now.steps.items in
    let i = c.loop-i.i in
    let lt : i < length all = omega (arith, c.loop-i-test.true, c.len-i-end.ensures) in
    let lt' : i < length (steps_of c.args.schedule.now) = omega (arith, lt, lists_length all) in
    let at = list_at all i c.index.result.now lt c.index.ensures in
    record {
      long = c.note.ensures.long ∙ c.loop-i.invariant.long;
      are = places_on (steps_of c.args.schedule.now) c.loop-i.places.items c.note.new.places.items i c.requires.once lt'
          (λ v k. c.note.ensures.here v (subst (λ l. Contains l v) at k)) (λ v n. c.note.ensures.kept v (λ k. n (subst (λ l. Contains l v) (sym at) k))) c.loop-i.invariant.are;
    }

pub returns-clause-are : goal.returns-clause-are
returns-clause-are c = λ i v lt k. c.loop-i.invariant.are i v (omega (arith, lt, lists_length c.args.schedule.now.steps.items, c.loop-i-test.false, c.len-i-end.ensures)) k
