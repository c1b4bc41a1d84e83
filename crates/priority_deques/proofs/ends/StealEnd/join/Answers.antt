use Rattle.std.proofs.Common.{◌∷◌, length, map, set, refl, sym, ap, ◌∙◌}
use Rattle.std.proofs.lemmas.Option.{same_Some, slice_get_read}
use lib.Seq.{map-set}
use Rattle.priority_deques.specs.declared.handles.OwnDeque.{OwnDeque}
use Rattle.priority_deques.specs.declared.handles.TheirDeque.{TheirDeque}
use Rattle.priority_deques.specs.declared.parts.LaneDeques.{LaneDeques}
use Rattle.priority_deques.specs.Handles.{own_book, their_book}
use Rattle.priority_deques.specs.Parts.{lane_books}
use Rattle.priority_deques.proofs.Keeps.{join_keeps}
use Rattle.priority_deques.proofs.ends.StealEnd.join.Goals as goal

pub invariant_of-self : goal.invariant_of-self
invariant_of-self c = let s = c.args.self.now in let lanes = s.lanes.items in let a = c.index_mut.result.now in
    record { end = join_keeps s.table own_book their_book lanes s.end c.args.lane a c.args.others (slice_get_read lanes (length lanes) c.args.lane a refl c.requires.lane c.index_mut.ensures.value) c.requires.others }

pub returns-clause-books : goal.returns-clause-books
returns-clause-books c = λ d e. let lanes = c.args.self.now.lanes.items in let a = c.index_mut.result.now in let f = lane_books own_book their_book in let b : LaneDeques OwnDeque TheirDeque = record a { others = c.args.others } in
    let at = slice_get_read lanes (length lanes) c.args.lane a refl c.requires.lane c.index_mut.ensures.value in
    map-set f lanes c.args.lane b ∙ ap (λ (x : LaneDeques OwnDeque TheirDeque). set (map f lanes) c.args.lane (own_book x.own ∷ map their_book c.args.others.items)) (same_Some a d (sym at ∙ e))
