use Rattle.std.proofs.Common.{◌≡◌, length, refl, sym, ◌∙◌, subst}
use Rattle.std.specs.Prelude.{IfOk}
use Rattle.std.proofs.lemmas.Option.{slice_get_read}
use Rattle.priority_deques.specs.Ends.{IsEndOf, fresh_book}
use Rattle.priority_deques.specs.Handles.{own_book, their_book}
use Rattle.priority_deques.proofs.Keeps.{own_lane}
use Rattle.priority_deques.proofs.Opened.{same_books}
use Rattle.priority_deques.proofs.ends.StealEnd.visitor.Goals as goal

pub visitor-requires : goal.visitor-requires
visitor-requires c = let s = c.args.self.now in let lanes = s.lanes.items in let a = c.index_mut.result.now in
    (own_lane s.table own_book their_book lanes s.end c.args.lane a (slice_get_read lanes (length lanes) c.args.lane a refl c.requires.lane c.index_mut.ensures.value)).0 ∙ c.requires.job

pub invariant_of-self : goal.invariant_of-self
invariant_of-self c = let s = c.args.self.now in let lanes = s.lanes.items in let a = c.index_mut.result.now in
    record { end = subst (IsEndOf s.table) (sym (same_books own_book their_book c.args.job.now lanes c.args.lane a c.visitor.new.self (slice_get_read lanes (length lanes) c.args.lane a refl c.requires.lane c.index_mut.ensures.value) c.visitor.ensures.same)) s.end }

pub returns-clause-same : goal.returns-clause-same
returns-clause-same c = let s = c.args.self.now in let lanes = s.lanes.items in let a = c.index_mut.result.now in
    (refl, same_books own_book their_book c.args.job.now lanes c.args.lane a c.visitor.new.self (slice_get_read lanes (length lanes) c.args.lane a refl c.requires.lane c.index_mut.ensures.value) c.visitor.ensures.same)

pub returns-clause-fresh : goal.returns-clause-fresh
returns-clause-fresh c = let s = c.args.self.now in let lanes = s.lanes.items in let a = c.index_mut.result.now in
    subst (λ n. IfOk c.visitor.result (λ d. their_book d ≡ fresh_book c.args.job.now n))
    (own_lane s.table own_book their_book lanes s.end c.args.lane a (slice_get_read lanes (length lanes) c.args.lane a refl c.requires.lane c.index_mut.ensures.value)).1 c.visitor.ensures.fresh
