use Rattle.std.proofs.Common.{rules, ◌<◌, ◌+◌, length, sym, ap, ◌∙◌, refl, subst, arith}
use Rattle.std.proofs.lemmas.List.{length_push}
use Rattle.std.proofs.lemmas.Option.{slice_get_read}
use lib.ListN.{length-map}
use Rattle.priority_deques.specs.Books.{DequeBook}
use Rattle.priority_deques.specs.Ends.{IsOpened, fresh_book}
use Rattle.priority_deques.specs.Handles.{shared_book}
use Rattle.priority_deques.specs.Parts.{lane_books}
use Rattle.priority_deques.proofs.Opened.{NewLanes, opened, own_new, push_lane, same_books}
use Rattle.priority_deques.proofs.shared.other_ends.Goals as goal

pub another-requires : goal.another-requires
another-requires c = let l = c.loop-lane in let lanes = l.lanes.items in let a = c.index_mut.result.now in let inside : l.lane < length lanes = search rules in
    ap (λ (b : DequeBook). b.job) (own_new shared_book shared_book c.args.job.now 0 l.lane lanes a (subst (IsOpened c.args.job.now 1) (sym l.invariant.same) c.requires) (slice_get_read lanes (length lanes) l.lane a refl inside c.index_mut.ensures.value))

pub returns-in_err-own-clause-lanes : goal.returns-in_err-own-clause-lanes
returns-in_err-own-clause-lanes c = let l = c.loop-lane in let lanes = l.lanes.items in let a = c.index_mut.result.now in let inside : l.lane < length lanes = search rules in
    same_books shared_book shared_book c.args.job.now lanes l.lane a c.another.new.self (slice_get_read lanes (length lanes) l.lane a refl inside c.index_mut.ensures.value) c.another.ensures.same ∙ l.invariant.same

pub returns-in_err-push-clause-lanes : goal.returns-in_err-push-clause-lanes
returns-in_err-push-clause-lanes c = let l = c.loop-lane in let lanes = l.lanes.items in let a = c.index_mut.result.now in let inside : l.lane < length lanes = search rules in
    same_books shared_book shared_book c.args.job.now lanes l.lane a c.another.new.self (slice_get_read lanes (length lanes) l.lane a refl inside c.index_mut.ensures.value) c.another.ensures.same ∙ l.invariant.same

pub loop-lane-preserved : goal.loop-lane-preserved
loop-lane-preserved c = let l = c.loop-lane in let lanes = l.lanes.items in let a = c.index_mut.result.now in let inside : l.lane < length lanes = search rules in let at = slice_get_read lanes (length lanes) l.lane a refl inside c.index_mut.ensures.value in
    let items = c.in_ok-push.ensures.items in let job = c.args.job.now in let new = own_new shared_book shared_book job 0 l.lane lanes a (subst (IsOpened job 1) (sym l.invariant.same) c.requires) at in record {
      same = same_books shared_book shared_book job lanes l.lane a c.another.new.self at c.another.ensures.same ∙ l.invariant.same;
      long = ap length items ∙ (length_push l.others.items _ ∙ ap (λ n. n + 1) l.invariant.long);
      new = subst (NewLanes shared_book shared_book job 1) (sym items) (push_lane shared_book shared_book job l.others.items _ l.lane l.invariant.new l.invariant.long (c.in_ok-own.ensures.fresh ∙ ap (fresh_book job) (ap (λ (b : DequeBook). b.lane) new)) c.new.ensures.items);
    }

pub returns-clause-others : goal.returns-clause-others
returns-clause-others c = let l = c.loop-lane in opened shared_book shared_book c.args.job.now 1 l.others.items
    (let a = l.invariant.long in let b = c.requires.long in let d = length-map c.args.lanes.now.items (lane_books shared_book shared_book) in let x = c.loop-lane-test.false in let y = l.auto.lane-end in let e = c.len-lane-end.ensures in let o = c.args.lanes.now.ok in omega arith)
    l.invariant.new
