use Rattle.std.proofs.Common.{rules, ◌+◌, ◌%◌, ◌<◌, List, length, map, sym, refl, ap, ◌∙◌, subst, length-set}
use Rattle.std.proofs.lemmas.List.{length_push}
use Rattle.std.proofs.lemmas.Option.{slice_get_read}
use Rattle.priority_deques.specs.declared.handles.TheirDeque.{TheirDeque}
use Rattle.priority_deques.specs.Handles.{their_book}
use Rattle.priority_deques.specs.Inside.Opening.{AreFresh}
use Rattle.priority_deques.proofs.Joins.{fresh_push, ready_same}
use Rattle.priority_deques.proofs.steal.visitors.Goals as goal

pub loop-step-preserved : goal.loop-step-preserved
loop-step-preserved c = let l = c.loop-step in let ends = l.ends.items in let x = c.index_mut.result.now in let i = l.invariant in let items = c.in_ok-push.ensures.items in let job = c.args.job.now in
    let k = (c.args.worker + l.step) % c.len-workers.result in let inside : k < length ends = search rules in let at = slice_get_read ends (length ends) k x refl inside c.index_mut.ensures.value in record {
      count = length-set ends k c.visitor.new.self ∙ i.count;
      ready = ready_same job (length c.args.ends.now.items) c.args.worker c.args.lane k ends x c.visitor.new.self i.ready at c.visitor.ensures.same.0 c.visitor.ensures.same.1;
      long = ap (λ n. n + 1) (ap length items ∙ (length_push l.others.items _ ∙ i.long));
      fresh = subst (λ (v : List TheirDeque). AreFresh job c.args.lane (map their_book v)) (sym items) (fresh_push their_book job c.args.lane l.others.items _ i.fresh c.in_ok-visitor.ensures.fresh);
    }
