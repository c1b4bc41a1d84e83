use Rattle.std.proofs.Common.{◌≡◌, ◌+◌, ◌++◌, [], ◌∷◌, length, drop, map, sym, ap, subst, ◌∙◌, arith, Ok}
use Rattle.std.proofs.lemmas.List.{take_all}
use Rattle.priml_syntax.specs.declared.block.Block.{out-Block}
use Rattle.priml_syntax.specs.Read.{read_term, read_tail, read_code, read_act}
use Rattle.priml_syntax.specs.Lists.{body_of}
use Rattle.priml_syntax.specs.Tree.{if_tail}
use Rattle.type_rules.specs.Shared.{read_shared}
use Rattle.type_rules.specs.Typing.{CodeInScope, BodyInScope, HasType, CodeHas}
use Rattle.type_rules.specs.Inside.Answers.{setting, scope_of, CodeStops, BodyAnswer, BodyStops, CarriesOn}
use Rattle.type_rules.proofs.Handed.{handed}
use Rattle.type_rules.proofs.Steps.{starts, goes_on, stops, passed, next_item, opened, answers, scope_push, kept_push, long_push, leads_over, second_stops}
use Rattle.type_rules.proofs.block.+check.Goals as goal

pub type_of_block-loop-bind-init : goal.type_of_block-loop-bind-init
type_of_block-loop-bind-init t c =
    let b = c.args.block.now in
    record {
      deep = omega (arith, c.len-depth.ensures);
      kept = take_all c.len-depth.result c.args.scope.now.items (omega (arith, c.len-depth.ensures));
      in_scope = subst (λ x. CodeInScope x (length c.args.procs.now) (length c.args.scope.now.items)) (opened b c.deref-bind-items.result.now c.deref-bind-items.ensures.value) c.requires;
      leads = starts _ _ _ _;
    }

pub type_of_block-returns-in_err-t-clause-answer : goal.type_of_block-returns-in_err-t-clause-answer
type_of_block-returns-in_err-t-clause-answer t c =
    let b = c.args.block.now in
    let xs = c.deref-bind-items.result.now in
    let d = c.bind-item.result in
    let tail = read_tail (out-Block b).tail.form (out-Block b).tail.at in
    let step = next_item xs c.loop-bind.bind-index d tail c.loop-bind-test.true c.bind-item.is in
    let s = setting c.args.known.now c.args.procs.now in
    let leads = subst (λ x. CarriesOn s c.args.r (scope_of c.loop-bind.scope.items) x (scope_of c.args.scope.now.items) (body_of xs tail)) step c.loop-bind.invariant.leads in
    answers _ _ _ b xs _ c.deref-bind-items.ensures.value
    (handed _ _ c.in_err-t.field-0.0 _ c.from_residual.ensures.1
    (stops s c.args.r (scope_of c.loop-bind.scope.items) (scope_of c.args.scope.now.items) d.at (read_act d.action) (body_of (drop (c.loop-bind.bind-index + 1) xs) tail) (body_of xs tail) c.in_err-t.field-0.0 leads c.in_err-t.ensures.answer))

pub type_of_block-loop-bind-preserved : goal.type_of_block-loop-bind-preserved
type_of_block-loop-bind-preserved t c =
    let b = c.args.block.now in
    let xs = c.deref-bind-items.result.now in
    let d = c.bind-item.result in
    let tail = read_tail (out-Block b).tail.form (out-Block b).tail.at in
    let i = c.loop-bind.bind-index in
    let step = next_item xs i d tail c.loop-bind-test.true c.bind-item.is in
    let s = setting c.args.known.now c.args.procs.now in
    let old = c.loop-bind.scope.items in
    let mid = c.type_of_action.new.scope.items in
    let new = c.push.new.items.items in
    let more : new ≡ mid ++ c.in_ok-t.t ∷ [] = c.in_ok-push.ensures in
    let same : mid ≡ old = c.in_ok-t.ensures.scope in
    let long : length new ≡ length old + 1 = long_push old mid new c.in_ok-t.t more same in
    let leads = subst (λ x. CarriesOn s c.args.r (scope_of old) x (scope_of c.args.scope.now.items) (body_of xs tail)) step c.loop-bind.invariant.leads in
    let in_scope = subst (λ x. BodyInScope x (length c.args.procs.now) (length old)) step c.loop-bind.invariant.in_scope in
    record {
      deep = omega (arith, long, c.loop-bind.invariant.deep);
      kept = kept_push old mid new c.in_ok-t.t c.len-depth.result c.loop-bind.invariant.deep more same ∙ c.loop-bind.invariant.kept;
      in_scope = subst (λ n. BodyInScope (body_of (drop (i + 1) xs) tail) (length c.args.procs.now) n) (sym long) in_scope.1;
      leads = subst (λ G. CarriesOn s c.args.r G (body_of (drop (i + 1) xs) tail) (scope_of c.args.scope.now.items) (body_of xs tail)) (sym (scope_push old mid new c.in_ok-t.t more same))
          (goes_on s c.args.r (scope_of old) (scope_of c.args.scope.now.items) d.at (read_act d.action) (body_of (drop (i + 1) xs) tail) (body_of xs tail) (read_shared c.in_ok-t.t) leads c.in_ok-t.ensures.answer);
    }

pub type_of_block-returns-in_err-t-2-clause-answer : goal.type_of_block-returns-in_err-t-2-clause-answer
type_of_block-returns-in_err-t-2-clause-answer t c =
    let xs = c.deref-bind-items.result.now in
    let leads = leads_over _ _ _ _ xs _ _ c.loop-bind.bind-index c.loop-bind-test.false c.loop-bind.invariant.leads in
    answers _ _ _ c.args.block.now xs _ c.deref-bind-items.ensures.value
    (handed _ _ c.in_err-t-2.field-0.0 _ c.from_residual-in_err-t-2.ensures.1 (passed _ _ _ _ _ _ c.in_err-t-2.field-0.0 leads c.in_err-t-2.ensures.answer))

pub type_of_block-returns-clause-answer : goal.type_of_block-returns-clause-answer
type_of_block-returns-clause-answer t c =
    let xs = c.deref-bind-items.result.now in
    let leads = leads_over _ _ _ _ xs _ _ c.loop-bind.bind-index c.loop-bind-test.false c.loop-bind.invariant.leads in
    answers (setting c.args.known.now c.args.procs.now) (scope_of c.args.scope.now.items) c.args.r c.args.block.now xs (Ok c.in_ok-t-2.t) c.deref-bind-items.ensures.value (leads.typed (read_shared c.in_ok-t-2.t) c.in_ok-t-2.ensures.answer)

pub type_of_tail-returns-in_err-right-in-If-clause-answer : goal.type_of_tail-returns-in_err-right-in-If-clause-answer
type_of_tail-returns-in_err-right-in-If-clause-answer t c =
    let s = setting c.args.known.now c.args.procs.now in
    let G = scope_of c.args.scope.now.items in
    let e = c.in-If.e in
    let at = c.args.tail.now.at in
    let test = subst (λ xs. HasType (map read_shared xs) (read_term e) (read_shared c.in_ok-test-in-If.test)) c.deref-in-If.ensures.value c.in_ok-test-in-If.ensures in
    let left = subst (λ b. CodeHas (read_code b) s G c.args.r (read_shared c.in_ok-left-in-If.left)) c.deref-in-If-2.ensures c.in_ok-left-in-If.ensures.answer in
    let right = subst (λ b. CodeStops s (scope_of c.type_of_block.new.scope.items) c.args.r (read_code b) c.in_err-right-in-If.field-0.0) c.deref-in-If-3.ensures c.in_err-right-in-If.ensures.answer in
    subst (λ f. BodyAnswer s G c.args.r (read_tail f at) c.from_residual-in_err-right-in-If.result) (sym c.in-If.is)
    (handed _ (BodyStops s G c.args.r (if_tail at (read_term e) (read_code c.in-If.a.value) (read_code c.in-If.b.value))) c.in_err-right-in-If.field-0.0 _ c.from_residual-in_err-right-in-If.ensures.1
    (second_stops s G (scope_of c.type_of_block.new.scope.items) c.args.r at (read_term e) (read_code c.in-If.a.value) (read_code c.in-If.b.value) _ _ c.in_err-right-in-If.field-0.0 (ap scope_of c.in_ok-left-in-If.ensures.scope) test left right))
