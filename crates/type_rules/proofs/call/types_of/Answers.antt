use Rattle.std.proofs.Common.{◌+◌, ◌++◌, [], ◌∷◌, length, take, drop, map, sym, subst}
use Rattle.std.proofs.lemmas.List.{map-append}
use Rattle.priml_syntax.specs.Read.{read_term}
use Rattle.type_rules.specs.Shared.{read_shared}
use Rattle.type_rules.specs.Typing.{HaveTypes}
use Rattle.type_rules.specs.Inside.Answers.{scope_of, TermsStop}
use Rattle.type_rules.proofs.Handed.{handed}
use Rattle.type_rules.proofs.Arguments.{have_push, stop_after, in_scope_item, more_terms, split_terms}
use Rattle.type_rules.proofs.call.types_of.Goals as goal

pub type_of-requires : goal.type_of-requires
type_of-requires c = in_scope_item (length c.args.scope.now) c.args.es.now c.loop-e.e-index c.e-item.result c.loop-e-test.true c.e-item.is c.requires

pub returns-in_err-t : goal.returns-in_err-t
returns-in_err-t c =
    let es = c.args.es.now in
    let i = c.loop-e.e-index in
    handed _ (TermsStop (scope_of c.args.scope.now) (map read_term es)) c.in_err-t.field-0.0 _ c.from_residual-in_err-t.ensures.1
    (subst (λ x. TermsStop (scope_of c.args.scope.now) x c.in_err-t.field-0.0) (sym (split_terms es i c.e-item.result c.loop-e-test.true c.e-item.is))
    (stop_after (scope_of c.args.scope.now) (map read_term (take i es)) _ (read_term c.e-item.result) (map read_term (drop (i + 1) es)) c.in_err-t.field-0.0 c.loop-e.invariant c.in_err-t.ensures))

pub loop-e-preserved : goal.loop-e-preserved
loop-e-preserved c =
    let es = c.args.es.now in
    let i = c.loop-e.e-index in
    let G = scope_of c.args.scope.now in
    rw c.in_ok-push.ensures
    (rw (map-append read_shared c.loop-e.types.items (c.in_ok-t.t ∷ []))
    (subst (λ x. HaveTypes G x (map read_shared c.loop-e.types.items ++ read_shared c.in_ok-t.t ∷ [])) (sym (more_terms es i c.e-item.result c.loop-e-test.true c.e-item.is))
    (have_push G (map read_term (take i es)) (map read_shared c.loop-e.types.items) (read_term c.e-item.result) (read_shared c.in_ok-t.t) c.loop-e.invariant c.in_ok-t.ensures)))
