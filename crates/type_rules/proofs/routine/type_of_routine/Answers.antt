use Rattle.std.proofs.Common.{◌≡◌, length, map, sym, ap, subst, ◌∙◌}
use Rattle.std.proofs.lemmas.List.{length-map}
use Rattle.priml_syntax.specs.Read.{read_type, read_sig, read_proc, read_program}
use Rattle.priml_syntax.specs.Tree.{Routine, pairs_of}
use Rattle.type_rules.specs.Shared.{read_shared}
use Rattle.type_rules.specs.Typing.{CodeInScope}
use Rattle.type_rules.specs.Inside.Answers.{setting, scope_of}
use Rattle.type_rules.proofs.InScope.{routine_in}
use Rattle.type_rules.proofs.Parts.{signatures, same_setting, routine_answer}
use Rattle.type_rules.proofs.routine.type_of_routine.Goals as goal

pub type_of_block-requires : goal.type_of_block-requires
type_of_block-requires c =
    let p = read_program c.args.program.now in
    let f = read_proc c.args.routine.now in
    let procs : length p.procs ≡ length c.deref-3.result.now = length-map c.args.program.now.procs.items read_proc ∙ ap length (sym c.deref-3.ensures.value) in
    let params : length f.declares.params ≡ length c.in_ok-scope.scope.items = ap (λ xs. length (map read_type xs)) (sym c.deref-2.ensures.value) ∙ ap length (sym c.in_ok-scope.ensures) ∙ length-map c.in_ok-scope.scope.items read_shared in
    subst (λ m. CodeInScope f.body m (length c.in_ok-scope.scope.items)) procs (subst (λ n. CodeInScope f.body (length p.procs) n) params (routine_in p f c.requires.scoped))

pub returns : goal.returns
returns c =
    let p = read_program c.args.program.now in
    let f = read_proc c.args.routine.now in
    let s = setting c.in_ok-known.known c.deref-3.result.now in
    routine_answer p f s (scope_of c.in_ok-scope.scope.items) c.type_of_block.result
    (same_setting s (pairs_of p) (map (λ (g : Routine). g.declares) p.procs) f.declares.given
    (ap (λ k. k.pairs) c.in_ok-known.ensures ∙ c.requires.order.pairs)
    (ap (map read_sig) c.deref-3.ensures.value ∙ signatures c.args.program.now.procs.items)
    (ap (λ k. k.given) c.in_ok-known.ensures ∙ c.deref.ensures.value))
    (c.in_ok-scope.ensures ∙ ap (map read_type) c.deref-2.ensures.value)
    c.type_of_block.ensures.answer
