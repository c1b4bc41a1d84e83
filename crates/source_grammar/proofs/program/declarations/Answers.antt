use Rattle.std.proofs.Common.{◌∷◌, List, [], Vec, Global, refl, sym, ◌∙◌}
use Rattle.std.proofs.lemmas.Result.{err_from_is_err_and}
use Rattle.source_grammar.specs.declared.raw.RawDecl.{RawDecl}
use Rattle.source_grammar.specs.Grammar.{IsDecls}
use Rattle.source_grammar.specs.Inside.Machine.{Symbol, Program, Main}
use Rattle.source_grammar.proofs.HeadForms.{decls_push}
use Rattle.source_grammar.proofs.HeadSteps.{program-declaration, program-main}
use Rattle.source_grammar.proofs.Steps.{part_refuses}
use Rattle.source_grammar.proofs.program.declarations.Goals as goal

pub declarations-init : goal.declarations-init
declarations-init c = record { made = rw c.new-declarations.ensures.items IsDecls.no_more; moved = λ xs. refl }

pub returns-in_err-declaration-clause-moves : goal.returns-in_err-declaration-clause-moves
returns-in_err-declaration-clause-moves c =
    let p = err_from_is_err_and c.from_residual.result c.from_residual.ensures.1 in
    let f = λ (xs : List Symbol). c.declarations.invariant.moved xs ∙ program-declaration xs _ _ (sym c.declaration_form.ensures ∙ c.in-Some.is) in
    rw (p.1, p.2) (part_refuses RawDecl (Vec RawDecl Global) Program _ (Program ∷ []) (Main ∷ []) _ _ _ _ f c.in_err-declaration.ensures.moves)

pub declarations-preserved : goal.declarations-preserved
declarations-preserved c = record {
  made = rw c.in_ok-push.ensures (decls_push _ _ c.declarations.invariant.made c.in_ok-declaration.ensures.ok);
  moved = λ xs. c.declarations.invariant.moved xs ∙ program-declaration xs _ _ (sym c.declaration_form.ensures ∙ c.in-Some.is) ∙ c.in_ok-declaration.ensures.moves (Program ∷ xs);
}

pub returns-clause-moves : goal.returns-clause-moves
returns-clause-moves c = λ xs. c.declarations.invariant.moved xs ∙ program-main xs _ (sym c.declaration_form.ensures ∙ c.in_default.is)
