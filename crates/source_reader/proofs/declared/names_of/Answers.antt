use Rattle.std.proofs.Common.{◌∙◌, ◌++◌, ◌∷◌, [], sym, ap}
use Rattle.source_grammar.specs.RawRead.{read_decl}
use Rattle.source_reader.specs.Names.{priorities, procedures}
use Rattle.source_reader.proofs.Declarations.{next_fits, next_names, next_called}
use Rattle.source_reader.proofs.declared.names_of.Goals as goal

pub loop-decl-preserved : goal.loop-decl-preserved
loop-decl-preserved c =
    let ds = c.args.decls.now in
    let i = c.loop-decl.decl-index in
    let d = c.decl-item.result in
    let inv = c.loop-decl.invariant in
    let l = c.loop-decl-test.true in
    let here = c.decl-item.is in
    record {
      wide = c.know.ensures.wide_known ∙ inv.wide;
      same = c.know.ensures.wide_called ∙ inv.same;
      fits = next_fits c.args.names ds i d l here inv.fits;
      priorities = c.in_ok-know.ensures.priorities ∙ ap (λ v. v ++ priorities (read_decl d ∷ [])) inv.priorities ∙ sym (next_names ds i d l here);
      procedures = c.in_ok-know.ensures.procedures ∙ ap (λ v. v ++ procedures (read_decl d ∷ [])) inv.procedures ∙ sym (next_called ds i d l here);
    }
