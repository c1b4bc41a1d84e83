use Rattle.std.proofs.Common.{◌+◌, ◌++◌, map, drop, ap, subst, ◌∙◌}
use Rattle.source_grammar.specs.RawRead.{read_expr}
use Rattle.source_grammar.specs.RawTree.{RawTerm}
use Rattle.source_reader.specs.Faults.{terms_faults}
use Rattle.source_reader.specs.Resolved.{term_meant}
use Rattle.source_reader.specs.Inside.Fits.{TermsFit}
use Rattle.source_reader.specs.Inside.Known.{env_in}
use Rattle.source_reader.proofs.Lists.{gives_first, handed_on}
use Rattle.source_reader.proofs.Walk.{next_term, read_next}
use Rattle.source_reader.proofs.list.expressions.Goals as goal

pub returns-in_err-e : goal.returns-in_err-e
returns-in_err-e c =
    let next = next_term c.args.list.now c.loop-raw.raw-index c.raw-item.result c.loop-raw-test.true c.raw-item.is in
    handed_on _ _ _ c.in_err-e.field-0.0 _ c.from_residual-in_err-e.ensures.1
    (gives_first _ _ _ c.in_err-e.field-0.0 (c.loop-raw.invariant.faults ∙ ap (λ v. terms_faults (env_in c.args.names.now) v c.args.scope.now) next) c.in_err-e.ensures)

pub loop-raw-preserved : goal.loop-raw-preserved
loop-raw-preserved c =
    let env = env_in c.args.names.now in
    let scope = c.args.scope.now in
    let xs = c.args.list.now in
    let i = c.loop-raw.raw-index in
    let d = c.raw-item.result in
    let next = next_term xs i d c.loop-raw-test.true c.raw-item.is in
    let fits = subst TermsFit next c.loop-raw.invariant.fits in
    record {
      fits = fits.1;
      faults = c.loop-raw.invariant.faults ∙ ap (λ v. terms_faults env v scope) next ∙ ap (λ v. v ++ terms_faults env (map read_expr (drop (i + 1) xs)) scope) c.in_ok-e.ensures.0;
      made = read_next (λ (x : RawTerm). term_meant env x scope) xs i d c.loop-raw.all.items c.push.new.items.items c.in_ok-e.e c.loop-raw-test.true c.raw-item.is c.loop-raw.invariant.made c.in_ok-push.ensures c.in_ok-e.ensures.1;
    }
