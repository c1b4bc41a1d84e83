use Rattle.std.proofs.Common.{◌∙◌, ◌++◌, ◌∷◌, [], ◌+◌, map, take, drop, sym, ap, subst}
use Rattle.priml_syntax.specs.Read.{read_pair, read_proc}
use Rattle.source_grammar.specs.RawRead.{read_decl}
use Rattle.source_reader.specs.Names.{priorities, procedures}
use Rattle.source_reader.specs.Faults.{decls_faults}
use Rattle.source_reader.specs.Resolved.{pairs_meant, procs_meant}
use Rattle.source_reader.specs.Inside.Gives.{First}
use Rattle.source_reader.specs.Inside.Known.{env_in}
use Rattle.source_reader.proofs.Lists.{gives_first, found_first}
use Rattle.source_reader.proofs.Declarations.{next_bodies, next_names, next_called, next_pairs, next_procs, next_faults, seen_so_far}
use Rattle.source_reader.proofs.declared.declare_all.Goals as goal

pub returns-in_err-declare-clause-faults : goal.returns-in_err-declare-clause-faults
returns-in_err-declare-clause-faults c =
    let inv = c.loop-decl.invariant in
    let here = seen_so_far (map read_decl (take c.loop-decl.decl-index c.args.decls.now)) (read_decl c.decl-item.result) c.loop-decl.all.pairs.items inv.outside inv.priorities inv.called inv.pairs in
    let next = next_faults (env_in c.args.names.now) c.args.decls.now c.loop-decl.decl-index c.decl-item.result c.loop-decl-test.true c.decl-item.is in
    found_first _ c.in_err-declare.field-0.0 _ c.from_residual.ensures.1
    (gives_first _ _ _ c.in_err-declare.field-0.0 (inv.faults ∙ next) (subst (λ fs. First fs c.in_err-declare.field-0.0) here c.in_err-declare.ensures.faults))

pub loop-decl-preserved : goal.loop-decl-preserved
loop-decl-preserved c =
    let ds = c.args.decls.now in
    let i = c.loop-decl.decl-index in
    let d = c.decl-item.result in
    let env = env_in c.args.names.now in
    let inv = c.loop-decl.invariant in
    let all = c.loop-decl.all in
    let l = c.loop-decl-test.true in
    let is = c.decl-item.is in
    let done = map read_decl (take i ds) in
    let step = c.in_ok-declare.ensures in
    let none = sym (seen_so_far done (read_decl d) all.pairs.items inv.outside inv.priorities inv.called inv.pairs) ∙ step.faults in
    record {
      fits = next_bodies ds i d l is inv.fits;
      outside = step.names ∙ inv.outside;
      faults = inv.faults ∙ next_faults env ds i d l is ∙ ap (λ v. v ++ decls_faults env (map read_decl (drop (i + 1) ds)) (map read_decl (take (i + 1) ds))) none;
      priorities = step.priorities ∙ ap (λ v. v ++ priorities (read_decl d ∷ [])) inv.priorities ∙ sym (next_names ds i d l is);
      called = step.called ∙ ap (λ v. v ++ procedures (read_decl d ∷ [])) inv.called ∙ sym (next_called ds i d l is);
      pairs = step.pairs ∙ ap (λ v. map read_pair all.pairs.items ++ pairs_meant v.prios (read_decl d ∷ [])) inv.outside ∙ ap (λ v. v ++ pairs_meant env.prios (read_decl d ∷ [])) inv.pairs ∙ sym (next_pairs env.prios ds i d l is);
      procs = step.procs ∙ ap (λ v. map read_proc all.procs.items ++ procs_meant v (read_decl d ∷ [])) inv.outside ∙ ap (λ v. v ++ procs_meant env (read_decl d ∷ [])) inv.procs ∙ sym (next_procs env ds i d l is);
    }
