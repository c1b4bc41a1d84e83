use Rattle.std.proofs.Common.{◌≡◌, ◌<◌, ◌∙◌, ℕ, [], length, map, get_or, string_bytes, refl, sym, ap, subst}
use Rattle.indexmap.specs.IndexSet.{index_set_len}
use Rattle.priml_syntax.specs.declared.program.Program.{Program}
use Rattle.source_grammar.specs.RawRead.{read_decl, read_raw}
use Rattle.source_tokens.specs.Names.{name_bytes}
use Rattle.source_reader.specs.Names.{priorities, env_of}
use Rattle.source_reader.specs.Faults.{decls_faults, main_faults, faults}
use Rattle.source_reader.specs.Resolved.{pairs_meant, procs_meant}
use Rattle.source_reader.specs.Inside.Gives.{First}
use Rattle.source_reader.specs.Inside.Known.{env_in}
use Rattle.source_reader.specs.Inside.Narrow.{narrowed}
use Rattle.source_reader.proofs.Lists.{gives_first, handed_on}
use Rattle.source_reader.proofs.Declarations.{past, declared_fit, all_clean, all_made}
use Rattle.source_reader.proofs.Narrow.{main_same, decls_same, env_same}
use Rattle.source_reader.proofs.Tables.{few_declared}
use Rattle.source_reader.proofs.resolve.resolve.Goals as goal

pub returns-in_err-declared : goal.returns-in_err-declared
returns-in_err-declared c =
    let p = read_raw c.args.raw.now in
    let env = env_of p.decls in
    let e = c.in_err-declared.field-0.0 in
    let known = env_in c.in_ok-known.known in
    let same : known ≡ narrowed env = c.in_ok-known.ensures ∙ ap (λ v. narrowed (env_of (map read_decl v))) c.deref.ensures.value in
    let there : First (decls_faults known p.decls []) e = subst (λ v. First (decls_faults known (map read_decl v) []) e) c.deref-2.ensures.value c.in_err-declared.ensures.faults in
    handed_on (faults p) _ _ e _ c.from_residual-in_err-declared.ensures.1
    (gives_first (faults p) (decls_faults env p.decls []) (main_faults env p.main) e refl
    (subst (λ fs. First fs e) (decls_same env p.decls []) (subst (λ v. First (decls_faults v p.decls []) e) same there)))

pub returns-in_err-main : goal.returns-in_err-main
returns-in_err-main c =
    let d = c.in_ok-declared.ensures in
    let p = read_raw c.args.raw.now in
    let env = env_of p.decls in
    let e = c.in_err-main.field-0.0 in
    let known = env_in c.in_ok-known.known in
    let same : known ≡ narrowed env = c.in_ok-known.ensures ∙ ap (λ v. narrowed (env_of (map read_decl v))) c.deref.ensures.value in
    let none : decls_faults known p.decls [] ≡ [] = subst (λ v. decls_faults known (map read_decl v) [] ≡ []) c.deref-2.ensures.value d.faults in
    let clean : decls_faults env p.decls [] ≡ [] = sym (ap (λ v. decls_faults v p.decls []) same ∙ decls_same env p.decls []) ∙ none in
    let there : First (main_faults env p.main) e = subst (λ fs. First fs e) (main_same env p.main) (subst (λ v. First (main_faults v p.main) e) (d.names ∙ same) c.in_err-main.ensures) in
    handed_on (faults p) _ _ e _ c.from_residual-in_err-main.ensures.1 (past (faults p) (decls_faults env p.decls []) (main_faults env p.main) e refl clean there)

pub spelled-requires-clause-known : goal.spelled-requires-clause-known
spelled-requires-clause-known c =
    let p = read_raw c.args.raw.now in
    let same = c.deref-3.ensures.value ∙ c.in_ok-declared.ensures.priorities ∙ ap (λ v. priorities (map read_decl v)) c.deref-2.ensures.value in
    subst (λ xs. (k d : ℕ) → k < length xs → get_or xs k d < index_set_len c.args.names.now) (sym same) (declared_fit (index_set_len c.args.names.now) p.decls c.requires.fits.decls)

pub returns : goal.returns
returns c =
    let p = read_raw c.args.raw.now in
    let ds = c.args.raw.now.decls.items in
    let names = name_bytes c.args.names.now in
    let known = env_in c.in_ok-known.known in
    let now = env_in c.declare_all.new.names in
    let d = c.in_ok-declared.ensures in
    let all = c.in_ok-declared.declared in
    let to = c.deref-2.ensures.value in
    let none : decls_faults known p.decls [] ≡ [] = subst (λ v. decls_faults known (map read_decl v) [] ≡ []) to d.faults in
    let same : known ≡ env_of p.decls = c.in_ok-known.ensures ∙ ap (λ v. narrowed (env_of (map read_decl v))) c.deref.ensures.value ∙ env_same p.decls (few_declared known p.decls none) in
    let spelled : map string_bytes c.in_ok-names.names.items ≡ map (λ id. get_or names id []) (priorities p.decls) = c.in_ok-names.ensures ∙ ap (map (λ id. get_or names id [])) (c.deref-3.ensures.value ∙ d.priorities ∙ ap (λ v. priorities (map read_decl v)) to) in
    let made : Program = record { names = c.in_ok-names.names; pairs = all.pairs; procs = all.procs; main = c.in_ok-main.main } in (
      all_clean p known now same d.names none c.in_ok-main.ensures.0,
      all_made names p known now made same d.names spelled (d.pairs ∙ ap (λ v. pairs_meant known.prios (map read_decl v)) to) (d.procs ∙ ap (λ v. procs_meant known (map read_decl v)) to) c.in_ok-main.ensures.1,
    )
