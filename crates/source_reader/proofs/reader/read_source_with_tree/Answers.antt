use Rattle.std.proofs.Common.{◌≡◌, length, subst}
use Rattle.std.proofs.lemmas.List.{length-map}
use Rattle.indexmap.specs.IndexSet.{index_set_len}
use Rattle.source_tokens.specs.declared.token.Stop.TheVariants.{Done}
use Rattle.source_tokens.specs.Names.{name_bytes}
use Rattle.source_tokens.proofs.Lawful.{lexed_lawful}
use Rattle.source_grammar.specs.RawRead.{read_raw}
use Rattle.priml_syntax.specs.Read.{read_program}
use Rattle.source_reader.specs.Inside.Fits.{Fits}
use Rattle.source_reader.proofs.Fitting.{lexed_fits, lexed_ascii, program_fits}
use Rattle.source_reader.proofs.InOrder.{faults_ascend}
use Rattle.source_reader.proofs.OneFault.{once_if, handed}
use Rattle.source_reader.proofs.Standing.{scoped_as, only_as, refuses}
use Rattle.source_reader.proofs.reader.read_source_with_tree.Goals as goal

pub program-requires-clause-fits : goal.program-requires-clause-fits
program-requires-clause-fits c =
    let w = c.in_ok-tree.tree in
    let names = name_bytes w.names in
    let is = c.in_ok-tree.ensures.written in
    let fit = lexed_fits c.args.text.now is.tokens names Done is.lexed in
    let long : length names ≡ index_set_len w.names = length-map w.names.keys (λ v. v.items) in
    subst (λ n. Fits n (read_raw w.raw)) long (program_fits (length names) is.derived fit)

pub program-requires-clause-ascii : goal.program-requires-clause-ascii
program-requires-clause-ascii c =
    let is = c.in_ok-tree.ensures.written in
    lexed_ascii c.args.text.now is.tokens (name_bytes c.in_ok-tree.tree.names) Done is.lexed

pub returns-clause-scoped : goal.returns-clause-scoped
returns-clause-scoped c =
    let w = c.in_ok-tree.tree in
    scoped_as (name_bytes w.names) (read_raw w.raw) (read_program c.in_ok-program.program) c.in_ok-program.ensures.clean c.in_ok-program.ensures.meant

pub returns-clause-only : goal.returns-clause-only
returns-clause-only c =
    let w = c.in_ok-tree.tree in
    only_as c.args.text.now (name_bytes w.names) (read_raw w.raw) (read_program c.in_ok-program.program) c.in_ok-tree.ensures.only c.in_ok-program.ensures.meant

pub returns-in_err-tree-clause-one : goal.returns-in_err-tree-clause-one
returns-in_err-tree-clause-one c =
    let text = c.args.text.now in
    let handed_on = c.from_residual.result in
    once_if text handed_on (handed text c.in_err-tree.field-0.0 handed_on c.from_residual.ensures.1 c.in_err-tree.ensures.refused)

pub returns-in_err-program-clause-refused : goal.returns-in_err-program-clause-refused
returns-in_err-program-clause-refused c =
    let text = c.args.text.now in
    let w = c.in_ok-tree.tree in
    let raw = read_raw w.raw in
    let is = c.in_ok-tree.ensures.written in
    let names = name_bytes w.names in
    let up = faults_ascend is.tokens raw (length text) is.derived (lexed_lawful text is.tokens names Done is.lexed).in_order in
    let e = c.in_err-program.field-0.0 in
    handed text e c.from_residual-in_err-program.result c.from_residual-in_err-program.ensures.1 (refuses text names raw e is c.in_ok-tree.ensures.only up c.in_err-program.ensures.refused)

pub returns-in_err-program-clause-one : goal.returns-in_err-program-clause-one
returns-in_err-program-clause-one c = once_if c.args.text.now c.from_residual-in_err-program.result (returns-in_err-program-clause-refused c)
