use Rattle.std.proofs.Common.{◌≡◌, true, false, refl, inr, rules, tests}
use Rattle.priml_syntax.specs.Inputs.{read_lists as lists_of}
use Rattle.inputs_text.proofs.Known.{path-known, path-new}
use Rattle.inputs_text.proofs.inputs.add_line.Goals as goal

pub returns-then-not-branch-clause-stop : goal.returns-then-not-branch-clause-stop
returns-then-not-branch-clause-stop c =
    let form = rw c.in-Numbers.is at c.in_ok-read_line.ensures in
    let known : c.in_ok-add_path-in-Numbers.field-0 ≡ false = search (rules, tests) in
    let has = path-known _ _ c.parts.result.now _ (lists_of c.args.lists.now.items) c.requires c.in_ok-add_path-in-Numbers.ensures known in
    (refl, ((c.in-Numbers.path, c.in-Numbers.numbers.items), form, rw c.parts.ensures.value at has))

pub returns-in_ok-add_list-in-Numbers-clause-line : goal.returns-in_ok-add_list-in-Numbers-clause-line
returns-in_ok-add_list-in-Numbers-clause-line c =
    let form = rw c.in-Numbers.is at c.in_ok-read_line.ensures in
    let new : c.in_ok-add_path-in-Numbers.field-0 ≡ true = search (rules, tests) in
    let none = path-new _ _ c.parts.result.now _ (lists_of c.args.lists.now.items) c.requires c.in_ok-add_path-in-Numbers.ensures new in
    inr ((c.in-Numbers.path, c.in-Numbers.numbers.items), form, rw c.parts.ensures.value at none, c.in_ok-add_list-in-Numbers.ensures)
