use Rattle.std.proofs.Common.{rules}
use Rattle.std.specs.List.Sorted.{IsBinarySearchResult}
use Rattle.std.specs.Ordering.{nat_cmp}
use Rattle.std.specs.Cmp.Lexicographic.{slice_cmp}
use Rattle.std.proofs.lemmas.Fn.{always_returns_same}
use Rattle.priml_syntax.specs.declared.record.Record.{Record}
use Rattle.priml_syntax.specs.Read.{read_record}
use Rattle.priml_syntax.proofs.Orders.{search_found, search_absent}
use Rattle.cost_graph.proofs.Parts.{search_ok, search_err}
use Rattle.cost_graph.proofs.records.search.Goals as goal

by_path : (c : goal.After-binary_search_by) → IsBinarySearchResult (λ (r : Record). slice_cmp nat_cmp r.path c.args.path.now) c.args.list.now c.binary_search_by.result
by_path c = c.binary_search_by.ensures.position (λ (r : Record). slice_cmp nat_cmp r.path c.args.path.now) (always_returns_same _ _ _ (λ a r g called. (search rules, search rules)))

pub returns-clause-found : goal.returns-clause-found
returns-clause-found c =
    search_ok c.args.list.now c.args.path.now c.binary_search_by.result (search_found read_record c.args.list.now c.args.path.now c.binary_search_by.result c.binary_search_by.ensures.bound (by_path c))

pub returns-clause-absent : goal.returns-clause-absent
returns-clause-absent c =
    search_err c.args.list.now c.args.path.now c.binary_search_by.result (search_absent read_record c.args.list.now c.args.path.now c.binary_search_by.result c.requires (by_path c))
