use Rattle.std.proofs.Common.{rules}
use Rattle.std.specs.List.Sorted.{IsBinarySearchResult}
use Rattle.std.specs.Ordering.{nat_cmp}
use Rattle.std.specs.Cmp.Lexicographic.{slice_cmp}
use Rattle.std.proofs.lemmas.Fn.{always_returns_same}
use Rattle.priml_syntax.specs.declared.record.Record.{Record}
use Rattle.priml_syntax.specs.Read.{read_record}
use Rattle.priml_syntax.proofs.Orders.{search_found, search_absent}
use Rattle.priml_syntax.proofs.record.Records.search.Goals as goal

by_path : (c : goal.After-binary_search_by) → IsBinarySearchResult (λ (r : Record). slice_cmp nat_cmp r.path c.args.path.now) c.deref.result.now c.binary_search_by.result
by_path c = c.binary_search_by.ensures.position (λ (r : Record). slice_cmp nat_cmp r.path c.args.path.now) (always_returns_same _ _ _ (λ a r g called. (search rules, search rules)))

pub returns-clause-found : goal.returns-clause-found
returns-clause-found c =
    rw (← c.self.view_is, ← c.deref.ensures.value) (search_found read_record c.deref.result.now c.args.path.now c.binary_search_by.result c.binary_search_by.ensures.bound (by_path c))

pub returns-clause-absent : goal.returns-clause-absent
returns-clause-absent c =
    rw (← c.self.view_is, ← c.deref.ensures.value) (search_absent read_record c.deref.result.now c.args.path.now c.binary_search_by.result (rw c.deref.ensures.value c.self.invariant) (by_path c))
