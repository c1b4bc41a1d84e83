use Rattle.std.proofs.Common.{rules}
use Rattle.std.specs.List.Sorted.{IsBinarySearchResult}
use Rattle.std.specs.Ordering.{nat_cmp}
use Rattle.std.specs.Cmp.Lexicographic.{slice_cmp}
use Rattle.std.proofs.lemmas.Fn.{always_returns_same}
use Rattle.priml_syntax.proofs.Given.{Stored, stored_found, stored_absent}
use Rattle.priml_syntax.proofs.inputs.search.Goals as goal

by_path : (c : goal.After-binary_search_by) → IsBinarySearchResult (λ (e : Stored). slice_cmp nat_cmp e.0 c.args.path.now) c.args.lists.now c.binary_search_by.result
by_path c = c.binary_search_by.ensures.position (λ (e : Stored). slice_cmp nat_cmp e.0 c.args.path.now) (always_returns_same _ _ _ (λ a r g called. (search rules, search rules)))

pub returns-clause-found : goal.returns-clause-found
returns-clause-found c = stored_found c.args.lists.now c.args.path.now c.binary_search_by.result c.requires c.binary_search_by.ensures.bound (by_path c)

pub returns-clause-absent : goal.returns-clause-absent
returns-clause-absent c = stored_absent c.args.lists.now c.args.path.now c.binary_search_by.result c.requires (by_path c)
