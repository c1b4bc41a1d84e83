use Rattle.std.proofs.Common.{rules}
use Rattle.std.specs.List.Sorted.{IsBinarySearchResult}
use Rattle.std.specs.Ordering.{nat_cmp}
use Rattle.std.specs.Cmp.Lexicographic.{slice_cmp}
use Rattle.std.proofs.lemmas.Fn.{always_returns_same}
use Rattle.core_steps.specs.declared.slot.Slot.{Slot}
use Rattle.core_steps.proofs.Searched.{slot_found, slot_absent}
use Rattle.core_steps.proofs.lookup.search.Goals as goal

by_path : (c : goal.After-binary_search_by) → IsBinarySearchResult (λ (s : Slot). slice_cmp nat_cmp s.local.path c.args.path.now) c.args.slots.now c.binary_search_by.result
by_path c = c.binary_search_by.ensures.position (λ (s : Slot). slice_cmp nat_cmp s.local.path c.args.path.now) (always_returns_same _ _ _ (λ a r g called. (search rules, search rules)))

pub returns-clause-found : goal.returns-clause-found
returns-clause-found c = slot_found c.args.slots.now c.args.path.now c.binary_search_by.result c.requires c.binary_search_by.ensures.bound (by_path c)

pub returns-clause-absent : goal.returns-clause-absent
returns-clause-absent c = slot_absent c.args.slots.now c.args.path.now c.binary_search_by.result c.requires (by_path c)
