use Rattle.std.proofs.Common.{rules, ap}
use Rattle.std.specs.Ordering.{nat_cmp, is_lt}
use Rattle.std.specs.Cmp.Lexicographic.{slice_cmp}
use Rattle.std.proofs.lemmas.Cmp.{nat_list_cmp_total}
use Rattle.std.proofs.lemmas.Fn.{always_returns_same}
use Rattle.std.proofs.lemmas.List.MinMax.{ranks_by}
use Rattle.priml_syntax.specs.Inputs.{read_lists, RiseByPath}
use Rattle.priml_syntax.proofs.Given.{Stored}
use Rattle.priml_syntax.proofs.Sorting.{sorted_rise, sorted_same}
use Rattle.priml_syntax.proofs.inputs.Inputs.of_lists.Goals as goal

rising : (c : goal.After-sort_unstable_by) → RiseByPath (read_lists c.sort_unstable_by.new.self.items)
rising c =
    let facts = c.sort_unstable_by.ensures in
    let by_path = facts.sorted (λ (x : Stored) (y : Stored). is_lt (slice_cmp nat_cmp x.0 y.0)) (ranks_by nat_list_cmp_total (λ (e : Stored). e.0)) (always_returns_same _ _ _ (λ a r g called. (ap is_lt (search rules), search rules))) in
    sorted_rise c.args.lists.items c.sort_unstable_by.new.self.items c.requires facts.permutation by_path

pub invariant_of-result : goal.invariant_of-result
invariant_of-result c = rising c

pub returns : goal.returns
returns c = sorted_same c.args.lists.items c.sort_unstable_by.new.self.items c.requires (rising c) c.sort_unstable_by.ensures.permutation
