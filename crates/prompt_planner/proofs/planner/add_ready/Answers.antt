use Rattle.std.proofs.Common.{◌≡◌, ℕ, ◌↔◌, ◌⊎◌, take, get_or, length, List, arith, subst, ap, ◌∙◌}
use Rattle.std.specs.List.{Contains}
use Rattle.std.proofs.lemmas.Grind.{common_steps}
use Rattle.std.specs.BTreeSet.{insert_key}
use Rattle.prompt_checker.specs.Plan.{pair_cmp}
use Rattle.prompt_planner.proofs.Keys.{added_more}
use Rattle.prompt_planner.proofs.planner.add_ready.Goals as goal

pub loop-vertex-preserved : goal.loop-vertex-preserved
loop-vertex-preserved c =
    let same = c.deref-vertex-items.ensures.value in
    added_more c.args.lanes.now c.args.vertices.now.items c.loop-vertex.vertex-index c.args.ready.now.keys c.loop-vertex.ready.keys c.insert.new.self.keys (omega (arith, c.loop-vertex-test.true, ap length same))
    (c.in_ok-insert.ensures.keys ∙ ap (λ (l : List ℕ). insert_key pair_cmp c.loop-vertex.ready.keys (get_or c.args.lanes.now (get_or l c.loop-vertex.vertex-index 0) 0, get_or l c.loop-vertex.vertex-index 0)) same) c.loop-vertex.invariant

pub returns : goal.returns
returns c =
    let all : take c.loop-vertex.vertex-index c.args.vertices.now.items ≡ c.args.vertices.now.items = grind (arith, common_steps) in
    subst (λ l. (k : ℕ × ℕ) → Contains c.loop-vertex.ready.keys k ↔ (Contains c.args.ready.now.keys k ⊎ (Contains l k.1 × (k.0 ≡ get_or c.args.lanes.now k.1 0)))) all c.loop-vertex.invariant
