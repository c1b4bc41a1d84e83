use Rattle.std.proofs.Common.{◌++◌, ◌∷◌, [], ◌+◌, ◌<◌, length, drop, subst, sym, ap, ◌∙◌, arith, append_assoc}
use Rattle.std.specs.List.{All, flat_map}
use Rattle.std.specs.String.{string_bytes}
use Rattle.std.proofs.lemmas.List.{at_drop_more}
use Rattle.std.proofs.lemmas.List.Concat.{flat_map-cons}
use Rattle.cost_graph.specs.Graph.{vertex_total}
use Rattle.cost_graph.proofs.Grown.{list_at, lists_length}
use Rattle.prompt_checker.specs.Read.{steps_of}
use Rattle.prompt_checker.specs.Text.{step_line}
use Rattle.prompt_checker.proofs.text.plan_text.Goals as goal

pub push_step-requires : goal.push_step-requires
push_step-requires c =
    let all = c.args.schedule.now.steps.items in
    let i = c.loop-i.i in
    let lt : i < length all = omega (arith, c.loop-i-test.true, c.len-i-end.ensures) in
    let lt' : i < length (steps_of c.args.schedule.now) = omega (arith, lt, lists_length all) in
    subst (All (λ v. v < vertex_total c.args.graph.now)) (list_at all i c.index.result.now lt c.index.ensures) (c.requires i [] lt')

pub loop-i-preserved : goal.loop-i-preserved
loop-i-preserved c =
    let g = c.args.graph.now in
    let all = c.args.schedule.now.steps.items in
    let steps = steps_of c.args.schedule.now in
    let i = c.loop-i.i in
    let lt : i < length all = omega (arith, c.loop-i-test.true, c.len-i-end.ensures) in
    let lt' : i < length steps = omega (arith, lt, lists_length all) in
    let at = list_at all i c.index.result.now lt c.index.ensures in
    let now = string_bytes c.loop-i.text in
    let rest = flat_map (step_line g) (drop (i + 1) steps) in
    let split = at_drop_more (flat_map (step_line g)) steps i [] lt' ∙ ap (λ s. flat_map (step_line g) (s ∷ drop (i + 1) steps)) at ∙ flat_map-cons (step_line g) c.index.result.now.items (drop (i + 1) steps) in
    ap (λ b. b ++ rest) c.in_ok-push_step.ensures ∙ append_assoc now (step_line g c.index.result.now.items) rest ∙ ap (λ z. now ++ z) (sym split) ∙ c.loop-i.invariant
