use Rattle.std.proofs.Common.{◌≡◌, ◌≢◌, ◌+◌, ◌∷◌, [], length, sym, ap, ◌∙◌, subst, arith}
use Rattle.std.proofs.lemmas.Bool.{false≢true, ltb-true, lt-ltb}
use Rattle.cost_graph.specs.Records.{Part, parts_in}
use Rattle.cost_graph.specs.Inside.Tables.{part_nth}
use Rattle.cost_graph.proofs.Parts.{parts_length, nth_of, apart_in}
use Rattle.cost_graph.proofs.RootsCounted.{HasRootsBefore, other_on, root_on, roots_counted, gap_in}
use Rattle.cost_graph.proofs.finished.are_roots.Goals as goal
use Rattle.cost_graph.proofs.finished.are_roots.Goals.{in-Some+else-k-count, in_default}

pub returns-then-k-count : goal.returns-then-k-count
returns-then-k-count c =
    let rs = c.args.list.now in
    let i = c.loop-one.one-index in
    let here : (part_nth (parts_in rs) i).path ≡ c.in-Some.k ∷ [] = ap (λ (x : Part). x.path) (nth_of rs i c.one-item.result c.loop-one-test.true c.one-item.is) ∙ sym c.parts.ensures.value ∙ c.in-Some.ensures.some in
    (λ e. absurd (false≢true e), λ h. absurd (gap_in rs i c.loop-one.count c.in-Some.k c.requires c.loop-one.invariant.0 c.loop-one-test.true here c.if-k-count.true h))

pub loop-one-preserved : goal.loop-one-preserved
loop-one-preserved c =
    let rs = c.args.list.now in
    let i = c.loop-one.one-index in
    let before = c.loop-one.invariant in
    let path : (part_nth (parts_in rs) i).path ≡ c.parts.result.now = ap (λ (x : Part). x.path) (nth_of rs i c.one-item.result c.loop-one-test.true c.one-item.is) ∙ sym c.parts.ensures.value in
    elim c.match-root_number.branch [
      | in-Some+else-k-count w ↦
          let one : (part_nth (parts_in rs) i).path ≡ c.loop-one.count ∷ [] = path ∙ (w.in-Some.ensures.some ∙ ap (λ k. k ∷ []) w.if-k-count.false) in
          (subst (HasRootsBefore (parts_in rs) (i + 1)) (sym w.count-is) (root_on (parts_in rs) i c.loop-one.count before.0 one), omega (arith, w.count-is, before.1))
      | in_default w ↦
          let other : length (part_nth (parts_in rs) i).path ≢ 1 = λ e. w.in_default.ensures.none (ap length (sym path) ∙ e) in
          (subst (HasRootsBefore (parts_in rs) (i + 1)) (sym w.count-is) (other_on (parts_in rs) i c.loop-one.count before.0 other), omega (arith, w.count-is, before.1))
    ]

pub returns : goal.returns
returns c =
    let rs = c.args.list.now in
    let all : c.loop-one.one-index ≡ length (parts_in rs) = omega (arith, c.loop-one-test.false, c.loop-one.auto.one-index-end, parts_length rs) in
    let before : HasRootsBefore (parts_in rs) (length (parts_in rs)) c.loop-one.count = subst (λ n. HasRootsBefore (parts_in rs) n c.loop-one.count) all c.loop-one.invariant.0 in
    let counted = roots_counted (parts_in rs) c.loop-one.count (apart_in rs c.requires) before in
    (λ e. counted.0 (ltb-true 0 c.loop-one.count e), λ h. lt-ltb 0 c.loop-one.count (counted.1 h))
