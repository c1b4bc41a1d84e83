use Rattle.std.proofs.Common.{◌≡◌, ℕ, ◌<◌, ◌≤◌, List, Bool, true, false, length, get_or, set, Some, None, ◌++◌, sym, ap, ◌∙◌, subst, arith}
use Rattle.std.specs.List.{All, Contains}
use Rattle.std.proofs.lemmas.List.{get_or_read}
use Rattle.std.proofs.lemmas.List.Elements.{All-contains}
use Rattle.cost_graph.specs.Marks.{is_marked}
use Rattle.prompt_checker.specs.Inside.Watch.{IsFound, WasMarked, AreStood}
use Rattle.prompt_checker.proofs.Marked.{new_more, found_again, none_again, marked_all, stood_after, found_stands}
use Rattle.prompt_checker.proofs.marks.first_again.Goals as goal

small : (line : List ℕ) (n : ℕ) → All (λ v. v < n) line → (v : ℕ) → Contains line v → v < n
small line n all v c = All-contains (λ w. w < n) line v all c

-- whether a vertex of the line is marked, as it was read
read_mark : (line l : List ℕ) (stood : List Bool) (i : ℕ) (b : Bool) → l ≡ line → get_or line i 0 < length stood → b ≡ get_or stood (get_or l i 0) b → is_marked stood (get_or line i 0) ≡ b
read_mark line l stood i b same fits read =
    sym (get_or_read stood (get_or line i 0) b fits (read ∙ ap (λ (k : List ℕ). get_or stood (get_or k i 0) b) same) false)

pub returns-then-index-clause-first : goal.returns-then-index-clause-first
returns-then-index-clause-first c = λ done are.
    let line = c.args.line.now.items in
    let i = c.loop-vertex.vertex-index in
    let same = c.deref-vertex-items.ensures.value in
    let lt : i < length line = omega (arith, c.loop-vertex-test.true, ap length same) in
    let mark = read_mark line c.deref-vertex-items.result.now c.loop-vertex.stood.items i c.index.result.now same (omega (arith, c.requires i 0 lt, c.loop-vertex.invariant.long)) c.index.ensures in
    found_stands c.args.stood.now.items done are line (small line (length c.args.stood.now.items) c.requires) (Some (get_or c.deref-vertex-items.result.now i 0))
    (subst (λ w. IsFound line (WasMarked c.args.stood.now.items line) (Some w)) (sym (ap (λ (l : List ℕ). get_or l i 0) same))
    (found_again c.args.stood.now.items line c.loop-vertex.stood.items i lt c.loop-vertex.invariant (mark ∙ c.if-index.true)))

pub loop-vertex-preserved : goal.loop-vertex-preserved
loop-vertex-preserved c =
    let stood = c.loop-vertex.stood.items in
    let i = c.loop-vertex.vertex-index in
    let same = c.deref-vertex-items.ensures.value in
    let lt : i < length c.args.line.now.items = omega (arith, c.loop-vertex-test.true, ap length same) in
    let mark = read_mark c.args.line.now.items c.deref-vertex-items.result.now stood i c.index.result.now same (omega (arith, c.requires i 0 lt, c.loop-vertex.invariant.long)) c.index.ensures in
    new_more c.args.stood.now.items c.args.line.now.items stood (set stood (get_or c.deref-vertex-items.result.now i 0) true) i lt c.loop-vertex.invariant (mark ∙ c.if-index.false)
    (ap (λ (l : List ℕ). set stood (get_or l i 0) true) same)

pub returns : goal.returns
returns c =
    let line = c.args.line.now.items in
    let stood = c.loop-vertex.stood.items in
    let i = c.loop-vertex.vertex-index in
    let same = c.deref-vertex-items.ensures.value in
    let le : length line ≤ i = omega (arith, c.loop-vertex-test.false, ap length same) in
    let e : i ≡ length line = omega (arith, le, c.loop-vertex.auto.vertex-index-end, ap length same) in
    let old = c.args.stood.now.items in
    let within = small line (length old) c.requires in
    record {
      first = λ done are. found_stands old done are line within None (none_again old line stood i le c.loop-vertex.invariant);
      marked = λ _ done are. subst (λ m. AreStood m (done ++ line)) (sym (marked_all old line stood i e c.loop-vertex.invariant)) (stood_after old done are line within);
      covers = c.loop-vertex.invariant.long;
    }
