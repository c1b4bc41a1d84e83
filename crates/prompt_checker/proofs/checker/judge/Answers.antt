use Rattle.std.proofs.Common.{◌≡◌, ◌↔◌, ℕ, ◌+◌, ◌<◌, ◌++◌, Bool, List, [], true, false, Some, None, length, get_or, replicate, refl, sym, ap, ◌∙◌, subst, arith, rules}
use Rattle.std.proofs.lemmas.Grind.{common_steps}
use Rattle.std.specs.List.{All, Contains}
use Rattle.std.specs.BTreeSet.{BTreeSet}
use Rattle.std.specs.declared.vec.Vec.{Vec}
use Rattle.std.specs.declared.alloc.Global.{Global}
use Rattle.std.proofs.lemmas.Bool.{both_ways}
use Rattle.std.proofs.lemmas.List.{length-replicate}
use Rattle.std.proofs.lemmas.List.Elements.{All-contains}
use Rattle.cost_graph.specs.Graph.{CostGraph, vertex_total, IsVertexBelow}
use Rattle.cost_graph.specs.Marks.{IsReady, BecomesReady}
use Rattle.cost_graph.specs.Frontier.{Progress}
use Rattle.cost_graph.proofs.Grown.{list_at, lists_length}
use Rattle.cost_graph.proofs.Members.{no_member}
use Rattle.cost_graph.proofs.Frontiers.{no_marks}
use Rattle.prompt_checker.specs.declared.schedule.Schedule.{Schedule}
use Rattle.prompt_checker.specs.Read.{steps_of}
use Rattle.prompt_checker.specs.Schedule.{step_at}
use Rattle.prompt_checker.specs.Verdict.{IsVerdict}
use Rattle.prompt_checker.specs.Inside.Watch.{AreStood, IsBroken, IsUnfair}
use Rattle.prompt_checker.proofs.Flaws.{AreLeft}
use Rattle.prompt_checker.specs.declared.schedule.Verdict.{Verdict}
use Rattle.prompt_checker.specs.declared.schedule.Verdict.TheVariants.{Prompt, Flaw}
use Rattle.prompt_checker.specs.declared.schedule.FlawKind.TheVariants.{Unfinished}
use Rattle.prompt_checker.proofs.One.{verdict_one}
use Rattle.prompt_checker.proofs.Judging.{IsJudging, judging_start, judging_next, line_ready, broken_verdict, unfair_verdict, missing_verdict, prompt_verdict}
use Rattle.prompt_checker.proofs.checker.judge.Goals as goal

-- the line of a step, as indexing gives it
line_is : (s : Schedule) (i : ℕ) (l : Vec ℕ Global) → i < length s.steps.items → l ≡ get_or s.steps.items i l → step_at (steps_of s) i ≡ l.items
line_is s i l lt e = list_at s.steps.items i l lt e

in_steps : (s : Schedule) (i : ℕ) → i < length s.steps.items → i < length (steps_of s)
in_steps s i lt = omega (arith, lt, lists_length s.steps.items)

small_line : (s : Schedule) (n i : ℕ) (l : Vec ℕ Global) → All (λ x. All (λ v. v < n) x) (steps_of s) → i < length s.steps.items → l ≡ get_or s.steps.items i l → All (λ v. v < n) l.items
small_line s n i l all lt e = subst (All (λ v. v < n)) (line_is s i l lt e) (all i [] (in_steps s i lt))

small_steps : (s : Schedule) (n : ℕ) → All (λ x. All (λ v. v < n) x) (steps_of s) → (j v : ℕ) → j < length (steps_of s) → Contains (step_at (steps_of s) j) v → v < n
small_steps s n all j v lt k = All-contains (λ w. w < n) (step_at (steps_of s) j) v (all j [] lt) k

-- what a verdict shows
record Shows (g : CostGraph) (pairs : List (ℕ × ℕ)) (cores : ℕ) (steps : List (List ℕ)) (v : Verdict) : Type 0 where
  verdict : IsVerdict g (IsVertexBelow g pairs) cores steps v
  only : (other : Verdict) → IsVerdict g (IsVertexBelow g pairs) cores steps other → other ≡ v

shows : (g : CostGraph) (pairs : List (ℕ × ℕ)) (cores : ℕ) (steps : List (List ℕ)) (v w : Verdict) → w ≡ v → IsVerdict g (IsVertexBelow g pairs) cores steps v → Shows g pairs cores steps w
shows g pairs cores steps v w e h =
    let k = subst (IsVerdict g (IsVertexBelow g pairs) cores steps) (sym e) h in
    record { verdict = k; only = λ other o. verdict_one g (IsVertexBelow g pairs) cores steps other w o k }

pub add_ready-requires-clause-vertices : goal.add_ready-requires-clause-vertices
add_ready-requires-clause-vertices c = subst (λ (p : Progress). All (λ v. v < vertex_total p.graph) c.in_ok-start.start.items) c.in_ok-frontier.ensures c.in_ok-start.ensures.within

pub add_ready-requires-clause-priorities : goal.add_ready-requires-clause-priorities
add_ready-requires-clause-priorities c =
    let long : length c.in_ok-ready.ready.items ≡ length c.args.order.now.names = c.in_ok-ready.ensures.long ∙ c.count.ensures.value in
    λ k d lt. subst (λ (n : ℕ). (get_or c.args.graph.now.threads k d).priority < n) (sym long) (c.requires.priorities k d lt)

none_stood : (n v : ℕ) → (get_or (replicate n false) v false ≡ true) ↔ Contains [] v
none_stood n v = (λ m. absurd (both_ways _ (no_marks n v) m), λ c. absurd (no_member v c))

pub loop-i-init : goal.loop-i-init
loop-i-init c =
    let g = c.args.graph.now in
    let a = c.in_ok-stood.ensures.items_if_clones_equal in
    let n = c.vertex_count-count.result in
    let t : c.in_ok-stood.stood.items ≡ replicate n false = first_of (search rules, grind (arith, common_steps)) in
    let long : length c.add_ready.new.ready.items ≡ length c.args.order.now.names = c.add_ready.ensures.long ∙ c.in_ok-ready.ensures.long ∙ c.count.ensures.value in
    let covers : length c.in_ok-stood.stood.items ≡ vertex_total g = ap length t ∙ length-replicate n false ∙ c.vertex_count-count.ensures.count in
    let found = subst (λ (p : Progress). (v : ℕ) → Contains c.in_ok-start.start.items v ↔ IsReady p.graph p.ran v) c.in_ok-frontier.ensures c.in_ok-start.ensures.are in
    judging_start g c.args.order.now.pairs (length c.args.order.now.names) c.args.cores (steps_of c.args.schedule.now) c.in_ok-frontier.frontier c.in_ok-stood.stood.items c.in_ok-start.start.items c.in_ok-ready.ready.items c.add_ready.new.ready.items
    c.in_ok-frontier.ensures (subst (λ (m : List Bool). AreStood m []) (sym t) (none_stood n)) covers long c.in_ok-ready.ensures.empty found c.in_ok-add_ready.ensures.held

line_small : (g : CostGraph) (pairs : List (ℕ × ℕ)) (count cores : ℕ) (s : Schedule) (i : ℕ) (at : Progress) (stood : List Bool) (sets : List (BTreeSet ℕ)) (l : Vec ℕ Global) → IsJudging g pairs count cores (steps_of s) i at stood sets
    → All (λ x. All (λ v. v < vertex_total g) x) (steps_of s) → i < length s.steps.items → l ≡ get_or s.steps.items i l → All (λ v. v < vertex_total at.graph) l.items
line_small g pairs count cores s i at stood sets l now all lt e = subst (λ (p : Progress). All (λ v. v < vertex_total p.graph) l.items) (sym now.at_is) (small_line s (vertex_total g) i l all lt e)

moved_to : (p q : Progress) (ran : List ℕ) → q.graph ≡ p.graph → q.ran ≡ ran → q ≡ record { graph = p.graph; ran = ran }
moved_to p q ran a b = λ i. record { graph = a i; ran = b i }

pub broken-requires-clause-stood : goal.broken-requires-clause-stood
broken-requires-clause-stood c = subst (λ (p : Progress). AreStood c.loop-i.stood.items p.ran) (sym c.loop-i.invariant.at_is) c.loop-i.invariant.are

pub broken-requires-clause-covers : goal.broken-requires-clause-covers
broken-requires-clause-covers c = subst (λ (p : Progress). length c.loop-i.stood.items ≡ vertex_total p.graph) (sym c.loop-i.invariant.at_is) c.loop-i.invariant.covers

pub broken-requires-clause-vertices : goal.broken-requires-clause-vertices
broken-requires-clause-vertices c =
    let lt : c.loop-i.i < length c.args.schedule.now.steps.items = omega (arith, c.loop-i-test.true, c.len-i-end.ensures) in
    line_small c.args.graph.now c.args.order.now.pairs (length c.args.order.now.names) c.args.cores c.args.schedule.now c.loop-i.i c.loop-i.frontier c.loop-i.stood.items c.loop-i.ready.items c.index-line.result.now c.loop-i.invariant c.requires.vertices lt c.index-line.ensures

pub unfair-requires-clause-vertices : goal.unfair-requires-clause-vertices
unfair-requires-clause-vertices c =
    let lt : c.loop-i.i < length c.args.schedule.now.steps.items = omega (arith, c.loop-i-test.true, c.len-i-end.ensures) in
    small_line c.args.schedule.now (vertex_total c.args.graph.now) c.loop-i.i c.index-line.result.now c.requires.vertices lt c.index-line.ensures

pub step-requires : goal.step-requires
step-requires c =
    let g = c.args.graph.now in
    let s = c.args.schedule.now in
    let i = c.loop-i.i in
    let at = c.loop-i.frontier in
    let lt : i < length s.steps.items = omega (arith, c.loop-i-test.true, c.len-i-end.ensures) in
    let is = line_is s i c.index-line.result.now lt c.index-line.ensures in
    let fine = subst (λ l. IsBroken at.graph c.args.cores at.ran l None) (sym is) c.in_default.ensures.flaw in
    λ v k.
    line_ready g c.args.order.now.pairs (length c.args.order.now.names) c.args.cores (steps_of s) i at c.loop-i.stood.items c.loop-i.ready.items c.loop-i.invariant (small_steps s (vertex_total g) c.requires.vertices)
    (in_steps s i lt) fine v (subst (λ l. Contains l v) (sym is) k)

pub flaw_at-requires : goal.flaw_at-requires
flaw_at-requires c =
    let lt : c.loop-i.i < length c.args.schedule.now.steps.items = omega (arith, c.loop-i-test.true, c.len-i-end.ensures) in
    omega (arith, lt, c.args.schedule.now.steps.ok.0, c.args.schedule.now.steps.ok.1, c.args.schedule.now.steps.small)

pub first_missing-requires : goal.first_missing-requires
first_missing-requires c = c.vertex_count-count.ensures.count ∙ ap (λ (p : Progress). vertex_total p.graph) (sym c.loop-i.invariant.at_is)

pub returns-in-Some : goal.returns-in-Some
returns-in-Some c =
    let g = c.args.graph.now in
    let s = c.args.schedule.now in
    let i = c.loop-i.i in
    let lt : i < length s.steps.items = omega (arith, c.loop-i-test.true, c.len-i-end.ensures) in
    let at = line_is s i c.index-line.result.now lt c.index-line.ensures in
    let h = shows g c.args.order.now.pairs c.args.cores (steps_of s) (Flaw (record { step = i + 1; kind = c.in-Some.kind })) c.flaw_at.result c.flaw_at.ensures
    (broken_verdict g c.args.order.now.pairs (length c.args.order.now.names) c.args.cores (steps_of s) i c.loop-i.frontier c.loop-i.stood.items c.loop-i.ready.items c.loop-i.invariant (small_steps s (vertex_total g) c.requires.vertices)
    c.in-Some.kind (in_steps s i lt) (subst (λ l. IsBroken c.loop-i.frontier.graph c.args.cores c.loop-i.frontier.ran l (Some c.in-Some.kind)) (sym at) c.in-Some.ensures.flaw)) in
    record { verdict = h.verdict; only = h.only }

pub returns-in-Some-unfair : goal.returns-in-Some-unfair
returns-in-Some-unfair c =
    let g = c.args.graph.now in
    let s = c.args.schedule.now in
    let i = c.loop-i.i in
    let lt : i < length s.steps.items = omega (arith, c.loop-i-test.true, c.len-i-end.ensures) in
    let at = line_is s i c.index-line.result.now lt c.index-line.ensures in
    let left : AreLeft g c.loop-i.ready.items c.unfair.new.ready.items c.index-line.result.now.items = record { are = c.unfair.ensures.held } in
    let h = shows g c.args.order.now.pairs c.args.cores (steps_of s) (Flaw (record { step = i + 1; kind = c.in-Some-unfair.kind })) c.flaw_at-in-Some-unfair.result c.flaw_at-in-Some-unfair.ensures
    (unfair_verdict g c.args.order.now.pairs (length c.args.order.now.names) c.args.cores (steps_of s) i c.loop-i.frontier c.loop-i.stood.items c.loop-i.ready.items c.loop-i.invariant (small_steps s (vertex_total g) c.requires.vertices)
    c.in-Some-unfair.kind c.unfair.new.ready.items (in_steps s i lt) (subst (AreLeft g c.loop-i.ready.items c.unfair.new.ready.items) (sym at) left)
    (subst (λ l. IsBroken c.loop-i.frontier.graph c.args.cores c.loop-i.frontier.ran l None) (sym at) c.in_default.ensures.flaw)
    (subst (λ l. IsUnfair g c.args.order.now.pairs c.args.cores c.unfair.new.ready.items l (Some c.in-Some-unfair.kind)) (sym at) c.in-Some-unfair.ensures.flaw)) in
    record { verdict = h.verdict; only = h.only }

pub add_ready-requires-in-loop-i-clause-vertices : goal.add_ready-requires-in-loop-i-clause-vertices
add_ready-requires-in-loop-i-clause-vertices c = subst (λ (p : Progress). All (λ v. v < vertex_total p.graph) c.in_ok-freed.freed.items) c.loop-i.invariant.at_is c.in_ok-freed.ensures.within

pub loop-i-preserved : goal.loop-i-preserved
loop-i-preserved c =
    let g = c.args.graph.now in
    let s = c.args.schedule.now in
    let pairs = c.args.order.now.pairs in
    let i = c.loop-i.i in
    let at = c.loop-i.frontier in
    let lt : i < length s.steps.items = omega (arith, c.loop-i-test.true, c.len-i-end.ensures) in
    let is = line_is s i c.index-line.result.now lt c.index-line.ensures in
    let left : AreLeft g c.loop-i.ready.items c.unfair.new.ready.items c.index-line.result.now.items = record { are = c.unfair.ensures.held } in
    let long : length c.add_ready-in-loop-i.new.ready.items ≡ length c.args.order.now.names = c.add_ready-in-loop-i.ensures.long ∙ c.unfair.ensures.long ∙ c.loop-i.invariant.long in
    judging_next g pairs (length c.args.order.now.names) c.args.cores (steps_of s) i at c.loop-i.stood.items c.loop-i.ready.items c.loop-i.invariant (small_steps s (vertex_total g) c.requires.vertices)
    c.step.new.self c.unfair.new.ready.items c.add_ready-in-loop-i.new.ready.items c.broken.new.stood.items c.in_ok-freed.freed.items (in_steps s i lt)
    (subst (AreLeft g c.loop-i.ready.items c.unfair.new.ready.items) (sym is) left)
    (subst (λ l. IsBroken at.graph c.args.cores at.ran l None) (sym is) c.in_default.ensures.flaw)
    (subst (λ l. IsUnfair g pairs c.args.cores c.unfair.new.ready.items l None) (sym is) c.in_default-unfair.ensures.flaw)
    (subst (λ l. AreStood c.broken.new.stood.items (at.ran ++ l)) (sym is) (c.in_default.ensures.stood refl))
    c.broken.ensures.covers
    (moved_to at c.step.new.self (at.ran ++ step_at (steps_of s) i) c.step.ensures.graph (c.in_ok-freed.ensures.ran ∙ ap (λ (l : List ℕ). at.ran ++ l) (sym is)))
    long
    (subst (λ l. (v : ℕ) → Contains c.in_ok-freed.freed.items v ↔ BecomesReady at.graph at.ran (at.ran ++ l) v) (sym is) c.in_ok-freed.ensures.freed)
    c.in_ok-add_ready-2.ensures.held

pub returns-in-Some-first_missing : goal.returns-in-Some-first_missing
returns-in-Some-first_missing c =
    let g = c.args.graph.now in
    let s = c.args.schedule.now in
    let i = c.loop-i.i in
    let e : i ≡ length s.steps.items = omega (arith, c.loop-i-test.false, c.len-i-end.ensures, c.loop-i.auto.i-end) in
    let end : i ≡ length (steps_of s) = omega (arith, e, lists_length s.steps.items) in
    let whole : i ≡ c.len.result = omega (arith, e, c.len.ensures) in
    let v = missing_verdict g c.args.order.now.pairs (length c.args.order.now.names) c.args.cores (steps_of s) i c.loop-i.frontier c.loop-i.stood.items c.loop-i.ready.items c.loop-i.invariant (small_steps s (vertex_total g) c.requires.vertices)
    c.in-Some-first_missing.vertex end c.in-Some-first_missing.ensures in
    let h = shows g c.args.order.now.pairs c.args.cores (steps_of s) (Flaw (record { step = c.len.result + 1; kind = Unfinished c.in-Some-first_missing.vertex })) c.flaw_at-in-Some-first_missing.result c.flaw_at-in-Some-first_missing.ensures
    (subst (λ n. IsVerdict g (IsVertexBelow g c.args.order.now.pairs) c.args.cores (steps_of s) (Flaw (record { step = n + 1; kind = Unfinished c.in-Some-first_missing.vertex }))) whole v) in
    record { verdict = h.verdict; only = h.only }

pub returns : goal.returns
returns c =
    let g = c.args.graph.now in
    let s = c.args.schedule.now in
    let i = c.loop-i.i in
    let end : i ≡ length (steps_of s) = omega (arith, c.loop-i-test.false, c.len-i-end.ensures, c.loop-i.auto.i-end, lists_length s.steps.items) in
    let v = prompt_verdict g c.args.order.now.pairs (length c.args.order.now.names) c.args.cores (steps_of s) i c.loop-i.frontier c.loop-i.stood.items c.loop-i.ready.items c.loop-i.invariant (small_steps s (vertex_total g) c.requires.vertices)
    end c.in-None.ensures in
    let h = shows g c.args.order.now.pairs c.args.cores (steps_of s) Prompt Prompt refl v in
    record { verdict = h.verdict; only = h.only }
