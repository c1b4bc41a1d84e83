-- The verdict on a schedule: its first flaw, or none.
use Rattle.std.specs.Prelude.{◌≡◌, ℕ, ◌+◌, ◌<◌, List, length, take, get_or, ◌++◌}
use Rattle.std.specs.List.{concat, Contains}
use Rattle.cost_graph.specs.Graph.{CostGraph, vertex_total, Edge}
use Rattle.cost_graph.specs.Marks.{IsReady}
use Rattle.prompt_checker.specs.Schedule.{vertices_before, step_at, IsPrompt}
use Rattle.prompt_checker.specs.declared.schedule.FlawKind.{FlawKind}
use Rattle.prompt_checker.specs.declared.schedule.FlawKind.TheVariants.{EmptyStep, TooWide, Twice, NotReady, IdleCore, Inverted, Unfinished}
use Rattle.prompt_checker.specs.declared.schedule.Verdict.{Verdict}
use Rattle.prompt_checker.specs.declared.schedule.Verdict.TheVariants.{Prompt, Flaw}

-- the order of the kinds
abbrev pub rank : FlawKind → ℕ
rank EmptyStep = 1
rank TooWide = 2
rank (Twice v) = 3
rank (NotReady v) = 4
rank (IdleCore u) = 5
rank (Inverted v u) = 6
rank (Unfinished u) = 7

-- v stands at some place of the line that has the property, and no place before it has
abbrev pub IsFirstOf : List ℕ → (ℕ → ℕ → Type 0) → ℕ → Type 0
IsFirstOf line P v = (j : ℕ) × (j < length line) × (get_or line j 0 ≡ v) × P j v × ((k : ℕ) → k < j → P k (get_or line k 0) → ⊥)

-- u has the property, and no lesser number has
abbrev pub IsLeast : (ℕ → Type 0) → ℕ → Type 0
IsLeast P u = P u × ((w : ℕ) → w < u → P w → ⊥)

module _ (g : CostGraph) (below : ℕ → ℕ → Type 0) (cores : ℕ) (steps : List (List ℕ)) where
  -- v stands earlier in the line of step i, or in an earlier step
  abbrev pub StoodBefore : ℕ → ℕ → ℕ → Type 0
  StoodBefore i j v = Contains (vertices_before steps i ++ take j (step_at steps i)) v

  -- a parent of v is in no step before i
  abbrev pub LacksParent : ℕ → ℕ → Type 0
  LacksParent i v = (p : ℕ) × Edge g p v × (Contains (vertices_before steps i) p → ⊥)

  -- u is ready at step i, and not in it
  abbrev pub IsLeftOut : ℕ → ℕ → Type 0
  IsLeftOut i u = IsReady g (vertices_before steps i) u × (Contains (step_at steps i) u → ⊥)

  -- v stands below a vertex u that is left out
  abbrev pub Overtakes : ℕ → ℕ → ℕ → Type 0
  Overtakes i v u = IsLeftOut i u × below v u

  -- the flaw of this kind at step i, counted from 0
  abbrev pub HasFlaw : ℕ → FlawKind → Type 0
  HasFlaw i EmptyStep = (i < length steps) × (length (step_at steps i) ≡ 0)
  HasFlaw i TooWide = (i < length steps) × (cores < length (step_at steps i))
  HasFlaw i (Twice v) = (i < length steps) × IsFirstOf (step_at steps i) (λ j w. StoodBefore i j w) v
  HasFlaw i (NotReady v) = (i < length steps) × IsFirstOf (step_at steps i) (λ j w. LacksParent i w) v
  HasFlaw i (IdleCore u) = (i < length steps) × (length (step_at steps i) < cores) × IsLeast (IsLeftOut i) u
  HasFlaw i (Inverted v u) = (i < length steps) × IsFirstOf (step_at steps i) (λ j w. (x : ℕ) × Overtakes i w x) v × IsLeast (Overtakes i v) u
  HasFlaw i (Unfinished u) = (i ≡ length steps) × IsLeast (λ w. (w < vertex_total g) × (Contains (concat steps) w → ⊥)) u

  -- the flaw that decides: at the least step, of the least kind there
  pub record IsFlaw (i : ℕ) (kind : FlawKind) : Type 0 where
    pub here : HasFlaw i kind
    pub step : (j : ℕ) (other : FlawKind) → j < i → HasFlaw j other → ⊥
    pub least : (other : FlawKind) → rank other < rank kind → HasFlaw i other → ⊥

  -- prompt exactly where the schedule is; else the flaw that decides, with its step counted from 1
  abbrev pub IsVerdict : Verdict → Type 0
  IsVerdict Prompt = IsPrompt g below cores steps
  IsVerdict (Flaw f) = (i : ℕ) × (f.step ≡ i + 1) × IsFlaw i f.kind × (IsPrompt g below cores steps → ⊥)
