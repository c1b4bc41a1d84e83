-- What holds of the text of every schedule, and of every schedule.
use Rattle.std.specs.Prelude.{◌⊎◌, ℕ, ◌<◌, List}
use Rattle.std.specs.List.{All}
use Rattle.cost_graph.specs.Graph.{CostGraph, vertex_total, IsVertexBelow}
use Rattle.prompt_checker.specs.declared.reader.ScheduleFault.{ScheduleFault}
use Rattle.prompt_checker.specs.declared.schedule.Verdict.{Verdict}
use Rattle.prompt_checker.specs.ScheduleText.{AreStepLines, IsFirstFault}
use Rattle.prompt_checker.specs.Verdict.{IsVerdict}

-- all lines are a schedule of the graph or have a first fault
abbrev pub LinesAreRead : Type 0
LinesAreRead = (g : CostGraph) (ls : List (List ℕ)) → ((steps : List (List ℕ)) × AreStepLines g ls steps) ⊎ ((f : ScheduleFault) × IsFirstFault g ls f)

-- every schedule of vertices of a graph has a verdict
abbrev pub SchedulesAreJudged : Type 0
SchedulesAreJudged =
    (g : CostGraph) (pairs : List (ℕ × ℕ)) (cores : ℕ) (steps : List (List ℕ)) → All (λ step. All (λ v. v < vertex_total g) step) steps →
    (v : Verdict) × IsVerdict g (IsVertexBelow g pairs) cores steps v
