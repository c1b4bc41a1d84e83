use Rattle.std.proofs.Common.{◌≡◌, ◌++◌, drop}
use Rattle.std.specs.String.{string_bytes}
use Rattle.std.specs.List.{flat_map}
use Rattle.prompt_checker.specs.Read.{steps_of}
use Rattle.prompt_checker.specs.Text.{step_line, schedule_text}
use Rattle.prompt_checker.proofs.text.plan_text.Given as goal

abbrev pub invariant-loop-i : goal.invariant-loop-i
invariant-loop-i l = string_bytes l.text ++ flat_map (step_line l.graph) (drop l.i (steps_of l.schedule)) ≡ schedule_text l.graph (steps_of l.schedule)
