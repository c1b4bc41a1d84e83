use Rattle.std.proofs.Common.{◌≡◌, length, map}
use Rattle.priml_syntax.specs.Inputs.{read_lists as lists_of}
use Rattle.inputs_text.specs.Inputs.{IsInputs}
use Rattle.inputs_text.specs.Inside.Forms.{paths_in, paths_of}
use Rattle.inputs_text.proofs.inputs.read_lists.Given as goal

abbrev pub invariant-loop-line : goal.invariant-loop-line
invariant-loop-line l = IsInputs (map (λ x. x.now) l.yielded) (lists_of l.lists.items) × (paths_in l.paths ≡ paths_of (lists_of l.lists.items)) × (l.number ≡ length l.yielded)
