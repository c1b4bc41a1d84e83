use Rattle.std.proofs.Common.{◌≡◌, ◌++◌, length}
use Rattle.core_steps.specs.Moves.{read_job}
use Rattle.serial_meaning.specs.Inside.Serial.{roots_below}
use Rattle.serial_meaning.proofs.serial.roots.Given as goal

abbrev pub invariant-roots : goal.invariant-roots
invariant-roots l = l.active.items ++ roots_below l.left ≡ roots_below (length (read_job l.job).program.mains)

abbrev pub decreases-roots : goal.decreases-roots
decreases-roots l = l.left
