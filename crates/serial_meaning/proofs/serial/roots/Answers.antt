use Rattle.std.proofs.Common.{ℕ, ◌-◌, ◌++◌, [], ◌∷◌, List, length, ◌∙◌, ap}
use Rattle.core_steps.specs.Moves.{read_job}
use Rattle.serial_meaning.specs.Inside.Serial.{roots_below}
use Rattle.serial_meaning.proofs.Stack.{one_root}
use Rattle.serial_meaning.proofs.serial.roots.Goals as goal

pub roots-preserved : goal.roots-preserved
roots-preserved c =
    ap (λ xs. xs ++ roots_below (c.roots.left - 1)) (c.in_ok-push.ensures.items ∙ ap (λ (p : List ℕ). c.roots.active.items ++ record { path = p; children = 0 } ∷ []) c.in_ok-path.ensures) ∙
    one_root c.roots.left c.roots.active.items (roots_below (length (read_job c.args.job.now).program.mains)) c.roots-test.true c.roots.invariant
