use Rattle.std.proofs.Common.{◌-◌, ◌≤◌}
use Rattle.core_steps.specs.Configs.{IsConfig, slots_of}
use Rattle.core_steps.specs.Moves.{read_job}
use Rattle.serial_meaning.specs.Inside.Serial.{Serial}
use Rattle.serial_meaning.proofs.serial.run.Given as goal

abbrev pub invariant-steps : goal.invariant-steps
invariant-steps l =
    record {
      config : IsConfig (read_job l.job) l.config;
      serial : Serial (read_job l.job) l.steps (slots_of l.config) l.active.items;
      within : l.steps ≤ l.limit;
    }

abbrev pub decreases-steps : goal.decreases-steps
decreases-steps l = l.limit - l.steps
