use Rattle.std.proofs.Common.{◌≡◌, ◌++◌, ◌+◌, ℕ}
use Rattle.core_steps.specs.Configs.{slots_of}
use Rattle.core_steps.specs.Moves.{read_job}
use Rattle.serial_meaning.specs.Inside.Serial.{Serial, left_of}
use Rattle.serial_meaning.proofs.Stack.{goes_on, may_spawn, serial_on, on_ok}
use Rattle.serial_meaning.proofs.serial.step.Goals as goal

pub advance-requires-clause-goes : goal.advance-requires-clause-goes
advance-requires-clause-goes c =
    goes_on (read_job c.args.job.now) c.requires.serial.0 (slots_of c.args.config.now) c.args.active.now.items c.pop.new.self.items c.in-Some.top c.requires.serial.1 c.in-Some.ensures.items

pub put_back-requires : goal.put_back-requires
put_back-requires c =
    may_spawn (read_job c.args.job.now) c.requires.serial.0 (slots_of c.args.config.now) c.args.active.now.items c.pop.new.self.items c.in-Some.top c.in_ok-event-in-Some.event (slots_of c.advance.new.config)
    c.requires.serial.1 c.in-Some.ensures.items c.in_ok-event-in-Some.ensures.goes

pub returns-clause-serial : goal.returns-clause-serial
returns-clause-serial c =
    let job = read_job c.args.job.now in
    on_ok c.put_back.result (c.put_back.new.active.items ≡ c.pop.new.self.items ++ left_of c.in-Some.top c.in_ok-event-in-Some.event)
    ((n : ℕ) → Serial job n (slots_of c.args.config.now) c.args.active.now.items → Serial job (n + 1) (slots_of c.advance.new.config) c.put_back.new.active.items)
    (λ left n s. serial_on job n (slots_of c.args.config.now) c.args.active.now.items c.pop.new.self.items c.in-Some.top c.in_ok-event-in-Some.event (slots_of c.advance.new.config) c.put_back.new.active.items
    s c.in-Some.ensures.items c.in_ok-event-in-Some.ensures.goes left) c.put_back.ensures
