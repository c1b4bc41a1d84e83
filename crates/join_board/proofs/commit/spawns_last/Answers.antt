use Rattle.std.proofs.Common.{◌-◌, ◌<◌, length, ◌∙◌, arith}
use Rattle.join_board.proofs.Calls.{last_of, no_last}
use Rattle.join_board.proofs.commit.spawns_last.Goals as goal

pub returns-in-Some : goal.returns-in-Some
returns-in-Some c = let h = c.in-Some.ensures.item in let some_event : 0 < length c.args.events.now = h.3.0 in
    c.is_spawn.ensures ∙ last_of c.args.events.now (length c.args.events.now - 1) c.in-Some.event.now (omega (arith, some_event)) h.1

pub returns-in-None : goal.returns-in-None
returns-in-None c = no_last c.args.events.now c.in-None.ensures.item.3
