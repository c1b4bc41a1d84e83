use Rattle.std.proofs.Common.{arith, refl, ◌++◌, length}
use Rattle.source_reader.specs.declared.faults.Fault.TheVariants.{TooMany}
use Rattle.source_reader.specs.declared.faults.What.TheVariants.{Constraints}
use Rattle.source_reader.specs.declared.faults.ResolveStop.TheVariants as stop
use Rattle.source_reader.specs.Faults.{prio_faults, room_faults}
use Rattle.source_reader.specs.Inside.Known.{env_in}
use Rattle.source_reader.proofs.Lists.{gives_first, found_first, full}
use Rattle.source_reader.proofs.Declarations.{past}
use Rattle.source_reader.proofs.procedure.constrain.Goals as goal

pub returns-in_err-first-clause-faults : goal.returns-in_err-first-clause-faults
returns-in_err-first-clause-faults c =
    let env = env_in c.args.names.now in
    let low = prio_faults env c.args.low.now in
    let more = room_faults c.args.low.now.at (length c.args.all.now.items) 16 Constraints ++ prio_faults env c.args.high.now in
    let e = c.in_err-first.field-0.0 in
    found_first (low ++ more) e _ c.from_residual.ensures.1 (gives_first (low ++ more) low more e refl c.in_err-first.ensures)

pub returns-then-len-ge-MOST_CONSTRAINTS-clause-faults : goal.returns-then-len-ge-MOST_CONSTRAINTS-clause-faults
returns-then-len-ge-MOST_CONSTRAINTS-clause-faults c =
    let env = env_in c.args.names.now in
    let low = prio_faults env c.args.low.now in
    let high = prio_faults env c.args.high.now in
    let at = c.args.low.now.at in
    let have = length c.args.all.now.items in
    past (low ++ (room_faults at have 16 Constraints ++ high)) low (room_faults at have 16 Constraints ++ high) (stop.Fault (TooMany at Constraints)) refl c.in_ok-first.ensures.0
    (full at have 16 Constraints high (omega (arith, c.len.ensures, c.if-len-ge-MOST_CONSTRAINTS.true)))
