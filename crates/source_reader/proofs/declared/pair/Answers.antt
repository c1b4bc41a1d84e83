use Rattle.std.proofs.Common.{arith, ap, ◌++◌, length}
use Rattle.source_reader.specs.declared.faults.What.TheVariants.{Pairs}
use Rattle.source_reader.specs.Faults.{prio_faults, room_faults}
use Rattle.source_reader.specs.Inside.Known.{env_in}
use Rattle.source_reader.proofs.Lists.{gives_first, found_first, full, room}
use Rattle.source_reader.proofs.declared.pair.Goals as goal

pub returns-then-len-ge-MOST_PAIRS-clause-faults : goal.returns-then-len-ge-MOST_PAIRS-clause-faults
returns-then-len-ge-MOST_PAIRS-clause-faults c = full c.args.at (length c.args.pairs.now.items) 256 Pairs (prio_faults (env_in c.args.names.now) c.args.low.now ++ prio_faults (env_in c.args.names.now) c.args.high.now) (omega (arith, c.len.ensures, c.if-len-ge-MOST_PAIRS.true))

pub returns-in_err-low-clause-faults : goal.returns-in_err-low-clause-faults
returns-in_err-low-clause-faults c =
    let low = prio_faults (env_in c.args.names.now) c.args.low.now in
    let high = prio_faults (env_in c.args.names.now) c.args.high.now in
    let e = c.in_err-low.field-0.0 in
    let r = room c.args.at (length c.args.pairs.now.items) 256 Pairs (omega (arith, c.len.ensures, c.if-len-ge-MOST_PAIRS.false)) in
    found_first (room_faults c.args.at (length c.args.pairs.now.items) 256 Pairs ++ (low ++ high)) e _ c.from_residual.ensures.1
    (gives_first _ low high e (ap (λ v. v ++ (low ++ high)) r) c.in_err-low.ensures)
