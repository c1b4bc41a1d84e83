use Rattle.std.proofs.Common.{◌++◌, take, arith, length-take, length-append}
use Rattle.priml_io.proofs.Joins.{consumes_joined}
use Rattle.priml_io.proofs.whole.read_all.Goals as goal

pub returns-in_default-extend_from_slice-clause-bytes :
    goal.returns-in_default-extend_from_slice-clause-bytes
returns-in_default-extend_from_slice-clause-bytes g c =
    let old = c.loop-buf.bytes.items in
    let more = take c.in-Ok.count c.take.new.buf in (
      old ++ more,
      simp (length-append, length-take) (omega (arith, length-take c.min-room.result c.loop-buf.buf)),
      consumes_joined _ _ _ _ _ c.loop-buf.invariant.taken c.in-Ok.ensures.bytes.0,
    )
