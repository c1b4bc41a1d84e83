use Rattle.std.proofs.Common.{refl}
use Rattle.source_reader.proofs.Lists.{gives_first, found_first}
use Rattle.source_reader.proofs.declared.declare.Goals as goal

pub returns-in_err-once-in-Proc-clause-faults : goal.returns-in_err-once-in-Proc-clause-faults
returns-in_err-once-in-Proc-clause-faults c =
    rw c.in-Proc.is (found_first _ c.in_err-once-in-Proc.field-0.0 _ c.from_residual.ensures.1 (gives_first _ _ _ c.in_err-once-in-Proc.field-0.0 refl c.in_err-once-in-Proc.ensures.faults))
