-- What a worker begins with and what it leaves may go to another thread, and threads may share what a worker's closure holds.
use mathlib.Core.List.{[], ◌∷◌}
use mir.Syntax.{Sym}
use denote.RattleType.{RattleType}
use denote.Param.Send.{IsSend, IsSync, sendable}
use denote.Param.SendFields.{as_row_sync, declared_send, declared_sync}
use denote.Struct.Field.{row_field}
use denote.Struct.Tuple.{TupleAt, type_at}
use Rattle.std.proofs.Crossing.{crosses}
use Rattle.std.specs.contracts.sync.atomic.AtomicU64 as AtomicU64
use Rattle.priml_syntax.proofs.block.Action.TheLaws.TheKnot as block
use Rattle.priml_syntax.proofs.expr.ExprForm.TheLaws.TheKnot as expr
use Rattle.priml_syntax.proofs.ty.Ty.TheLaws.TheKnot as ty
use Rattle.priml_syntax.proofs.value.Value.TheLaws.TheKnot as value
use Rattle.type_rules.specs.contracts.job.Job as Job
use Rattle.join_board.proofs.Crossing.{seat_send}
use Rattle.steal_runtime.specs.contracts.parts.Duty as Duty
use Rattle.steal_runtime.specs.contracts.parts.Left as Left
use Rattle.steal_runtime.specs.contracts.parts.Part as Part

pub left_send : IsSend Left.the_row
left_send = declared_send Left.the_type (seat_send, (search sendable, tt))

duty_send : IsSend Duty.the_row
duty_send = search (crosses, sendable) depth 20

pub part_send : (L : RattleType) → IsSend L → IsSend (Part.the_row L)
part_send L s = declared_send (Part.the_type L) (duty_send, (search (s, sendable), (seat_send, tt)))

pub job_sync : IsSync Job.the_row
job_sync = search (crosses, block.crosses, expr.crosses, ty.crosses, value.crosses, sendable) depth 60 fits 20000

pub number_sync : IsSync AtomicU64.the_row
number_sync = search (crosses, sendable)

-- of a closure with five captures
pub five_sync : (ν : Sym) (A B C D E : RattleType) → IsSync A → IsSync B → IsSync C → IsSync D → IsSync E → IsSync (TupleAt ν (A ∷ B ∷ C ∷ D ∷ E ∷ []))
five_sync ν A B C D E a b c d e = declared_sync (type_at ν (A ∷ B ∷ C ∷ D ∷ E ∷ [])) (
  as_row_sync (row_field A) a,
  (as_row_sync (row_field B) b, (as_row_sync (row_field C) c, (as_row_sync (row_field D) d, (as_row_sync (row_field E) e, tt)))),
)
