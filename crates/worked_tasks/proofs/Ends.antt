-- The outcomes that are fed are those of their threads.
use Rattle.std.proofs.Common.{◌≡◌, ℕ, zero, suc, ◌<◌, List, [], ◌∷◌, ◌++◌, length, map, Some, sym, ◌∙◌, ap, subst, arith}
use Rattle.std.specs.Prelude.{slice_index_or}
use Rattle.std.specs.List.{Contains}
use Rattle.std.specs.Option.{option_map}
use Rattle.priml_syntax.specs.declared.record.Record.{Record}
use Rattle.priml_syntax.specs.declared.value.Outcome.{Outcome}
use Rattle.priml_syntax.specs.Read.{read_outcome, read_record}
use Rattle.priml_syntax.specs.Records.{Each}
use Rattle.priml_syntax.specs.Values.{Entry}
use Rattle.core_steps.specs.Determined.{EndsWith}
use Rattle.core_steps.specs.Steps.{Job}
use Rattle.core_steps.proofs.Agree.{finished_is_complete}
use Rattle.core_steps.proofs.Complete.{IsRecord}
use Rattle.core_steps.proofs.StepFacts.{ended_phase}
use Rattle.core_steps.proofs.Traces.{traced}
use Rattle.trace_book.specs.Segments.{SegmentFields}
use Rattle.task_state.specs.Segments.{IsSegmentOf}
use Rattle.worked_tasks.specs.Inside.Idle.{AreMeant}

each_record : (P : Entry → Type 0) (rs : List Record) (r : Record) → Each P (map read_record rs) → Contains rs r → P (read_record r)
each_record P rs r a h = go rs a h.0 h.1 h.2
  where
    go : (xs : List Record) → Each P (map read_record xs) → (k : ℕ) → k < length xs → slice_index_or xs k r ≡ r → P (read_record r)
    go [] b k l e = absurd (omega (arith, l))
    go (x ∷ xs) b zero l e = subst (λ (y : Record). P (read_record y)) e b.0
    go (x ∷ xs) b (suc k) l e = go xs b.1 k (omega (arith, l)) e

-- a record of the serial meaning has the outcome of its thread
pub meant_ends : (job : Job) (rs : List Record) (r : Record) → AreMeant job (map read_record rs) → Contains rs r → EndsWith job r.path (read_outcome r.outcome)
meant_ends job rs r m h =
    let i : IsRecord job (read_record r) = each_record (IsRecord job) rs r (finished_is_complete job (map read_record rs) m.0 m.1).0.each h in
    (r.events.items, i.state, i.ran, i.ended)

-- and so has a segment that ended its thread
pub segment_ends : (job : Job) (s : SegmentFields) (o : Outcome) → IsSegmentOf job s → s.outcome ≡ Some o → EndsWith job s.path (read_outcome o)
segment_ends job s o i e =
    let t = traced i.trace in
    (t.0 ++ s.events, i.state, t.2, ended_phase i.state.phase (read_outcome o) (sym i.outcome ∙ ap (option_map read_outcome) e))
