use Rattle.std.proofs.Common.{◌≡◌, ℕ, ◌<◌, length, get_or}
use Rattle.prompt_checker.specs.Read.{steps_of}
use Rattle.response_report.specs.declared.row.Row.{Row}
use Rattle.response_report.specs.Response.{IsRow}
use Rattle.response_report.proofs.report.all_rows.Given as goal

abbrev pub invariant-loop-thread : goal.invariant-loop-thread
invariant-loop-thread l =
    record {
      long : length l.rows.items ≡ l.thread;
      are : (t : ℕ) (d : Row) → t < l.thread → IsRow l.graph l.order.pairs l.cores (steps_of l.schedule) t (get_or l.rows.items t d);
    }
