-- Each thread of a checked job, and each of its records, has a priority that the program declares.
use Rattle.std.proofs.Common.{ℕ, ◌<◌, List, [], ◌∷◌, length, map, subst}
use Rattle.std.specs.List.{All, AllByRecursion}
use Rattle.std.proofs.lemmas.List.Elements.{All-from_recursion}
use Rattle.priml_syntax.specs.Values.{Entry}
use Rattle.priml_syntax.specs.Records.{Each}
use Rattle.priml_syntax.specs.Read.{read_record}
use Rattle.priml_syntax.specs.declared.record.Record.{Record}
use Rattle.core_steps.specs.Steps.{Job}
use Rattle.core_steps.specs.Laws.{IsChecked, HasPrios, Prios}
use Rattle.core_steps.proofs.Starts.{reached_closed}
use Rattle.core_steps.proofs.Interleavings.{closed_complete}
use Rattle.core_steps.proofs.Agree.{finished_is_complete}
use Rattle.core_steps.proofs.Complete.{Complete, each_map}
use Rattle.core_steps.proofs.Kept.{prio_declared}

-- complete records, of whatever they come from
pub complete_prios : (job : Job) (rs : List Entry) → IsChecked job → Complete job rs → HasPrios job rs
complete_prios job rs checked all = each_map rs (λ r i. subst (λ n. n < length job.program.names) i.prio (prio_declared checked i.ran)) all.each

pub prios : (job : Job) → IsChecked job → Prios job
prios job checked = record {
  threads = λ p es s d. prio_declared checked d;
  reached = λ c rs r e. complete_prios job rs checked (closed_complete job c rs (reached_closed job c r) e);
  meant = λ rs n e. complete_prios job rs checked (finished_is_complete job rs n e).0;
}

-- what holds of the records as plain data holds of the declared ones
each_declared : (P : Entry → Type 0) (rs : List Record) → Each P (map read_record rs) → AllByRecursion (λ r. P (read_record r)) rs
each_declared P [] h = tt
each_declared P (r ∷ rs) h = (h.0, each_declared P rs h.1)

pub all_declared : (n : ℕ) (rs : List Record) → Each (λ r. r.prio < n) (map read_record rs) → All (λ r. r.prio < n) rs
all_declared n rs h = All-from_recursion (λ (r : Record). r.prio < n) rs (each_declared (λ r. r.prio < n) rs h)
