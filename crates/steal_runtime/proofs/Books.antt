-- The book of a closed board.
use Rattle.std.proofs.Common.{◌≡◌, ℕ, ◌+◌, ◌<◌, ◌≤◌, List, [], ◌∷◌, ◌++◌, length, map, Some, sym, refl, ap, ◌∙◌, arith}
use Rattle.priml_syntax.specs.Values.{Entry as Record}
use Rattle.core_steps.specs.Config.{Thread, IsFinished}
use Rattle.core_steps.specs.Determined.{steps_of, unended}
use Rattle.core_steps.specs.Meaning.{Meaning, Over, Finished, meaning}
use Rattle.core_steps.proofs.CoreLaws.{core_laws}
use Rattle.trace_book.specs.declared.segment.Cut.{Cut}
use Rattle.trace_book.specs.Book.{work}
use Rattle.trace_book.specs.Log.{Log}
use Rattle.task_state.proofs.BookMeaning.{books_agree}
use Rattle.task_state.proofs.Books.{finished_records}
use Rattle.join_board.specs.Close.{logs_in}
use Rattle.join_board.specs.Entries.{Entry}
use Rattle.join_board.specs.Jobs.{the_job}
use Rattle.task_state.specs.Sums.{total}
use Rattle.join_board.specs.Logs.{Covers, size}
use Rattle.join_board.specs.Rule.{KeepsLogs}
use Rattle.join_board.specs.declared.view.About.{About}
use Rattle.join_board.proofs.Books.{logs_apart}
use Rattle.join_board.proofs.Readings.{each_entry, reads_as}
use Rattle.steal_runtime.specs.Runs.{CutsCover, IsCutByWorkers, IsRun}

work_append : (xs ys : List Log) → work (xs ++ ys) ≡ work xs + work ys
work_append [] ys = omega arith
work_append (x ∷ xs) ys = let h = work_append xs ys in omega (arith, h)

shard_work : (x : List Entry) → work (map (λ (e : Entry). e.log) x) ≡ size x
shard_work [] = refl
shard_work (e ∷ es) = ap (λ (n : ℕ). length e.log.events + n) (shard_work es)

logs_work : (shards : List (List Entry)) → work (logs_in shards) ≡ total size shards
logs_work [] = refl
logs_work (x ∷ xs) = let a = work_append (map (λ (e : Entry). e.log) x) (logs_in xs) in let b = shard_work x in let h = logs_work xs in omega (arith, a, b, h)

covers_cut : (key : About) (n : ℕ) (cs : List Cut) (m : ℕ) → Covers key n cs m → CutsCover key.opened key.quantum n cs m
covers_cut key n [] m h = h
covers_cut key n (c ∷ cs) m h = (h.0, h.1, h.2, h.3, covers_cut key (n + c.steps) cs m h.4)

records_in : Meaning → List Record
records_in Over = []
records_in (Finished rs) = rs

-- where every thread has ended, and the work is at most the limit
pub is_run : (key : About) (shards : List (List Entry)) (c : List Thread) (limit : ℕ) → KeepsLogs key shards c → unended c ≡ 0 → work (logs_in shards) ≤ limit → IsRun (the_job key) key.opened key.quantum limit (logs_in shards)
unfolding records_in
is_run key shards c limit k none few = let job = the_job key in let laws = core_laws job in let done : IsFinished c = (laws.counts.none c k.reached).0 none in let rs = finished_records c done in
    let all : work (logs_in shards) ≡ steps_of c = logs_work shards ∙ k.work in
    let meant : (n : ℕ) → work (logs_in shards) ≤ n → meaning job n ≡ Finished rs.0 = λ n le. (laws.agrees c rs.0 n k.reached rs.1 (omega (arith, all, le))).0 in record {
      records = rs.0;
      agree = λ ls order. let b = books_agree job c (logs_in shards) ls (work (logs_in shards)) k.reached done (reads_as key shards c k done) order (omega arith) in
          b.1 ∙ ap Some (ap records_in (sym b.2 ∙ meant (work (logs_in shards)) (omega arith)));
      meant = meant;
      apart = logs_apart key shards c k;
      few = few;
      cuts = each_entry key shards c k (IsCutByWorkers key.opened key.quantum) (λ j i e l at. covers_cut key 0 e.log.cuts (length e.log.events) (k.entries j l i e at).2);
    }

-- where the work exceeds the limit
pub over_limit : (key : About) (shards : List (List Entry)) (c : List Thread) (limit : ℕ) → KeepsLogs key shards c → limit < work (logs_in shards) → meaning (the_job key) limit ≡ Over
over_limit key shards c limit k more = go (meaning (the_job key) limit) refl
  where
    go : (m : Meaning) → meaning (the_job key) limit ≡ m → m ≡ Over
    go Over e = refl
    go (Finished rs) e = let b = (core_laws (the_job key)).bounded.never_longer c rs limit k.reached e in let a = logs_work shards in let w = k.work in absurd (omega (arith, b.0, b.1, a, w, more))
