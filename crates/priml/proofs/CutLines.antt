-- The lines of the cuts of a run.
use Rattle.std.proofs.Common.{◌≡◌, ℕ, zero, suc, ◌+◌, ◌≤◌, List, [], ◌∷◌, ◌++◌, length, Option, None, Some, Result, Ok, Err, refl, sym, ap, subst, ◌∙◌, arith}
use Rattle.std.specs.List.{AllByRecursion, flat_map}
use Rattle.std.specs.Option.{option_map}
use Rattle.std.specs.Prelude.{IfOk}
use Rattle.std.specs.declared.vec.Vec.{Vec}
use Rattle.std.specs.declared.alloc.Global.{Global}
use Rattle.std.proofs.lemmas.List.Concat.{flat_map-cons}
use Rattle.std.proofs.lemmas.List.Elements.{All-from_recursion, recursion_from_All}
use Rattle.std.proofs.lemmas.List.Sorted.{All-permutation}
use Rattle.std.proofs.lemmas.Option.{none-some, same_Some}
use Rattle.priml_syntax.specs.declared.value.Outcome.{Outcome}
use Rattle.priml_syntax.specs.Tree.{Tree}
use Rattle.priml_syntax.specs.Values.{Entry}
use Rattle.trace_book.specs.declared.segment.Cut.{Cut}
use Rattle.trace_book.specs.CutsText.{cut_line, log_lines}
use Rattle.core_steps.specs.Meaning.{meaning, Finished}
use Rattle.core_steps.specs.Steps.{Job}
use Rattle.trace_book.specs.Book.{IsInPathOrder, both, entry_with, entries_of}
use Rattle.trace_book.specs.Log.{Log}
use Rattle.steal_runtime.specs.Runs.{CutsCover, IsCutByWorkers, IsRun}
use Rattle.priml.specs.Texts.{AreCutLines, IsTraceText, run_text}
use Rattle.priml.proofs.One.{one_finish}

module _ (workers quantum : ℕ) where
  -- steps can be cut one by one, all by the first worker
  some_cuts : 1 ≤ workers → 1 ≤ quantum → (k n : ℕ) → (cs : List Cut) × CutsCover workers quantum n cs (n + k)
  some_cuts worker step zero n = ([], omega arith)
  some_cuts worker step (suc k) n =
      let more = some_cuts worker step k (n + 1) in
      (record { from = n; steps = 1; worker = 0 } ∷ more.0, (refl, omega arith, step, worker, subst (CutsCover workers quantum (n + 1) more.0) (omega arith) more.1))

  pub some_cut_lines : 1 ≤ workers → 1 ≤ quantum → (rs : List Entry) → (text : List ℕ) × AreCutLines workers quantum rs text
  some_cut_lines worker step [] = ([], refl)
  some_cut_lines worker step (r ∷ rs) =
      let cuts = some_cuts worker step (length r.events) 0 in
      let more = some_cut_lines worker step rs in
      (flat_map (cut_line r.path) cuts.0 ++ more.0, (cuts.0, more.0, subst (CutsCover workers quantum 0 cuts.0) (omega arith) cuts.1, refl, more.1))

  -- those of the logs of a whole run
  book_lines : (ls : List Log) (rs : List Entry) → entries_of ls ≡ Some rs → AllByRecursion (IsCutByWorkers workers quantum) ls → AreCutLines workers quantum rs (flat_map log_lines ls)
  book_lines [] rs e cut = subst (λ es. AreCutLines workers quantum es []) (same_Some [] rs e) refl
  book_lines (l ∷ ls) rs e cut = subst (AreCutLines workers quantum rs) (sym (flat_map-cons log_lines l ls)) (go l.outcome (entries_of ls) e (book_lines ls))
    where
      go : (o : Option Outcome) (qs : Option (List Entry)) → both (option_map (entry_with l) o) qs ≡ Some rs
          → ((xs : List Entry) → qs ≡ Some xs → AllByRecursion (IsCutByWorkers workers quantum) ls → AreCutLines workers quantum xs (flat_map log_lines ls)) → AreCutLines workers quantum rs (log_lines l ++ flat_map log_lines ls)
      go None qs f k = absurd (none-some rs f)
      go (Some o) None f k = absurd (none-some rs f)
      go (Some o) (Some xs) f k =
          subst (λ es. AreCutLines workers quantum es (log_lines l ++ flat_map log_lines ls)) (same_Some (entry_with l o ∷ xs) rs f) (l.cuts, flat_map log_lines ls, cut.0, refl, k xs refl cut.1)

  -- in the order of their paths
  pub run_lines_of : (job : Job) (most : ℕ) (logs : List Log) (rs : List Entry) → IsRun job workers quantum most logs → meaning job most ≡ Finished rs → (ls : List Log) → IsInPathOrder logs ls
      → AreCutLines workers quantum rs (flat_map log_lines ls)
  run_lines_of job most logs rs run meant ls order =
      let same : run.records ≡ rs = one_finish (meaning job most) run.records rs (run.meant most run.few) meant in
      let cut = recursion_from_All (IsCutByWorkers workers quantum) ls (All-permutation (IsCutByWorkers workers quantum) logs ls order.0 (All-from_recursion (IsCutByWorkers workers quantum) logs run.cuts)) in
      book_lines ls rs (run.agree ls order ∙ ap Some same) cut

  -- so the text of the run and the lines of its book are a trace of it
  pub fits_trace : (job : Job) (most : ℕ) (logs : List Log) (p : Tree) (rs : List Entry) → IsRun job workers quantum most logs → meaning job most ≡ Finished rs → {E : Type 0} (text : Result (Vec ℕ Global) E)
      → IfOk text (λ v. (ls : List Log) × IsInPathOrder logs ls × (v.items ≡ run_text p rs ++ flat_map log_lines ls)) → IfOk text (λ v. IsTraceText p rs workers quantum v.items)
  fits_trace job most logs p rs run meant (Err e) told = tt
  fits_trace job most logs p rs run meant (Ok v) told = (flat_map log_lines told.0, run_lines_of job most logs rs run meant told.0 told.1, told.2)
