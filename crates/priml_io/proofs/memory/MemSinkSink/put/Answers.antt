use Rattle.std.proofs.Common.{◌≡◌, ◌++◌, ◌+◌, ◌-◌, ◌^◌, ◌≤◌, ℕ, List, length, take, min, refl, ap, ◌∙◌, sym, arith, length-take, length-append}
use Rattle.std.proofs.lemmas.Grind.{common_steps}
use Rattle.std.proofs.lemmas.List.{take-take}
use Rattle.std.proofs.Math.Seq.{take-append-add}
use Rattle.priml_io.specs.Memory.{Script, went_well, MemorySink, sink_after}
use Rattle.priml_io.proofs.memory.MemSinkSink.put.Goals as goal

twice : (piece : List ℕ) (m n : ℕ) → n ≤ length piece → take m (take n piece) ≡ take (min n m) piece
twice piece m n l = grind (arith, common_steps, take-take)

-- what fits is kept
kept_is : (kept piece : List ℕ) (room n : ℕ) → length kept ≤ room → n ≤ length piece → take room (kept ++ take n piece) ≡ kept ++ take (min n (room - length kept)) piece
kept_is kept piece room n within l =
    let e : length kept + (room - length kept) ≡ room = omega arith in
    ap (λ m. take m (kept ++ take n piece)) (sym e) ∙ take-append-add kept (take n piece) (room - length kept) ∙ ap (λ v. kept ++ v) (twice piece (room - length kept) n l)

-- and the rest is counted
beyond_is : (kept piece : List ℕ) (room n : ℕ) → length kept ≤ room → n ≤ length piece → length (kept ++ take n piece) - room ≡ n - min n (room - length kept)
beyond_is kept piece room n within l = simp (length-append, length-take) (omega arith)

state : (s : MemorySink) (piece kept : List ℕ) (n beyond : ℕ) (script : Script) → length s.kept ≤ s.room → n ≤ length piece → kept ≡ s.kept ++ take (min n (s.room - length s.kept)) piece → beyond ≡ min (s.beyond + (n - min n (s.room - length s.kept))) (2 ^ 64 - 1) → script ≡ went_well s.script → record { kept = kept; room = s.room; beyond = beyond; width = s.width; script = script } ≡ sink_after s (take n piece)
state s piece kept n beyond script within l e f h = rw (e, f, h, kept_is s.kept piece s.room n within l, beyond_is s.kept piece s.room n within l) refl

pub returns-clause-state : goal.returns-clause-state
returns-clause-state c =
    let here = c.self.inside in
    let n = c.min-count.result in
    let had : c.len.result ≡ length here.kept.items = omega arith in
    let kept : c.extend_from_slice.new.self.items ≡ here.kept.items ++ take (min n (here.room - length here.kept.items)) c.args.piece.now = rw (c.in-Ok.ensures.items, c.min-fits.ensures, had) refl in
    let beyond : c.saturating_add-self-inside.result ≡ min (here.beyond + (n - min n (here.room - length here.kept.items))) (2 ^ 64 - 1) = rw (c.saturating_add-self-inside.ensures, c.min-fits.ensures, had) refl in
    rw (← c.self.view_is) (state (record { kept = here.kept.items; room = here.room; beyond = here.beyond; width = here.width; script = here.calls }) c.args.piece.now _ n _ _ (omega arith) (omega arith) kept beyond c.in_ok-next.ensures.state)
