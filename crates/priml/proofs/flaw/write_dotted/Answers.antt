use Rattle.std.proofs.Common.{◌≡◌, ◌<◌, ◌+◌, ◌++◌, ◌∷◌, List, ℕ, length, drop, slice_index, ap, subst, sym, ◌∙◌, append_assoc, arith}
use Rattle.std.proofs.lemmas.Grind.{common_steps}
use Rattle.std.specs.List.{flat_map}
use Rattle.priml_syntax.specs.Text.{dotted}
use Rattle.priml_io.specs.Whole.{Writes}
use Rattle.priml_io.proofs.Joins.{grows_joined}
use Rattle.priml.proofs.Pieces.{later_failed}
use Rattle.priml.proofs.flaw.write_dotted.Goals as goal

next : (numbers : List ℕ) (i : ℕ) → i < length numbers → drop i numbers ≡ slice_index numbers i ∷ drop (i + 1) numbers
next numbers i lt = grind (arith, common_steps)

split : (numbers prefix : List ℕ) (i : ℕ) → i < length numbers → prefix ++ flat_map dotted (drop i numbers) ≡ flat_map dotted numbers → prefix ++ (dotted (slice_index numbers i) ++ flat_map dotted (drop (i + 1) numbers)) ≡ flat_map dotted numbers
split numbers prefix i lt e = ap (λ xs. prefix ++ flat_map dotted xs) (sym (next numbers i lt)) ∙ e

pub returns-in_err-write_marked-clause-bytes : goal.returns-in_err-write_marked-clause-bytes
returns-in_err-write_marked-clause-bytes g c =
    let m = c.loop-number.invariant.grown in
    let numbers = c.args.numbers.now in
    let i = c.loop-number.number-index in
    subst (λ text. Writes (g.K.Sink.written c.args.sink.now) (g.K.Sink.written c.write_marked.new.sink) text c.from_residual.result) (split numbers m.0 i c.loop-number-test.true m.1)
    (later_failed _ _ _ m.0 (dotted (slice_index numbers i)) (flat_map dotted (drop (i + 1) numbers)) _ _ c.from_residual.ensures.1 m.2 c.in_err-write_marked.ensures.bytes)

pub loop-number-preserved : goal.loop-number-preserved
loop-number-preserved g c =
    let m = c.loop-number.invariant.grown in
    let numbers = c.args.numbers.now in
    let i = c.loop-number.number-index in
    record {
      later = omega (arith, c.loop-number.invariant.later, c.write_marked.ensures.later);
      grown = (m.0 ++ dotted (slice_index numbers i), append_assoc m.0 (dotted (slice_index numbers i)) (flat_map dotted (drop (i + 1) numbers)) ∙ split numbers m.0 i c.loop-number-test.true m.1, grows_joined _ _ _ _ _ m.2 c.in_ok-write_marked.ensures.bytes);
    }
