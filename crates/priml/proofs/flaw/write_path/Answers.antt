use Rattle.std.proofs.Common.{◌≡◌, ◌<◌, ℕ, List, [], ◌∷◌, ◌++◌, ◌-◌, length, take, drop, slice_index, ap, subst, arith}
use Rattle.std.proofs.lemmas.List.{take_all}
use Rattle.std.specs.Fmt.{decimal}
use Rattle.std.specs.List.{flat_map}
use Rattle.priml_syntax.specs.Text.{dotted, path_text}
use Rattle.priml_io.specs.Whole.{Writes}
use Rattle.priml.proofs.flaw.write_path.Goals as goal

path_parts : (xs : List ℕ) → 0 < length xs → decimal (slice_index xs 0) ++ flat_map dotted (take (length xs - 1) (drop 1 xs)) ≡ path_text xs
path_parts [] some = absurd (omega (arith, some))
path_parts (x ∷ xs) some = ap (λ ys. decimal x ++ flat_map dotted ys) (take_all (length (x ∷ xs) - 1) xs (omega arith))

pub returns-clause-bytes : goal.returns-clause-bytes
returns-clause-bytes g c = subst (λ text. Writes (g.K.Sink.written c.args.sink.now) (g.K.Sink.written c.write_parts.new.sink) text c.write_parts.result) (path_parts c.args.parts.now c.requires) c.write_parts.ensures.bytes
