-- The text of a number stands for its program.
use Rattle.std.proofs.Common.{ℕ, ◌^◌, ◌<◌, refl}
use Rattle.source_reader.specs.Stands.{Stands}
use Rattle.source_maker.specs.Text.{made_text}
use Rattle.source_maker.specs.Tree.{made_tree}
use Rattle.source_maker.proofs.Pieces.{names}
use Rattle.source_maker.proofs.Lexed.{whole_tokens, made_lexed}
use Rattle.source_maker.proofs.Derived.{made_raw, made_derived}

pub made_stands : (n : ℕ) → n < 2 ^ 63 → Stands (made_text n) (made_tree n)
made_stands n small = record { tokens = whole_tokens n; names = names; raw = made_raw n; lexed = made_lexed n small; derived = made_derived n; clean = refl; meant = refl }
