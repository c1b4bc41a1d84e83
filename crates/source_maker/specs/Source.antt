-- What is promised of the source of a number.
use Rattle.std.specs.Prelude.{ℕ}
use Rattle.type_rules.specs.Typable.{Typable}
use Rattle.source_reader.specs.Stands.{Stands}
use Rattle.source_maker.specs.Text.{made_text}
use Rattle.source_maker.specs.Tree.{made_tree}
use Rattle.source_maker.specs.Runs.{Runs}

-- the text stands for a program, which is typable and has this much work
pub record IsSource (n : ℕ) : Type 0 where
  pub stands : Stands (made_text n) (made_tree n)
  pub typable : Typable (made_tree n)
  pub runs : Runs n
