-- What is promised of the source of a number.
use Rattle.std.proofs.Common.{ℕ, ◌≤◌, arith}
use Rattle.source_maker.specs.Source.{IsSource}
use Rattle.source_maker.proofs.Stood.{made_stands}
use Rattle.source_maker.proofs.Typed.{made_typable}
use Rattle.source_maker.proofs.Runs.{made_runs}

pub made_source : (n : ℕ) → n ≤ 5000 → IsSource n
made_source n small = record { stands = made_stands n (omega arith); typable = made_typable n; runs = made_runs n small }
