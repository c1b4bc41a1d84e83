use Rattle.std.proofs.Common.{◌≡◌, map, sym, subst, ◌∙◌}
use Rattle.std.proofs.lemmas.Option.{none-some, same_Some}
use Rattle.priml_syntax.specs.Read.{read_record}
use Rattle.core_steps.specs.Meaning.{meaning, Finished}
use Rattle.core_steps.specs.Moves.{read_job}
use Rattle.priml.proofs.workers.records_of.Goals as goal

pub unreachable-requires : goal.unreachable-requires
unreachable-requires c =
    let told = rw c.in-Ok-None.field-0-is at c.in-Ok-None.ensures in
    absurd (none-some c.requires.records (told.2 ∙ c.requires.agree told.0 told.1))

pub returns-in-Ok-Some-clause-records : goal.returns-in-Ok-Some-clause-records
returns-in-Ok-Some-clause-records c =
    let told = rw c.in-Ok-Some.field-0-is at c.in-Ok-Some.ensures in
    let same = same_Some (map read_record c.in-Ok-Some.records) c.requires.records (told.2 ∙ c.requires.agree told.0 told.1) in
    subst (λ rs. meaning (read_job c.args._job.now) c.args._most ≡ Finished rs) (sym same) (c.requires.meant c.args._most c.requires.few)
