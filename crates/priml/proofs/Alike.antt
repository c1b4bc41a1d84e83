-- The run of a program on its inputs: inputs that are alike give one run.
use Rattle.std.proofs.Common.{◌≡◌, ℕ, List, sym, subst}
use Rattle.priml_io.specs.Sections.{Sections}
use Rattle.priml_syntax.specs.Read.{read_program}
use Rattle.priml_syntax.specs.Tree.{Tree}
use Rattle.priml_syntax.specs.Values.{Entry}
use Rattle.priml_syntax.specs.declared.program.Program.{Program}
use Rattle.type_rules.specs.Jobs.{WithInputs}
use Rattle.core_steps.specs.Meaning.{meaning, Finished, Over}
use Rattle.core_steps.proofs.SameInputs.{meaning_reads_inputs}
use Rattle.priml.specs.declared.refusal.Stop.{Stop}
use Rattle.priml.specs.Chain.{◌⇒◌, Never, layer}
use Rattle.priml.specs.Layers as the
use Rattle.priml.specs.Lines.{steps_line}
use Rattle.priml.specs.Inside.Prefixes.{IsChecked, NoRecords, IsReady, IsRecorded}
use Rattle.priml.specs.Inside.Reply.{Stops, StopsAs}
use Rattle.priml.specs.Runs.{Inputs, AreAlike, job_with}
use Rattle.priml.proofs.Chains.{behind_program, stopped, stopped_behind}

module _ (p : Tree) (i j : Inputs) (alike : AreAlike i j) (most : ℕ) where
  one_meaning : meaning (job_with p i) most ≡ meaning (job_with p j) most
  one_meaning = meaning_reads_inputs p i j alike most

  stops_alike : (e : Stop) → Stops (the.run (job_with p i) most) e → Stops (the.run (job_with p j) most) e
  stops_alike e = subst (λ m. Stops {F = Unit {0}} (layer (λ rs. m ≡ Finished rs) (λ _. m ≡ Over) 7 (λ _. steps_line)) e) one_meaning

  ran_alike : (rs : List Entry) → meaning (job_with p i) most ≡ Finished rs → meaning (job_with p j) most ≡ Finished rs
  ran_alike rs = subst (λ m. m ≡ Finished rs) one_meaning

-- a checked program with what was read
pub ready : (text : List ℕ) (s : Sections) (program : Program) (given : Inputs) (job : WithInputs) → job ≡ record { program = program; inputs = given } → IsChecked text s (read_program program)
    → (lists : Inputs) → (the.inputs s.inputs).makes lists → AreAlike given lists → IsReady text s (read_program job.program) job.inputs
ready text s program given job is checked lists read alike =
    subst (λ (j : WithInputs). IsReady text s (read_program j.program) j.inputs) (sym is) (record { checked = checked; reads = lists; read = read; alike = alike })

-- the records of the run of a checked program on lists like those that were read
module _ (most : ℕ) (text : List ℕ) (s : Sections) (p : Tree) (given : Inputs) (is : IsReady text s p given) where
  pub ran : (rs : List Entry) → meaning (job_with p given) most ≡ Finished rs → IsRecorded most text s p rs
  ran rs m = record { checked = is.checked; reads = is.reads; read = is.read; ran = ran_alike p given is.reads is.alike most rs m }

  pub not_ran : (e : Stop) → Stops (the.run (job_with p given) most) e → StopsAs (NoRecords most text) e
  not_ran e h =
      behind_program text (λ t q. the.inputs t.inputs ⇒ λ i. the.run (job_with q i) most ⇒ λ rs. Never) s p e is.checked
      (stopped_behind _ _ is.reads e is.read (stopped (the.run (job_with p is.reads) most) (λ rs. Never) e (stops_alike p given is.reads is.alike most e h)))
