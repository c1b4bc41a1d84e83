-- The records of a run have a cost graph, and it is sound.
use Rattle.std.proofs.Common.{ℕ, ◌<◌, List, [], ◌∷◌, length, map, sym, subst}
use Rattle.std.specs.Prelude.{◌^◌}
use Rattle.std.specs.List.{All, AllByRecursion}
use Rattle.std.proofs.lemmas.List.Elements.{All-from_recursion}
use Rattle.priml_io.specs.Sections.{Sections}
use Rattle.priml_syntax.specs.Tree.{Tree, pairs_of}
use Rattle.priml_syntax.specs.Values.{Entry}
use Rattle.priml_syntax.specs.Records.{Each, InPathOrder}
use Rattle.priority_order.specs.Order.{Names}
use Rattle.source_reader.specs.Stands.{Stands}
use Rattle.source_reader.proofs.Standing.{scoped_as}
use Rattle.type_rules.specs.Stops.{IsOrderOf}
use Rattle.type_rules.specs.Typable.{Typable}
use Rattle.core_steps.specs.Laws as laws
use Rattle.core_steps.specs.Steps.{Job}
use Rattle.core_steps.proofs.Agree.{finished_is_complete}
use Rattle.core_steps.proofs.CheckedLaws.{checked_laws}
use Rattle.serial_meaning.proofs.Stack.{finished_below}
use Rattle.cost_graph.specs.declared.graph.Thread.{Thread}
use Rattle.cost_graph.specs.Graph.{CostGraph, IsWellFormed}
use Rattle.cost_graph.specs.Records.{parts_of, thread_of, IsGraphOf}
use Rattle.cost_graph.proofs.Carried.{same_acyclic, same_well_formed}
use Rattle.cost_graph.proofs.Parts.{AreApart, apart_of}
use Rattle.cost_graph.proofs.SomeGraph as graphs
use Rattle.priml.specs.Layers as the
use Rattle.priml.specs.Inside.Prefixes.{IsRecorded, IsSound}
use Rattle.priml.specs.Runs.{Inputs, job_with}

-- a program that stands for a text and is typable is checked, with whatever its threads read
pub checked_job : (source : List ℕ) (tree : Tree) (inputs : Inputs) → Stands source tree → Typable tree → laws.IsChecked (job_with tree inputs)
checked_job source tree inputs is typed = record { typable = typed; scoped = scoped_as is.names is.raw tree is.clean is.meant }

declared : (n : ℕ) (rs : List Entry) → Each (λ r. r.prio < n) rs → AllByRecursion (λ (t : Thread). t.priority < n) (map thread_of (parts_of rs))
declared n [] h = tt
declared n (r ∷ rs) h = (h.0, declared n rs h.1)

-- the records of a run of a program that stands for a text and is typable
module _ (source : List ℕ) (p : Tree) (reads : Inputs) (stands : Stands source p) (typable : Typable p) (most : ℕ) (rs : List Entry) (ran : (the.run (job_with p reads) most).makes rs) where
  abbrev job : Job
  job = job_with p reads

  checked : laws.IsChecked job
  checked = checked_job source p reads stands typable

  in_order : InPathOrder rs
  in_order = (finished_is_complete job rs most ran).1

  pub run_graph : most < 2 ^ 32 → (g : CostGraph) × IsGraphOf (parts_of rs) g
  run_graph few = graphs.some_graph rs in_order (finished_below job checked most rs ran few)

  module _ (g : CostGraph) (made : IsGraphOf (parts_of rs) g) where
    apart : AreApart (parts_of rs)
    apart = apart_of rs in_order

    has : laws.HasGraph job rs
    has = (checked_laws job checked).graphs.meant rs most ran

    small : All (λ (t : Thread). t.priority < length p.names) g.threads
    small =
        let each = declared (length p.names) rs ((checked_laws job checked).prios.meant rs most ran) in
        subst (All (λ (t : Thread). t.priority < length p.names)) (sym made.threads) (All-from_recursion (λ (t : Thread). t.priority < length p.names) (map thread_of (parts_of rs)) each)

    pub sound_run : (o : Names) → IsOrderOf p o → IsSound g o
    sound_run o of = record {
      acyclic = (same_acyclic (parts_of rs) apart g made).0 has.acyclic;
      well_formed = subst (IsWellFormed g) (sym of.pairs) ((same_well_formed (parts_of rs) apart g made (pairs_of p)).0 has.well_formed);
      priorities = subst (λ names. All (λ (t : Thread). t.priority < length names) g.threads) (sym of.names) small;
    }

-- those of the program of an input
module _ (most : ℕ) (input : List ℕ) (s : Sections) (p : Tree) (rs : List Entry) (is : IsRecorded most input s p rs) where
  pub has_graph : most < 2 ^ 32 → (g : CostGraph) × IsGraphOf (parts_of rs) g
  has_graph few = run_graph s.program p is.reads is.checked.stands is.checked.typable most rs is.ran few

  pub sound : (g : CostGraph) → IsGraphOf (parts_of rs) g → (o : Names) → IsOrderOf p o → IsSound g o
  sound g made = sound_run s.program p is.reads is.checked.stands is.checked.typable most rs is.ran g made
