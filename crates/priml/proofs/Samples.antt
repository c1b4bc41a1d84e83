-- The chain of layers of a sample.
use Rattle.std.proofs.Common.{◌≡◌, ℕ, List, [], length, Result, refl, subst}
use Rattle.std.specs.declared.vec.Vec.{Vec}
use Rattle.std.specs.declared.alloc.Global.{Global}
use Rattle.priml_syntax.specs.Read.{read_program}
use Rattle.priml_syntax.specs.Tree.{Tree, pairs_of}
use Rattle.priml_syntax.specs.Values.{Entry}
use Rattle.priority_order.specs.Order.{Names}
use Rattle.core_steps.specs.Moves.{read_job}
use Rattle.core_steps.specs.Steps.{Job}
use Rattle.cost_graph.specs.Graph.{CostGraph}
use Rattle.source_maker.specs.Source.{IsSource}
use Rattle.source_maker.specs.Text.{made_text}
use Rattle.source_maker.specs.Tree.{made_tree}
use Rattle.source_reader.specs.Stands.{Stands}
use Rattle.source_reader.proofs.OneFault as reader
use Rattle.type_rules.specs.Jobs.{WithInputs}
use Rattle.type_rules.specs.Stops.{IsOrderOf}
use Rattle.type_rules.specs.Typable.{Typable}
use Rattle.type_rules.proofs.Programs.{not_typable}
use Rattle.priml.specs.declared.refusal.Stop.{Stop}
use Rattle.priml.specs.declared.refusal.Stop.TheVariants.{Refused, ReadFault, OutOfMemory}
use Rattle.priml.specs.Chain.{Answer, ◌⇒◌, Says, sure}
use Rattle.priml.specs.Commands.{Sampled}
use Rattle.priml.specs.Layers as the
use Rattle.priml.specs.Inside.Reply.{Stops, StopsAs, Replies}
use Rattle.priml.specs.Runs.{job_with}
use Rattle.priml.specs.Texts.{summary_text}
use Rattle.priml.proofs.Chains.{stopped, stopped_behind, passed}

-- the text that is made stands for a program, so only memory can be wanting
pub source_reads : (n : ℕ) → IsSource n → (e : Stop) → Stops (the.source (made_text n)) e → e ≡ OutOfMemory
source_reads n is (Refused r) s = absurd (reader.no_fault (made_text n) (made_tree n) s.0 is.stands s.1)
source_reads n is ReadFault s = absurd s
source_reads n is OutOfMemory s = refl

pub made_typable : (n : ℕ) (p : Tree) → IsSource n → Stands (made_text n) p → Typable p
made_typable n p is stands = subst Typable (reader.one_program (made_text n) (made_tree n) p is.stands stands) is.typable

pub types_check : (p : Tree) → Typable p → (e : Stop) → Stops (the.typed p) e → e ≡ OutOfMemory
types_check p is (Refused r) s = absurd (not_typable p s.0.kind s.0.at s.1 is)
types_check p is ReadFault s = absurd s
types_check p is OutOfMemory s = refl

-- the order of the program's job is its own
pub order_of : (j : WithInputs) (p : Tree) → read_job j ≡ job_with p [] → (o : Names) → IsOrderOf (read_program j.program) o → IsOrderOf p o
order_of j p is o of = subst (λ (x : Job). IsOrderOf x.program o) is of

module _ (n c l : ℕ) (p : Tree) (stands : Stands (made_text n) p) where
  abbrev planned : List Entry → CostGraph → Answer
  planned rs g = the.plan (pairs_of p) (length p.names) g c ⇒ λ steps. Says (summary_text n rs steps)

  abbrev ran : Tree → Answer
  ran q = the.run (job_with q []) l ⇒ λ rs. the.graph rs ⇒ λ g. the.plan (pairs_of q) (length q.names) g c ⇒ λ steps. Says (summary_text n rs steps)

  pub not_run : (e : Stop) → Stops (the.run (job_with p []) l) e → StopsAs (Sampled n c l) e
  not_run e s = stopped_behind (sure (Stands (made_text n))) ran p e stands (stopped (the.run (job_with p []) l) _ e s)

  module _ (rs : List Entry) (made_run : (the.run (job_with p []) l).makes rs) where
    pub no_graph : (e : Stop) → Stops (the.graph rs) e → StopsAs (Sampled n c l) e
    no_graph e s = stopped_behind (sure (Stands (made_text n))) ran p e stands (stopped_behind (the.run (job_with p []) l) (λ qs. the.graph qs ⇒ planned qs) rs e made_run (stopped (the.graph rs) (planned rs) e s))

    module _ (g : CostGraph) (made : (the.graph rs).makes g) where
      pub no_plan : (e : Stop) → Stops (the.plan (pairs_of p) (length p.names) g c) e → StopsAs (Sampled n c l) e
      no_plan e s =
          stopped_behind (sure (Stands (made_text n))) ran p e stands
          (stopped_behind (the.run (job_with p []) l) (λ qs. the.graph qs ⇒ planned qs) rs e made_run
          (stopped_behind (the.graph rs) (planned rs) g e made (stopped (the.plan (pairs_of p) (length p.names) g c) _ e s)))

      pub sampled : (steps : List (List ℕ)) → (the.plan (pairs_of p) (length p.names) g c).makes steps → (reply : Result (Vec ℕ Global) Stop) → Replies (Says (summary_text n rs steps)) reply → Replies (Sampled n c l) reply
      sampled steps plans reply says =
          passed (sure (Stands (made_text n))) ran p reply stands
          (passed (the.run (job_with p []) l) (λ qs. the.graph qs ⇒ planned qs) rs reply made_run
          (passed (the.graph rs) (planned rs) g reply made (passed (the.plan (pairs_of p) (length p.names) g c) _ steps reply plans says)))
