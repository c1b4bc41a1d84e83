-- What several commands begin with: what it makes, and how it refuses. No part of the promise.
use Rattle.std.specs.Prelude.{ℕ, ◌<◌, List, length}
use Rattle.std.specs.List.{All}
use Rattle.priml_syntax.specs.Tree.{Tree}
use Rattle.priml_syntax.specs.Values.{Entry}
use Rattle.priml_io.specs.Sections.{Sections}
use Rattle.priority_order.specs.Order.{Names}
use Rattle.cost_graph.specs.declared.graph.Thread.{Thread}
use Rattle.cost_graph.specs.Graph.{CostGraph, IsAcyclic, IsWellFormed}
use Rattle.priml.specs.Chain.{Answer, ◌⇒◌, Never}
use Rattle.priml.specs.Commands.{WithProgram, WithRecords, WithGraph}
use Rattle.priml.specs.Layers.{sections, source, typed, inputs, run, graph}
use Rattle.priml.specs.Runs.{Inputs, AreAlike, job_with}

-- the refusals in prefix of a typable program
abbrev pub NoProgram : List ℕ → Answer
NoProgram input = WithProgram input λ s p. Never

-- the input has these sections, and they hold this typable program
pub record IsChecked (input : List ℕ) (s : Sections) (p : Tree) : Type 0 where
  pub cut : (sections input).makes s
  pub stands : (source s.program).makes p
  pub typable : (typed p).makes tt

-- the refusals in prefix of what the threads read
abbrev pub NoJob : List ℕ → Answer
NoJob input = WithProgram input λ s p. inputs s.inputs ⇒ λ i. Never

-- besides, the threads of the program read lists like those that the input gives
pub record IsReady (input : List ℕ) (s : Sections) (p : Tree) (given : Inputs) : Type 0 where
  pub checked : IsChecked input s p
  pub reads : Inputs
  pub read : (inputs s.inputs).makes reads
  pub alike : AreAlike given reads

-- the refusals in prefix of the records of a run
abbrev pub NoRecords : ℕ → List ℕ → Answer
NoRecords most input = WithRecords most input λ s p rs. Never

-- besides, these are the records of the run of the program, which has at most so many steps
pub record IsRecorded (most : ℕ) (input : List ℕ) (s : Sections) (p : Tree) (rs : List Entry) : Type 0 where
  pub checked : IsChecked input s p
  pub reads : Inputs
  pub read : (inputs s.inputs).makes reads
  pub ran : (run (job_with p reads) most).makes rs

-- the refusals in prefix of a cost graph
abbrev pub NoGraph : ℕ → List ℕ → Answer
NoGraph most input = WithGraph most input λ s p rs g. Never

-- besides, this is the cost graph of the records
pub record IsGraphed (most : ℕ) (input : List ℕ) (s : Sections) (p : Tree) (rs : List Entry) (g : CostGraph) : Type 0 where
  pub recorded : IsRecorded most input s p rs
  pub made : (graph rs).makes g

-- what plans and reports ask of a graph: over this order it has no cycle, is well formed, and its threads have priorities that are declared
pub record IsSound (g : CostGraph) (order : Names) : Type 0 where
  pub acyclic : IsAcyclic g
  pub well_formed : IsWellFormed g order.pairs
  pub priorities : All (λ (t : Thread). t.priority < length order.names) g.threads
