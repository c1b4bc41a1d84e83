-- The text of a schedule: a step on each line, and the first line at fault.
use Rattle.std.specs.Prelude.{◌≡◌, ℕ, ◌+◌, ◌-◌, List, ◌∷◌, ◌++◌, length, slice_index}
use Rattle.std.specs.List.{Contains}
use Rattle.inputs_text.specs.PathText.{Pairwise, IsPartText, IsPathText}
use Rattle.inputs_text.specs.InputLines.{IsCutAtColon, words_of}
use Rattle.cost_graph.specs.Graph.{CostGraph, thread_total, thread_at, IsVertexAt}
use Rattle.prompt_checker.specs.declared.reader.ScheduleFault.{ScheduleFault}
use Rattle.prompt_checker.specs.declared.reader.ScheduleFault.TheVariants.{BadText, UnknownVertex, OutOfMemory}

-- a vertex, by its thread's path and its number in the thread
abbrev pub Name : Type 0
Name = List ℕ × ℕ

-- the root of the graph's last thread, and 0 where the graph has no thread
abbrev pub last_root : CostGraph → ℕ
last_root g = slice_index (thread_at g (thread_total g - 1)).path 0

-- a path whose root is at most `last`, a colon and a number: the form of a vertex
pub record IsVertexText (last : ℕ) (text : List ℕ) (name : Name) : Type 0 where
  pub prefix : List ℕ
  pub back : List ℕ
  pub cut : IsCutAtColon text prefix back
  pub path : IsPathText last prefix name.0
  pub number : IsPartText back name.1

-- v is the vertex of the graph with this name
abbrev pub IsNamed : CostGraph → Name → ℕ → Type 0
IsNamed g name v = IsVertexAt g name.0 name.1 v

-- a word is the name of vertex v of the graph
abbrev pub IsVertexWord : CostGraph → List ℕ → ℕ → Type 0
IsVertexWord g word v = (name : Name) × IsVertexText (last_root g) word name × IsNamed g name v

-- a word has the form of a vertex, and is the name of none of the graph
abbrev pub IsUnknownWord : CostGraph → List ℕ → Type 0
IsUnknownWord g word = (name : Name) × IsVertexText (last_root g) word name × ((v : ℕ) → IsNamed g name v → ⊥)

-- a word has not the form of a vertex
abbrev pub IsBadWord : CostGraph → List ℕ → Type 0
IsBadWord g word = (name : Name) → IsVertexText (last_root g) word name → ⊥

-- each word of a line is a vertex, in the order of the step
abbrev pub IsStepLine : CostGraph → List ℕ → List ℕ → Type 0
IsStepLine g line step = Pairwise (IsVertexWord g) (words_of line) step

-- a word of the line has not the form of a vertex
abbrev pub IsBadLine : CostGraph → List ℕ → Type 0
IsBadLine g line = (word : List ℕ) × Contains (words_of line) word × IsBadWord g word

-- each word of the line has the form of a vertex, and one is the name of none of the graph
abbrev pub IsUnknownLine : CostGraph → List ℕ → Type 0
IsUnknownLine g line =
    ((word : List ℕ) → Contains (words_of line) word → IsBadWord g word → ⊥)
    × ((word : List ℕ) × Contains (words_of line) word × IsUnknownWord g word)

-- the lines are the steps, one after the other
abbrev pub AreStepLines : CostGraph → List (List ℕ) → List (List ℕ) → Type 0
AreStepLines g lines steps = Pairwise (IsStepLine g) lines steps

-- what is wrong with line k
abbrev pub IsLineFault : CostGraph → ℕ → List ℕ → ScheduleFault → Type 0
IsLineFault g k line (BadText n) = (n ≡ k) × IsBadLine g line
IsLineFault g k line (UnknownVertex n) = (n ≡ k) × IsUnknownLine g line
IsLineFault g k line OutOfMemory = ⊥

-- the first line at fault, counted from 1, and what is wrong with it
pub record IsFirstFault (g : CostGraph) (lines : List (List ℕ)) (fault : ScheduleFault) : Type 0 where
  pub before : List (List ℕ)
  pub line : List ℕ
  pub after : List (List ℕ)
  pub steps : List (List ℕ)
  pub is : lines ≡ before ++ line ∷ after
  pub right : AreStepLines g before steps
  pub wrong : IsLineFault g (length before + 1) line fault

-- why lines are no schedule; want of memory needs no cause
abbrev pub HasFault : CostGraph → List (List ℕ) → ScheduleFault → Type 0
HasFault g lines (BadText n) = IsFirstFault g lines (BadText n)
HasFault g lines (UnknownVertex n) = IsFirstFault g lines (UnknownVertex n)
HasFault g lines OutOfMemory = Unit {0}

-- lines are one schedule, or have one fault, and not both
pub record ReadsOneWay (g : CostGraph) (lines : List (List ℕ)) : Type 0 where
  pub one : (a b : List (List ℕ)) → AreStepLines g lines a → AreStepLines g lines b → a ≡ b
  pub first : (e f : ScheduleFault) → IsFirstFault g lines e → IsFirstFault g lines f → e ≡ f
  pub apart : (a : List (List ℕ)) (f : ScheduleFault) → AreStepLines g lines a → IsFirstFault g lines f → ⊥
