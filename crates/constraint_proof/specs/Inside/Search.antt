-- A search for all that one priority is at most, which derives each as it is found.
use Rattle.std.specs.Prelude.{MatchOption, ◌≡◌, ℕ, ◌+◌, ◌-◌, ◌*◌, ◌<◌, ◌≤◌, Bool, true, false, Option, Some, None, List, [], ◌∷◌, ◌++◌, map, length, take, slice_get, slice_set, sum_by}
use Rattle.std.proofs.Common.{◌⊎◌}
use Rattle.priml_syntax.specs.declared.prio.Prio.{Prio}
use Rattle.priml_syntax.specs.declared.prio.Prio.TheVariants.{Const}
use Rattle.priority_order.specs.Order.{Pair}
use Rattle.constraint_proof.specs.Entailed.{Constraint, IsValid, most_variables}
use Rattle.constraint_proof.specs.Numbers.{number}
use Rattle.constraint_proof.specs.Steps.{StepFits}
use Rattle.constraint_proof.specs.declared.derivation.Rule.TheVariants.{Transitive}
use Rattle.constraint_proof.specs.declared.derivation.Step.{Step}
use Rattle.constraint_proof.specs.declared.derivation.Derivation.{Derivation}

-- a declared pair as a constraint
abbrev pub between : Pair → Constraint
between p = (Const p.0, Const p.1)

-- the declared pairs, and then the assumed constraints
abbrev pub constraints : List Pair → List Constraint → List Constraint
constraints pairs given = map between pairs ++ given

-- for each priority by its number, the step that was found for it
abbrev pub Table : Type 0
Table = List (Option ℕ)

-- 1 where no step was found
abbrev pub is_free : Option ℕ → ℕ
is_free None = 1
is_free (Some k) = 0

-- for how many priorities no step was found
abbrev pub free : Table → ℕ
free reached = sum_by is_free reached

-- q is the start, or a step was found for it
abbrev pub IsReached : Prio → ℕ → Table → Prio → Type 0
IsReached start count reached q = (q ≡ start) ⊎ ((k : ℕ) × (slice_get reached (number count q) ≡ Some (Some k)))

-- each step is an instance of its rule, from the steps before it
abbrev pub AllFit : List Pair → List Constraint → List Step → Type 0
AllFit pairs given steps = (k : ℕ) (s : Step) → slice_get steps k ≡ Some s → StepFits pairs given (take k steps) s

-- step k concludes p at most q
abbrev pub Concludes : List Step → ℕ → Prio → Prio → Type 0
Concludes steps k p q = (s : Step) × (slice_get steps k ≡ Some s) × (s.left ≡ p) × (s.right ≡ q)

-- the steps fit, the step that was found for a priority concludes that the start is at most it, and there are no more
-- than two steps for each
pub record IsSearch (pairs : List Pair) (given : List Constraint) (start : Prio) (count : ℕ) (steps : List Step) (reached : Table) : Type 0 where
  pub fits : AllFit pairs given steps
  pub derives : (q : Prio) (k : ℕ) → IsValid count q → slice_get reached (number count q) ≡ Some (Some k) → Concludes steps k start q
  pub long : length reached ≡ count + most_variables
  pub few : length steps + 2 * free reached ≤ 2 * (count + most_variables)

-- the steps, numbered from n, that lead over an edge: the edge alone from the start, else joined to step k
abbrev pub over : Prio → ℕ → Step → Option ℕ → List Step
over start n edge None = edge ∷ []
over start n edge (Some k) = edge ∷ record { rule = Transitive k n; left = start; right = edge.right } ∷ []

-- the edge leads to nothing new
abbrev pub LeadsBack : Prio → ℕ → Table → Prio → Prio → Type 0
LeadsBack start count reached p q = IsReached start count reached p → IsReached start count reached q

-- the steps over an edge are added, and the last of them is the one that was found for its right side
abbrev pub Adds : Prio → ℕ → Step → List Step → Table → List Step → Table → Option ℕ → Type 0
Adds start count edge steps reached new_steps new_reached from =
    (new_steps ≡ steps ++ over start (length steps) edge from)
    × (new_reached ≡ slice_set reached (number count edge.right) (Some (length new_steps - 1)))

-- an edge that leads from what is reached to what is not adds its steps, and any other nothing
abbrev pub Followed : Prio → ℕ → Step → List Step → Table → List Step → Table → Bool → Type 0
Followed start count edge steps reached new_steps new_reached false =
    (new_steps ≡ steps) × (new_reached ≡ reached) × LeadsBack start count reached edge.left edge.right
Followed start count edge steps reached new_steps new_reached true =
    (from : Option ℕ) × IsReached start count reached edge.left × (slice_get reached (number count edge.left) ≡ Some from)
    × (slice_get reached (number count edge.right) ≡ Some None) × Adds start count edge steps reached new_steps new_reached from

-- the first n constraints lead to nothing new
abbrev pub IsClosedTo : Prio → ℕ → List Constraint → Table → ℕ → Type 0
IsClosedTo start count all reached n = (j : ℕ) (c : Constraint) → j < n → slice_get all j ≡ Some c → LeadsBack start count reached c.0 c.1

-- after the first n constraints: something was found, or they lead to nothing new
abbrev pub Went : Prio → ℕ → List Constraint → ℕ → Table → Table → Bool → Type 0
Went start count all n reached new_reached false = (free new_reached ≤ free reached) × IsClosedTo start count all new_reached n
Went start count all n reached new_reached true = free new_reached < free reached

-- a derivation has the steps up to the one that was found for the priority of this number
abbrev pub KeepsTo : List Step → Table → ℕ → Derivation → Type 0
KeepsTo steps reached n d = (k : ℕ) × (slice_get reached n ≡ Some (Some k)) × (d.steps.items ≡ take (k + 1) steps)

-- what is kept of a search for the priority of this number: the steps up to the one that was found for it
abbrev pub Kept : List Step → Table → ℕ → Option Derivation → Type 0
Kept steps reached n o = MatchOption o (slice_get reached n ≡ Some None) (KeepsTo steps reached n)
