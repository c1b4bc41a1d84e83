-- Walks along a relation of numbers: declared pairs of priorities, edges of a graph.
use Rattle.std.specs.Prelude.{◌≡◌, ◌≢◌, List, [], ◌∷◌}

-- u followed by the list: each stands in the relation to the next, and the last is v
abbrev pub Leads : {X : Type 0} → (X → X → Type 0) → X → List X → X → Type 0
Leads E u [] v = u ≡ v
Leads E u (w ∷ ws) v = E u w × Leads E w ws v

-- a walk, perhaps of one number, leads from u to v
abbrev pub Reaches : {X : Type 0} → (X → X → Type 0) → X → X → Type 0
Reaches {X} E u v = (ws : List X) × Leads E u ws v

-- the same, where the two differ
abbrev pub ProperlyReaches : {X : Type 0} → (X → X → Type 0) → X → X → Type 0
ProperlyReaches E u v = Reaches E u v × (u ≢ v)

-- no walk of at least two numbers leads back
abbrev pub HasNoCycle : {X : Type 0} → (X → X → Type 0) → Type 0
HasNoCycle {X} E = (v w : X) (ws : List X) → Leads E v (w ∷ ws) v → ⊥
