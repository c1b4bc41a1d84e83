-- Walks joined and taken apart.
use Rattle.std.proofs.Common.{ℕ, List, [], ◌∷◌, ◌++◌, refl, sym, subst}
use Rattle.cost_graph.specs.Walks.{Leads, Reaches, ProperlyReaches}

pub walk_on : (E : ℕ → ℕ → Type 0) (u v w : ℕ) (xs ys : List ℕ) → Leads E u xs v → Leads E v ys w → Leads E u (xs ++ ys) w
walk_on E u v w [] ys a b = subst (λ x. Leads E x ys w) (sym a) b
walk_on E u v w (x ∷ xs) ys a b = (a.0, walk_on E x v w xs ys a.1 b)

pub reaches_on : (E : ℕ → ℕ → Type 0) (u v w : ℕ) → Reaches E u v → Reaches E v w → Reaches E u w
reaches_on E u v w a b = (a.0 ++ b.0, walk_on E u v w a.0 b.0 a.1 b.1)

-- a walk of at least two numbers ends in an edge
pub last_edge : (E : ℕ → ℕ → Type 0) (u x v : ℕ) (xs : List ℕ) → Leads E u (x ∷ xs) v → (p : ℕ) × Reaches E u p × E p v
last_edge E u x v [] a = (u, ([], refl), subst (E u) a.1 a.0)
last_edge E u x v (y ∷ ys) a =
    let rest = last_edge E x y v ys a.1 in
    (rest.0, (x ∷ rest.1.0, (a.0, rest.1.1)), rest.2)

-- a number that properly reaches another reaches one that stands just before it
pub last_edge_of : (E : ℕ → ℕ → Type 0) (u v : ℕ) → ProperlyReaches E u v → (p : ℕ) × Reaches E u p × E p v
last_edge_of E u v (([], e), ne) = absurd (ne e)
last_edge_of E u v ((x ∷ xs, a), ne) = last_edge E u x v xs a
