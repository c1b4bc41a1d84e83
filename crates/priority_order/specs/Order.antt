-- The order that declared pairs make, and what makes it lawful.
use Rattle.std.specs.Prelude.{◌≡◌, ◌≢◌, ℕ, ◌<◌, ◌≤◌, List, [], ◌∷◌, length, take, slice_get, Some, refl}
use Rattle.std.specs.List.{Contains, All}
use Rattle.std.specs.Coded.{Coded, code_by, coded×, coded_ℕ, coded_list}

-- how many priorities a program may declare
abbrev pub most_names : ℕ
most_names = 16

-- a declared pair of priorities, by number: its first is below its second
abbrev pub Pair : Type 0
Pair = ℕ × ℕ

-- the pairs of the path are declared and lead, one after another, from a to b
abbrev pub IsChain : List Pair → ℕ → List Pair → ℕ → Type 0
IsChain pairs a [] b = a ≡ b
IsChain pairs a (p ∷ path) b = Contains pairs p × (p.0 ≡ a) × IsChain pairs p.1 path b

-- a is at most b: a list of declared pairs, perhaps empty, leads from a to b
pub record AtMost (pairs : List Pair) (a b : ℕ) : Type 0 where
  pub path : List Pair
  pub leads : IsChain pairs a path b

-- a is strictly below b: a is at most b, and they differ
pub record IsBelow (pairs : List Pair) (a b : ℕ) : Type 0 where
  pub at_most : AtMost pairs a b
  pub differ : a ≢ b

-- no a is strictly below some b that is at most a, and no pair declares a below itself
pub record IsLawful (pairs : List Pair) : Type 0 where
  pub antisymmetric : (a b : ℕ) → IsBelow pairs a b → AtMost pairs b a → ⊥
  pub irreflexive : (a : ℕ) → Contains pairs (a, a) → ⊥

-- pair i closes a cycle: its second is at most its first by the pairs before it
pub record Closes (pairs : List Pair) (i : ℕ) : Type 0 where
  pub pair : Pair
  pub is : slice_get pairs i ≡ Some pair
  pub back : AtMost (take i pairs) pair.1 pair.0

-- pair i is the first that closes a cycle
pub record IsFirstCycle (pairs : List Pair) (i : ℕ) : Type 0 where
  pub closes : Closes pairs i
  pub first : (j : ℕ) → j < i → Closes pairs j → ⊥

-- a is a priority that is not gone
abbrev pub Remains : ℕ → List ℕ → ℕ → Type 0
Remains count gone a = (a < count) × (Contains gone a → ⊥)

-- a is strictly below none that remains
abbrev pub IsTop : List Pair → ℕ → List ℕ → ℕ → Type 0
IsTop pairs count gone a = (b : ℕ) → Remains count gone b → IsBelow pairs a b → ⊥

-- a is the smallest of those that remain and are strictly below none that remains
pub record IsNext (pairs : List Pair) (count : ℕ) (gone : List ℕ) (a : ℕ) : Type 0 where
  pub remains : Remains count gone a
  pub top : IsTop pairs count gone a
  pub smallest : (c : ℕ) → Remains count gone c → IsTop pairs count gone c → a ≤ c

-- all priorities, lane by lane: each is the next of those that no earlier lane has
pub record AreLanes (pairs : List Pair) (count : ℕ) (lanes : List ℕ) : Type 0 where
  pub long : length lanes ≡ count
  pub each : (k a : ℕ) → slice_get lanes k ≡ Some a → IsNext pairs count (take k lanes) a

-- priority a has lane k
pub record HasLane (pairs : List Pair) (count a k : ℕ) : Type 0 where
  pub lanes : List ℕ
  pub are : AreLanes pairs count lanes
  pub is : slice_get lanes k ≡ Some a

-- both numbers of each pair are below the count
abbrev pub IsWithin : ℕ → List Pair → Type 0
IsWithin count = All (λ (p : Pair). (p.0 < count) × (p.1 < count))

-- what an order is made of: the names of the priorities, as bytes, and the declared pairs
pub record Names : Type 0 where
  pub names : List (List ℕ)
  pub pairs : List Pair

-- names and pairs as lists of numbers
abbrev pub names_code : Coded Names
names_code =
    code_by (List (List ℕ) × List Pair) (coded× (coded_list (coded_list coded_ℕ)) (coded_list (coded× coded_ℕ coded_ℕ)))
    (λ e. (e.names, e.pairs)) (λ p. record { names = p.0; pairs = p.1 }) (λ _. refl)
