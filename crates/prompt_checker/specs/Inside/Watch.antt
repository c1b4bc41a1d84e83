-- What a step shows, by the vertices that ran before it and by the sets of those that are ready.
use Rattle.std.specs.Prelude.{◌≡◌, ℕ, ◌<◌, ◌≤◌, ◌↔◌, ◌++◌, List, length, take, get_or, map, min, Option, None, Some, Bool, true, false}
use Rattle.std.specs.List.{Contains}
use Rattle.std.specs.BTreeSet.{BTreeSet, contains}
use Rattle.std.specs.Ordering.{nat_cmp}
use Rattle.priority_order.specs.Order.{IsBelow}
use Rattle.cost_graph.specs.Graph.{CostGraph, Edge, vertex_priority}
use Rattle.cost_graph.specs.Marks.{is_marked}
use Rattle.cost_graph.specs.Inside.Marks.{marks_after}
use Rattle.prompt_checker.specs.Verdict.{IsFirstOf, IsLeast}
use Rattle.prompt_checker.specs.declared.schedule.FlawKind.{FlawKind}
use Rattle.prompt_checker.specs.declared.schedule.FlawKind.TheVariants.{EmptyStep, TooWide, Twice, NotReady, IdleCore, Inverted, Unfinished}

-- the first vertex of the line that has the property; none where none has it
abbrev pub IsFound : List ℕ → (ℕ → ℕ → Type 0) → Option ℕ → Type 0
IsFound line P None = (k : ℕ) → k < length line → P k (get_or line k 0) → ⊥
IsFound line P (Some v) = IsFirstOf line P v

-- the least number that has the property; none where none has it
abbrev pub IsLeastOf : (ℕ → Type 0) → Option ℕ → Type 0
IsLeastOf P None = (v : ℕ) → P v → ⊥
IsLeastOf P (Some u) = IsLeast P u

-- the lesser of two numbers that may be missing
abbrev pub lesser_of : Option ℕ → Option ℕ → Option ℕ
lesser_of None b = b
lesser_of (Some x) None = Some x
lesser_of (Some x) (Some y) = Some (min x y)

-- the vertex is marked, or stands before place j of the line
abbrev pub WasMarked : List Bool → List ℕ → ℕ → ℕ → Type 0
WasMarked marks line j v = is_marked (marks_after marks (take j line)) v ≡ true

-- the marked vertices are these
abbrev pub AreStood : List Bool → List ℕ → Type 0
AreStood marks done = (v : ℕ) → (is_marked marks v ≡ true) ↔ Contains done v

-- the vertex has run, or stands before place j of the line
abbrev pub StandsAgain : List ℕ → List ℕ → ℕ → ℕ → Type 0
StandsAgain ran line j v = Contains (ran ++ take j line) v

-- a parent of the vertex has not run
abbrev pub IsEarly : CostGraph → List ℕ → ℕ → ℕ → Type 0
IsEarly g ran j v = (p : ℕ) × Edge g p v × (Contains ran p → ⊥)

-- the set of priority p has v
abbrev pub holds : List (BTreeSet ℕ) → ℕ → ℕ → Bool
holds sets p v = get_or (map (λ s. contains nat_cmp s v) sets) p false

-- p is strictly above the priority, if one is given
abbrev pub IsAbove : List (ℕ × ℕ) → Option ℕ → ℕ → Type 0
IsAbove pairs None p = Unit {0}
IsAbove pairs (Some a) p = IsBelow pairs a p

-- v stands in the set of a priority above
abbrev pub IsHeld : List (ℕ × ℕ) → List (BTreeSet ℕ) → Option ℕ → ℕ → Type 0
IsHeld pairs sets low v = (p : ℕ) × IsAbove pairs low p × (holds sets p v ≡ true)

-- the least vertex of the sets, where the line leaves a core idle
abbrev pub IsIdle : List (ℕ × ℕ) → ℕ → List (BTreeSet ℕ) → List ℕ → Option ℕ → Type 0
IsIdle pairs cores sets line None = length line < cores → (v : ℕ) → IsHeld pairs sets None v → ⊥
IsIdle pairs cores sets line (Some u) = (length line < cores) × IsLeast (IsHeld pairs sets None) u

-- the first vertex of the line with one above it in the sets, and the least such one
abbrev pub IsOvertaken : CostGraph → List (ℕ × ℕ) → List (BTreeSet ℕ) → List ℕ → Option (ℕ × ℕ) → Type 0
IsOvertaken g pairs sets line None = (k : ℕ) → k < length line → (u : ℕ) → IsHeld pairs sets (Some (vertex_priority g (get_or line k 0))) u → ⊥
IsOvertaken g pairs sets line (Some p) =
    IsFirstOf line (λ j w. (u : ℕ) × IsHeld pairs sets (Some (vertex_priority g w)) u) p.0 × IsLeast (IsHeld pairs sets (Some (vertex_priority g p.0))) p.1

-- what is wrong with a line by itself and what ran: of the kinds 1 to 4 the first
abbrev pub IsBroken : CostGraph → ℕ → List ℕ → List ℕ → Option FlawKind → Type 0
IsBroken g cores ran line None = (0 < length line) × (length line ≤ cores) × IsFound line (StandsAgain ran line) None × IsFound line (IsEarly g ran) None
IsBroken g cores ran line (Some EmptyStep) = length line ≡ 0
IsBroken g cores ran line (Some TooWide) = (0 < length line) × (cores < length line)
IsBroken g cores ran line (Some (Twice v)) = (0 < length line) × (length line ≤ cores) × IsFound line (StandsAgain ran line) (Some v)
IsBroken g cores ran line (Some (NotReady v)) =
    (0 < length line) × (length line ≤ cores) × IsFound line (StandsAgain ran line) None × IsFound line (IsEarly g ran) (Some v)
IsBroken g cores ran line (Some (IdleCore u)) = ⊥
IsBroken g cores ran line (Some (Inverted v u)) = ⊥
IsBroken g cores ran line (Some (Unfinished u)) = ⊥

-- what is wrong with a line by the sets of what it leaves out: of the kinds 5 and 6 the first
abbrev pub IsUnfair : CostGraph → List (ℕ × ℕ) → ℕ → List (BTreeSet ℕ) → List ℕ → Option FlawKind → Type 0
IsUnfair g pairs cores sets line None = IsIdle pairs cores sets line None × IsOvertaken g pairs sets line None
IsUnfair g pairs cores sets line (Some EmptyStep) = ⊥
IsUnfair g pairs cores sets line (Some TooWide) = ⊥
IsUnfair g pairs cores sets line (Some (Twice v)) = ⊥
IsUnfair g pairs cores sets line (Some (NotReady v)) = ⊥
IsUnfair g pairs cores sets line (Some (IdleCore u)) = IsIdle pairs cores sets line (Some u)
IsUnfair g pairs cores sets line (Some (Inverted v u)) = IsIdle pairs cores sets line None × IsOvertaken g pairs sets line (Some (v, u))
IsUnfair g pairs cores sets line (Some (Unfinished u)) = ⊥
