-- What the checker's parts answer.
use Rattle.std.specs.Prelude.{◌≡◌, ◌≢◌, ℕ, ◌<◌, ◌≤◌, List, Bool, IsTrue, Result, MatchResult}
use Rattle.std.proofs.Common.{◌⊎◌}
use Rattle.priml_syntax.specs.declared.prio.Prio.{Prio}
use Rattle.priml_syntax.specs.declared.expr.Op.{Op}
use Rattle.priml_syntax.specs.Tree.{Type', unit, bool, int, pair, sum, thread}
use Rattle.priml_syntax.specs.Size.{type_nodes}
use Rattle.priml_syntax.specs.Limits.{most_nodes}
use Rattle.priority_order.specs.Order.{Pair}
use Rattle.constraint_proof.specs.Entailed.{Constraint, Entailed}
use Rattle.type_rules.specs.Nodes.{IsSum}
use Rattle.type_rules.specs.Typing.{operand, gives}
use Rattle.type_rules.specs.declared.shared.Shared.{Shared}
use Rattle.type_rules.specs.Shared.{read_shared}
use Rattle.type_rules.specs.declared.TypeKind.{TypeKind}
use Rattle.type_rules.specs.declared.TypeKind.TheVariants.{Mismatch, Wide, Inversion, NotThread}
use Rattle.type_rules.specs.declared.TypeStop.{TypeStop}
use Rattle.type_rules.specs.declared.TypeStop.TheVariants.{Fault, OutOfMemory}

-- a fault of this kind at this place comes only where P holds; want of memory is free
abbrev pub FaultWhere : Type 0 → TypeKind → ℕ → TypeStop → Type 0
FaultWhere P k at (Fault f) = P × (f.kind ≡ k) × (f.at ≡ at)
FaultWhere P k at OutOfMemory = Unit {0}

-- an answer with the property P, or a fault of this kind at this place, which comes only where Q holds
abbrev pub Answer : {A : Type 0} → (A → Type 0) → Type 0 → TypeKind → ℕ → Result A TypeStop → Type 0
Answer P Q k at result = MatchResult result P (FaultWhere Q k at)

-- the type of a pair, or that it would be too wide
abbrev pub PairAnswer : Type' → Type' → ℕ → Result Shared TypeStop → Type 0
PairAnswer A B at result = Answer (λ t. (read_shared t ≡ pair A B) × (type_nodes (pair A B) ≤ most_nodes)) (most_nodes < type_nodes (pair A B)) Wide at result

-- the first part of a pair
abbrev pub FirstAnswer : Type' → ℕ → Result Shared TypeStop → Type 0
FirstAnswer A at result = Answer (λ t. (B : Type') × (A ≡ pair (read_shared t) B)) ((B C : Type') → A ≢ pair B C) Mismatch at result

-- the second part of a pair
abbrev pub SecondAnswer : Type' → ℕ → Result Shared TypeStop → Type 0
SecondAnswer A at result = Answer (λ t. (B : Type') × (A ≡ pair B (read_shared t))) ((B C : Type') → A ≢ pair B C) Mismatch at result

-- the sum S, where A is its left part
abbrev pub LeftAnswer : Type' → Type' → ℕ → Result Shared TypeStop → Type 0
LeftAnswer S A at result = Answer (λ t. (read_shared t ≡ S) × (B : Type') × (S ≡ sum A B)) ((B : Type') → S ≢ sum A B) Mismatch at result

-- the sum S, where A is its right part
abbrev pub RightAnswer : Type' → Type' → ℕ → Result Shared TypeStop → Type 0
RightAnswer S A at result = Answer (λ t. (read_shared t ≡ S) × (B : Type') × (S ≡ sum B A)) ((B : Type') → S ≢ sum B A) Mismatch at result

-- what an operator gives, where A and B are what it takes
abbrev pub OperatorAnswer : Op → Type' → Type' → ℕ → Result Shared TypeStop → Type 0
OperatorAnswer op A B at result =
    Answer (λ t. (read_shared t ≡ gives op) × (A ≡ operand op) × (B ≡ operand op)) ((A ≢ operand op) ⊎ (B ≢ operand op)) Mismatch at result

-- the type of what is negated
abbrev pub TruthAnswer : Type' → ℕ → Result Shared TypeStop → Type 0
TruthAnswer A at result = Answer (λ t. (read_shared t ≡ bool) × (A ≡ bool)) (A ≢ bool) Mismatch at result

-- what `output` gives, where A is the type of a number
abbrev pub OutputAnswer : Type' → ℕ → Result Shared TypeStop → Type 0
OutputAnswer A at result = Answer (λ t. (read_shared t ≡ unit) × (A ≡ int)) (A ≢ int) Mismatch at result

-- the type of two branches, where both have it
abbrev pub JoinedAnswer : Type' → Type' → ℕ → Result Shared TypeStop → Type 0
JoinedAnswer A B at result = Answer (λ t. (read_shared t ≡ A) × (A ≡ B)) (A ≢ B) Mismatch at result

-- the same, where the test is one
abbrev pub ChosenAnswer : Bool → Type' → Type' → ℕ → Result Shared TypeStop → Type 0
ChosenAnswer test A B at result = Answer (λ t. IsTrue test × (read_shared t ≡ A) × (A ≡ B)) ((IsTrue test → ⊥) ⊎ (A ≢ B)) Mismatch at result

-- the two parts of a sum
abbrev pub PartsAnswer : Type' → ℕ → Result (Shared × Shared) TypeStop → Type 0
PartsAnswer A at result = Answer (λ t. A ≡ sum (read_shared t.0) (read_shared t.1)) (IsSum A → ⊥) Mismatch at result

-- the type of a thread, or that it would be too wide
abbrev pub ThreadAnswer : Prio → Type' → ℕ → Result Shared TypeStop → Type 0
ThreadAnswer q A at result =
    Answer (λ t. (read_shared t ≡ thread q A) × (type_nodes (thread q A) ≤ most_nodes)) (most_nodes < type_nodes (thread q A)) Wide at result

-- no thread, or one that r may not wait on
abbrev pub SyncStops : List Pair → List Constraint → Prio → Type' → ℕ → TypeStop → Type 0
SyncStops pairs given r A at (Fault f) =
    ((((q : Prio) (B : Type') → A ≢ thread q B) × (f.kind ≡ NotThread))
    ⊎ ((q : Prio) × (B : Type') × (A ≡ thread q B) × (Entailed pairs given r q → ⊥) × (f.kind ≡ Inversion)))
    × (f.at ≡ at)
SyncStops pairs given r A at OutOfMemory = Unit {0}

-- the type of what a thread gives, where r may wait on it
abbrev pub SyncAnswer : List Pair → List Constraint → Prio → Type' → ℕ → Result Shared TypeStop → Type 0
SyncAnswer pairs given r A at result =
    MatchResult result (λ t. (q : Prio) × (A ≡ thread q (read_shared t)) × Entailed pairs given r q) (SyncStops pairs given r A at)
