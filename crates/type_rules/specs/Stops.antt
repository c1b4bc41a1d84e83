-- What the check of a whole program answers.
use Rattle.std.specs.Prelude.{◌≡◌, List, Result, MatchResult}
use Rattle.type_rules.specs.declared.shared.Shared.{Shared}
use Rattle.type_rules.specs.Shared.{read_shared}
use Rattle.priml_syntax.specs.Tree.{Routine, Tree, pairs_of}
use Rattle.priority_order.specs.Order.{Names}
use Rattle.type_rules.specs.declared.TypeStop.{TypeStop}
use Rattle.type_rules.specs.declared.TypeStop.TheVariants.{Fault, OutOfMemory}
use Rattle.type_rules.specs.Typing.{CodeHas}
use Rattle.type_rules.specs.Typable.{setting_of, Typable, Part, routine_parts, FirstPartFault, HasTypeFault}

-- the order is that of the program's names and pairs
pub record IsOrderOf (p : Tree) (order : Names) : Type 0 where
  pub names : order.names ≡ p.names
  pub pairs : order.pairs ≡ pairs_of p

-- the fault is that of the first part of the list that has no type; want of memory is free
abbrev pub PartsStop : Tree → List Part → TypeStop → Type 0
PartsStop p all (Fault f) = FirstPartFault p all f.kind f.at
PartsStop p all OutOfMemory = Unit {0}

-- the fault is that of the program, which is not typable; want of memory is free
abbrev pub IsTypeStop : Tree → TypeStop → Type 0
IsTypeStop p (Fault f) = HasTypeFault p f.kind f.at × (Typable p → ⊥)
IsTypeStop p OutOfMemory = Unit {0}

-- the type of the body of a procedure or main, or its fault
abbrev pub RoutineAnswer : Tree → Routine → Result Shared TypeStop → Type 0
RoutineAnswer p f result =
    MatchResult result (λ t. CodeHas f.body (setting_of p f) f.declares.params f.declares.own (read_shared t)) (PartsStop p (routine_parts f))
