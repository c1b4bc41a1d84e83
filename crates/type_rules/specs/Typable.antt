-- Typable programs, and the first fault of any other.
use Rattle.std.specs.Prelude.{◌≡◌, ◌≢◌, ◌⊎◌, ℕ, suc, List, [], ◌∷◌, ◌++◌, map}
use Rattle.std.specs.List.{All}
use Rattle.priml_syntax.specs.Tree.{Type', Routine, Declared, Tree, pairs_of}
use Rattle.priml_syntax.specs.Scoped.{IsScoped}
use Rattle.priority_order.specs.Order.{IsLawful, Closes}
use Rattle.type_rules.specs.declared.TypeKind.{TypeKind}
use Rattle.type_rules.specs.declared.TypeKind.TheVariants.{Cycle, Mismatch}
use Rattle.type_rules.specs.Typing.{Context, CodeHas}
use Rattle.type_rules.specs.Nodes.{parameter, Site, code_sites, IsTyped, HasFault, FirstFailure, place}

-- what the typing of a procedure or main stands on
abbrev pub setting_of : Tree → Routine → Context
setting_of p f = record { pairs = pairs_of p; procs = map (λ (g : Routine). g.declares) p.procs; given = f.declares.given }

-- the body has the declared result type at the own priority
abbrev pub RoutineTyped : Tree → Routine → Type 0
RoutineTyped p f = CodeHas f.body (setting_of p f) f.declares.params f.declares.own f.declares.gives

-- the order is lawful, and each procedure and each main has its declared type
pub record Typable (p : Tree) : Type 0 where
  pub lawful : IsLawful (pairs_of p)
  pub procs : All (RoutineTyped p) p.procs
  pub mains : All (RoutineTyped p) p.mains

-- an order declaration by its number and place, a node of a body, or a procedure or main
pub data Part : Type 0 where
  a_pair : ℕ → ℕ → Part
  a_site : Routine → Site → Part
  a_routine : Routine → Part

-- the declared pairs, numbered from i
abbrev pub pair_parts : ℕ → List Declared → List Part
pair_parts i [] = []
pair_parts i (d ∷ ds) = a_pair i d.at ∷ pair_parts (suc i) ds

-- the nodes of the body, and then the procedure or main itself
abbrev pub routine_parts : Routine → List Part
routine_parts f = map (a_site f) (code_sites f.body f.declares.own (map parameter f.declares.params)) ++ a_routine f ∷ []

-- procedures or mains one after another
abbrev pub routines_parts : List Routine → List Part
routines_parts [] = []
routines_parts (f ∷ fs) = routine_parts f ++ routines_parts fs

-- order declarations, then procedures in order, then mains
abbrev pub parts : Tree → List Part
parts p = pair_parts 0 p.declared ++ (routines_parts p.procs ++ routines_parts p.mains)

-- the part has no fault
abbrev pub PartTyped : Tree → Part → Type 0
PartTyped p (a_pair i at) = Closes (pairs_of p) i → ⊥
PartTyped p (a_site f n) = IsTyped (setting_of p f) n
PartTyped p (a_routine f) = RoutineTyped p f

-- the part has this kind of fault, though the parts before it have none
abbrev pub PartFails : Tree → Part → TypeKind → Type 0
PartFails p (a_pair i at) k = Closes (pairs_of p) i × (k ≡ Cycle)
PartFails p (a_site f n) k = HasFault (setting_of p f) n k
PartFails p (a_routine f) k = (T : Type') × CodeHas f.body (setting_of p f) f.declares.params f.declares.own T × (T ≢ f.declares.gives) × (k ≡ Mismatch)

-- where the part stands
abbrev pub part_place : Part → ℕ
part_place (a_pair i at) = at
part_place (a_site f n) = place n.node
part_place (a_routine f) = f.at

-- the first part of the list that fails has this fault, at this place
abbrev pub FirstPartFault : Tree → List Part → TypeKind → ℕ → Type 0
FirstPartFault p = FirstFailure (PartTyped p) (PartFails p) part_place

-- the type fault of a program: that of its first part without a type
abbrev pub HasTypeFault : Tree → TypeKind → ℕ → Type 0
HasTypeFault p k at = FirstPartFault p (parts p) k at

-- no program has two type faults
abbrev pub HasOneTypeFault : Type 0
HasOneTypeFault = (p : Tree) (k l : TypeKind) (a b : ℕ) → HasTypeFault p k a → HasTypeFault p l b → (k ≡ l) × (a ≡ b)

-- no program with a type fault is typable
abbrev pub IsUntypable : Type 0
IsUntypable = (p : Tree) (k : TypeKind) (at : ℕ) → HasTypeFault p k at → Typable p → ⊥

-- every program in scope is typable or has a type fault
abbrev pub EachIsTypedOrFaulty : Type 0
EachIsTypedOrFaulty = (p : Tree) → IsScoped p → Typable p ⊎ ((k : TypeKind) × (at : ℕ) × HasTypeFault p k at)
