-- Priorities and types under a frame's priorities.
use Rattle.std.proofs.Common.{◌≡◌, ℕ, zero, suc, ◌<◌, List, [], ◌∷◌, length, map, refl, sym, ap₂, subst, subst₂, arith}
use Rattle.std.specs.Prelude.{slice_index, slice_index_or}
use Rattle.std.specs.List.{All}
use Rattle.std.proofs.lemmas.List.{get_or-map}
use Rattle.std.proofs.lemmas.List.Elements.{All-head, All-tail}
use Rattle.priml_syntax.specs.declared.prio.Prio.{Prio}
use Rattle.priml_syntax.specs.declared.prio.Prio.TheVariants.{Const, Var}
use Rattle.priml_syntax.specs.Tree.{Type', unit, bool, int, pair, sum, thread, Constraint}
use Rattle.priml_syntax.specs.Scoped.{NameCounts, PrioIn, PriosIn, TypeIn, Written}
use Rattle.priority_order.specs.Order.{AtMost}
use Rattle.priority_order.proofs.Paths as order
use Rattle.constraint_proof.specs.Entailed.{Entailed, by_declared, by_assumed, by_reflexive, by_transitive}
use Rattle.type_rules.specs.Typing.{subst_prio, subst_type}
use Rattle.core_steps.specs.Steps.{Job, prio_of}
use Rattle.core_steps.proofs.Typed.{AreDeclared, Meets, scope_at, settled}

met : (pairs : List (ℕ × ℕ)) (ps : List ℕ) (given : List Constraint) (k : ℕ) (d : Constraint) → Meets pairs ps given → k < length given → AtMost pairs (prio_of ps (slice_index_or given k d).0) (prio_of ps (slice_index_or given k d).1)
met pairs ps [] k d m l = absurd (omega arith)
met pairs ps (c ∷ cs) zero d m l = m.0
met pairs ps (c ∷ cs) (suc k) d m l = met pairs ps cs k d m.1 (omega arith)

-- what is entailed holds under priorities that meet the constraints
pub entailed_meets : (pairs : List (ℕ × ℕ)) (given : List Constraint) (ps : List ℕ) {p q : Prio} → Entailed pairs given p q → Meets pairs ps given → AtMost pairs (prio_of ps p) (prio_of ps q)
entailed_meets pairs given ps (by_declared {a = a} {b = b} h) m = order.declared pairs a b h
entailed_meets pairs given ps (by_assumed {p = p} {q = q} h) m = subst (λ (c : Constraint). AtMost pairs (prio_of ps c.0) (prio_of ps c.1)) h.2 (met pairs ps given h.0 (p, q) m h.1)
entailed_meets pairs given ps (by_reflexive {p = p}) m = order.reflexive pairs (prio_of ps p)
entailed_meets pairs given ps (by_transitive {p = p} {q = q} {r = r} x y) m = order.transitive pairs (prio_of ps p) (prio_of ps q) (prio_of ps r) (entailed_meets pairs given ps x m) (entailed_meets pairs given ps y m)

-- a callee's priority at the call's priorities, and then at the caller's
pub prio_settled : (s : NameCounts) (ps : List ℕ) (qs : List Prio) (p : Prio) → s.vars ≡ length qs → PrioIn s p → prio_of ps (subst_prio qs p) ≡ prio_of (map (prio_of ps) qs) p
prio_settled s ps qs (Const a) e h = refl
prio_settled s ps qs (Var v) e h = sym (get_or-map (prio_of ps) qs v (Var v) 0 (omega (arith, e, h)))

pub type_settled : (s : NameCounts) (ps : List ℕ) (qs : List Prio) (t : Type') → s.vars ≡ length qs → TypeIn s t → settled ps (subst_type qs t) ≡ settled (map (prio_of ps) qs) t
type_settled s ps qs unit e h = refl
type_settled s ps qs bool e h = refl
type_settled s ps qs int e h = refl
type_settled s ps qs (pair a b) e h = ap₂ pair (type_settled s ps qs a e h.0) (type_settled s ps qs b e h.1)
type_settled s ps qs (sum a b) e h = ap₂ sum (type_settled s ps qs a e h.0) (type_settled s ps qs b e h.1)
type_settled s ps qs (thread p a) e h = ap₂ (λ x y. thread (Const x) y) (prio_settled s ps qs p e h.0) (type_settled s ps qs a e h.1)

pub types_settled : (s : NameCounts) (ps : List ℕ) (qs : List Prio) (ts : List Type') → s.vars ≡ length qs → All (Written s) ts → map (settled ps) (map (subst_type qs) ts) ≡ map (settled (map (prio_of ps) qs)) ts
types_settled s ps qs [] e h = refl
types_settled s ps qs (t ∷ ts) e h = ap₂ (λ x xs. x ∷ xs) (type_settled s ps qs t e (All-head (Written s) t ts h).0) (types_settled s ps qs ts e (All-tail (Written s) t ts h))

-- a callee's constraints are met, where they are entailed at the call's priorities
pub meets_at : (s : NameCounts) (pairs : List (ℕ × ℕ)) (given : List Constraint) (ps : List ℕ) (qs : List Prio) → Meets pairs ps given → s.vars ≡ length qs → (wanted : List Constraint) → All (λ (c : Constraint). PrioIn s c.0 × PrioIn s c.1) wanted → All (λ (c : Constraint). Entailed pairs given (subst_prio qs c.0) (subst_prio qs c.1)) wanted → Meets pairs (map (prio_of ps) qs) wanted
meets_at s pairs given ps qs m e [] i h = tt
meets_at s pairs given ps qs m e (c ∷ cs) i h =
    let near = All-head (λ (c : Constraint). PrioIn s c.0 × PrioIn s c.1) c cs i in (
      subst₂ (AtMost pairs) (prio_settled s ps qs c.0 e near.0) (prio_settled s ps qs c.1 e near.1) (entailed_meets pairs given ps (All-head (λ (c : Constraint). Entailed pairs given (subst_prio qs c.0) (subst_prio qs c.1)) c cs h) m),
      meets_at s pairs given ps qs m e cs (All-tail (λ (c : Constraint). PrioIn s c.0 × PrioIn s c.1) c cs i) (All-tail (λ (c : Constraint). Entailed pairs given (subst_prio qs c.0) (subst_prio qs c.1)) c cs h),
    )

index_declared : (job : Job) (ps : List ℕ) (v : ℕ) → AreDeclared job ps → v < length ps → slice_index ps v < length job.program.names
index_declared job [] v d l = absurd (omega arith)
index_declared job (p ∷ ps) zero d l = d.0
index_declared job (p ∷ ps) (suc v) d l = index_declared job ps v d.1 (omega arith)

-- a priority in scope stands for one that the program declares
pub declared_at : (job : Job) (ps : List ℕ) (p : Prio) → AreDeclared job ps → PrioIn (scope_at job (length ps)) p → prio_of ps p < length job.program.names
declared_at job ps (Const a) d h = h
declared_at job ps (Var v) d h = index_declared job ps v d h

pub all_declared_at : (job : Job) (ps : List ℕ) (qs : List Prio) → AreDeclared job ps → PriosIn (scope_at job (length ps)) qs → AreDeclared job (map (prio_of ps) qs)
all_declared_at job ps [] d h = tt
all_declared_at job ps (p ∷ qs) d h = (declared_at job ps p d h.0, all_declared_at job ps qs d h.1)
