-- A program in scope is typable, or has a type fault.
use Rattle.std.proofs.Common.{◌≡◌, ℕ, zero, suc, ◌+◌, ◌<◌, ◌≤◌, List, [], ◌∷◌, length, map, take, get_or, refl, sym, subst, ◌⊎◌, inl, inr, arith, add-one}
use Rattle.std.specs.List.{All}
use Rattle.std.proofs.lemmas.List.{length-map, take_all}
use Rattle.std.proofs.lemmas.List.Elements.{All-nil, All-cons, All-head, All-tail, All-weaker}
use Rattle.std.proofs.lemmas.Option.{slice_get_within}
use Rattle.priml_syntax.specs.Tree.{Routine, Declared, Tree, pairs_of}
use Rattle.priml_syntax.specs.Scoped.{RoutineIn, MainIn}
use Rattle.priority_order.specs.Order.{Pair, IsLawful, Closes}
use Rattle.priority_order.proofs.Paths.{IsAntisymmetric}
use Rattle.priority_order.proofs.Build.{antisymmetric-none, antisymmetric-more, closes, open_at, lawful}
use Rattle.priority_order.proofs.Decided.{at_most_or_not}
use Rattle.type_rules.specs.declared.TypeKind.{TypeKind}
use Rattle.type_rules.specs.declared.TypeKind.TheVariants.{Cycle, Mismatch}
use Rattle.type_rules.specs.declared.TypeStop.TheVariants.{Fault}
use Rattle.type_rules.specs.Typing.{CodeHas, CodeInScope}
use Rattle.type_rules.specs.Nodes.{parameter}
use Rattle.type_rules.specs.Typable.{setting_of, RoutineTyped, Typable, Part, a_pair, pair_parts, routine_parts, routines_parts, PartTyped, FirstPartFault, HasTypeFault, EachIsTypedOrFaulty}
use Rattle.type_rules.proofs.InScope.{routine_in}
use Rattle.type_rules.proofs.Sites.{code_fault}
use Rattle.type_rules.proofs.Firsts.{first_left, first_right}
use Rattle.type_rules.proofs.Programs.{params_extend, routine_typed, from_sites}
use Rattle.type_rules.proofs.Parts.{stop_in_pairs, stop_in_procs, stop_in_mains, result_stop}
use Rattle.type_rules.proofs.TypeForms.{at_most_or_more, same_type_or_not}
use Rattle.type_rules.proofs.BodiesDecided.{CodeDecided, code_decided}

closes_or_not : (ps : List Pair) (i : ℕ) → Closes ps i ⊎ (Closes ps i → ⊥)
closes_or_not ps i =
    elim (at_most_or_more (length ps) i) [
      | inl past ↦ inr (λ c. let within = slice_get_within ps i c.pair c.is in omega (arith, past, within))
      | inr lt ↦ elim (at_most_or_not (take i ps) (get_or ps i (0, 0)).1 (get_or ps i (0, 0)).0) [
        | inl back ↦ inl (closes ps i (0, 0) lt back)
        | inr none ↦ inr (open_at ps i (0, 0) none)
      ]
    ]

-- where no pair closes a cycle, the order is lawful
front_antisymmetric : (ps : List Pair) → ((j : ℕ) → Closes ps j → ⊥) → (i : ℕ) → i ≤ length ps → IsAntisymmetric (take i ps)
front_antisymmetric ps none zero few = antisymmetric-none
front_antisymmetric ps none (suc i) few =
    subst (λ n. IsAntisymmetric (take n ps)) (add-one i)
    (antisymmetric-more ps i (0, 0) (omega arith) (front_antisymmetric ps none i (omega arith)) (λ back. none i (closes ps i (0, 0) (omega arith) back)))

open_lawful : (ps : List Pair) → ((j : ℕ) → Closes ps j → ⊥) → IsLawful ps
open_lawful ps none = lawful ps (subst IsAntisymmetric (take_all (length ps) ps (omega arith)) (front_antisymmetric ps none (length ps) (omega arith))) (λ j lt. none j)

module _ (p : Tree) where
  -- the parts have no fault, or one of them is the first
  abbrev FaultIn : List Part → Type 0
  FaultIn all = (k : TypeKind) × (at : ℕ) × FirstPartFault p all k at

  pairs_decided : (n : ℕ) (ds : List Declared) → ((j : ℕ) → n ≤ j → j < n + length ds → Closes (pairs_of p) j → ⊥) ⊎ FaultIn (pair_parts n ds)
  pairs_decided n [] = inl (λ j low high c. omega (arith, low, high))
  pairs_decided n (d ∷ ds) = go (closes_or_not (pairs_of p) n) (pairs_decided (suc n) ds) where
    go : Closes (pairs_of p) n ⊎ (Closes (pairs_of p) n → ⊥) → ((j : ℕ) → suc n ≤ j → j < suc n + length ds → Closes (pairs_of p) j → ⊥) ⊎ FaultIn (pair_parts (suc n) ds) → ((j : ℕ) → n ≤ j → j < n + length (d ∷ ds) → Closes (pairs_of p) j → ⊥) ⊎ FaultIn (pair_parts n (d ∷ ds))
    go (inl c) rest = inr (Cycle, d.at, record { before = []; faulty = a_pair n d.at; after = pair_parts (suc n) ds; is = refl; typed = All-nil (PartTyped p); fails = (c, refl); there = refl })
    go (inr open_) (inr f) = inr (f.0, f.1, first_right (a_pair n d.at ∷ []) (pair_parts (suc n) ds) f.0 f.1 (All-cons (PartTyped p) (a_pair n d.at) [] open_ (All-nil (PartTyped p))) f.2)
    go (inr open_) (inl none) = inl (λ j low high c. at j low high c (at_most_or_more j n)) where
      at : (j : ℕ) → n ≤ j → j < n + length (d ∷ ds) → Closes (pairs_of p) j → (j ≤ n) ⊎ (n < j) → ⊥
      at j low high c (inl h) = let same : j ≡ n = omega (arith, low, h) in open_ (subst (Closes (pairs_of p)) same c)
      at j low high c (inr h) = none j h (omega (arith, high)) c

  order_decided : IsLawful (pairs_of p) ⊎ FaultIn (pair_parts 0 p.declared)
  order_decided =
      elim (pairs_decided 0 p.declared) [
        | inr f ↦ inr f
        | inl none ↦ inl (open_lawful (pairs_of p) (λ j c. let within = slice_get_within (pairs_of p) j c.pair c.is in none j (omega arith) (omega (arith, within, length-map p.declared (λ (d : Declared). d.pair))) c))
      ]

  -- a procedure or main has its declared type, or a first fault
  routine_decided : (f : Routine) → RoutineIn p f → RoutineTyped p f ⊎ FaultIn (routine_parts f)
  routine_decided f h = go (code_decided f.body (setting_of p f) f.declares.params f.declares.own in_scope) where
    in_scope : CodeInScope f.body (length (map (λ (g : Routine). g.declares) p.procs)) (length f.declares.params)
    in_scope = subst (λ n. CodeInScope f.body n (length f.declares.params)) (sym (length-map p.procs (λ (g : Routine). g.declares))) (routine_in p f h)

    go : CodeDecided (setting_of p f) f.declares.params f.declares.own f.body → RoutineTyped p f ⊎ FaultIn (routine_parts f)
    go (inr x) = inr (x.0, x.1, from_sites p f x.0 x.1 (code_fault (setting_of p f) f.body f.declares.own (map parameter f.declares.params) f.declares.params x.0 x.1 (params_extend (setting_of p f) [] f.declares.params) x.2))
    go (inl T) =
        elim (same_type_or_not T.0 f.declares.gives) [
          | inl e ↦ inl (subst (CodeHas f.body (setting_of p f) f.declares.params f.declares.own) e T.1)
          | inr n ↦ inr (Mismatch, f.at, result_stop p f T.0 (Fault (record { kind = Mismatch; at = f.at })) T.1 n refl)
        ]

  routines_decided : (fs : List Routine) → All (RoutineIn p) fs → All (RoutineTyped p) fs ⊎ FaultIn (routines_parts fs)
  routines_decided [] h = inl (All-nil (RoutineTyped p))
  routines_decided (f ∷ fs) h = go (routine_decided f (All-head (RoutineIn p) f fs h)) (routines_decided fs (All-tail (RoutineIn p) f fs h)) where
    go : RoutineTyped p f ⊎ FaultIn (routine_parts f) → All (RoutineTyped p) fs ⊎ FaultIn (routines_parts fs) → All (RoutineTyped p) (f ∷ fs) ⊎ FaultIn (routines_parts (f ∷ fs))
    go (inr x) rest = inr (x.0, x.1, first_left (routine_parts f) (routines_parts fs) x.0 x.1 x.2)
    go (inl t) (inr x) = inr (x.0, x.1, first_right (routine_parts f) (routines_parts fs) x.0 x.1 (routine_typed p f t) x.2)
    go (inl t) (inl all) = inl (All-cons (RoutineTyped p) f fs t all)

  abbrev Decided : Type 0
  Decided = Typable p ⊎ ((k : TypeKind) × (at : ℕ) × HasTypeFault p k at)

  program_decided : IsLawful (pairs_of p) ⊎ FaultIn (pair_parts 0 p.declared) → All (RoutineTyped p) p.procs ⊎ FaultIn (routines_parts p.procs) → All (RoutineTyped p) p.mains ⊎ FaultIn (routines_parts p.mains) → Decided
  program_decided (inr x) procs mains = inr (x.0, x.1, (stop_in_pairs p (Fault (record { kind = x.0; at = x.1 })) x.2).0)
  program_decided (inl law) (inr x) mains = inr (x.0, x.1, (stop_in_procs p (Fault (record { kind = x.0; at = x.1 })) law x.2).0)
  program_decided (inl law) (inl procs) (inr x) = inr (x.0, x.1, (stop_in_mains p (Fault (record { kind = x.0; at = x.1 })) law procs x.2).0)
  program_decided (inl law) (inl procs) (inl mains) = inl (record { lawful = law; procs = procs; mains = mains })

pub each_decided : EachIsTypedOrFaulty
each_decided p scoped =
    program_decided p (order_decided p) (routines_decided p p.procs scoped.procs)
    (routines_decided p p.mains (All-weaker (MainIn p) (RoutineIn p) (λ f h. h.routine) p.mains scoped.mains))
