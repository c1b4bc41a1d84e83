-- The program of a number is typable.
use Rattle.std.proofs.Common.{◌≡◌, ℕ, zero, suc, ◌<◌, ◌≤◌, List, [], ◌∷◌, refl, sym, ap, arith, lit≤}
use Rattle.std.specs.Prelude.{slice_index_or}
use Rattle.std.specs.List.{Contains}
use Rattle.std.proofs.lemmas.List.Elements.{All-nil, All-cons}
use Rattle.priml_syntax.specs.declared.prio.Prio.TheVariants.{Const}
use Rattle.priml_syntax.specs.Tree.{unit, int, thread, Term, Routine}
use Rattle.priority_order.specs.Order.{Pair, IsChain, IsLawful}
use Rattle.constraint_proof.specs.Entailed.{by_reflexive}
use Rattle.type_rules.specs.Typing.{VarTypes, Context, HaveTypes, CallFits, CodeHas}
use Rattle.type_rules.specs.Typable.{RoutineTyped, Typable}
use Rattle.source_maker.specs.Tree.{leaf_code, call_leaf, chain_rest, chain_code, call_chain, main_code, procedure, made_tree}

abbrev one : List Pair
one = (0, 1) ∷ []

one_pair : (p : Pair) → Contains one p → (p.0 ≡ 0) × (p.1 ≡ 1)
one_pair p c = go c.0 c.1 c.2
  where
    go : (k : ℕ) → k < 1 → slice_index_or one k p ≡ p → (p.0 ≡ 0) × (p.1 ≡ 1)
    go zero l e = (ap (λ (q : Pair). q.0) (sym e), ap (λ (q : Pair). q.1) (sym e))
    go (suc k) l e = absurd (omega arith)

rises : (path : List Pair) (a b : ℕ) → IsChain one a path b → a ≤ b
rises [] a b e = omega arith
rises (p ∷ path) a b h =
    let c = one_pair p h.0 in
    let r = rises path p.1 b h.2 in
    omega (arith, c.0, c.1, h.1, r)

lawful : IsLawful one
lawful = record {
  antisymmetric = λ a b below back. below.differ (omega (arith, rises below.at_most.path a b below.at_most.leads, rises back.path b a back.leads));
  irreflexive = λ a c. let e = one_pair (a, a) c in absurd (omega (arith, e.0, e.1));
}

-- a call of one of the two procedures, each of which takes a number and gives one
module _ (n : ℕ) where
  abbrev at_main : Context
  at_main = record { pairs = one; procs = (procedure 41 leaf_code).declares ∷ (procedure 113 chain_code).declares ∷ []; given = [] }

  calls_leaf : (G : VarTypes) (e : Term) → HaveTypes G (e ∷ []) (int ∷ []) → CallFits at_main G (Const 0) 0 [] (e ∷ []) int
  calls_leaf G e h = record { sig = (procedure 41 leaf_code).declares; is = refl; prios = refl; arguments = h; own = refl; constraints = All-nil _; gives = refl }

  calls_chain : (G : VarTypes) (e : Term) → HaveTypes G (e ∷ []) (int ∷ []) → CallFits at_main G (Const 0) 1 [] (e ∷ []) int
  calls_chain G e h = record { sig = (procedure 113 chain_code).declares; is = refl; prios = refl; arguments = h; own = refl; constraints = All-nil _; gives = refl }

  leaf_typed : CodeHas leaf_code at_main (int ∷ []) (Const 0) int
  leaf_typed = (unit, ((refl, refl, refl), refl), (refl, refl, refl))

  call_leaf_typed : CodeHas call_leaf at_main (int ∷ []) (Const 0) int
  call_leaf_typed = (int, calls_leaf _ _ (int, [], refl, refl, refl), refl)

  chain_rest_typed : CodeHas chain_rest at_main (int ∷ []) (Const 0) int
  chain_rest_typed = (
    thread (Const 0) int,
    (int, call_leaf_typed, refl, lit≤ tt),
    (
      int,
      calls_chain _ _ (int, [], (refl, refl, refl), refl, refl),
      (
        int,
        (Const 0, refl, by_reflexive),
        (refl, refl, refl),
      ),
    ),
  )

  chain_typed : CodeHas chain_code at_main (int ∷ []) (Const 0) int
  chain_typed = ((refl, refl, refl), refl, chain_rest_typed)

  call_chain_typed : CodeHas (call_chain n) at_main [] (Const 0) int
  call_chain_typed = (int, calls_chain _ _ (int, [], refl, refl, refl), refl)

  main_typed : CodeHas (main_code n) at_main [] (Const 1) int
  main_typed = (thread (Const 0) int, (int, call_chain_typed, refl, lit≤ tt), (unit, (refl, refl), refl))

  pub made_typable : Typable (made_tree n)
  made_typable =
      let Typed : Routine → Type 0 = RoutineTyped (made_tree n) in
      let main : Routine = record { at = 297; declares = record { vars = 0; given = []; params = []; own = Const 1; gives = int }; body = main_code n } in
      record {
        lawful = lawful;
        procs = All-cons Typed (procedure 41 leaf_code) (procedure 113 chain_code ∷ []) leaf_typed (All-cons Typed (procedure 113 chain_code) [] chain_typed (All-nil Typed));
        mains = All-cons Typed main [] main_typed (All-nil Typed);
      }
