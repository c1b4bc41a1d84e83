-- A program is typable exactly where each of its parts has a type.
use Rattle.std.proofs.Common.{◌≡◌, ℕ, zero, suc, List, [], ◌∷◌, ◌++◌, map, refl, sym, ap, ◌∙◌, subst, append_assoc, arith}
use Rattle.std.specs.List.{All, Contains}
use Rattle.std.proofs.lemmas.List.{map-append}
use Rattle.std.proofs.lemmas.List.Elements.{All-append, All-cons, All-contains, All-map, All-push, Contains-append_right}
use Rattle.priml_syntax.specs.Tree.{Type'}
use Rattle.priority_order.specs.Order.{Closes}
use Rattle.priority_order.proofs.Build.{unlawful}
use Rattle.type_rules.specs.declared.TypeKind.{TypeKind}
use Rattle.type_rules.specs.Typing.{VarTypes, Context, CodeHas}
use Rattle.type_rules.specs.Nodes.{parameter, Extends, code_sites, FirstFault}
use Rattle.type_rules.specs.Typable.{setting_of, RoutineTyped, Typable, Part, a_pair, a_site, a_routine, pair_parts, routine_parts, routines_parts, parts, PartTyped, PartFails, FirstPartFault, HasTypeFault}
use Rattle.priml_syntax.specs.Tree.{Routine, Declared, Tree, pairs_of}
use Rattle.type_rules.proofs.Unique.{same_code}
use Rattle.type_rules.proofs.Firsts.{first_left}
use Rattle.type_rules.proofs.Sites.{code_typed}
use Rattle.type_rules.proofs.Refutes.{fault_untyped}

-- parameters make the scope of their types
pub params_extend : (s : Context) (G : VarTypes) (Ts : List Type') → Extends s G (map parameter Ts) (G ++ Ts)
params_extend s G [] = append_none G
  where
    append_none : (xs : VarTypes) → xs ++ [] ≡ xs
    append_none [] = refl
    append_none (x ∷ xs) = ap (x ∷◌) (append_none xs)
params_extend s G (T ∷ Ts) = (T, refl, subst (λ H. Extends s (G ++ T ∷ []) (map parameter Ts) H) (append_assoc G (T ∷ []) Ts) (params_extend s (G ++ T ∷ []) Ts))

module _ (p : Tree) where
  pub sites_typed : (f : Routine) (T : Type') → CodeHas f.body (setting_of p f) f.declares.params f.declares.own T → All (PartTyped p) (map (a_site f) (code_sites f.body f.declares.own (map parameter f.declares.params)))
  sites_typed f T h =
      All-map (PartTyped p) (a_site f) (code_sites f.body f.declares.own (map parameter f.declares.params)) (code_typed (setting_of p f) f.body f.declares.own (map parameter f.declares.params) f.declares.params T (params_extend (setting_of p f) [] f.declares.params) h)

  pub routine_typed : (f : Routine) → RoutineTyped p f → All (PartTyped p) (routine_parts f)
  routine_typed f h = All-push (PartTyped p) (map (a_site f) (code_sites f.body f.declares.own (map parameter f.declares.params))) (a_routine f) (sites_typed f f.declares.gives h) h

  pub routines_typed : (fs : List Routine) → All (RoutineTyped p) fs → All (PartTyped p) (routines_parts fs)
  routines_typed [] h = λ k d l. absurd (omega arith)
  routines_typed (f ∷ fs) h = All-append (PartTyped p) (routine_parts f) (routines_parts fs) (routine_typed f (h zero f (omega arith))) (routines_typed fs (λ k d l. h (suc k) d (omega arith)))

  pub pairs_typed : ((i : ℕ) → Closes (pairs_of p) i → ⊥) → (i : ℕ) (ds : List Declared) → All (PartTyped p) (pair_parts i ds)
  pairs_typed h i [] = λ k d l. absurd (omega arith)
  pairs_typed h i (d ∷ ds) = All-cons (PartTyped p) (a_pair i d.at) (pair_parts (suc i) ds) (h i) (pairs_typed h (suc i) ds)

  -- each part of a typable program has a type
  pub all_typed : Typable p → All (PartTyped p) (parts p)
  all_typed t =
      All-append (PartTyped p) (pair_parts 0 p.declared) _ (pairs_typed (λ i c. unlawful (pairs_of p) i c t.lawful) 0 p.declared)
      (All-append (PartTyped p) (routines_parts p.procs) (routines_parts p.mains) (routines_typed p.procs t.procs) (routines_typed p.mains t.mains))

  pub part_untyped : (q : Part) (k : TypeKind) → PartFails p q k → PartTyped p q → ⊥
  part_untyped (a_pair i at) k f t = t f.0
  part_untyped (a_site f n) k h t = fault_untyped (setting_of p f) n k h t
  part_untyped (a_routine f) k h t = h.2 (same_code f.body (setting_of p f) f.declares.params f.declares.own h.0 f.declares.gives h.1 t)

  -- a program with a type fault is not typable
  pub not_typable : (k : TypeKind) (at : ℕ) → HasTypeFault p k at → Typable p → ⊥
  not_typable k at f t = part_untyped f.faulty k f.fails (All-contains (PartTyped p) (parts p) f.faulty (all_typed t) (subst (λ xs. Contains xs f.faulty) (sym f.is) (Contains-append_right f.before (f.faulty ∷ f.after) f.faulty (0, omega arith, refl))))

  -- the first fault of a body is that of its routine
  pub from_sites : (f : Routine) (k : TypeKind) (at : ℕ) → FirstFault (setting_of p f) (code_sites f.body f.declares.own (map parameter f.declares.params)) k at → FirstPartFault p (routine_parts f) k at
  from_sites f k at x = first_left (map (a_site f) (code_sites f.body f.declares.own (map parameter f.declares.params))) (a_routine f ∷ []) k at (record {
    before = map (a_site f) x.before;
    faulty = a_site f x.faulty;
    after = map (a_site f) x.after;
    is = ap (map (a_site f)) x.is ∙ map-append (a_site f) x.before (x.faulty ∷ x.after);
    typed = All-map (PartTyped p) (a_site f) x.before x.typed;
    fails = x.fails;
    there = x.there;
  })
