-- The first fault of an expression or a block, by cases.
use Rattle.std.specs.Prelude.{◌≡◌, ℕ, ◌≤◌, List, [], ◌∷◌, ◌++◌, slice_get, Some}
use Rattle.std.proofs.Common.{◌⊎◌}
use Rattle.priml_syntax.specs.declared.prio.Prio.{Prio}
use Rattle.priml_syntax.specs.Tree.{Signature, Type', sum, Term, var, number, bool_term, unit_term, pair_term, first, second, left, right, binary, negated, Code, block, Body, bind, ret_tail, if_tail, case_tail, Act, ret, spawn, sync, call, do_block, input, output}
use Rattle.type_rules.specs.declared.TypeKind.{TypeKind}
use Rattle.type_rules.specs.declared.TypeKind.TheVariants.{Mismatch}
use Rattle.type_rules.specs.Typing.{VarTypes, Context, HasType, HaveTypes, CodeHas, ActHas}
use Rattle.type_rules.specs.Nodes.{TermFails, CallFails, ActFails, EndFails, IsSum, rank}

-- the expression is the first node without a type, and stands at this place
abbrev pub TermHere : VarTypes → Term → ℕ → TypeKind → ℕ → Type 0
TermHere G e at k p = TermFails G e k × (p ≡ at)

-- the first fault of an expression: that of its first part, or of the second where the first has a type, or its own
abbrev pub TermFaults : Term → VarTypes → TypeKind → ℕ → Type 0
TermFaults (var at x) G k p = ⊥
TermFaults (number at n) G k p = ⊥
TermFaults (bool_term at b) G k p = ⊥
TermFaults (unit_term at) G k p = ⊥
TermFaults (pair_term at a b) G k p = TermFaults a G k p ⊎ (((A : Type') × HasType G a A × TermFaults b G k p) ⊎ TermHere G (pair_term at a b) at k p)
TermFaults (first at a) G k p = TermFaults a G k p ⊎ TermHere G (first at a) at k p
TermFaults (second at a) G k p = TermFaults a G k p ⊎ TermHere G (second at a) at k p
TermFaults (left at S a) G k p = TermFaults a G k p ⊎ TermHere G (left at S a) at k p
TermFaults (right at S a) G k p = TermFaults a G k p ⊎ TermHere G (right at S a) at k p
TermFaults (binary at op a b) G k p = TermFaults a G k p ⊎ (((A : Type') × HasType G a A × TermFaults b G k p) ⊎ TermHere G (binary at op a b) at k p)
TermFaults (negated at a) G k p = TermFaults a G k p ⊎ TermHere G (negated at a) at k p

-- the first fault of expressions one after another
abbrev pub TermsFault : List Term → VarTypes → TypeKind → ℕ → Type 0
TermsFault [] G k p = ⊥
TermsFault (e ∷ es) G k p = TermFaults e G k p ⊎ ((A : Type') × HasType G e A × TermsFault es G k p)

-- a call whose arguments have types, and the smallest of its faults
pub record CallFault (s : Context) (G : VarTypes) (r : Prio) (f : ℕ) (ps : List Prio) (es : List Term) (k : TypeKind) : Type 0 where
  pub sig : Signature
  pub is : slice_get s.procs f ≡ Some sig
  pub types : List Type'
  pub have : HaveTypes G es types
  pub fails : CallFails s G r sig ps es k
  pub least : (l : TypeKind) → CallFails s G r sig ps es l → rank k ≤ rank l

-- the action itself, whose parts have types
abbrev pub ActFault : Context → VarTypes → Prio → Act → TypeKind → Type 0
ActFault s G r (ret e) k = ⊥
ActFault s G r (spawn q c) k = ActFails s G r (spawn q c) k
ActFault s G r (sync h) k = ActFails s G r (sync h) k
ActFault s G r (call f ps es) k = CallFault s G r f ps es k
ActFault s G r (do_block c) k = ⊥
ActFault s G r input k = ⊥
ActFault s G r (output e) k = ActFails s G r (output e) k

-- the first fault of a block, of a body and of the parts of an action
abbrev mutual
  pub CodeFaults : Code → Context → VarTypes → Prio → TypeKind → ℕ → Type 0
  CodeFaults (block at b) s G r k p = BodyFaults b s G r k p

  pub BodyFaults : Body → Context → VarTypes → Prio → TypeKind → ℕ → Type 0
  BodyFaults (bind at a rest) s G r k p =
      PartsFault a s G r k p ⊎ ((ActFault s G r a k × (p ≡ at)) ⊎ ((A : Type') × ActHas a s G r A × BodyFaults rest s (G ++ A ∷ []) r k p))
  BodyFaults (ret_tail at e) s G r k p = TermFaults e G k p
  BodyFaults (if_tail at e a b) s G r k p =
      TermFaults e G k p
      ⊎ (((A : Type') × HasType G e A × CodeFaults a s G r k p)
      ⊎ (((A B : Type') × HasType G e A × CodeHas a s G r B × CodeFaults b s G r k p)
      ⊎ (EndFails s G r (if_tail at e a b) k × (p ≡ at))))
  BodyFaults (case_tail at e a b) s G r k p =
      TermFaults e G k p
      ⊎ (((A : Type') × HasType G e A × (IsSum A → ⊥) × (k ≡ Mismatch) × (p ≡ at))
      ⊎ (((A B : Type') × HasType G e (sum A B) × CodeFaults a s (G ++ A ∷ []) r k p)
      ⊎ (((A B C : Type') × HasType G e (sum A B) × CodeHas a s (G ++ A ∷ []) r C × CodeFaults b s (G ++ B ∷ []) r k p)
      ⊎ (EndFails s G r (case_tail at e a b) k × (p ≡ at)))))

  -- the parts of an action
  pub PartsFault : Act → Context → VarTypes → Prio → TypeKind → ℕ → Type 0
  PartsFault (ret e) s G r k p = TermFaults e G k p
  PartsFault (spawn q c) s G r k p = CodeFaults c s G q k p
  PartsFault (sync h) s G r k p = ⊥
  PartsFault (call f ps es) s G r k p = TermsFault es G k p
  PartsFault (do_block c) s G r k p = CodeFaults c s G r k p
  PartsFault input s G r k p = ⊥
  PartsFault (output e) s G r k p = TermFaults e G k p
