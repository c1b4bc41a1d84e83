-- What is in scope has a type, or a first fault.
use Rattle.std.proofs.Common.{◌≡◌, ◌≢◌, ℕ, zero, suc, ◌+◌, ◌<◌, List, [], ◌∷◌, ◌++◌, length, map, refl, sym, subst, ◌⊎◌, inl, inr, arith, length-append}
use Rattle.std.specs.Prelude.{slice_get, Some}
use Rattle.priml_syntax.specs.declared.prio.Prio.{Prio}
use Rattle.priml_syntax.specs.declared.expr.Op.{Op}
use Rattle.priml_syntax.specs.Size.{type_nodes}
use Rattle.priml_syntax.specs.Tree.{Signature, Type', unit, bool, int, pair, sum, thread, Term, var, number, bool_term, unit_term, pair_term, first, second, left, right, binary, negated, Code, block, Body, bind, ret_tail, if_tail, case_tail, Act, ret, spawn, sync, call, do_block, input, output}
use Rattle.constraint_proof.specs.Entailed.{Constraint}
use Rattle.constraint_proof.proofs.Decided.{same_prio_or_not, entailed_or_not}
use Rattle.type_rules.specs.declared.TypeKind.{TypeKind}
use Rattle.type_rules.specs.declared.TypeKind.TheVariants.{Arity, Mismatch, NotThread, WrongPriority, Constraint as ConstraintKind, Inversion, Wide}
use Rattle.type_rules.specs.declared.TypeStop.TheVariants.{Fault}
use Rattle.type_rules.specs.Typing.{VarTypes, Context, HasType, HaveTypes, CodeHas, BodyHas, ActHas, Holds, subst_prio, subst_type, operand, gives, InScope, AllInScope, CodeInScope, BodyInScope, ActInScope}
use Rattle.type_rules.specs.Inside.Faults.{TermFaults, TermsFault, ActFault, CodeFaults, BodyFaults, PartsFault}
use Rattle.type_rules.proofs.Arguments.{stop_arity, stop_mismatch, stop_wrong, stop_constraint, call_fits}
use Rattle.type_rules.proofs.TypeForms.{at_most_or_more, same_number_or_not, both_or_either, same_type_or_not, same_types_or_not, pair_or_not, sum_or_not, thread_or_not, left_or_not, right_or_not, all_or_one}

found_at : {X : Type 0} (xs : List X) (k : ℕ) → k < length xs → (x : X) × (slice_get xs k ≡ Some x)
found_at [] k h = absurd (omega arith)
found_at (x ∷ xs) zero h = (x, refl)
found_at (x ∷ xs) (suc k) h = found_at xs k (omega arith)

-- an expression, expressions, a block, a body or an action has a type, or a first fault
abbrev TermDecided : VarTypes → Term → Type 0
TermDecided G e = ((T : Type') × HasType G e T) ⊎ ((k : TypeKind) × (p : ℕ) × TermFaults e G k p)

abbrev TermsDecided : VarTypes → List Term → Type 0
TermsDecided G es = ((Ts : List Type') × HaveTypes G es Ts) ⊎ ((k : TypeKind) × (p : ℕ) × TermsFault es G k p)

abbrev pub CodeDecided : Context → VarTypes → Prio → Code → Type 0
CodeDecided s G r c = ((T : Type') × CodeHas c s G r T) ⊎ ((k : TypeKind) × (p : ℕ) × CodeFaults c s G r k p)

abbrev BodyDecided : Context → VarTypes → Prio → Body → Type 0
BodyDecided s G r b = ((T : Type') × BodyHas b s G r T) ⊎ ((k : TypeKind) × (p : ℕ) × BodyFaults b s G r k p)

abbrev ActDecided : Context → VarTypes → Prio → ℕ → Act → Type 0
ActDecided s G r at a = ((T : Type') × ActHas a s G r T) ⊎ ((k : TypeKind) × (p : ℕ) × (PartsFault a s G r k p ⊎ (ActFault s G r a k × (p ≡ at))))

-- a node, whose parts have types or a first fault
module _ (G : VarTypes) (at : ℕ) where
  pair_decided : (a b : Term) → TermDecided G a → TermDecided G b → TermDecided G (pair_term at a b)
  pair_decided a b (inr f) rest = inr (f.0, f.1, inl f.2)
  pair_decided a b (inl A) (inr f) = inr (f.0, f.1, inr (inl (A.0, A.1, f.2)))
  pair_decided a b (inl A) (inl B) =
      elim (at_most_or_more (type_nodes (pair A.0 B.0)) 16) [
        | inl few ↦ inl (pair A.0 B.0, (A.0, B.0, A.1, B.1, refl, few))
        | inr wide ↦ inr (Wide, at, inr (inr ((A.0, B.0, A.1, B.1, wide, refl), refl)))
      ]

  -- over one part, where a test of the part's type decides
  over : (e a : Term) (Fails : Type' → Type 0) → TermDecided G a → ((A : Type') → HasType G a A → ((T : Type') × HasType G e T) ⊎ Fails A)
      → ((T : Type') × HasType G e T) ⊎ ((k : TypeKind) × (p : ℕ) × (TermFaults a G k p ⊎ (((A : Type') × HasType G a A × Fails A × (k ≡ Mismatch)) × (p ≡ at))))
  over e a Fails (inr f) test = inr (f.0, f.1, inl f.2)
  over e a Fails (inl A) test = elim (test A.0 A.1) [ inl h ↦ inl h | inr none ↦ inr (Mismatch, at, inr ((A.0, A.1, none, refl), refl)) ]

  first_decided : (a : Term) → TermDecided G a → TermDecided G (first at a)
  first_decided a d =
      over (first at a) a (λ A. (B C : Type') → A ≢ pair B C) d
      (λ A x. elim (pair_or_not A) [ inl h ↦ inl (h.0, (h.1, subst (HasType G a) h.2 x)) | inr none ↦ inr none ])

  second_decided : (a : Term) → TermDecided G a → TermDecided G (second at a)
  second_decided a d =
      over (second at a) a (λ A. (B C : Type') → A ≢ pair B C) d
      (λ A x. elim (pair_or_not A) [ inl h ↦ inl (h.1, (h.0, subst (HasType G a) h.2 x)) | inr none ↦ inr none ])

  left_decided : (S : Type') (a : Term) → TermDecided G a → TermDecided G (left at S a)
  left_decided S a d =
      over (left at S a) a (λ A. (B : Type') → S ≢ sum A B) d (λ A x. elim (left_or_not S A) [ inl h ↦ inl (S, (A, h.0, h.1, x, refl)) | inr none ↦ inr none ])

  right_decided : (S : Type') (a : Term) → TermDecided G a → TermDecided G (right at S a)
  right_decided S a d =
      over (right at S a) a (λ A. (B : Type') → S ≢ sum B A) d (λ A x. elim (right_or_not S A) [ inl h ↦ inl (S, (h.0, A, h.1, x, refl)) | inr none ↦ inr none ])

  negated_decided : (a : Term) → TermDecided G a → TermDecided G (negated at a)
  negated_decided a d =
      over (negated at a) a (λ A. A ≢ bool) d (λ A x. elim (same_type_or_not A bool) [ inl h ↦ inl (bool, (subst (HasType G a) h x, refl)) | inr none ↦ inr none ])

  binary_decided : (op : Op) (a b : Term) → TermDecided G a → TermDecided G b → TermDecided G (binary at op a b)
  binary_decided op a b (inr f) rest = inr (f.0, f.1, inl f.2)
  binary_decided op a b (inl A) (inr f) = inr (f.0, f.1, inr (inl (A.0, A.1, f.2)))
  binary_decided op a b (inl A) (inl B) =
      elim (both_or_either (same_type_or_not A.0 (operand op)) (same_type_or_not B.0 (operand op))) [
        | inl h ↦ inl (gives op, (subst (HasType G a) h.0 A.1, subst (HasType G b) h.1 B.1, refl))
        | inr none ↦ inr (Mismatch, at, inr (inr ((A.0, B.0, A.1, B.1, none, refl), refl)))
      ]

term_decided : (e : Term) (G : VarTypes) → InScope (length G) e → TermDecided G e
term_decided (var at x) G h = inl (found_at G x h)
term_decided (number at n) G h = inl (int, refl)
term_decided (bool_term at b) G h = inl (bool, refl)
term_decided (unit_term at) G h = inl (unit, refl)
term_decided (pair_term at a b) G h = pair_decided G at a b (term_decided a G h.0) (term_decided b G h.1)
term_decided (first at a) G h = first_decided G at a (term_decided a G h)
term_decided (second at a) G h = second_decided G at a (term_decided a G h)
term_decided (left at S a) G h = left_decided G at S a (term_decided a G h)
term_decided (right at S a) G h = right_decided G at S a (term_decided a G h)
term_decided (binary at op a b) G h = binary_decided G at op a b (term_decided a G h.0) (term_decided b G h.1)
term_decided (negated at a) G h = negated_decided G at a (term_decided a G h)

terms_decided : (es : List Term) (G : VarTypes) → AllInScope (length G) es → TermsDecided G es
terms_decided [] G h = inl ([], refl)
terms_decided (e ∷ es) G h = go (term_decided e G h.0) (terms_decided es G h.1) where
  go : TermDecided G e → TermsDecided G es → TermsDecided G (e ∷ es)
  go (inr f) rest = inr (f.0, f.1, inl f.2)
  go (inl A) (inr f) = inr (f.0, f.1, inr (A.0, A.1, f.2))
  go (inl A) (inl Ts) = inl (A.0 ∷ Ts.0, (A.0, Ts.0, A.1, Ts.1, refl))

module _ (s : Context) (G : VarTypes) (r : Prio) (at : ℕ) where
  -- a call whose arguments have types
  module _ (f : ℕ) (ps : List Prio) (es : List Term) (sig : Signature) (is : slice_get s.procs f ≡ Some sig) (Ts : List Type') (have : HaveTypes G es Ts) where
    abbrev CallDecided : Type 0
    CallDecided = ActDecided s G r at (call f ps es)

    by_constraints : (vars : length ps ≡ sig.vars) (params : length es ≡ length sig.params) (fit : Ts ≡ map (subst_type ps) sig.params) (own : subst_prio ps sig.own ≡ r) → CallDecided
    by_constraints vars params fit own =
        elim (all_or_one (λ (c : Constraint). Holds s (subst_prio ps c.0) (subst_prio ps c.1)) (λ c. entailed_or_not s.pairs s.given (subst_prio ps c.0) (subst_prio ps c.1)) sig.given) [
          | inl all ↦ inl (subst_type ps sig.gives, call_fits s G r sig ps es f at is Ts have vars params fit own all (subst_type ps sig.gives) refl)
          | inr c ↦ inr (ConstraintKind, at, stop_constraint s G r sig ps es f at is Ts have vars params fit own c.0 c.1 c.2 (Fault (record { kind = ConstraintKind; at = at })) refl)
        ]

    by_types : (vars : length ps ≡ sig.vars) (params : length es ≡ length sig.params) → CallDecided
    by_types vars params =
        elim (same_types_or_not Ts (map (subst_type ps) sig.params)) [
          | inr none ↦ inr (Mismatch, at, stop_mismatch s G r sig ps es f at is Ts have vars params none (Fault (record { kind = Mismatch; at = at })) refl)
          | inl fit ↦ elim (same_prio_or_not (subst_prio ps sig.own) r) [
            | inr other ↦ inr (WrongPriority, at, stop_wrong s G r sig ps es f at is Ts have vars params fit other (Fault (record { kind = WrongPriority; at = at })) refl)
            | inl own ↦ by_constraints vars params fit own
          ]
        ]

    call_decided : CallDecided
    call_decided =
        elim (both_or_either (same_number_or_not (length ps) sig.vars) (same_number_or_not (length es) (length sig.params))) [
          | inr none ↦ inr (Arity, at, stop_arity s G r sig ps es f at is Ts have none (Fault (record { kind = Arity; at = at })) refl)
          | inl h ↦ by_types h.0 h.1
        ]

  called : (f : ℕ) (ps : List Prio) (es : List Term) → f < length s.procs → TermsDecided G es → ActDecided s G r at (call f ps es)
  called f ps es lt (inr x) = inr (x.0, x.1, inl x.2)
  called f ps es lt (inl Ts) = let sig = found_at s.procs f lt in call_decided f ps es sig.0 sig.1 Ts.0 Ts.1

  returned : (e : Term) → TermDecided G e → ActDecided s G r at (ret e)
  returned e (inl A) = inl A
  returned e (inr f) = inr (f.0, f.1, inl f.2)

  printed : (e : Term) → TermDecided G e → ActDecided s G r at (output e)
  printed e (inr f) = inr (f.0, f.1, inl f.2)
  printed e (inl A) =
      elim (same_type_or_not A.0 int) [
        | inl h ↦ inl (unit, (subst (HasType G e) h A.1, refl))
        | inr none ↦ inr (Mismatch, at, inr ((A.0, A.1, none, refl), refl))
      ]

  spawned : (q : Prio) (c : Code) → CodeDecided s G q c → ActDecided s G r at (spawn q c)
  spawned q c (inr f) = inr (f.0, f.1, inl f.2)
  spawned q c (inl A) =
      elim (at_most_or_more (type_nodes (thread q A.0)) 16) [
        | inl few ↦ inl (thread q A.0, (A.0, A.1, refl, few))
        | inr wide ↦ inr (Wide, at, inr ((A.0, A.1, wide, refl), refl))
      ]

  entered : (c : Code) → CodeDecided s G r c → ActDecided s G r at (do_block c)
  entered c (inl A) = inl A
  entered c (inr f) = inr (f.0, f.1, inl f.2)

  awaited : (h : ℕ) → h < length G → ActDecided s G r at (sync h)
  awaited h lt = go (found_at G h lt) where
    held : (A : Type') → slice_get G h ≡ Some A → (q : Prio) (B : Type') → A ≡ thread q B → ActDecided s G r at (sync h)
    held A e q B is =
        elim (entailed_or_not s.pairs s.given r q) [
          | inl holds ↦ inl (B, (q, subst (λ (T : Type'). slice_get G h ≡ Some T) is e, holds))
          | inr none ↦ inr (Inversion, at, inr ((A, e, inr (q, B, is, none, refl)), refl))
        ]

    go : (A : Type') × (slice_get G h ≡ Some A) → ActDecided s G r at (sync h)
    go A =
        elim (thread_or_not A.0) [
          | inl t ↦ held A.0 A.1 t.0 t.1 t.2
          | inr none ↦ inr (NotThread, at, inr ((A.0, A.1, inl (none, refl)), refl))
        ]

  -- an ending, and an action with what follows it
  bound_decided : (a : Act) (rest : Body) → ActDecided s G r at a → ((A : Type') → BodyDecided s (G ++ A ∷ []) r rest) → BodyDecided s G r (bind at a rest)
  bound_decided a rest (inr (k, p, inl f)) later = inr (k, p, inl f)
  bound_decided a rest (inr (k, p, inr f)) later = inr (k, p, inr (inl f))
  bound_decided a rest (inl A) later =
      elim (later A.0) [
        | inl T ↦ inl (T.0, (A.0, A.1, T.1))
        | inr f ↦ inr (f.0, f.1, inr (inr (A.0, A.1, f.2)))
      ]

  if_decided : (e : Term) (a b : Code) → TermDecided G e → CodeDecided s G r a → CodeDecided s G r b → BodyDecided s G r (if_tail at e a b)
  if_decided e a b (inr f) x y = inr (f.0, f.1, inl f.2)
  if_decided e a b (inl A) (inr f) y = inr (f.0, f.1, inr (inl (A.0, A.1, f.2)))
  if_decided e a b (inl A) (inl B) (inr f) = inr (f.0, f.1, inr (inr (inl (A.0, B.0, A.1, B.1, f.2))))
  if_decided e a b (inl A) (inl B) (inl C) =
      elim (both_or_either (same_type_or_not A.0 bool) (same_type_or_not B.0 C.0)) [
        | inl h ↦ inl (C.0, (subst (HasType G e) h.0 A.1, subst (CodeHas a s G r) h.1 B.1, C.1))
        | inr none ↦ inr (Mismatch, at, inr (inr (inr ((A.0, B.0, C.0, A.1, B.1, C.1, none, refl), refl))))
      ]

  case_second : (e : Term) (a b : Code) (A B : Type') → HasType G e (sum A B) → (C : Type') → CodeHas a s (G ++ A ∷ []) r C → CodeDecided s (G ++ B ∷ []) r b → BodyDecided s G r (case_tail at e a b)
  case_second e a b A B h C x (inr f) = inr (f.0, f.1, inr (inr (inr (inl (A, B, C, h, x, f.2)))))
  case_second e a b A B h C x (inl D) =
      elim (same_type_or_not C D.0) [
        | inl same ↦ inl (D.0, (A, B, h, subst (CodeHas a s (G ++ A ∷ []) r) same x, D.1))
        | inr other ↦ inr (Mismatch, at, inr (inr (inr (inr ((A, B, C, D.0, h, x, D.1, other, refl), refl)))))
      ]

  case_first : (e : Term) (a b : Code) (A B : Type') → HasType G e (sum A B) → CodeDecided s (G ++ A ∷ []) r a → CodeDecided s (G ++ B ∷ []) r b → BodyDecided s G r (case_tail at e a b)
  case_first e a b A B h (inr f) y = inr (f.0, f.1, inr (inr (inl (A, B, h, f.2))))
  case_first e a b A B h (inl C) y = case_second e a b A B h C.0 C.1 y

  case_decided : (e : Term) (a b : Code) → TermDecided G e → ((A : Type') → CodeDecided s (G ++ A ∷ []) r a) → ((B : Type') → CodeDecided s (G ++ B ∷ []) r b) → BodyDecided s G r (case_tail at e a b)
  case_decided e a b (inr f) x y = inr (f.0, f.1, inl f.2)
  case_decided e a b (inl A) x y =
      elim (sum_or_not A.0) [
        | inl h ↦ case_first e a b h.0 h.1 (subst (HasType G e) h.2 A.1) (x h.0) (y h.1)
        | inr none ↦ inr (Mismatch, at, inr (inl (A.0, A.1, none, refl, refl)))
      ]

-- one variable more
deeper : (G : VarTypes) (A : Type') → length (G ++ A ∷ []) ≡ length G + 1
deeper G A = length-append G (A ∷ [])

mutual
  pub code_decided : (c : Code) (s : Context) (G : VarTypes) (r : Prio) → CodeInScope c (length s.procs) (length G) → CodeDecided s G r c
  code_decided (block at b) s G r h = body_decided b s G r h

  body_decided : (b : Body) (s : Context) (G : VarTypes) (r : Prio) → BodyInScope b (length s.procs) (length G) → BodyDecided s G r b
  body_decided (bind at a rest) s G r h =
      bound_decided s G r at a rest (act_decided a s G r at h.0) (λ A. body_decided rest s (G ++ A ∷ []) r (subst (BodyInScope rest (length s.procs)) (sym (deeper G A)) h.1))
  body_decided (ret_tail at e) s G r h = term_decided e G h
  body_decided (if_tail at e a b) s G r h = if_decided s G r at e a b (term_decided e G h.0) (code_decided a s G r h.1) (code_decided b s G r h.2)
  body_decided (case_tail at e a b) s G r h =
      case_decided s G r at e a b (term_decided e G h.0)
      (λ A. code_decided a s (G ++ A ∷ []) r (subst (CodeInScope a (length s.procs)) (sym (deeper G A)) h.1))
      (λ B. code_decided b s (G ++ B ∷ []) r (subst (CodeInScope b (length s.procs)) (sym (deeper G B)) h.2))

  act_decided : (a : Act) (s : Context) (G : VarTypes) (r : Prio) (at : ℕ) → ActInScope a (length s.procs) (length G) → ActDecided s G r at a
  act_decided (ret e) s G r at h = returned s G r at e (term_decided e G h)
  act_decided (spawn q c) s G r at h = spawned s G r at q c (code_decided c s G q h)
  act_decided (sync x) s G r at h = awaited s G r at x h
  act_decided (call f ps es) s G r at h = called s G r at f ps es h.0 (terms_decided es G h.1)
  act_decided (do_block c) s G r at h = entered s G r at c (code_decided c s G r h)
  act_decided input s G r at h = inl (sum unit int, refl)
  act_decided (output e) s G r at h = printed s G r at e (term_decided e G h)
