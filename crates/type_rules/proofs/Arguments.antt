-- The arguments of a call, one after another.
use Rattle.std.proofs.Common.{◌≡◌, ◌≢◌, ℕ, ◌+◌, ◌<◌, ◌≤◌, List, [], ◌∷◌, ◌++◌, map, length, take, drop, get_or, zero, suc, refl, sym, ap, ◌∙◌, subst, ◌⊎◌, inl, inr, arith}
use Rattle.std.specs.Prelude.{slice_get, Some}
use Rattle.std.specs.List.{All, Contains}
use Rattle.std.proofs.lemmas.List.{take_more, take-append-drop, map-append}
use Rattle.std.proofs.Math.Seq.{drop-cons}
use Rattle.std.proofs.Common.{add-one}
use Rattle.priml_syntax.specs.declared.prio.Prio.{Prio}
use Rattle.priml_syntax.specs.declared.expr.Expr.{Expr}
use Rattle.priml_syntax.specs.declared.ty.Ty.{Ty}
use Rattle.type_rules.specs.declared.shared.Shared.{Shared}
use Rattle.type_rules.specs.Shared.{read_shared}
use Rattle.priml_syntax.specs.Tree.{Type', Term, call}
use Rattle.priml_syntax.specs.Read.{read_type, read_term}
use Rattle.constraint_proof.specs.Entailed.{Constraint}
use Rattle.priml_syntax.specs.declared.program.Proc.{Proc}
use Rattle.type_rules.specs.declared.TypeKind.{TypeKind}
use Rattle.type_rules.specs.declared.TypeKind.TheVariants.{Cycle, Arity, Mismatch, NotThread, WrongPriority, Constraint as ConstraintKind, Inversion, Wide}
use Rattle.type_rules.specs.declared.TypeStop.{TypeStop}
use Rattle.type_rules.specs.declared.TypeStop.TheVariants.{Fault, OutOfMemory}
use Rattle.type_rules.specs.Typing.{VarTypes, Context, HasType, HaveTypes, InScope, AllInScope, CallFits, Holds, subst_prio, subst_type}
use Rattle.priml_syntax.specs.Tree.{Signature}
use Rattle.type_rules.specs.Nodes.{CallFails, rank}
use Rattle.type_rules.specs.Inside.Faults.{TermFaults, TermsFault}
use Rattle.priml_syntax.specs.Read.{read_sig}
use Rattle.type_rules.specs.Inside.Answers.{TermStops, TermsStop, ActStops}
use Rattle.type_rules.proofs.Unique.{same_types}

pub have_push : (G : VarTypes) (es : List Term) (Ts : List Type') (e : Term) (T : Type') → HaveTypes G es Ts → HasType G e T → HaveTypes G (es ++ e ∷ []) (Ts ++ T ∷ [])
have_push G [] Ts e T h k = (T, [], k, refl, ap (λ xs. xs ++ T ∷ []) h)
have_push G (d ∷ es) Ts e T h k = (h.0, h.1 ++ T ∷ [], h.2, have_push G es h.1 e T h.3 k, ap (λ xs. xs ++ T ∷ []) h.4)

pub fault_after : (G : VarTypes) (es : List Term) (Ts : List Type') (e : Term) (more : List Term) (k : TypeKind) (p : ℕ) → HaveTypes G es Ts → TermFaults e G k p → TermsFault (es ++ e ∷ more) G k p
fault_after G [] Ts e more k p h f = inl f
fault_after G (d ∷ es) Ts e more k p h f = inr (h.0, h.2, fault_after G es h.1 e more k p h.3 f)

pub stop_after : (G : VarTypes) (es : List Term) (Ts : List Type') (e : Term) (more : List Term) (stop : TypeStop) → HaveTypes G es Ts → TermStops G e stop → TermsStop G (es ++ e ∷ more) stop
stop_after G es Ts e more (Fault f) h k = fault_after G es Ts e more f.kind f.at h k
stop_after G es Ts e more OutOfMemory h k = tt

pub in_scope_at : (n : ℕ) (es : List Term) (i : ℕ) (d : Term) → i < length es → AllInScope n es → InScope n (get_or es i d)
in_scope_at n [] i d lt h = absurd (omega arith)
in_scope_at n (e ∷ es) zero d lt h = h.0
in_scope_at n (e ∷ es) (suc i) d lt h = in_scope_at n es i d (omega arith) h.1

-- the priorities, the arguments and the own priority fit, each where the ones before it do
no_arity : (s : Context) (G : VarTypes) (r : Prio) (sig : Signature) (ps : List Prio) (es : List Term) → length ps ≡ sig.vars → length es ≡ length sig.params → CallFails s G r sig ps es Arity → ⊥
no_arity s G r sig ps es e f (inl h) = h e
no_arity s G r sig ps es e f (inr h) = h f

no_mismatch : (s : Context) (G : VarTypes) (r : Prio) (sig : Signature) (ps : List Prio) (es : List Term) → HaveTypes G es (map (subst_type ps) sig.params) → CallFails s G r sig ps es Mismatch → ⊥
no_mismatch s G r sig ps es h f = f.2 (same_types es G f.0 (map (subst_type ps) sig.params) f.1 h)

module _ (s : Context) (G : VarTypes) (r : Prio) (sig : Signature) (ps : List Prio) (es : List Term) where
  pub least_arity : (l : TypeKind) → CallFails s G r sig ps es l → rank Arity ≤ rank l
  least_arity Cycle h = absurd h
  least_arity Arity h = omega arith
  least_arity Mismatch h = omega arith
  least_arity NotThread h = absurd h
  least_arity WrongPriority h = omega arith
  least_arity ConstraintKind h = omega arith
  least_arity Inversion h = absurd h
  least_arity Wide h = absurd h

  pub least_mismatch : (CallFails s G r sig ps es Arity → ⊥) → (l : TypeKind) → CallFails s G r sig ps es l → rank Mismatch ≤ rank l
  least_mismatch a Cycle h = absurd h
  least_mismatch a Arity h = absurd (a h)
  least_mismatch a Mismatch h = omega arith
  least_mismatch a NotThread h = absurd h
  least_mismatch a WrongPriority h = omega arith
  least_mismatch a ConstraintKind h = omega arith
  least_mismatch a Inversion h = absurd h
  least_mismatch a Wide h = absurd h

  pub least_wrong : (CallFails s G r sig ps es Arity → ⊥) → (CallFails s G r sig ps es Mismatch → ⊥) → (l : TypeKind) → CallFails s G r sig ps es l → rank WrongPriority ≤ rank l
  least_wrong a m Cycle h = absurd h
  least_wrong a m Arity h = absurd (a h)
  least_wrong a m Mismatch h = absurd (m h)
  least_wrong a m NotThread h = absurd h
  least_wrong a m WrongPriority h = omega arith
  least_wrong a m ConstraintKind h = omega arith
  least_wrong a m Inversion h = absurd h
  least_wrong a m Wide h = absurd h

  pub least_constraint : (CallFails s G r sig ps es Arity → ⊥) → (CallFails s G r sig ps es Mismatch → ⊥) → (CallFails s G r sig ps es WrongPriority → ⊥) → (l : TypeKind) → CallFails s G r sig ps es l → rank ConstraintKind ≤ rank l
  least_constraint a m w Cycle h = absurd h
  least_constraint a m w Arity h = absurd (a h)
  least_constraint a m w Mismatch h = absurd (m h)
  least_constraint a m w NotThread h = absurd h
  least_constraint a m w WrongPriority h = absurd (w h)
  least_constraint a m w ConstraintKind h = omega arith
  least_constraint a m w Inversion h = absurd h
  least_constraint a m w Wide h = absurd h

  module _ (f : ℕ) (at : ℕ) (is : slice_get s.procs f ≡ Some sig) (Ts : List Type') (have : HaveTypes G es Ts) where
    stops : (k : TypeKind) → CallFails s G r sig ps es k → ((l : TypeKind) → CallFails s G r sig ps es l → rank k ≤ rank l) → (stop : TypeStop) → stop ≡ Fault (record { kind = k; at = at }) → ActStops s G r at (call f ps es) stop
    stops k fails least stop e = subst (ActStops s G r at (call f ps es)) (sym e) (inr (record { sig = sig; is = is; types = Ts; have = have; fails = fails; least = least }, refl))

    pub stop_arity : (length ps ≢ sig.vars) ⊎ (length es ≢ length sig.params) → (stop : TypeStop) → stop ≡ Fault (record { kind = Arity; at = at }) → ActStops s G r at (call f ps es) stop
    stop_arity h = stops Arity h least_arity

    module _ (vars : length ps ≡ sig.vars) (params : length es ≡ length sig.params) where
      pub stop_mismatch : Ts ≢ map (subst_type ps) sig.params → (stop : TypeStop) → stop ≡ Fault (record { kind = Mismatch; at = at }) → ActStops s G r at (call f ps es) stop
      stop_mismatch h = stops Mismatch (Ts, have, h) (least_mismatch (no_arity s G r sig ps es vars params))

      module _ (fit : Ts ≡ map (subst_type ps) sig.params) where
        fits : HaveTypes G es (map (subst_type ps) sig.params)
        fits = subst (HaveTypes G es) fit have

        pub stop_wrong : subst_prio ps sig.own ≢ r → (stop : TypeStop) → stop ≡ Fault (record { kind = WrongPriority; at = at }) → ActStops s G r at (call f ps es) stop
        stop_wrong h = stops WrongPriority h (least_wrong (no_arity s G r sig ps es vars params) (no_mismatch s G r sig ps es fits))

        module _ (own : subst_prio ps sig.own ≡ r) where
          pub stop_constraint : (c : Constraint) → Contains sig.given c → (Holds s (subst_prio ps c.0) (subst_prio ps c.1) → ⊥) → (stop : TypeStop) → stop ≡ Fault (record { kind = ConstraintKind; at = at }) → ActStops s G r at (call f ps es) stop
          stop_constraint c h k = stops ConstraintKind (c, h, k) (least_constraint (no_arity s G r sig ps es vars params) (no_mismatch s G r sig ps es fits) (λ w. w own))

          pub call_fits : All (λ (c : Constraint). Holds s (subst_prio ps c.0) (subst_prio ps c.1)) sig.given → (T : Type') → T ≡ subst_type ps sig.gives → CallFits s G r f ps es T
          call_fits h T e = record { sig = sig; is = is; prios = vars; arguments = fits; own = own; constraints = h; gives = e }

-- the procedure at an index
pub sig_at : (procs : List Proc) (f : ℕ) (g : Proc) → f < length procs → g ≡ get_or procs f g → slice_get (map read_sig procs) f ≡ Some (read_sig g)
sig_at procs f g h e = slice_get-map read_sig procs f g h ∙ ap (λ x. Some (read_sig x)) (sym e)
  where
    slice_get-map : {X Y : Type 0} (h : X → Y) (xs : List X) (i : ℕ) (d : X) → i < length xs → slice_get (map h xs) i ≡ Some (h (get_or xs i d))
    slice_get-map h [] i d lt = absurd (omega arith)
    slice_get-map h (x ∷ xs) zero d lt = refl
    slice_get-map h (x ∷ xs) (suc i) d lt = slice_get-map h xs i d (omega arith)

pub in_scope_item : (n : ℕ) (es : List Expr) (i : ℕ) (d : Expr) → i < length es → d ≡ get_or es i d → AllInScope n (map read_term es) → InScope n (read_term d)
in_scope_item n [] i d lt e h = absurd (omega arith)
in_scope_item n (x ∷ es) zero d lt e h = subst (λ (y : Expr). InScope n (read_term y)) (sym e) h.0
in_scope_item n (x ∷ es) (suc i) d lt e h = in_scope_item n es i d (omega arith) e h.1

pub more_terms : (es : List Expr) (i : ℕ) (d : Expr) → i < length es → d ≡ get_or es i d → map read_term (take (i + 1) es) ≡ map read_term (take i es) ++ read_term d ∷ []
more_terms es i d lt e = ap (map read_term) (take_more es i d lt ∙ ap (λ x. take i es ++ x ∷ []) (sym e)) ∙ map-append read_term (take i es) (d ∷ [])

split_list : (es : List Expr) (i : ℕ) (d : Expr) → i < length es → d ≡ get_or es i d → es ≡ take i es ++ d ∷ drop (i + 1) es
split_list es i d lt e = sym (take-append-drop i es) ∙ ap (λ x. take i es ++ x) (drop-cons es i d lt ∙ ap (λ x. x ∷ drop (suc i) es) (sym e) ∙ ap (λ n. d ∷ drop n es) (sym (add-one i)))

pub split_terms : (es : List Expr) (i : ℕ) (d : Expr) → i < length es → d ≡ get_or es i d → map read_term es ≡ map read_term (take i es) ++ read_term d ∷ map read_term (drop (i + 1) es)
split_terms es i d lt e = ap (map read_term) (split_list es i d lt e) ∙ map-append read_term (take i es) (d ∷ drop (i + 1) es)

pub same_at : (ps : List Prio) (xs : List Shared) (ys : List Ty) (i : ℕ) (d : Shared) (e : Ty) → i < length xs → i < length ys → d ≡ get_or xs i d → e ≡ get_or ys i e → map read_shared xs ≡ map (subst_type ps) (map read_type ys) → read_shared d ≡ subst_type ps (read_type e)
same_at ps [] ys i d e lx ly p q h = absurd (omega arith)
same_at ps (x ∷ xs) [] i d e lx ly p q h = absurd (omega arith)
same_at ps (x ∷ xs) (y ∷ ys) zero d e lx ly p q h = ap read_shared p ∙ (cc) ∙ ap (λ (t : Ty). subst_type ps (read_type t)) (sym q)
same_at ps (x ∷ xs) (y ∷ ys) (suc i) d e lx ly p q h = same_at ps xs ys i d e (omega arith) (omega arith) p q (cc)
