-- A node with a fault has no type, so a block with a first fault has none.
use Rattle.std.proofs.Common.{◌≡◌, ◌≢◌, ℕ, ◌<◌, ◌≤◌, List, [], ◌∷◌, ◌++◌, length, map, refl, sym, ap, ap₂, ◌∙◌, subst, ◌⊎◌, inl, inr, arith, suc}
use Rattle.std.specs.List.{All, Contains}
use Rattle.std.proofs.lemmas.List.{length-map}
use Rattle.std.proofs.lemmas.List.Elements.{All-contains, Contains-append_right}
use Rattle.priml_syntax.specs.declared.prio.Prio.{Prio}
use Rattle.priml_syntax.specs.Tree.{Type', bool, int, pair, sum, thread, Term, var, number, bool_term, unit_term, pair_term, first, second, left, right, binary, negated, Body, bind, ret_tail, if_tail, case_tail, Act, ret, spawn, sync, call, do_block, input, output}
use Rattle.priml_syntax.specs.Size.{type_nodes}
use Rattle.constraint_proof.specs.Entailed.{Constraint}
use Rattle.type_rules.specs.declared.TypeKind.{TypeKind}
use Rattle.type_rules.specs.declared.TypeKind.TheVariants.{Cycle, Arity, Mismatch, NotThread, WrongPriority, Constraint as ConstraintKind, Inversion, Wide}
use Rattle.type_rules.specs.Typing.{VarTypes, Context, HasType, HaveTypes, CallFits, Holds, subst_prio, subst_type, CodeHas, BodyHas, ActHas, operand}
use Rattle.priml_syntax.specs.Tree.{Signature}
use Rattle.type_rules.specs.Nodes.{Binders, Extends, Node, a_term, an_act, an_end, a_test, Site, IsTyped, NodeTyped, NodeFails, TermFails, ActFails, EndFails, CallFails, HasFault, FirstFault, body_sites}
use Rattle.type_rules.proofs.Unique.{same_type, same_types, same_code, same_scope}
use Rattle.type_rules.proofs.Sites.{body_typed}

wide : (A B C D : Type') → A ≡ C → B ≡ D → 16 < type_nodes (pair A B) → type_nodes (pair C D) ≤ 16 → ⊥
wide A B C D e f h k = let m : type_nodes (pair A B) ≡ type_nodes (pair C D) = ap₂ (λ x y. type_nodes (pair x y)) e f in omega arith

either_other : {A B : Type'} (C D : Type') → A ≡ C → B ≡ D → (A ≢ C) ⊎ (B ≢ D) → ⊥
either_other C D e f (inl h) = h e
either_other C D e f (inr h) = h f

pub term_untyped : (e : Term) (G : VarTypes) (k : TypeKind) (T : Type') → TermFails G e k → HasType G e T → ⊥
term_untyped (var at x) G k T h t = h
term_untyped (number at n) G k T h t = h
term_untyped (bool_term at b) G k T h t = h
term_untyped (unit_term at) G k T h t = h
term_untyped (pair_term at a b) G k T h t = wide h.0 h.1 t.0 t.1 (same_type a G h.0 t.0 h.2 t.2) (same_type b G h.1 t.1 h.3 t.3) h.4 t.5
term_untyped (first at a) G k T h t = h.2 T t.0 (same_type a G h.0 (pair T t.0) h.1 t.1)
term_untyped (second at a) G k T h t = h.2 t.0 T (same_type a G h.0 (pair t.0 T) h.1 t.1)
term_untyped (left at S a) G k T h t = h.2 t.1 (t.2 ∙ ap (λ X. sum X t.1) (same_type a G t.0 h.0 t.3 h.1))
term_untyped (right at S a) G k T h t = h.2 t.0 (t.2 ∙ ap (λ X. sum t.0 X) (same_type a G t.1 h.0 t.3 h.1))
term_untyped (binary at op a b) G k T h t = either_other (operand op) (operand op) (same_type a G h.0 (operand op) h.2 t.0) (same_type b G h.1 (operand op) h.3 t.1) h.4
term_untyped (negated at a) G k T h t = h.2 (same_type a G h.0 bool h.1 t.0)

pub long_types : (G : VarTypes) (es : List Term) (Ts : List Type') → HaveTypes G es Ts → length es ≡ length Ts
long_types G [] Ts h = ap length (sym h)
long_types G (e ∷ es) Ts h = ap suc (long_types G es h.1 h.3) ∙ ap length (sym h.4)

call_untyped : (s : Context) (G : VarTypes) (r : Prio) (f : ℕ) (ps : List Prio) (es : List Term) (sig : Signature) (T : Type') (k : TypeKind) → (t : CallFits s G r f ps es T) → sig ≡ t.sig → CallFails s G r sig ps es k → ⊥
call_untyped s G r f ps es sig T Arity t e (inl h) = h (t.prios ∙ ap (λ g. g.vars) (sym e))
call_untyped s G r f ps es sig T Arity t e (inr h) = h (long_types G es _ t.arguments ∙ length-map t.sig.params (subst_type ps) ∙ ap (λ g. length g.params) (sym e))
call_untyped s G r f ps es sig T Mismatch t e h = h.2 (same_types es G h.0 _ h.1 t.arguments ∙ ap (λ g. map (subst_type ps) g.params) (sym e))
call_untyped s G r f ps es sig T WrongPriority t e h = h (ap (λ g. subst_prio ps g.own) e ∙ t.own)
call_untyped s G r f ps es sig T ConstraintKind t e h = h.2 (All-contains (λ (c : Constraint). Holds s (subst_prio ps c.0) (subst_prio ps c.1)) t.sig.given h.0 t.constraints (subst (λ (g : Signature). Contains g.given h.0) e h.1))
call_untyped s G r f ps es sig T Cycle t e h = h
call_untyped s G r f ps es sig T NotThread t e h = h
call_untyped s G r f ps es sig T Inversion t e h = h
call_untyped s G r f ps es sig T Wide t e h = h

thread_wide : (q : Prio) (A B : Type') → A ≡ B → 16 < type_nodes (thread q A) → (T : Type') → T ≡ thread q B → type_nodes T ≤ 16 → ⊥
thread_wide q A B e h T f k = let m : type_nodes (thread q A) ≡ type_nodes T = ap (λ X. type_nodes (thread q X)) e ∙ ap type_nodes (sym f) in omega arith

sync_untyped : (s : Context) (G : VarTypes) (r : Prio) (v : ℕ) (k : TypeKind) (T : Type') → ActFails s G r (sync v) k → ActHas (sync v) s G r T → ⊥
sync_untyped s G r v k T (A, e, inl h) t = h.0 t.0 T (let u = t.1 in cc)
sync_untyped s G r v k T (A, e, inr h) t = h.3 (subst (λ q. Holds s r q) (let u = t.1 in let w = h.2 in let z : thread t.0 T ≡ thread h.0 h.1 = cc in let y : t.0 ≡ h.0 = cc in y) t.2)

pub act_untyped : (a : Act) (s : Context) (G : VarTypes) (r : Prio) (k : TypeKind) (T : Type') → ActFails s G r a k → ActHas a s G r T → ⊥
act_untyped (ret e) s G r k T h t = h
act_untyped (spawn q c) s G r k T h t = thread_wide q h.0 t.0 (same_code c s G q h.0 t.0 h.1 t.1) h.2 T t.2 t.3
act_untyped (sync v) s G r k T h t = sync_untyped s G r v k T h t
act_untyped (call f ps es) s G r k T h t = call_untyped s G r f ps es h.0 T k t (let u = h.1 in let v = t.is in cc) h.2
act_untyped (do_block c) s G r k T h t = h
act_untyped input s G r k T h t = h
act_untyped (output e) s G r k T h t = h.2 (same_type e G h.0 int h.1 t.0)

pub end_untyped : (b : Body) (s : Context) (G : VarTypes) (r : Prio) (k : TypeKind) (T : Type') → EndFails s G r b k → BodyHas b s G r T → ⊥
end_untyped (bind at a rest) s G r k T h t = h
end_untyped (ret_tail at e) s G r k T h t = h
end_untyped (if_tail at e a b) s G r k T h t =
    elim h.6 [ inl x ↦ x (same_type e G h.0 bool h.3 t.0) | inr x ↦ x (same_code a s G r h.1 T h.4 t.1 ∙ sym (same_code b s G r h.2 T h.5 t.2)) ]
end_untyped (case_tail at e a b) s G r k T h t =
    let u = same_type e G (sum h.0 h.1) (sum t.0 t.1) h.4 t.2 in
    let u0 : h.0 ≡ t.0 = cc in
    let u1 : h.1 ≡ t.1 = cc in
    h.7 (same_code a s (G ++ t.0 ∷ []) r h.2 T (subst (λ X. CodeHas a s (G ++ X ∷ []) r h.2) u0 h.5) t.3 ∙ sym (same_code b s (G ++ t.1 ∷ []) r h.3 T (subst (λ X. CodeHas b s (G ++ X ∷ []) r h.3) u1 h.6) t.4))

node_untyped : (n : Node) (s : Context) (G : VarTypes) (k : TypeKind) → NodeFails s G n k → NodeTyped s G n → ⊥
node_untyped (a_term e) s G k h t = term_untyped e G k t.0 h t.1
node_untyped (an_act at r a) s G k h t = act_untyped a s G r k t.0 h t.1
node_untyped (an_end r b) s G k h t = end_untyped b s G r k t.0 h t.1
node_untyped (a_test at e) s G k h t = h.2 (t.0, t.1, same_type e G h.0 (sum t.0 t.1) h.1 t.2)

-- a node with a fault has no type
pub fault_untyped : (s : Context) (n : Site) (k : TypeKind) → HasFault s n k → IsTyped s n → ⊥
fault_untyped s n k f t = node_untyped n.node s f.scope k f.fails (subst (λ G. NodeTyped s G n.node) (same_scope s [] n.binders t.0 f.scope t.1 f.of_binders) t.2)

-- not all nodes have types where there is a first fault
pub not_all : (s : Context) (all : List Site) (k : TypeKind) (p : ℕ) → FirstFault s all k p → All (IsTyped s) all → ⊥
not_all s all k p f t = fault_untyped s f.faulty k f.fails (All-contains (IsTyped s) all f.faulty t (subst (λ xs. Contains xs f.faulty) (sym f.is) (Contains-append_right f.before (f.faulty ∷ f.after) f.faulty (0, omega arith, refl))))

-- a body with a first fault has no type
pub no_type : (s : Context) (b : Body) (r : Prio) (bs : Binders) (G : VarTypes) (T : Type') (k : TypeKind) (p : ℕ) → Extends s [] bs G → FirstFault s (body_sites b r bs) k p → BodyHas b s G r T → ⊥
no_type s b r bs G T k p x f t = not_all s (body_sites b r bs) k p f (body_typed s b r bs G T x t)
