-- Each node has at most one type.
use Rattle.std.proofs.Common.{◌≡◌, ℕ, List, [], ◌∷◌, ◌++◌, sym, ap, ap₂, ◌∙◌, subst}
use Rattle.priml_syntax.specs.declared.prio.Prio.{Prio}
use Rattle.priml_syntax.specs.Tree.{Type', pair, sum, thread, Term, var, number, bool_term, unit_term, pair_term, first, second, left, right, binary, negated, Code, block, Body, bind, ret_tail, if_tail, case_tail, Act, ret, spawn, sync, call, do_block, input, output}
use Rattle.type_rules.specs.Typing.{VarTypes, Context, HasType, HaveTypes, CallFits, subst_type, CodeHas, BodyHas, ActHas}
use Rattle.type_rules.specs.Nodes.{Binder, parameter, bound, left_of, right_of, BinderHas, Binders, Extends}

pub same_type : (e : Term) (G : VarTypes) (A B : Type') → HasType G e A → HasType G e B → A ≡ B
same_type (var at x) G A B h k = cc
same_type (number at n) G A B h k = h ∙ sym k
same_type (bool_term at b) G A B h k = h ∙ sym k
same_type (unit_term at) G A B h k = h ∙ sym k
same_type (pair_term at a b) G A B h k = h.4 ∙ ap₂ pair (same_type a G h.0 k.0 h.2 k.2) (same_type b G h.1 k.1 h.3 k.3) ∙ sym k.4
same_type (first at a) G A B h k = let e = same_type a G (pair A h.0) (pair B k.0) h.1 k.1 in cc
same_type (second at a) G A B h k = let e = same_type a G (pair h.0 A) (pair k.0 B) h.1 k.1 in cc
same_type (left at S a) G A B h k = h.4 ∙ sym k.4
same_type (right at S a) G A B h k = h.4 ∙ sym k.4
same_type (binary at op a b) G A B h k = h.2 ∙ sym k.2
same_type (negated at a) G A B h k = h.1 ∙ sym k.1

pub same_types : (es : List Term) (G : VarTypes) (As Bs : List Type') → HaveTypes G es As → HaveTypes G es Bs → As ≡ Bs
same_types [] G As Bs h k = h ∙ sym k
same_types (e ∷ es) G As Bs h k = h.4 ∙ ap₂ (◌∷◌) (same_type e G h.0 k.0 h.2 k.2) (same_types es G h.1 k.1 h.3 k.3) ∙ sym k.4

same_call : (s : Context) (G : VarTypes) (r : Prio) (f : ℕ) (ps : List Prio) (es : List Term) (A B : Type') → CallFits s G r f ps es A → CallFits s G r f ps es B → A ≡ B
same_call s G r f ps es A B h k =
    let e : h.sig ≡ k.sig = let x = h.is in let y = k.is in cc in
    h.gives ∙ ap (λ z. subst_type ps z.gives) e ∙ sym k.gives

mutual
  pub same_code : (c : Code) (s : Context) (G : VarTypes) (r : Prio) (A B : Type') → CodeHas c s G r A → CodeHas c s G r B → A ≡ B
  same_code (block at b) s G r A B h k = same_body b s G r A B h k

  pub same_body : (b : Body) (s : Context) (G : VarTypes) (r : Prio) (A B : Type') → BodyHas b s G r A → BodyHas b s G r B → A ≡ B
  same_body (bind at a rest) s G r A B h k =
      let e = same_act a s G r h.0 k.0 h.1 k.1 in
      same_body rest s (G ++ k.0 ∷ []) r A B (subst (λ X. BodyHas rest s (G ++ X ∷ []) r A) e h.2) k.2
  same_body (ret_tail at e) s G r A B h k = same_type e G A B h k
  same_body (if_tail at e a b) s G r A B h k = same_code a s G r A B h.1 k.1
  same_body (case_tail at e a b) s G r A B h k =
      let t = same_type e G (sum h.0 h.1) (sum k.0 k.1) h.2 k.2 in
      let t0 : h.0 ≡ k.0 = cc in
      same_code a s (G ++ k.0 ∷ []) r A B (subst (λ X. CodeHas a s (G ++ X ∷ []) r A) t0 h.3) k.3

  pub same_act : (a : Act) (s : Context) (G : VarTypes) (r : Prio) (A B : Type') → ActHas a s G r A → ActHas a s G r B → A ≡ B
  same_act (ret e) s G r A B h k = same_type e G A B h k
  same_act (spawn q c) s G r A B h k = h.2 ∙ ap (thread q) (same_code c s G q h.0 k.0 h.1 k.1) ∙ sym k.2
  same_act (sync x) s G r A B h k = let u = h.1 in let v = k.1 in cc
  same_act (call f ps es) s G r A B h k = same_call s G r f ps es A B h k
  same_act (do_block c) s G r A B h k = same_code c s G r A B h k
  same_act input s G r A B h k = h ∙ sym k
  same_act (output e) s G r A B h k = h.1 ∙ sym k.1

same_binder : (s : Context) (G : VarTypes) (b : Binder) (A B : Type') → BinderHas s G b A → BinderHas s G b B → A ≡ B
same_binder s G (parameter T) A B h k = h ∙ sym k
same_binder s G (bound r a) A B h k = same_act a s G r A B h k
same_binder s G (left_of e) A B h k = let t = same_type e G (sum A h.0) (sum B k.0) h.1 k.1 in cc
same_binder s G (right_of e) A B h k = let t = same_type e G (sum h.0 A) (sum k.0 B) h.1 k.1 in cc

-- binders make at most one scope
pub same_scope : (s : Context) (G : VarTypes) (bs : Binders) (H K : VarTypes) → Extends s G bs H → Extends s G bs K → H ≡ K
same_scope s G [] H K h k = h ∙ sym k
same_scope s G (b ∷ bs) H K h k =
    let e = same_binder s G b h.0 k.0 h.1 k.1 in
    same_scope s (G ++ k.0 ∷ []) bs H K (subst (λ X. Extends s (G ++ X ∷ []) bs H) e h.2) k.2

-- one more binder
pub extends-push : (s : Context) (G : VarTypes) (bs : Binders) (H : VarTypes) (b : Binder) (T : Type') → Extends s G bs H → BinderHas s H b T → Extends s G (bs ++ b ∷ []) (H ++ T ∷ [])
extends-push s G [] H b T h k = (T, subst (λ X. BinderHas s X b T) h k, ap (λ X. X ++ T ∷ []) h)
extends-push s G (c ∷ bs) H b T h k = (h.0, h.1, extends-push s (G ++ h.0 ∷ []) bs H b T h.2 k)
