-- A typed block has typed nodes alone, and a fault by cases is that of the first node without a type.
use Rattle.std.proofs.Common.{◌≡◌, ℕ, ◌≤◌, List, [], ◌∷◌, ◌++◌, refl, sym, ap, ◌∙◌, subst, Some, inl, inr, arith}
use Rattle.std.specs.Prelude.{slice_get}
use Rattle.std.specs.List.{All}
use Rattle.std.proofs.lemmas.List.Elements.{All-append, All-push}
use Rattle.priml_syntax.specs.declared.prio.Prio.{Prio}
use Rattle.priml_syntax.specs.Tree.{Type', bool, int, sum, Term, var, number, bool_term, unit_term, pair_term, first, second, left, right, binary, negated, Code, block, Body, bind, ret_tail, if_tail, case_tail, Act, ret, spawn, sync, call, do_block, input, output}
use Rattle.type_rules.specs.declared.TypeKind.{TypeKind}
use Rattle.type_rules.specs.declared.TypeKind.TheVariants.{Mismatch, Wide, NotThread, Inversion}
use Rattle.type_rules.specs.Typing.{VarTypes, Context, HasType, HaveTypes, CodeHas, BodyHas, ActHas}
use Rattle.priml_syntax.specs.Tree.{Signature}
use Rattle.type_rules.specs.Nodes.{bound, left_of, right_of, Binders, Extends, Node, a_term, an_act, an_end, a_test, Site, place, place_of_term, site, term_sites, terms_sites, code_sites, body_sites, act_sites, IsTyped, NodeTyped, NodeFails, TermFails, ActFails, CallFails, FirstFault, rank}
use Rattle.type_rules.specs.Inside.Faults.{TermFaults, TermsFault, ActFault, CodeFaults, BodyFaults, PartsFault}
use Rattle.type_rules.proofs.Firsts.{first_left, first_right}
use Rattle.type_rules.proofs.Unique.{extends-push}

all_none : {X : Type 0} (P : X → Type 0) → All P []
all_none P k d h = absurd (omega arith)

all_one : {X : Type 0} (P : X → Type 0) (x : X) → P x → All P (x ∷ [])
all_one P x h = All-push P [] x (all_none P) h

module _ (s : Context) where
  and_then : (xs ys : List Site) → All (IsTyped s) xs → All (IsTyped s) ys → All (IsTyped s) (xs ++ ys)
  and_then = All-append (IsTyped s)

  one : (bs : Binders) (n : Node) (G : VarTypes) → Extends s [] bs G → NodeTyped s G n → All (IsTyped s) (site bs n)
  one bs n G x h = all_one (IsTyped s) (record { binders = bs; node = n }) (G, x, h)

  pub term_typed : (e : Term) (bs : Binders) (G : VarTypes) (T : Type') → Extends s [] bs G → HasType G e T → All (IsTyped s) (term_sites bs e)
  term_typed (var at x) bs G T x' h = one bs (a_term (var at x)) G x' (T, h)
  term_typed (number at n) bs G T x h = one bs (a_term (number at n)) G x (T, h)
  term_typed (bool_term at b) bs G T x h = one bs (a_term (bool_term at b)) G x (T, h)
  term_typed (unit_term at) bs G T x h = one bs (a_term (unit_term at)) G x (T, h)
  term_typed (pair_term at a b) bs G T x h = and_then (term_sites bs a) _ (term_typed a bs G h.0 x h.2) (and_then (term_sites bs b) _ (term_typed b bs G h.1 x h.3) (one bs (a_term (pair_term at a b)) G x (T, h)))
  term_typed (first at a) bs G T x h = and_then (term_sites bs a) _ (term_typed a bs G _ x h.1) (one bs (a_term (first at a)) G x (T, h))
  term_typed (second at a) bs G T x h = and_then (term_sites bs a) _ (term_typed a bs G _ x h.1) (one bs (a_term (second at a)) G x (T, h))
  term_typed (left at S a) bs G T x h = and_then (term_sites bs a) _ (term_typed a bs G _ x h.3) (one bs (a_term (left at S a)) G x (T, h))
  term_typed (right at S a) bs G T x h = and_then (term_sites bs a) _ (term_typed a bs G _ x h.3) (one bs (a_term (right at S a)) G x (T, h))
  term_typed (binary at op a b) bs G T x h = and_then (term_sites bs a) _ (term_typed a bs G _ x h.0) (and_then (term_sites bs b) _ (term_typed b bs G _ x h.1) (one bs (a_term (binary at op a b)) G x (T, h)))
  term_typed (negated at a) bs G T x h = and_then (term_sites bs a) _ (term_typed a bs G _ x h.0) (one bs (a_term (negated at a)) G x (T, h))

  pub terms_typed : (es : List Term) (bs : Binders) (G : VarTypes) (Ts : List Type') → Extends s [] bs G → HaveTypes G es Ts → All (IsTyped s) (terms_sites bs es)
  terms_typed [] bs G Ts x h = all_none (IsTyped s)
  terms_typed (e ∷ es) bs G Ts x h = and_then (term_sites bs e) _ (term_typed e bs G h.0 x h.2) (terms_typed es bs G h.1 x h.3)

  mutual
    pub code_typed : (c : Code) (r : Prio) (bs : Binders) (G : VarTypes) (T : Type') → Extends s [] bs G → CodeHas c s G r T → All (IsTyped s) (code_sites c r bs)
    code_typed (block at b) r bs G T x h = body_typed b r bs G T x h

    pub body_typed : (b : Body) (r : Prio) (bs : Binders) (G : VarTypes) (T : Type') → Extends s [] bs G → BodyHas b s G r T → All (IsTyped s) (body_sites b r bs)
    body_typed (bind at a rest) r bs G T x h =
        and_then (act_sites a r bs) _ (parts_typed a r bs G h.0 x h.1)
        (and_then (site bs (an_act at r a)) _ (one bs (an_act at r a) G x (h.0, h.1))
        (body_typed rest r (bs ++ bound r a ∷ []) (G ++ h.0 ∷ []) T (extends-push s [] bs G (bound r a) h.0 x h.1) h.2))
    body_typed (ret_tail at e) r bs G T x h = and_then (term_sites bs e) _ (term_typed e bs G T x h) (one bs (an_end r (ret_tail at e)) G x (T, h))
    body_typed (if_tail at e a b) r bs G T x h =
        and_then (term_sites bs e) _ (term_typed e bs G bool x h.0)
        (and_then (code_sites a r bs) _ (code_typed a r bs G T x h.1)
        (and_then (code_sites b r bs) _ (code_typed b r bs G T x h.2) (one bs (an_end r (if_tail at e a b)) G x (T, h))))
    body_typed (case_tail at e a b) r bs G T x h =
        and_then (term_sites bs e) _ (term_typed e bs G _ x h.2)
        (and_then (site bs (a_test at e)) _ (one bs (a_test at e) G x (h.0, h.1, h.2))
        (and_then (code_sites a r (bs ++ left_of e ∷ [])) _ (code_typed a r (bs ++ left_of e ∷ []) (G ++ h.0 ∷ []) T (extends-push s [] bs G (left_of e) h.0 x (h.1, h.2)) h.3)
        (and_then (code_sites b r (bs ++ right_of e ∷ [])) _ (code_typed b r (bs ++ right_of e ∷ []) (G ++ h.1 ∷ []) T (extends-push s [] bs G (right_of e) h.1 x (h.0, h.2)) h.4)
        (one bs (an_end r (case_tail at e a b)) G x (T, h)))))

    pub parts_typed : (a : Act) (r : Prio) (bs : Binders) (G : VarTypes) (T : Type') → Extends s [] bs G → ActHas a s G r T → All (IsTyped s) (act_sites a r bs)
    parts_typed (ret e) r bs G T x h = term_typed e bs G T x h
    parts_typed (spawn q c) r bs G T x h = code_typed c q bs G h.0 x h.1
    parts_typed (sync v) r bs G T x h = all_none (IsTyped s)
    parts_typed (call f ps es) r bs G T x h = terms_typed es bs G _ x h.arguments
    parts_typed (do_block c) r bs G T x h = code_typed c r bs G T x h
    parts_typed input r bs G T x h = all_none (IsTyped s)
    parts_typed (output e) r bs G T x h = term_typed e bs G int x h.0

  here : (bs : Binders) (n : Node) (G : VarTypes) (k : TypeKind) (p : ℕ) → Extends s [] bs G → NodeFails s G n k → ((l : TypeKind) → NodeFails s G n l → rank k ≤ rank l) → p ≡ place n → (ys : List Site) → FirstFault s (site bs n ++ ys) k p
  here bs n G k p x h least e ys = record {
    before = [];
    faulty = record { binders = bs; node = n };
    after = ys;
    is = refl;
    typed = all_none (IsTyped s);
    fails = record { scope = G; of_binders = x; fails = h; least = least };
    there = e;
  }

  here_last : (bs : Binders) (n : Node) (G : VarTypes) (k : TypeKind) (p : ℕ) → Extends s [] bs G → NodeFails s G n k → ((l : TypeKind) → NodeFails s G n l → rank k ≤ rank l) → p ≡ place n → FirstFault s (site bs n) k p
  here_last bs n G k p x h least e = here bs n G k p x h least e []

  -- an expression has at most one kind of fault
  ranks : (k l m : TypeKind) → k ≡ m → l ≡ m → rank k ≤ rank l
  ranks k l m e f = let z : rank k ≡ rank l = ap rank (e ∙ sym f) in omega arith

  term_least : (e : Term) (G : VarTypes) (k l : TypeKind) → TermFails G e k → TermFails G e l → rank k ≤ rank l
  term_least (var at x) G k l h i = absurd h
  term_least (number at n) G k l h i = absurd h
  term_least (bool_term at b) G k l h i = absurd h
  term_least (unit_term at) G k l h i = absurd h
  term_least (pair_term at a b) G k l h i = ranks k l Wide h.5 i.5
  term_least (first at a) G k l h i = ranks k l Mismatch h.3 i.3
  term_least (second at a) G k l h i = ranks k l Mismatch h.3 i.3
  term_least (left at S a) G k l h i = ranks k l Mismatch h.3 i.3
  term_least (right at S a) G k l h i = ranks k l Mismatch h.3 i.3
  term_least (binary at op a b) G k l h i = ranks k l Mismatch h.5 i.5
  term_least (negated at a) G k l h i = ranks k l Mismatch h.3 i.3

  term_here : (e : Term) (bs : Binders) (G : VarTypes) (k : TypeKind) (p : ℕ) → Extends s [] bs G → TermFails G e k → p ≡ place_of_term e → FirstFault s (site bs (a_term e)) k p
  term_here e bs G k p x h q = here_last bs (a_term e) G k p x h (λ l i. term_least e G k l h i) q

  pub term_fault : (e : Term) (bs : Binders) (G : VarTypes) (k : TypeKind) (p : ℕ) → Extends s [] bs G → TermFaults e G k p → FirstFault s (term_sites bs e) k p
  term_fault (var at x) bs G k p x' h = absurd h
  term_fault (number at n) bs G k p x h = absurd h
  term_fault (bool_term at b) bs G k p x h = absurd h
  term_fault (unit_term at) bs G k p x h = absurd h
  term_fault (pair_term at a b) bs G k p x (inl h) = first_left (term_sites bs a) _ k p (term_fault a bs G k p x h)
  term_fault (pair_term at a b) bs G k p x (inr (inl h)) = first_right (term_sites bs a) _ k p (term_typed a bs G h.0 x h.1) (first_left (term_sites bs b) _ k p (term_fault b bs G k p x h.2))
  term_fault (pair_term at a b) bs G k p x (inr (inr h)) =
      let f = h.0 in
      first_right (term_sites bs a) _ k p (term_typed a bs G f.0 x f.2) (first_right (term_sites bs b) _ k p (term_typed b bs G f.1 x f.3) (term_here (pair_term at a b) bs G k p x h.0 h.1))
  term_fault (first at a) bs G k p x (inl h) = first_left (term_sites bs a) _ k p (term_fault a bs G k p x h)
  term_fault (first at a) bs G k p x (inr h) = first_right (term_sites bs a) _ k p (term_typed a bs G h.0.0 x h.0.1) (term_here (first at a) bs G k p x h.0 h.1)
  term_fault (second at a) bs G k p x (inl h) = first_left (term_sites bs a) _ k p (term_fault a bs G k p x h)
  term_fault (second at a) bs G k p x (inr h) = first_right (term_sites bs a) _ k p (term_typed a bs G h.0.0 x h.0.1) (term_here (second at a) bs G k p x h.0 h.1)
  term_fault (left at S a) bs G k p x (inl h) = first_left (term_sites bs a) _ k p (term_fault a bs G k p x h)
  term_fault (left at S a) bs G k p x (inr h) = first_right (term_sites bs a) _ k p (term_typed a bs G h.0.0 x h.0.1) (term_here (left at S a) bs G k p x h.0 h.1)
  term_fault (right at S a) bs G k p x (inl h) = first_left (term_sites bs a) _ k p (term_fault a bs G k p x h)
  term_fault (right at S a) bs G k p x (inr h) = first_right (term_sites bs a) _ k p (term_typed a bs G h.0.0 x h.0.1) (term_here (right at S a) bs G k p x h.0 h.1)
  term_fault (binary at op a b) bs G k p x (inl h) = first_left (term_sites bs a) _ k p (term_fault a bs G k p x h)
  term_fault (binary at op a b) bs G k p x (inr (inl h)) = first_right (term_sites bs a) _ k p (term_typed a bs G h.0 x h.1) (first_left (term_sites bs b) _ k p (term_fault b bs G k p x h.2))
  term_fault (binary at op a b) bs G k p x (inr (inr h)) =
      let f = h.0 in
      first_right (term_sites bs a) _ k p (term_typed a bs G f.0 x f.2) (first_right (term_sites bs b) _ k p (term_typed b bs G f.1 x f.3) (term_here (binary at op a b) bs G k p x h.0 h.1))
  term_fault (negated at a) bs G k p x (inl h) = first_left (term_sites bs a) _ k p (term_fault a bs G k p x h)
  term_fault (negated at a) bs G k p x (inr h) = first_right (term_sites bs a) _ k p (term_typed a bs G h.0.0 x h.0.1) (term_here (negated at a) bs G k p x h.0 h.1)

  pub terms_fault : (es : List Term) (bs : Binders) (G : VarTypes) (k : TypeKind) (p : ℕ) → Extends s [] bs G → TermsFault es G k p → FirstFault s (terms_sites bs es) k p
  terms_fault [] bs G k p x h = absurd h
  terms_fault (e ∷ es) bs G k p x (inl h) = first_left (term_sites bs e) _ k p (term_fault e bs G k p x h)
  terms_fault (e ∷ es) bs G k p x (inr h) = first_right (term_sites bs e) _ k p (term_typed e bs G h.0 x h.1) (terms_fault es bs G k p x h.2)

  -- an action that is no call has at most one kind of fault
  sync_least : (G : VarTypes) (r : Prio) (v : ℕ) (k l : TypeKind) → ActFails s G r (sync v) k → ActFails s G r (sync v) l → rank k ≤ rank l
  sync_least G r v k l (A, e, inl h) (B, f, inl i) = ranks k l NotThread h.1 i.1
  sync_least G r v k l (A, e, inl h) (B, f, inr i) = absurd (h.0 i.0 i.1 (let z = i.2 in cc))
  sync_least G r v k l (A, e, inr h) (B, f, inl i) = absurd (i.0 h.0 h.1 (let z = h.2 in cc))
  sync_least G r v k l (A, e, inr h) (B, f, inr i) = ranks k l Inversion h.4 i.4

  same_signature : (f : ℕ) (a b : Signature) → slice_get s.procs f ≡ Some a → slice_get s.procs f ≡ Some b → a ≡ b
  same_signature f a b h k = cc

  pub act_here : (a : Act) (bs : Binders) (G : VarTypes) (r : Prio) (at : ℕ) (k : TypeKind) (p : ℕ) → Extends s [] bs G → ActFault s G r a k → p ≡ at → (ys : List Site) → FirstFault s (act_sites a r bs ++ (site bs (an_act at r a) ++ ys)) k p
  act_here (ret e) bs G r at k p x h q ys = absurd h
  act_here (spawn c b) bs G r at k p x h q ys =
      first_right (code_sites b c bs) _ k p (code_typed b c bs G h.0 x h.1) (here bs (an_act at r (spawn c b)) G k p x h (λ l i. ranks k l Wide h.3 i.3) q ys)
  act_here (sync v) bs G r at k p x h q ys = here bs (an_act at r (sync v)) G k p x h (λ l i. sync_least G r v k l h i) q ys
  act_here (call f ps es) bs G r at k p x h q ys =
      first_right (terms_sites bs es) _ k p (terms_typed es bs G h.types x h.have)
      (here bs (an_act at r (call f ps es)) G k p x (h.sig, h.is, h.fails) (λ l i. h.least l (subst (λ (g : Signature). CallFails s G r g ps es l) (same_signature f i.0 h.sig i.1 h.is) i.2)) q ys)
  act_here (do_block c) bs G r at k p x h q ys = absurd h
  act_here input bs G r at k p x h q ys = absurd h
  act_here (output e) bs G r at k p x h q ys =
      first_right (term_sites bs e) _ k p (term_typed e bs G h.0 x h.1) (here bs (an_act at r (output e)) G k p x h (λ l i. ranks k l Mismatch h.3 i.3) q ys)

  mutual
    pub code_fault : (c : Code) (r : Prio) (bs : Binders) (G : VarTypes) (k : TypeKind) (p : ℕ) → Extends s [] bs G → CodeFaults c s G r k p → FirstFault s (code_sites c r bs) k p
    code_fault (block at b) r bs G k p x h = body_fault b r bs G k p x h

    pub body_fault : (b : Body) (r : Prio) (bs : Binders) (G : VarTypes) (k : TypeKind) (p : ℕ) → Extends s [] bs G → BodyFaults b s G r k p → FirstFault s (body_sites b r bs) k p
    body_fault (bind at a rest) r bs G k p x (inl h) = first_left (act_sites a r bs) _ k p (parts_fault a r bs G k p x h)
    body_fault (bind at a rest) r bs G k p x (inr (inl h)) = act_here a bs G r at k p x h.0 h.1 _
    body_fault (bind at a rest) r bs G k p x (inr (inr h)) =
        first_right (act_sites a r bs) _ k p (parts_typed a r bs G h.0 x h.1)
        (first_right (site bs (an_act at r a)) _ k p (one bs (an_act at r a) G x (h.0, h.1))
        (body_fault rest r (bs ++ bound r a ∷ []) (G ++ h.0 ∷ []) k p (extends-push s [] bs G (bound r a) h.0 x h.1) h.2))
    body_fault (ret_tail at e) r bs G k p x h = first_left (term_sites bs e) _ k p (term_fault e bs G k p x h)
    body_fault (if_tail at e a b) r bs G k p x (inl h) = first_left (term_sites bs e) _ k p (term_fault e bs G k p x h)
    body_fault (if_tail at e a b) r bs G k p x (inr (inl h)) =
        first_right (term_sites bs e) _ k p (term_typed e bs G h.0 x h.1) (first_left (code_sites a r bs) _ k p (code_fault a r bs G k p x h.2))
    body_fault (if_tail at e a b) r bs G k p x (inr (inr (inl h))) =
        first_right (term_sites bs e) _ k p (term_typed e bs G h.0 x h.2)
        (first_right (code_sites a r bs) _ k p (code_typed a r bs G h.1 x h.3) (first_left (code_sites b r bs) _ k p (code_fault b r bs G k p x h.4)))
    body_fault (if_tail at e a b) r bs G k p x (inr (inr (inr h))) =
        let f = h.0 in
        first_right (term_sites bs e) _ k p (term_typed e bs G f.0 x f.3)
        (first_right (code_sites a r bs) _ k p (code_typed a r bs G f.1 x f.4)
        (first_right (code_sites b r bs) _ k p (code_typed b r bs G f.2 x f.5)
        (here_last bs (an_end r (if_tail at e a b)) G k p x f (λ l i. ranks k l Mismatch f.7 i.7) h.1)))
    body_fault (case_tail at e a b) r bs G k p x (inl h) = first_left (term_sites bs e) _ k p (term_fault e bs G k p x h)
    body_fault (case_tail at e a b) r bs G k p x (inr (inl h)) =
        first_right (term_sites bs e) _ k p (term_typed e bs G h.0 x h.1)
        (here bs (a_test at e) G k p x (h.0, h.1, h.2, h.3) (λ l i. ranks k l Mismatch h.3 i.3) h.4 _)
    body_fault (case_tail at e a b) r bs G k p x (inr (inr (inl h))) =
        first_right (term_sites bs e) _ k p (term_typed e bs G (sum h.0 h.1) x h.2)
        (first_right (site bs (a_test at e)) _ k p (one bs (a_test at e) G x (h.0, h.1, h.2))
        (first_left (code_sites a r (bs ++ left_of e ∷ [])) _ k p (code_fault a r (bs ++ left_of e ∷ []) (G ++ h.0 ∷ []) k p (extends-push s [] bs G (left_of e) h.0 x (h.1, h.2)) h.3)))
    body_fault (case_tail at e a b) r bs G k p x (inr (inr (inr (inl h)))) =
        first_right (term_sites bs e) _ k p (term_typed e bs G (sum h.0 h.1) x h.3)
        (first_right (site bs (a_test at e)) _ k p (one bs (a_test at e) G x (h.0, h.1, h.3))
        (first_right (code_sites a r (bs ++ left_of e ∷ [])) _ k p (code_typed a r (bs ++ left_of e ∷ []) (G ++ h.0 ∷ []) h.2 (extends-push s [] bs G (left_of e) h.0 x (h.1, h.3)) h.4)
        (first_left (code_sites b r (bs ++ right_of e ∷ [])) _ k p (code_fault b r (bs ++ right_of e ∷ []) (G ++ h.1 ∷ []) k p (extends-push s [] bs G (right_of e) h.1 x (h.0, h.3)) h.5))))
    body_fault (case_tail at e a b) r bs G k p x (inr (inr (inr (inr h)))) =
        let f = h.0 in
        first_right (term_sites bs e) _ k p (term_typed e bs G (sum f.0 f.1) x f.4)
        (first_right (site bs (a_test at e)) _ k p (one bs (a_test at e) G x (f.0, f.1, f.4))
        (first_right (code_sites a r (bs ++ left_of e ∷ [])) _ k p (code_typed a r (bs ++ left_of e ∷ []) (G ++ f.0 ∷ []) f.2 (extends-push s [] bs G (left_of e) f.0 x (f.1, f.4)) f.5)
        (first_right (code_sites b r (bs ++ right_of e ∷ [])) _ k p (code_typed b r (bs ++ right_of e ∷ []) (G ++ f.1 ∷ []) f.3 (extends-push s [] bs G (right_of e) f.1 x (f.0, f.4)) f.6)
        (here_last bs (an_end r (case_tail at e a b)) G k p x f (λ l i. ranks k l Mismatch f.8 i.8) h.1))))

    pub parts_fault : (a : Act) (r : Prio) (bs : Binders) (G : VarTypes) (k : TypeKind) (p : ℕ) → Extends s [] bs G → PartsFault a s G r k p → FirstFault s (act_sites a r bs) k p
    parts_fault (ret e) r bs G k p x h = term_fault e bs G k p x h
    parts_fault (spawn q c) r bs G k p x h = code_fault c q bs G k p x h
    parts_fault (sync v) r bs G k p x h = absurd h
    parts_fault (call f ps es) r bs G k p x h = terms_fault es bs G k p x h
    parts_fault (do_block c) r bs G k p x h = code_fault c r bs G k p x h
    parts_fault input r bs G k p x h = absurd h
    parts_fault (output e) r bs G k p x h = term_fault e bs G k p x h
