-- The nodes of a procedure in order, and the first that has no type.
use Rattle.std.specs.Prelude.{◌≡◌, ◌≢◌, ℕ, ◌<◌, ◌≤◌, List, [], ◌∷◌, ◌++◌, length, map, slice_get, Some}
use Rattle.std.specs.List.{All, Contains}
use Rattle.std.proofs.Common.{◌⊎◌}
use Rattle.priml_syntax.specs.declared.prio.Prio.{Prio}
use Rattle.priml_syntax.specs.Tree.{Signature, Type', bool, int, pair, sum, thread, Term, var, number, bool_term, unit_term, pair_term, first, second, left, right, binary, negated, Code, block, Body, bind, ret_tail, if_tail, case_tail, Act, ret, spawn, sync, call, do_block, input, output}
use Rattle.priml_syntax.specs.Size.{type_nodes}
use Rattle.priml_syntax.specs.Limits.{most_nodes}
use Rattle.constraint_proof.specs.Entailed.{Constraint}
use Rattle.type_rules.specs.declared.TypeKind.{TypeKind}
use Rattle.type_rules.specs.declared.TypeKind.TheVariants.{Cycle, Arity, Mismatch, NotThread, WrongPriority, Constraint as ConstraintKind, Inversion, Wide}
use Rattle.type_rules.specs.Typing.{VarTypes, Context, HasType, HaveTypes, CodeHas, BodyHas, ActHas, Holds, subst_prio, subst_type, operand}

-- what binds a variable: a parameter, an action at a priority, or a branch of a case
pub data Binder : Type 0 where
  parameter : Type' → Binder
  bound : Prio → Act → Binder
  left_of right_of : Term → Binder

-- what binds the variables in scope, the outermost first
abbrev pub Binders : Type 0
Binders = List Binder

-- the type of a bound variable in the scope before it
abbrev pub BinderHas : Context → VarTypes → Binder → Type' → Type 0
BinderHas s G (parameter A) T = T ≡ A
BinderHas s G (bound r a) T = ActHas a s G r T
BinderHas s G (left_of e) T = (B : Type') × HasType G e (sum T B)
BinderHas s G (right_of e) T = (A : Type') × HasType G e (sum A T)

-- the scope G, and then the types of the binders, each in the scope before it
abbrev pub Extends : Context → VarTypes → Binders → VarTypes → Type 0
Extends s G [] H = H ≡ G
Extends s G (b ∷ bs) H = (T : Type') × BinderHas s G b T × Extends s (G ++ T ∷ []) bs H

-- an expression, an action, an ending or the test of a case, where it stands
pub data Node : Type 0 where
  a_term : Term → Node
  an_act : ℕ → Prio → Act → Node
  an_end : Prio → Body → Node
  a_test : ℕ → Term → Node

-- a node with what binds the variables in its scope, the outermost first
pub record Site : Type 0 where
  pub binders : Binders
  pub node : Node

-- the place of a node: that of its first token
abbrev pub place_of_term : Term → ℕ
place_of_term (var at x) = at
place_of_term (number at n) = at
place_of_term (bool_term at b) = at
place_of_term (unit_term at) = at
place_of_term (pair_term at a b) = at
place_of_term (first at a) = at
place_of_term (second at a) = at
place_of_term (left at S a) = at
place_of_term (right at S a) = at
place_of_term (binary at op a b) = at
place_of_term (negated at a) = at

abbrev pub place_of_end : Body → ℕ
place_of_end (bind at a rest) = at
place_of_end (ret_tail at e) = at
place_of_end (if_tail at e a b) = at
place_of_end (case_tail at e a b) = at

abbrev pub place : Node → ℕ
place (a_term e) = place_of_term e
place (an_act at r a) = at
place (an_end r b) = place_of_end b
place (a_test at e) = at

-- one node
abbrev pub site : Binders → Node → List Site
site bs n = record { binders = bs; node = n } ∷ []

-- the parts of an expression from left to right, and then the expression
abbrev pub term_sites : Binders → Term → List Site
term_sites bs (var at x) = site bs (a_term (var at x))
term_sites bs (number at n) = site bs (a_term (number at n))
term_sites bs (bool_term at b) = site bs (a_term (bool_term at b))
term_sites bs (unit_term at) = site bs (a_term (unit_term at))
term_sites bs (pair_term at a b) = term_sites bs a ++ (term_sites bs b ++ site bs (a_term (pair_term at a b)))
term_sites bs (first at a) = term_sites bs a ++ site bs (a_term (first at a))
term_sites bs (second at a) = term_sites bs a ++ site bs (a_term (second at a))
term_sites bs (left at S a) = term_sites bs a ++ site bs (a_term (left at S a))
term_sites bs (right at S a) = term_sites bs a ++ site bs (a_term (right at S a))
term_sites bs (binary at op a b) = term_sites bs a ++ (term_sites bs b ++ site bs (a_term (binary at op a b)))
term_sites bs (negated at a) = term_sites bs a ++ site bs (a_term (negated at a))

-- expressions one after another
abbrev pub terms_sites : Binders → List Term → List Site
terms_sites bs [] = []
terms_sites bs (e ∷ es) = term_sites bs e ++ terms_sites bs es

-- a block: its actions in order, and then its ending; the parts of each come before it
abbrev mutual
  pub code_sites : Code → Prio → Binders → List Site
  code_sites (block at b) r bs = body_sites b r bs

  pub body_sites : Body → Prio → Binders → List Site
  body_sites (bind at a rest) r bs = act_sites a r bs ++ (site bs (an_act at r a) ++ body_sites rest r (bs ++ bound r a ∷ []))
  body_sites (ret_tail at e) r bs = term_sites bs e ++ site bs (an_end r (ret_tail at e))
  body_sites (if_tail at e a b) r bs = term_sites bs e ++ (code_sites a r bs ++ (code_sites b r bs ++ site bs (an_end r (if_tail at e a b))))
  body_sites (case_tail at e a b) r bs =
      term_sites bs e ++ (site bs (a_test at e)
      ++ (code_sites a r (bs ++ left_of e ∷ []) ++ (code_sites b r (bs ++ right_of e ∷ []) ++ site bs (an_end r (case_tail at e a b)))))

  -- the parts of an action; the action itself comes after them
  pub act_sites : Act → Prio → Binders → List Site
  act_sites (ret e) r bs = term_sites bs e
  act_sites (spawn q c) r bs = code_sites c q bs
  act_sites (sync h) r bs = []
  act_sites (call f ps es) r bs = terms_sites bs es
  act_sites (do_block c) r bs = code_sites c r bs
  act_sites input r bs = []
  act_sites (output e) r bs = term_sites bs e

-- the type is a sum
abbrev pub IsSum : Type' → Type 0
IsSum T = (A B : Type') × (T ≡ sum A B)

-- the node has a type in the scope
abbrev pub NodeTyped : Context → VarTypes → Node → Type 0
NodeTyped s G (a_term e) = (T : Type') × HasType G e T
NodeTyped s G (an_act at r a) = (T : Type') × ActHas a s G r T
NodeTyped s G (an_end r b) = (T : Type') × BodyHas b s G r T
NodeTyped s G (a_test at e) = (A B : Type') × HasType G e (sum A B)

-- the node has a type in the scope that its binders make
abbrev pub IsTyped : Context → Site → Type 0
IsTyped s n = (G : VarTypes) × Extends s [] n.binders G × NodeTyped s G n.node

-- the kinds of fault of an expression whose parts have types
abbrev pub TermFails : VarTypes → Term → TypeKind → Type 0
TermFails G (var at x) k = ⊥
TermFails G (number at n) k = ⊥
TermFails G (bool_term at b) k = ⊥
TermFails G (unit_term at) k = ⊥
TermFails G (pair_term at a b) k = (A B : Type') × HasType G a A × HasType G b B × (most_nodes < type_nodes (pair A B)) × (k ≡ Wide)
TermFails G (first at a) k = (A : Type') × HasType G a A × ((B C : Type') → A ≢ pair B C) × (k ≡ Mismatch)
TermFails G (second at a) k = (A : Type') × HasType G a A × ((B C : Type') → A ≢ pair B C) × (k ≡ Mismatch)
TermFails G (left at S a) k = (A : Type') × HasType G a A × ((B : Type') → S ≢ sum A B) × (k ≡ Mismatch)
TermFails G (right at S a) k = (A : Type') × HasType G a A × ((B : Type') → S ≢ sum B A) × (k ≡ Mismatch)
TermFails G (binary at op a b) k = (A B : Type') × HasType G a A × HasType G b B × ((A ≢ operand op) ⊎ (B ≢ operand op)) × (k ≡ Mismatch)
TermFails G (negated at a) k = (A : Type') × HasType G a A × (A ≢ bool) × (k ≡ Mismatch)

-- the kinds of fault of a call whose arguments have types
abbrev pub CallFails : Context → VarTypes → Prio → Signature → List Prio → List Term → TypeKind → Type 0
CallFails s G r sig ps es Arity = (length ps ≢ sig.vars) ⊎ (length es ≢ length sig.params)
CallFails s G r sig ps es Mismatch = (As : List Type') × HaveTypes G es As × (As ≢ map (subst_type ps) sig.params)
CallFails s G r sig ps es WrongPriority = subst_prio ps sig.own ≢ r
CallFails s G r sig ps es ConstraintKind = (c : Constraint) × Contains sig.given c × (Holds s (subst_prio ps c.0) (subst_prio ps c.1) → ⊥)
CallFails s G r sig ps es k = ⊥

-- no type of a thread
abbrev pub IsNoThread : Type' → Type 0
IsNoThread A = (q : Prio) (B : Type') → A ≢ thread q B

-- the kinds of fault of a wait on what has this type
abbrev pub SyncFails : Context → Prio → Type' → TypeKind → Type 0
SyncFails s r A k = (IsNoThread A × (k ≡ NotThread)) ⊎ ((q : Prio) × (B : Type') × (A ≡ thread q B) × (Holds s r q → ⊥) × (k ≡ Inversion))

-- the kinds of fault of an action whose parts have types
abbrev pub ActFails : Context → VarTypes → Prio → Act → TypeKind → Type 0
ActFails s G r (ret e) k = ⊥
ActFails s G r (spawn q c) k = (A : Type') × CodeHas c s G q A × (most_nodes < type_nodes (thread q A)) × (k ≡ Wide)
ActFails s G r (sync h) k = (A : Type') × (slice_get G h ≡ Some A) × SyncFails s r A k
ActFails s G r (call f ps es) k = (sig : Signature) × (slice_get s.procs f ≡ Some sig) × CallFails s G r sig ps es k
ActFails s G r (do_block c) k = ⊥
ActFails s G r input k = ⊥
ActFails s G r (output e) k = (A : Type') × HasType G e A × (A ≢ int) × (k ≡ Mismatch)

-- the kinds of fault of an ending whose parts have types; the test of a case has a node of its own
abbrev pub EndFails : Context → VarTypes → Prio → Body → TypeKind → Type 0
EndFails s G r (bind at a rest) k = ⊥
EndFails s G r (ret_tail at e) k = ⊥
EndFails s G r (if_tail at e a b) k =
    (A B C : Type') × HasType G e A × CodeHas a s G r B × CodeHas b s G r C × ((A ≢ bool) ⊎ (B ≢ C)) × (k ≡ Mismatch)
EndFails s G r (case_tail at e a b) k =
    (A B C D : Type') × HasType G e (sum A B) × CodeHas a s (G ++ A ∷ []) r C × CodeHas b s (G ++ B ∷ []) r D × (C ≢ D) × (k ≡ Mismatch)

-- the kinds of fault of a node whose parts have types
abbrev pub NodeFails : Context → VarTypes → Node → TypeKind → Type 0
NodeFails s G (a_term e) k = TermFails G e k
NodeFails s G (an_act at r a) k = ActFails s G r a k
NodeFails s G (an_end r b) k = EndFails s G r b k
NodeFails s G (a_test at e) k = (A : Type') × HasType G e A × (IsSum A → ⊥) × (k ≡ Mismatch)

-- the number of a kind
abbrev pub rank : TypeKind → ℕ
rank Cycle = 1
rank Arity = 2
rank Mismatch = 3
rank NotThread = 4
rank WrongPriority = 5
rank ConstraintKind = 6
rank Inversion = 7
rank Wide = 8

-- the kind is the smallest of the node's faults
pub record HasFault (s : Context) (n : Site) (k : TypeKind) : Type 0 where
  pub scope : VarTypes
  pub of_binders : Extends s [] n.binders scope
  pub fails : NodeFails s scope n.node k
  pub least : (l : TypeKind) → NodeFails s scope n.node l → rank k ≤ rank l

-- the first element of the list that has no type fails in this way, at this place
pub record FirstFailure {A : Type 0} (Typed : A → Type 0) (Fails : A → TypeKind → Type 0)
    (place_of : A → ℕ) (all : List A) (k : TypeKind) (at : ℕ) : Type 0 where
  pub before : List A
  pub faulty : A
  pub after : List A
  pub is : all ≡ before ++ faulty ∷ after
  pub typed : All Typed before
  pub fails : Fails faulty k
  pub there : at ≡ place_of faulty

-- the first node without a type has this fault, at this place
abbrev pub FirstFault : Context → List Site → TypeKind → ℕ → Type 0
FirstFault s = FirstFailure (IsTyped s) (HasFault s) (λ n. place n.node)
