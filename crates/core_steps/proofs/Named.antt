-- What a derivation tells of its state: the thread's path, and how many children it has.
use Rattle.std.proofs.Common.{◌≡◌, ℕ, ◌+◌, List, [], ◌∷◌, ◌++◌, Some, None, sym, ◌∙◌, ap, arith}
use Rattle.priml_syntax.specs.declared.event.Event.{Event}
use Rattle.priml_syntax.specs.Events.{one_spawn, spawns}
use Rattle.core_steps.specs.Steps.{Job, State, Moved, awaits, Ran, root, born, alone, joined}
use Rattle.core_steps.proofs.StepFacts.{Facts, step_facts, child_facts}

pub spawns_append : (es fs : List Event) → spawns (es ++ fs) ≡ spawns es + spawns fs
spawns_append [] fs = omega arith
spawns_append (x ∷ es) fs = omega (arith, spawns_append es fs)

pub spawns_push : (es : List Event) (e : Event) → spawns (es ++ e ∷ []) ≡ spawns es + one_spawn e
spawns_push es e = omega (arith, spawns_append es (e ∷ []))

pub push_not_nil : {X : Type 0} (xs : List X) (x : X) → xs ++ x ∷ [] ≡ [] → ⊥
push_not_nil [] x e = cc
push_not_nil (y ∷ ys) x e = cc

-- the thread's path, of which there is none without a number, and its children
pub record Named (p : List ℕ) (es : List Event) (s : State) : Type 0 where
  pub path : s.path ≡ p
  pub children : s.children ≡ spawns es
  pub some : p ≡ [] → ⊥

named_more : {p : List ℕ} {es fs : List Event} {s t : State} (m : Moved) → Named p fs t → Facts t (awaits t) m → es ≡ fs ++ m.event ∷ [] → s ≡ m.next → Named p es s
named_more {p} {es} {fs} {s} {t} m n f a b =
    record {
      path = ap (λ x. x.path) b ∙ (f.path ∙ n.path);
      children = ap (λ x. x.children) b ∙ (f.children ∙ (ap (λ k. k + one_spawn m.event) n.children ∙ (sym (spawns_push fs m.event) ∙ sym (ap spawns a))));
      some = n.some;
    }

-- each derivation tells so
pub named : {job : Job} {p : List ℕ} {es : List Event} {s : State} → Ran job p es s → Named p es s
named {p} (root {k = k} g a b c) = record { path = ap (λ x. x.path) c ∙ sym a; children = ap (λ x. x.children) c ∙ sym (ap spawns b); some = λ z. let q : p ≡ k ∷ [] = a in cc }
named {job} (born {t} {c} {m} d a b h e f g) =
    let x = child_facts job t None m c b h in
    record {
      path = ap (λ x. x.path) g ∙ sym e;
      children = ap (λ x. x.children) g ∙ (x.children ∙ sym (ap spawns f));
      some = λ z. push_not_nil t.path t.children (sym x.path ∙ (sym e ∙ z));
    }
named {job} (alone {t} {m} d a b c e) = named_more m (named d) (step_facts job t None m b) c e
named {job} (joined {t} {o} {m} d d' a b c e f) = named_more m (named d) (step_facts job t (Some o) m c) e f
