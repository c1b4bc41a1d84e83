-- What is in scope with its priorities is in scope.
use Rattle.std.proofs.Common.{ℕ, ◌+◌, List, [], ◌∷◌, length}
use Rattle.priml_syntax.specs.Tree.{Term, var, number, bool_term, unit_term, pair_term, first, second, left, right, binary, negated, Code, block, Body, bind, ret_tail, if_tail, case_tail, Act, ret, spawn, sync, call, do_block, input, output, Routine, Tree}
use Rattle.priml_syntax.specs.Scoped.{NameCounts, TermIn, TermsIn, CodeIn, BodyIn, ActIn, scope_in, RoutineIn}
use Rattle.type_rules.specs.Typing.{InScope, AllInScope, CodeInScope, BodyInScope, ActInScope}

pub term_in : (s : NameCounts) (n : ℕ) (e : Term) → TermIn s n e → InScope n e
term_in s n (var at x) h = h
term_in s n (number at z) h = tt
term_in s n (bool_term at b) h = tt
term_in s n (unit_term at) h = tt
term_in s n (pair_term at a b) h = (term_in s n a h.0, term_in s n b h.1)
term_in s n (first at a) h = term_in s n a h
term_in s n (second at a) h = term_in s n a h
term_in s n (left at t a) h = term_in s n a h.1
term_in s n (right at t a) h = term_in s n a h.1
term_in s n (binary at op a b) h = (term_in s n a h.0, term_in s n b h.1)
term_in s n (negated at a) h = term_in s n a h

terms_in : (s : NameCounts) (n : ℕ) (es : List Term) → TermsIn s n es → AllInScope n es
terms_in s n [] h = tt
terms_in s n (e ∷ es) h = (term_in s n e h.0, terms_in s n es h.1)

mutual
  pub code_in : (c : Code) (s : NameCounts) (n : ℕ) → CodeIn c s n → CodeInScope c s.procs n
  code_in (block at b) s n h = body_in b s n h

  pub body_in : (b : Body) (s : NameCounts) (n : ℕ) → BodyIn b s n → BodyInScope b s.procs n
  body_in (bind at a rest) s n h = (act_in a s n h.0, body_in rest s (n + 1) h.2)
  body_in (ret_tail at e) s n h = term_in s n e h
  body_in (if_tail at e a b) s n h = (term_in s n e h.0, code_in a s n h.1, code_in b s n h.2)
  body_in (case_tail at e a b) s n h = (term_in s n e h.0, code_in a s (n + 1) h.2, code_in b s (n + 1) h.3)

  pub act_in : (a : Act) (s : NameCounts) (n : ℕ) → ActIn a s n → ActInScope a s.procs n
  act_in (ret e) s n h = term_in s n e h
  act_in (spawn q c) s n h = code_in c s n h.1
  act_in (sync x) s n h = h
  act_in (call f ps es) s n h = (h.0, terms_in s n es h.2)
  act_in (do_block c) s n h = code_in c s n h
  act_in input s n h = tt
  act_in (output e) s n h = term_in s n e h

-- what the checker asks of each procedure's body
pub routine_in : (p : Tree) (f : Routine) → RoutineIn p f → CodeInScope f.body (length p.procs) (length f.declares.params)
routine_in p f h = code_in f.body (scope_in p f) (length f.declares.params) h.body
