-- What a program without faults means is in scope: types, expressions, blocks.
use Rattle.std.proofs.Common.{◌≡◌, ℕ, ◌+◌, ◌<◌, ◌≤◌, true, nat_le, is_some, Option, Some, None, unwrap_or, List, [], ◌∷◌, ◌++◌, length, arith, refl, subst}
use Rattle.std.proofs.lemmas.Bool.Decides.{nat_tests}
use Rattle.std.proofs.lemmas.List.{length-append}
use Rattle.priml_syntax.specs.declared.prio.Prio.TheVariants.{Const}
use Rattle.priml_syntax.specs.Size.{type_nodes}
use Rattle.priml_syntax.specs.Scoped as scoped
use Rattle.priml_syntax.specs.Scoped.{PrioIn, PriosIn, TypeIn, Written, TermIn, TermsIn, CodeIn, BodyIn, ActIn}
use Rattle.source_grammar.specs.declared.raw.Name.{Name}
use Rattle.source_grammar.specs.RawTree.{RawType, unit, bool, int, pair, sum, thread, WrittenType, RawTerm, var, number, bool_term, unit_term, pair_term, first, second, left, right, binary, negated, RawCode, block, RawBody, bind, ret_tail, if_tail, case_tail, RawAct, ret, spawn, sync, call, do_block, input, output}
use Rattle.source_reader.specs.declared.faults.Fault.TheVariants.{UnknownName, TooMany}
use Rattle.source_reader.specs.declared.faults.What.TheVariants as what
use Rattle.source_reader.specs.Names.{lookup, is_among, Env, prio_named, prio_in, prio_of}
use Rattle.source_reader.specs.Faults.{unless, prio_faults, prios_faults, proc_faults, raw_nodes, type_faults, written_faults, term_faults, terms_faults, scope_faults, code_faults, body_faults, act_faults}
use Rattle.source_reader.specs.Resolved.{type_meant, term_meant, terms_meant, prios_meant, code_meant, body_meant, act_meant}
use Rattle.source_reader.proofs.Lists.{no_faults, holds, has_room, within}
use Rattle.source_reader.proofs.Lookup.{lookup_within}

-- each name stands for a priority, a priority variable or a procedure in scope
pub record Places (s : scoped.NameCounts) (env : Env) : Type 0 where
  pub prios : (id k : ℕ) → env.prios id ≡ Some k → k < s.prios
  pub vars : (id k : ℕ) → lookup id env.vars ≡ Some k → k < s.vars
  pub procs : (id k : ℕ) → env.procs id ≡ Some k → k < s.procs

named_in : (s : scoped.NameCounts) (v d : Option ℕ) → ((k : ℕ) → v ≡ Some k → k < s.vars) → ((k : ℕ) → d ≡ Some k → k < s.prios) → is_some (prio_named v d) ≡ true → PrioIn s (unwrap_or (prio_named v d) (Const 0))
named_in s (Some k) d h g e = h k refl
named_in s None (Some k) h g e = g k refl
named_in s None None h g e = absurd (cc)

same_nodes : (env : Env) (t : RawType) → type_nodes (type_meant env t) ≡ raw_nodes t
same_nodes env unit = refl
same_nodes env bool = refl
same_nodes env int = refl
same_nodes env (pair a b) = let p = same_nodes env a in let q = same_nodes env b in omega (arith, p, q)
same_nodes env (sum a b) = let p = same_nodes env a in let q = same_nodes env b in omega (arith, p, q)
same_nodes env (thread p a) = let q = same_nodes env a in omega (arith, q)

few_nodes : (n : ℕ) → nat_le n 16 ≡ true → n ≤ 16
few_nodes n e = grind (arith, nat_tests)

var_scoped : (at id : ℕ) (scope : List ℕ) → unless (is_among id scope) (UnknownName at) ≡ [] → unwrap_or (lookup id scope) 0 < length scope
var_scoped at id scope e = within (lookup id scope) (length scope) (UnknownName at) (λ k q. lookup_within scope id k q) e

module _ (s : scoped.NameCounts) (env : Env) (places : Places s env) where
  pub prio_scoped : (n : Name) → prio_faults env n ≡ [] → PrioIn s (prio_of env n.id)
  prio_scoped n e = named_in s (lookup n.id env.vars) (env.prios n.id) (λ k q. places.vars n.id k q) (λ k q. places.prios n.id k q) (holds (is_some (prio_in env n.id)) (UnknownName n.at) e)

  pub prios_scoped : (ns : List Name) → prios_faults env ns ≡ [] → PriosIn s (prios_meant env ns)
  prios_scoped [] e = tt
  prios_scoped (n ∷ ns) e = let p = no_faults (prio_faults env n) (prios_faults env ns) e in (prio_scoped n p.0, prios_scoped ns p.1)

  type_scoped : (t : RawType) → type_faults env t ≡ [] → TypeIn s (type_meant env t)
  type_scoped unit e = tt
  type_scoped bool e = tt
  type_scoped int e = tt
  type_scoped (pair a b) e = let p = no_faults (type_faults env a) (type_faults env b) e in (type_scoped a p.0, type_scoped b p.1)
  type_scoped (sum a b) e = let p = no_faults (type_faults env a) (type_faults env b) e in (type_scoped a p.0, type_scoped b p.1)
  type_scoped (thread n a) e = let p = no_faults (prio_faults env n) (type_faults env a) e in (prio_scoped n p.0, type_scoped a p.1)

  pub written_scoped : (w : WrittenType) → written_faults env w ≡ [] → Written s (type_meant env w.ty)
  written_scoped w e =
      let p = no_faults (unless (nat_le (raw_nodes w.ty) 16) (TooMany w.at what.TypeNodes)) (type_faults env w.ty) e in
      let few = few_nodes (raw_nodes w.ty) (holds (nat_le (raw_nodes w.ty) 16) (TooMany w.at what.TypeNodes) p.0) in
      let same = same_nodes env w.ty in
      (type_scoped w.ty p.1, omega (arith, few, same))

  pub term_scoped : (t : RawTerm) (scope : List ℕ) → term_faults env t scope ≡ [] → TermIn s (length scope) (term_meant env t scope)
  term_scoped (var at id) scope e = var_scoped at id scope e
  term_scoped (number at n) scope e = tt
  term_scoped (bool_term at b) scope e = tt
  term_scoped (unit_term at) scope e = tt
  term_scoped (pair_term at a b) scope e = let p = no_faults (term_faults env a scope) (term_faults env b scope) e in (term_scoped a scope p.0, term_scoped b scope p.1)
  term_scoped (first at a) scope e = term_scoped a scope e
  term_scoped (second at a) scope e = term_scoped a scope e
  term_scoped (left at w a) scope e = let p = no_faults (written_faults env w) (term_faults env a scope) e in (written_scoped w p.0, term_scoped a scope p.1)
  term_scoped (right at w a) scope e = let p = no_faults (written_faults env w) (term_faults env a scope) e in (written_scoped w p.0, term_scoped a scope p.1)
  term_scoped (binary at op a b) scope e = let p = no_faults (term_faults env a scope) (term_faults env b scope) e in (term_scoped a scope p.0, term_scoped b scope p.1)
  term_scoped (negated at a) scope e = term_scoped a scope e

  pub terms_scoped : (ts : List RawTerm) (scope : List ℕ) → terms_faults env ts scope ≡ [] → TermsIn s (length scope) (terms_meant env ts scope)
  terms_scoped [] scope e = tt
  terms_scoped (t ∷ ts) scope e = let p = no_faults (term_faults env t scope) (terms_faults env ts scope) e in (term_scoped t scope p.0, terms_scoped ts scope p.1)

  -- a block with one variable more in scope
  one_more : (c : RawCode) (scope : List ℕ) (id : ℕ) → CodeIn (code_meant c env (scope ++ id ∷ [])) s (length (scope ++ id ∷ [])) → CodeIn (code_meant c env (scope ++ id ∷ [])) s (length scope + 1)
  one_more c scope id h = subst (CodeIn (code_meant c env (scope ++ id ∷ [])) s) (length-append scope (id ∷ [])) h

  mutual
    pub code_scoped : (c : RawCode) (scope : List ℕ) → code_faults c env scope ≡ [] → CodeIn (code_meant c env scope) s (length scope)
    code_scoped (block at b) scope e = body_scoped b scope e

    pub body_scoped : (b : RawBody) (scope : List ℕ) → body_faults b env scope ≡ [] → BodyIn (body_meant b env scope) s (length scope)
    body_scoped (bind n at a rest) scope e =
        let p = no_faults (scope_faults n scope) (act_faults a env scope ++ body_faults rest env (scope ++ n.id ∷ [])) e in
        let q = no_faults (act_faults a env scope) (body_faults rest env (scope ++ n.id ∷ [])) p.1 in (
          act_scoped a scope q.0,
          has_room n.at (length scope) 32 what.Scope p.0,
          subst (BodyIn (body_meant rest env (scope ++ n.id ∷ [])) s) (length-append scope (n.id ∷ [])) (body_scoped rest (scope ++ n.id ∷ []) q.1),
        )
    body_scoped (ret_tail at t) scope e = term_scoped t scope e
    body_scoped (if_tail at t a b) scope e =
        let p = no_faults (term_faults env t scope) (code_faults a env scope ++ code_faults b env scope) e in
        let q = no_faults (code_faults a env scope) (code_faults b env scope) p.1 in
        (term_scoped t scope p.0, code_scoped a scope q.0, code_scoped b scope q.1)
    body_scoped (case_tail at t m a n b) scope e =
        let fa = scope_faults m scope ++ code_faults a env (scope ++ m.id ∷ []) in
        let fb = scope_faults n scope ++ code_faults b env (scope ++ n.id ∷ []) in
        let p = no_faults (term_faults env t scope) (fa ++ fb) e in
        let q = no_faults fa fb p.1 in
        let x = no_faults (scope_faults m scope) (code_faults a env (scope ++ m.id ∷ [])) q.0 in
        let y = no_faults (scope_faults n scope) (code_faults b env (scope ++ n.id ∷ [])) q.1 in (
          term_scoped t scope p.0,
          has_room m.at (length scope) 32 what.Scope x.0,
          one_more a scope m.id (code_scoped a (scope ++ m.id ∷ []) x.1),
          one_more b scope n.id (code_scoped b (scope ++ n.id ∷ []) y.1),
        )

    pub act_scoped : (a : RawAct) (scope : List ℕ) → act_faults a env scope ≡ [] → ActIn (act_meant a env scope) s (length scope)
    act_scoped (ret t) scope e = term_scoped t scope e
    act_scoped (spawn n b) scope e = let p = no_faults (prio_faults env n) (code_faults b env scope) e in (prio_scoped n p.0, code_scoped b scope p.1)
    act_scoped (sync h) scope e = var_scoped h.at h.id scope e
    act_scoped (call f ps ts) scope e =
        let p = no_faults (proc_faults env f) (prios_faults env ps ++ terms_faults env ts scope) e in
        let q = no_faults (prios_faults env ps) (terms_faults env ts scope) p.1 in
        (within (env.procs f.id) s.procs (UnknownName f.at) (λ k q. places.procs f.id k q) p.0, prios_scoped ps q.0, terms_scoped ts scope q.1)
    act_scoped (do_block b) scope e = code_scoped b scope e
    act_scoped input scope e = tt
    act_scoped (output t) scope e = term_scoped t scope e
