-- A text has one tree.
use Rattle.std.proofs.Common.{ℕ, List, [], ◌∷◌, ◌≡◌, true, false, subst, sym, refl, ap, ap₂}
use Rattle.source_tokens.specs.declared.token.Token.{Token}
use Rattle.source_tokens.specs.declared.token.Kind.{Kind}
use Rattle.source_tokens.specs.declared.token.Kind.TheVariants as k
use Rattle.source_tokens.specs.declared.token.Word.TheVariants as w
use Rattle.source_tokens.specs.declared.token.Sign.TheVariants as s
use Rattle.priml_syntax.specs.declared.expr.Op.{Op}
use Rattle.source_grammar.specs.declared.raw.Name.{Name}
use Rattle.source_grammar.specs.RawTree.{RawType, RawTerm, RawCode, block, RawBody, ret_tail, RawAct, ret, spawn, do_block, output, WrittenType, Parameter, RawRoutine, RawProcedure, Declaration, priority, order, RawTree}
use Rattle.source_grammar.specs.Grammar.{token, sign, word, name, IsSeparated, IsListed, IsName, IsType, IsWritten, IsOp, IsExpr, IsPriorities, IsBlock, IsBody, IsAction, IsConstraint, IsParameter, IsHead, IsRoutine, IsProcedure, IsDecls, IsMain, IsProgram}
use Rattle.source_grammar.specs.Inside.Next.{is_at, is_end, is_sign}
use Rattle.source_grammar.proofs.Moves.{ItemStarts, separated_starts, name_starts, expr_starts, parameter_starts, end_no_comma}

same_end : {x y : Token} {ts us : List Token} → ◌≡◌ {A = List Token} (x ∷ ts) (y ∷ us) → ts ≡ us
same_end h = cc

same_kind : {x y : Token} {ts us : List Token} → ◌≡◌ {A = List Token} (x ∷ ts) (y ∷ us) → x.kind ≡ y.kind
same_kind {x = x} {y = y} h = let e : x ≡ y = cc in ap (λ (t : Token). t.kind) e

-- Lists.
abbrev ItemUnique : {A : Type 0} → (List Token → List Token → A → Type 0) → Type 0
ItemUnique {A} Is = (ts rest rest' : List Token) (x x' : A) → Is ts rest x → Is ts rest' x' → (rest ≡ rest') × (x ≡ x')

along_separated : {A : Type 0} {Is : List Token → List Token → A → Type 0} {ts us rest : List Token} {xs : List A} → ts ≡ us → IsSeparated Is us rest xs → IsSeparated Is ts rest xs
along_separated {Is = Is} {rest = rest} {xs = xs} h d = subst (λ v. IsSeparated Is v rest xs) (sym h) d

comma_clash : {ts us : List Token} {c : ℕ} → ts ≡ sign c s.Comma ∷ us → is_at (is_sign s.Comma) ts ≡ false → ⊥
comma_clash e h = let i = rw e at h in cc

separated_unique : {A : Type 0} {Is : List Token → List Token → A → Type 0} → ItemUnique Is → {ts rest rest' : List Token} {xs xs' : List A}
    → IsSeparated Is ts rest xs → IsSeparated Is ts rest' xs' → is_at (is_sign s.Comma) rest ≡ false → is_at (is_sign s.Comma) rest' ≡ false → (rest ≡ rest') × (xs ≡ xs')
separated_unique u (IsSeparated.one h) (IsSeparated.one h') c c' = let p = u _ _ _ _ _ h h' in (p.0, ap (λ x. x ∷ []) p.1)
separated_unique u (IsSeparated.one h) (IsSeparated.more k' h' hs') c c' = let p = u _ _ _ _ _ h h' in absurd (comma_clash p.0 c)
separated_unique u (IsSeparated.more k h hs) (IsSeparated.one h') c c' = let p = u _ _ _ _ _ h h' in absurd (comma_clash (sym p.0) c')
separated_unique u (IsSeparated.more k h hs) (IsSeparated.more k' h' hs') c c' =
    let p = u _ _ _ _ _ h h' in
    let q = separated_unique u hs (along_separated (same_end p.0) hs') c c' in
    (q.0, cc (p.1, q.1))

listed_unique : {A : Type 0} {Is : List Token → List Token → A → Type 0} → ItemUnique Is → ItemStarts Is → {ts rest rest' : List Token} {xs xs' : List A}
    → IsListed Is ts rest xs → IsListed Is ts rest' xs' → is_at is_end rest ≡ true → is_at is_end rest' ≡ true → (rest ≡ rest') × (xs ≡ xs')
listed_unique u g IsListed.none IsListed.none e e' = (refl, refl)
listed_unique u g IsListed.none (IsListed.some h) e e' = absurd (let f = separated_starts g h in cc)
listed_unique u g (IsListed.some h) IsListed.none e e' = absurd (let f = separated_starts g h in cc)
listed_unique u g {rest = rest} {rest' = rest'} (IsListed.some h) (IsListed.some h') e e' = separated_unique u h h' (end_no_comma rest e) (end_no_comma rest' e')

-- a name is known by its token
name_of : {m n : Name} → name m ≡ name n → m ≡ n
name_of {m = m} {n = n} e =
    let a : m.at ≡ n.at = ap (λ (t : Token). t.at) e in
    let b : ◌≡◌ {A = Kind} (k.Name m.id) (k.Name n.id) = ap (λ (t : Token). t.kind) e in
    let c : m.id ≡ n.id = cc in
    let mk : ℕ → ℕ → Name = λ at id. record { at = at; id = id } in
    ap₂ mk a c

-- Names, types and expressions.
name_unique : ItemUnique IsName
name_unique _ _ _ _ _ (IsName.is_name n) (IsName.is_name n') = (refl, refl)

along_type : {ts us rest : List Token} {at : ℕ} {x : RawType} → ts ≡ us → IsType us rest at x → IsType ts rest at x
along_type {rest = rest} {at = at} {x = x} h d = subst (λ v. IsType v rest at x) (sym h) d

type_unique : {ts rest rest' : List Token} {i j : ℕ} {x x' : RawType} → IsType ts rest i x → IsType ts rest' j x' → (rest ≡ rest') × (i ≡ j) × (x ≡ x')
type_unique (IsType.is_unit at) (IsType.is_unit at') = (refl, refl, refl)
type_unique (IsType.is_bool at) (IsType.is_bool at') = (refl, refl, refl)
type_unique (IsType.is_int at) (IsType.is_int at') = (refl, refl, refl)
type_unique (IsType.is_pair at star close i j x y) (IsType.is_pair at' star' close' i' j' x' y') =
    let p = type_unique x x' in let q = type_unique y (along_type (same_end p.0) y') in (same_end q.0, refl, cc (p.2, q.2))
type_unique (IsType.is_sum at plus close i j x y) (IsType.is_sum at' plus' close' i' j' x' y') =
    let p = type_unique x x' in let q = type_unique y (along_type (same_end p.0) y') in (same_end q.0, refl, cc (p.2, q.2))
type_unique (IsType.is_pair at star close i j x y) (IsType.is_sum at' plus' close' i' j' x' y') =
    let p = type_unique x x' in let e : ◌≡◌ {A = Kind} (k.Sign s.Star) (k.Sign s.Plus) = same_kind p.0 in absurd (cc)
type_unique (IsType.is_sum at plus close i j x y) (IsType.is_pair at' star' close' i' j' x' y') =
    let p = type_unique x x' in let e : ◌≡◌ {A = Kind} (k.Sign s.Plus) (k.Sign s.Star) = same_kind p.0 in absurd (cc)
type_unique (IsType.is_thread at a b c close i p x) (IsType.is_thread at' a' b' c' close' i' p' x') = let q = type_unique x x' in (same_end q.0, refl, cc q.2)

written_unique : {ts rest rest' : List Token} {x x' : WrittenType} → IsWritten ts rest x → IsWritten ts rest' x' → (rest ≡ rest') × (x ≡ x')
written_unique (IsWritten.is_written d) (IsWritten.is_written d') = let p = type_unique d d' in (p.0, cc (p.1, p.2))

op_unique : {kind : Kind} {o p : Op} → IsOp kind o → IsOp kind p → o ≡ p
op_unique IsOp.is_add IsOp.is_add = refl
op_unique IsOp.is_sub IsOp.is_sub = refl
op_unique IsOp.is_mul IsOp.is_mul = refl
op_unique IsOp.is_div IsOp.is_div = refl
op_unique IsOp.is_rem IsOp.is_rem = refl
op_unique IsOp.is_less IsOp.is_less = refl
op_unique IsOp.is_at_most IsOp.is_at_most = refl
op_unique IsOp.is_equal IsOp.is_equal = refl
op_unique IsOp.is_and IsOp.is_and = refl
op_unique IsOp.is_or IsOp.is_or = refl

same_op : {kind kind' : Kind} {o p : Op} → kind ≡ kind' → IsOp kind o → IsOp kind' p → o ≡ p
same_op {p = p} e i j = op_unique i (subst (λ x. IsOp x p) (sym e) j)

no_close : {o : Op} → IsOp (k.Sign s.CloseParen) o → ⊥
no_close h = elim h [ ]

no_comma : {o : Op} → IsOp (k.Sign s.Comma) o → ⊥
no_comma h = elim h [ ]

no_expr : {ts rest : List Token} {at : ℕ} {x : RawTerm} → IsExpr (sign at s.CloseParen ∷ ts) rest x → ⊥
no_expr h = elim h [ ]

close_comma : {a b : ℕ} {ts us : List Token} → ◌≡◌ {A = List Token} (sign a s.CloseParen ∷ ts) (sign b s.Comma ∷ us) → ⊥
close_comma h = let e : ◌≡◌ {A = Kind} (k.Sign s.CloseParen) (k.Sign s.Comma) = same_kind h in cc

op_close : {a b : ℕ} {kind : Kind} {o : Op} {ts us : List Token} → IsOp kind o → ◌≡◌ {A = List Token} (token a kind ∷ ts) (sign b s.CloseParen ∷ us) → ⊥
op_close {o = o} i h = let e = same_kind h in no_close (subst (λ x. IsOp x o) e i)

op_comma : {a b : ℕ} {kind : Kind} {o : Op} {ts us : List Token} → IsOp kind o → ◌≡◌ {A = List Token} (token a kind ∷ ts) (sign b s.Comma ∷ us) → ⊥
op_comma {o = o} i h = let e = same_kind h in no_comma (subst (λ x. IsOp x o) e i)

along_expr : {ts us rest : List Token} {x : RawTerm} → ts ≡ us → IsExpr us rest x → IsExpr ts rest x
along_expr {rest = rest} {x = x} h d = subst (λ v. IsExpr v rest x) (sym h) d

expr_unique : {ts rest rest' : List Token} {x x' : RawTerm} → IsExpr ts rest x → IsExpr ts rest' x' → (rest ≡ rest') × (x ≡ x')
expr_unique (IsExpr.is_var n) (IsExpr.is_var n') = (refl, refl)
expr_unique (IsExpr.is_number at n) (IsExpr.is_number at' n') = (refl, refl)
expr_unique (IsExpr.is_true at) (IsExpr.is_true at') = (refl, refl)
expr_unique (IsExpr.is_false at) (IsExpr.is_false at') = (refl, refl)
expr_unique (IsExpr.is_unit_term at close) (IsExpr.is_unit_term at' close') = (refl, refl)
expr_unique (IsExpr.is_unit_term at close) (IsExpr.is_inside at' close' x) = absurd (no_expr x)
expr_unique (IsExpr.is_unit_term at close) (IsExpr.is_pair_term at' comma close' x y) = absurd (no_expr x)
expr_unique (IsExpr.is_unit_term at close) (IsExpr.is_binary at' mid close' kind op x o y) = absurd (no_expr x)
expr_unique (IsExpr.is_inside at close x) (IsExpr.is_unit_term at' close') = absurd (no_expr x)
expr_unique (IsExpr.is_pair_term at comma close x y) (IsExpr.is_unit_term at' close') = absurd (no_expr x)
expr_unique (IsExpr.is_binary at mid close kind op x o y) (IsExpr.is_unit_term at' close') = absurd (no_expr x)
expr_unique (IsExpr.is_inside at close x) (IsExpr.is_inside at' close' x') = let p = expr_unique x x' in (same_end p.0, p.1)
expr_unique (IsExpr.is_inside at close x) (IsExpr.is_pair_term at' comma close' x' y) = let p = expr_unique x x' in absurd (close_comma p.0)
expr_unique (IsExpr.is_inside at close x) (IsExpr.is_binary at' mid close' kind op x' o y) = let p = expr_unique x x' in absurd (op_close o (sym p.0))
expr_unique (IsExpr.is_pair_term at comma close x y) (IsExpr.is_inside at' close' x') = let p = expr_unique x x' in absurd (close_comma (sym p.0))
expr_unique (IsExpr.is_pair_term at comma close x y) (IsExpr.is_pair_term at' comma' close' x' y') =
    let p = expr_unique x x' in let q = expr_unique y (along_expr (same_end p.0) y') in (same_end q.0, cc (p.1, q.1))
expr_unique (IsExpr.is_pair_term at comma close x y) (IsExpr.is_binary at' mid close' kind op x' o y') = let p = expr_unique x x' in absurd (op_comma o (sym p.0))
expr_unique (IsExpr.is_binary at mid close kind op x o y) (IsExpr.is_inside at' close' x') = let p = expr_unique x x' in absurd (op_close o p.0)
expr_unique (IsExpr.is_binary at mid close kind op x o y) (IsExpr.is_pair_term at' comma' close' x' y') = let p = expr_unique x x' in absurd (op_comma o p.0)
expr_unique (IsExpr.is_binary at mid close kind op x o y) (IsExpr.is_binary at' mid' close' kind' op' x' o' y') =
    let p = expr_unique x x' in let q = expr_unique y (along_expr (same_end p.0) y') in let r = same_op (same_kind p.0) o o' in (same_end q.0, cc (p.1, q.1, r))
expr_unique (IsExpr.is_first at a close x) (IsExpr.is_first at' a' close' x') = let p = expr_unique x x' in (same_end p.0, cc p.1)
expr_unique (IsExpr.is_second at a close x) (IsExpr.is_second at' a' close' x') = let p = expr_unique x x' in (same_end p.0, cc p.1)
expr_unique (IsExpr.is_negated at a close x) (IsExpr.is_negated at' a' close' x') = let p = expr_unique x x' in (same_end p.0, cc p.1)
expr_unique (IsExpr.is_left at a b c close t x) (IsExpr.is_left at' a' b' c' close' t' x') =
    let p = written_unique t t' in let q = expr_unique x (along_expr (same_end (same_end p.0)) x') in (same_end q.0, cc (p.1, q.1))
expr_unique (IsExpr.is_right at a b c close t x) (IsExpr.is_right at' a' b' c' close' t' x') =
    let p = written_unique t t' in let q = expr_unique x (along_expr (same_end (same_end p.0)) x') in (same_end q.0, cc (p.1, q.1))

-- Blocks and actions.
same_name : {m n : Name} {ts us : List Token} → ◌≡◌ {A = List Token} (name m ∷ ts) (name n ∷ us) → (m ≡ n) × (ts ≡ us)
same_name {m = m} {n = n} h = let e : name m ≡ name n = cc in (name_of e, same_end h)

priorities_unique : {ts us us' : List Token} {i i' : ℕ} {ps ps' : List Name} → IsPriorities ts (sign i s.OpenParen ∷ us) ps → IsPriorities ts (sign i' s.OpenParen ∷ us') ps'
    → (us ≡ us') × (ps ≡ ps')
priorities_unique (IsPriorities.absent at) (IsPriorities.absent at') = (refl, refl)
priorities_unique (IsPriorities.present at close h) (IsPriorities.present at' close' h') = let p = listed_unique name_unique name_starts h h' refl refl in (same_end (same_end p.0), p.1)

along_exprs : {ts us rest : List Token} {xs : List RawTerm} → ts ≡ us → IsListed IsExpr us rest xs → IsListed IsExpr ts rest xs
along_exprs {rest = rest} {xs = xs} h x = subst (λ v. IsListed IsExpr v rest xs) (sym h) x

along_body : {ts us rest : List Token} {b : RawBody} → ts ≡ us → IsBody us rest b → IsBody ts rest b
along_body {rest = rest} {b = b} h x = subst (λ v. IsBody v rest b) (sym h) x

along_block : {ts us rest : List Token} {b : RawCode} → ts ≡ us → IsBlock us rest b → IsBlock ts rest b
along_block {rest = rest} {b = b} h x = subst (λ v. IsBlock v rest b) (sym h) x

mutual
  block_unique : {ts rest rest' : List Token} {b b' : RawCode} → IsBlock ts rest b → IsBlock ts rest' b' → (rest ≡ rest') × (b ≡ b')
  block_unique (IsBlock.is_block at close b) (IsBlock.is_block at' close' b') = let p = body_unique b b' in (same_end p.0, ap (block at) p.1)

  body_unique : {ts rest rest' : List Token} {b b' : RawBody} → IsBody ts rest b → IsBody ts rest' b' → (rest ≡ rest') × (b ≡ b')
  body_unique (IsBody.is_ret_tail at e) (IsBody.is_ret_tail at' e') = let p = expr_unique e e' in (p.0, ap (ret_tail at) p.1)
  body_unique (IsBody.is_if_tail at o e x y) (IsBody.is_if_tail at' o' e' x' y') =
      let p = expr_unique e e' in
      let q = block_unique x (along_block p.0 x') in
      let r = block_unique y (along_block (same_end q.0) y') in
      (r.0, cc (p.1, q.1, r.1))
  body_unique (IsBody.is_case_tail at b c m n e x y) (IsBody.is_case_tail at' b' c' m' n' e' x' y') =
      let p = expr_unique e e' in
      let i = same_name (same_end p.0) in
      let q = block_unique x (along_block i.1 x') in
      let j = same_name (same_end q.0) in
      let r = block_unique y (along_block j.1 y') in
      (r.0, cc (p.1, i.0, q.1, j.0, r.1))
  body_unique (IsBody.is_bind n arrow at end a b) (IsBody.is_bind n' arrow' at' end' a' b') =
      let p = action_unique a a' in
      let q = body_unique b (along_body (same_end p.1) b') in
      (q.0, cc (p.0, p.2, q.1))

  action_unique : {at at' : ℕ} {ts us us' : List Token} {a a' : RawAct} → IsAction ts us at a → IsAction ts us' at' a' → (at ≡ at') × (us ≡ us') × (a ≡ a')
  action_unique (IsAction.is_ret at e) (IsAction.is_ret at' e') = let p = expr_unique e e' in (refl, p.0, ap ret p.1)
  action_unique (IsAction.is_spawn at from close p b) (IsAction.is_spawn at' from' close' p' b') = let q = block_unique b b' in (refl, q.0, ap (spawn p) q.1)
  action_unique (IsAction.is_sync at h) (IsAction.is_sync at' h') = (refl, refl, refl)
  action_unique (IsAction.is_call at from close f ps es) (IsAction.is_call at' from' close' f' ps' es') =
      let p = priorities_unique ps ps' in
      let q = listed_unique (λ ts r r' x x' h h'. expr_unique h h') expr_starts es (along_exprs p.0 es') refl refl in
      (refl, same_end q.0, cc (p.1, q.1))
  action_unique (IsAction.is_do_block at b) (IsAction.is_do_block at' b') = let q = block_unique b b' in (refl, q.0, ap do_block q.1)
  action_unique (IsAction.is_input at) (IsAction.is_input at') = (refl, refl, refl)
  action_unique (IsAction.is_output at e) (IsAction.is_output at' e') = let p = expr_unique e e' in (refl, p.0, ap output p.1)

-- Procedures and programs.
given_unique : ItemUnique IsConstraint
given_unique _ _ _ _ _ (IsConstraint.is_constraint p q at) (IsConstraint.is_constraint p' q' at') = (refl, refl)

parameter_unique : ItemUnique IsParameter
parameter_unique _ _ _ _ _ (IsParameter.is_parameter n colon t) (IsParameter.is_parameter n' colon' t') = let p = written_unique t t' in (p.0, cc p.1)

-- a head that is given pairs ends its variables by another sign
bracket_semicolon : {a b : ℕ} {ts us : List Token} → ◌≡◌ {A = List Token} (sign a s.CloseBracket ∷ ts) (sign b s.Semicolon ∷ us) → ⊥
bracket_semicolon h = let e : ◌≡◌ {A = Kind} (k.Sign s.CloseBracket) (k.Sign s.Semicolon) = same_kind h in cc

head_unique : {ts us us' : List Token} {i i' : ℕ} {ns ns' : List Name} {gs gs' : List (Name × Name)} → IsHead ts (sign i s.OpenParen ∷ us) ns gs → IsHead ts (sign i' s.OpenParen ∷ us') ns' gs'
    → (us ≡ us') × (ns ≡ ns') × (gs ≡ gs')
head_unique (IsHead.absent at) (IsHead.absent at') = (refl, refl, refl)
head_unique (IsHead.free at close h) (IsHead.free at' close' h') = let p = listed_unique name_unique name_starts h h' refl refl in (same_end (same_end p.0), p.1, refl)
head_unique (IsHead.free at close h) (IsHead.bound at' mid close' h' g) = let p = listed_unique name_unique name_starts h h' refl refl in absurd (bracket_semicolon p.0)
head_unique (IsHead.bound at mid close h g) (IsHead.free at' close' h') = let p = listed_unique name_unique name_starts h h' refl refl in absurd (bracket_semicolon (sym p.0))
head_unique (IsHead.bound at mid close h g) (IsHead.bound at' mid' close' h' g') =
    let p = listed_unique name_unique name_starts h h' refl refl in
    let q = separated_unique given_unique g (along_separated (same_end p.0) g') refl refl in
    (same_end (same_end q.0), p.1, q.1)

routine_unique : {ts rest rest' : List Token} {at : ℕ} {r r' : RawRoutine} → IsRoutine ts rest at r → IsRoutine ts rest' at r' → (rest ≡ rest') × (r ≡ r')
routine_unique (IsRoutine.is_routine at by colon own t b) (IsRoutine.is_routine at' by' colon' own' t' b') =
    let p = written_unique t t' in
    let q = block_unique b (along_block p.0 b') in
    (q.0, cc (p.1, q.1))

along_parameters : {ts us rest : List Token} {xs : List Parameter} → ts ≡ us → IsListed IsParameter us rest xs → IsListed IsParameter ts rest xs
along_parameters {rest = rest} {xs = xs} h x = subst (λ v. IsListed IsParameter v rest xs) (sym h) x

along_routine : {ts us rest : List Token} {at : ℕ} {r : RawRoutine} → ts ≡ us → IsRoutine us rest at r → IsRoutine ts rest at r
along_routine {rest = rest} {at = at} {r = r} h x = subst (λ v. IsRoutine v rest at r) (sym h) x

procedure_unique : {ts rest rest' : List Token} {f f' : RawProcedure} → IsProcedure ts rest f → IsProcedure ts rest' f' → (rest ≡ rest') × (f ≡ f')
procedure_unique (IsProcedure.is_procedure at from close n h ps r) (IsProcedure.is_procedure at' from' close' n' h' ps' r') =
    let p = head_unique h h' in
    let q = listed_unique parameter_unique parameter_starts ps (along_parameters p.0 ps') refl refl in
    let x = routine_unique r (along_routine (same_end q.0) r') in
    (x.0, cc (p.1, p.2, q.1, x.1))

main_unique : {ts rest rest' : List Token} {m m' : RawRoutine} → IsMain ts rest m → IsMain ts rest' m' → m ≡ m'
main_unique (IsMain.is_main at r) (IsMain.is_main at' r') = let p = routine_unique r r' in p.1

-- Declarations end where a main procedure begins.
record SamePart (us us' : List Token) (ds ds' : List Declaration) : Type 0 where
  rest : us ≡ us'
  decls : ds ≡ ds'

no_priority : {at : ℕ} {ts rest : List Token} {m : RawRoutine} → IsMain (word at w.Priority ∷ ts) rest m → ⊥
no_priority h = elim h [ ]

no_order : {at : ℕ} {ts rest : List Token} {m : RawRoutine} → IsMain (word at w.Order ∷ ts) rest m → ⊥
no_order h = elim h [ ]

no_procedure : {ts us rest : List Token} {f : RawProcedure} {m : RawRoutine} → IsProcedure ts us f → IsMain ts rest m → ⊥
no_procedure (IsProcedure.is_procedure at from close n h ps r) m = elim m [ ]

no_priority_procedure : {at : ℕ} {ts rest : List Token} {f : RawProcedure} → IsProcedure (word at w.Priority ∷ ts) rest f → ⊥
no_priority_procedure h = elim h [ ]

no_order_procedure : {at : ℕ} {ts rest : List Token} {f : RawProcedure} → IsProcedure (word at w.Order ∷ ts) rest f → ⊥
no_order_procedure h = elim h [ ]

along_decls : {ts us rest : List Token} {ds : List Declaration} → ts ≡ us → IsDecls us rest ds → IsDecls ts rest ds
along_decls {rest = rest} {ds = ds} h x = subst (λ v. IsDecls v rest ds) (sym h) x

decls_unique : {ts us us' rest rest' : List Token} {ds ds' : List Declaration} {m m' : RawRoutine}
    → IsDecls ts us ds → IsDecls ts us' ds' → IsMain us rest m → IsMain us' rest' m' → SamePart us us' ds ds'
decls_unique IsDecls.no_more IsDecls.no_more x y = record { rest = refl; decls = refl }
decls_unique IsDecls.no_more (IsDecls.is_priority at end n d) x y = absurd (no_priority x)
decls_unique IsDecls.no_more (IsDecls.is_order at less end m n d) x y = absurd (no_order x)
decls_unique IsDecls.no_more (IsDecls.is_declared f d) x y = absurd (no_procedure f x)
decls_unique (IsDecls.is_priority at end n d) IsDecls.no_more x y = absurd (no_priority y)
decls_unique (IsDecls.is_priority at end n d) (IsDecls.is_priority at' end' n' d') x y =
    let p = decls_unique d d' x y in record { rest = p.rest; decls = ap (λ ds. priority n ∷ ds) p.decls }
decls_unique (IsDecls.is_priority at end n d) (IsDecls.is_declared f d') x y = absurd (no_priority_procedure f)
decls_unique (IsDecls.is_order at less end m n d) IsDecls.no_more x y = absurd (no_order y)
decls_unique (IsDecls.is_order at less end m n d) (IsDecls.is_order at' less' end' m' n' d') x y =
    let p = decls_unique d d' x y in record { rest = p.rest; decls = ap (λ ds. order at m n ∷ ds) p.decls }
decls_unique (IsDecls.is_order at less end m n d) (IsDecls.is_declared f d') x y = absurd (no_order_procedure f)
decls_unique (IsDecls.is_declared f d) IsDecls.no_more x y = absurd (no_procedure f y)
decls_unique (IsDecls.is_declared f d) (IsDecls.is_priority at end n d') x y = absurd (no_priority_procedure f)
decls_unique (IsDecls.is_declared f d) (IsDecls.is_order at less end m n d') x y = absurd (no_order_procedure f)
decls_unique (IsDecls.is_declared f d) (IsDecls.is_declared f' d') x y =
    let q = procedure_unique f f' in
    let p = decls_unique d (along_decls q.0 d') x y in
    record { rest = p.rest; decls = cc (q.1, p.decls) }

along_main : {ts us rest : List Token} {m : RawRoutine} → ts ≡ us → IsMain us rest m → IsMain ts rest m
along_main {rest = rest} {m = m} h x = subst (λ v. IsMain v rest m) (sym h) x

-- no second program stands for the same tokens
pub program_unique : (ts : List Token) (p q : RawTree) → IsProgram ts p → IsProgram ts q → p ≡ q
program_unique ts _ _ (IsProgram.is_program d m) (IsProgram.is_program d' m') =
    let e = decls_unique d d' m m' in
    cc (e.decls, main_unique m (along_main e.rest m'))
