-- What the machine takes, the grammar takes: types, expressions and lists.
use Rattle.std.proofs.Common.{ℕ, zero, suc, ◌+◌, ◌≤◌, ◌<◌, List, [], ◌∷◌, ◌≡◌, Some, None, Option, Bool, true, false, length, sym, refl, ◌∙◌, arith}
use Rattle.source_tokens.specs.declared.token.Token.{Token}
use Rattle.source_tokens.specs.declared.token.Kind.{Kind}
use Rattle.source_tokens.specs.declared.token.Kind.TheVariants as k
use Rattle.source_tokens.specs.declared.token.Word.TheVariants as w
use Rattle.source_tokens.specs.declared.token.Sign.TheVariants as s
use Rattle.source_grammar.specs.declared.choice.TyForm.{TyForm}
use Rattle.source_grammar.specs.declared.choice.TyForm.TheVariants as ty
use Rattle.source_grammar.specs.declared.choice.Prefix.{Prefix}
use Rattle.source_grammar.specs.declared.choice.Side.{Side}
use Rattle.source_grammar.specs.declared.choice.ExprForm.{ExprForm}
use Rattle.source_grammar.specs.declared.choice.ExprForm.TheVariants as expr
use Rattle.source_grammar.specs.Inside.Next.{is_at, form_at, is_sign, is_end, ty_form, mid_form, expr_form, joint_form, prefix_word, side_word}
use Rattle.source_grammar.specs.Inside.Joined.{mid_type, prefix_term, side_term, joint_term}
use Rattle.source_grammar.specs.RawTree.{unit, bool, int, thread, RawTerm, var, number, bool_term, unit_term}
use Rattle.source_grammar.specs.Grammar.{token, sign, IsSeparated, IsListed, IsType, IsWritten, IsExpr}
use Rattle.source_grammar.specs.Inside.Ends.{BeginsOtherwise}
use Rattle.source_grammar.specs.Inside.Machine.{Symbol, End, by_form, halt, AName, ASign, AtEnd, More, Separated, Listed, Ty, TyOf, TyMid, Expr, ExprOf, Inside, Behind, AJoint}
use Rattle.source_grammar.proofs.Forms.{thread_made, paired_made, opened_made, nothing_made, closed_made, joined_made, applied_made, injected_made}
use Rattle.source_grammar.proofs.Steps.{halt-thread_ty, halt-paired_ty, halt-opened, halt-bracketed, halt-joined, halt-applied, halt-injected, ty-form, expr-form, inside-close, inside-more, behind-close, behind-more}
use Rattle.source_grammar.proofs.CommaLists.{halt-separated, halt-behind_comma, listed-end, listed-more, more-comma, more-end}
use Rattle.source_grammar.proofs.Taken.{BeginsWith, word_taken, sign_taken, name_taken, form_taken, not_at_end}

-- The tokens begin with a tree of a form, and the symbols behind it take the rest.
pub record Found {A : Type 0} (Is : List Token → A → Type 0) (xs : List Symbol) (ts : List Token) : Type 0 where
  pub tree : A
  pub rest : List Token
  pub is : Is rest tree
  pub shorter : length rest < length ts
  pub takes : halt xs rest ≡ None

-- Lists.
abbrev pub ItemFound : {A : Type 0} → (List Token → List Token → A → Type 0) → Symbol → Type 0
ItemFound {A} Is y = (xs : List Symbol) (ts : List Token) → halt (y ∷ xs) ts ≡ None → Found (Is ts) xs ts

pub record FoundListed {A : Type 0} (Is : List Token → List A → Type 0) (xs : List Symbol) (ts : List Token) : Type 0 where
  pub trees : List A
  pub rest : List Token
  pub is : Is rest trees
  pub shorter : length rest ≤ length ts
  pub takes : halt xs rest ≡ None

separated_made : {A : Type 0} {Is : List Token → List Token → A → Type 0} (o1 o2 o3 new : List Token) (comma : ℕ) (x : A) (xs : List A)
    → Is o1 o2 x → o2 ≡ sign comma s.Comma ∷ o3 → IsSeparated Is o3 new xs → IsSeparated Is o1 new (x ∷ xs)
separated_made o1 o2 o3 new comma x xs h e hs = IsSeparated.more comma (rw e at h) hs

module _ {A : Type 0} (Is : List Token → List Token → A → Type 0) (y : Symbol) (e : End) (item : ItemFound Is y) where
  more_step : (xs : List Symbol) (ts : List Token)
      → ((us : List Token) → length us < length ts → halt (Separated y e ∷ xs) us ≡ None → FoundListed (IsSeparated Is us) (AtEnd e ∷ xs) us)
      → (x : Found (Is ts) (More y e ∷ xs) ts) → (b : Bool) → is_at (is_sign s.Comma) x.rest ≡ b → FoundListed (IsSeparated Is ts) (AtEnd e ∷ xs) ts
  more_step xs ts below x false h =
      record { trees = x.tree ∷ []; rest = x.rest; is = IsSeparated.one x.is; shorter = omega (arith, x.shorter); takes = sym (more-end y e xs x.rest h) ∙ x.takes }
  more_step xs ts below x true h =
      let c = sign_taken s.Comma (y ∷ More y e ∷ xs) x.rest (sym (halt-behind_comma y (More y e ∷ xs) x.rest) ∙ sym (more-comma y e xs x.rest h) ∙ x.takes) in
      let l = below c.rest (omega (arith, x.shorter, c.shorter)) (halt-separated y e xs c.rest ∙ c.takes) in
      record { trees = x.tree ∷ l.trees; rest = l.rest; is = separated_made ts x.rest c.rest l.rest c.at x.tree l.trees x.is c.is l.is; shorter = omega (arith, x.shorter, c.shorter, l.shorter); takes = l.takes }

  separated_below : (n : ℕ) (xs : List Symbol) (ts : List Token) → length ts < n → halt (Separated y e ∷ xs) ts ≡ None → FoundListed (IsSeparated Is ts) (AtEnd e ∷ xs) ts
  separated_below zero xs ts l h = absurd (omega arith)
  separated_below (suc n) xs ts l h =
      let x = item (More y e ∷ xs) ts (sym (halt-separated y e xs ts) ∙ h) in
      more_step xs ts (λ us i. separated_below n xs us (omega (arith, i))) x (is_at (is_sign s.Comma) x.rest) refl

  pub separated_found : (xs : List Symbol) (ts : List Token) → halt (Separated y e ∷ xs) ts ≡ None → FoundListed (IsSeparated Is ts) (AtEnd e ∷ xs) ts
  separated_found xs ts h = separated_below (length ts + 1) xs ts (omega arith) h

  listed_by : BeginsOtherwise y → (xs : List Symbol) (ts : List Token) → halt (Listed y e ∷ xs) ts ≡ None → (b : Bool) → is_at is_end ts ≡ b → FoundListed (IsListed Is ts) (AtEnd e ∷ xs) ts
  listed_by other xs ts h true i = record { trees = []; rest = ts; is = IsListed.none; shorter = omega arith; takes = sym (listed-end y e xs ts other i) ∙ h }
  listed_by other xs ts h false i =
      let l = separated_found xs ts (sym (listed-more y e xs ts i) ∙ h) in
      record { trees = l.trees; rest = l.rest; is = IsListed.some l.is; shorter = l.shorter; takes = l.takes }

  pub listed_found : BeginsOtherwise y → (xs : List Symbol) (ts : List Token) → halt (Listed y e ∷ xs) ts ≡ None → FoundListed (IsListed Is ts) (AtEnd e ∷ xs) ts
  listed_found other xs ts h = listed_by other xs ts h (is_at is_end ts) refl

-- An item of one token.
one_found : {A : Type 0} (Is : List Token → List Token → A → Type 0) (y : Symbol)
    → ((xs : List Symbol) (at : ℕ) (kind : Kind) (ts : List Token) → halt (y ∷ xs) (token at kind ∷ ts) ≡ None → Found (Is (token at kind ∷ ts)) xs (token at kind ∷ ts)) → ItemFound Is y
one_found Is y here xs [] h = not_at_end y xs h
one_found Is y here xs (t ∷ ts) h = here xs t.at t.kind ts h

-- An item that is made of shorter ones.
abbrev Below : {A : Type 0} → (List Token → List Token → A → Type 0) → Symbol → ℕ → Type 0
Below Is y n = (xs : List Symbol) (ts : List Token) → length ts < n → halt (y ∷ xs) ts ≡ None → Found (Is ts) xs ts

below : {A : Type 0} (Is : List Token → List Token → A → Type 0) (y : Symbol)
    → ((n : ℕ) → Below Is y n → (xs : List Symbol) (ts : List Token) → length ts ≤ n → halt (y ∷ xs) ts ≡ None → Found (Is ts) xs ts) → (n : ℕ) → Below Is y n
below Is y step zero xs ts l h = absurd (omega arith)
below Is y step (suc n) xs ts l h = step n (below Is y step n) xs ts (omega arith) h

by_length : {A : Type 0} (Is : List Token → List Token → A → Type 0) (y : Symbol)
    → ((n : ℕ) → Below Is y n → (xs : List Symbol) (ts : List Token) → length ts ≤ n → halt (y ∷ xs) ts ≡ None → Found (Is ts) xs ts) → ItemFound Is y
by_length Is y step xs ts h = below Is y step (length ts + 1) xs ts (omega arith) h

-- An item in brackets.
record InBrackets {A : Type 0} (Is : List Token → List Token → A → Type 0) (y : Symbol) (xs : List Symbol) (ts : List Token) : Type 0 where
  opening : BeginsWith (k.Sign s.OpenParen) (y ∷ ASign s.CloseParen ∷ xs) ts
  item : Found (Is opening.rest) (ASign s.CloseParen ∷ xs) opening.rest
  closing : BeginsWith (k.Sign s.CloseParen) xs item.rest

in_brackets : {A : Type 0} (Is : List Token → List Token → A → Type 0) (y : Symbol) (n : ℕ) → Below Is y n
    → (xs : List Symbol) (ts : List Token) → length ts ≤ n → halt (ASign s.OpenParen ∷ y ∷ ASign s.CloseParen ∷ xs) ts ≡ None → InBrackets Is y xs ts
in_brackets Is y n below xs ts l h =
    let a = sign_taken s.OpenParen (y ∷ ASign s.CloseParen ∷ xs) ts h in
    let x = below (ASign s.CloseParen ∷ xs) a.rest (omega (arith, a.shorter)) a.takes in
    record { opening = a; item = x; closing = sign_taken s.CloseParen xs x.rest x.takes }

-- An item whose form the next token chooses.
pub by_choice : {A F : Type 0} (Is : List Token → List Token → A → Type 0) (y : F → Symbol) (o : Option F) (xs : List Symbol) (ts : List Token)
    → ((f : F) → halt (y f ∷ xs) ts ≡ None → Found (Is ts) xs ts) → by_form o (λ f. halt (y f ∷ xs) ts) (Some ts) ≡ None → Found (Is ts) xs ts
by_choice Is y None xs ts found h = absurd (cc)
by_choice Is y (Some f) xs ts found h = found f h

-- Types.
simple_here : (xs : List Symbol) (at : ℕ) (kind : Kind) (ts : List Token) → halt (TyOf ty.Simple ∷ xs) (token at kind ∷ ts) ≡ None → Found (IsWritten (token at kind ∷ ts)) xs (token at kind ∷ ts)
unfolding halt
simple_here xs at (k.Word w.Unit) ts h = record { tree = record { at = at; ty = unit }; rest = ts; is = IsWritten.is_written (IsType.is_unit at); shorter = omega arith; takes = h }
simple_here xs at (k.Word w.Bool) ts h = record { tree = record { at = at; ty = bool }; rest = ts; is = IsWritten.is_written (IsType.is_bool at); shorter = omega arith; takes = h }
simple_here xs at (k.Word w.Int) ts h = record { tree = record { at = at; ty = int }; rest = ts; is = IsWritten.is_written (IsType.is_int at); shorter = omega arith; takes = h }
simple_here xs at _ ts h = absurd (cc)

module _ (n : ℕ) (below : Below IsWritten Ty n) where
  thread_found : (xs : List Symbol) (ts : List Token) → length ts ≤ n → halt (TyOf ty.Thread ∷ xs) ts ≡ None → Found (IsWritten ts) xs ts
  thread_found xs ts l h =
      let p = word_taken w.Thread (ASign s.OpenBracket ∷ AName ∷ ASign s.CloseBracket ∷ ASign s.OpenParen ∷ Ty ∷ ASign s.CloseParen ∷ xs) ts (sym (halt-thread_ty xs ts) ∙ h) in
      let a = sign_taken s.OpenBracket (AName ∷ ASign s.CloseBracket ∷ ASign s.OpenParen ∷ Ty ∷ ASign s.CloseParen ∷ xs) p.rest p.takes in
      let q = name_taken (ASign s.CloseBracket ∷ ASign s.OpenParen ∷ Ty ∷ ASign s.CloseParen ∷ xs) a.rest a.takes in
      let b = sign_taken s.CloseBracket (ASign s.OpenParen ∷ Ty ∷ ASign s.CloseParen ∷ xs) q.rest q.takes in
      let record { opening = c; item = t; closing = d } = in_brackets IsWritten Ty n below xs b.rest (omega (arith, p.shorter, a.shorter, q.shorter, b.shorter)) b.takes in
      record {
        tree = record { at = p.at; ty = thread q.it t.tree.ty };
        rest = d.rest;
        is = thread_made ts p.rest a.rest q.rest b.rest c.rest t.rest p.at a.at b.at c.at d.at q.it t.tree t.tree.ty p.is a.is q.is b.is c.is d.rest t.is d.is (refl {a = t.tree.ty});
        shorter = omega (arith, p.shorter, a.shorter, q.shorter, b.shorter, c.shorter, t.shorter, d.shorter);
        takes = d.takes;
      }

  paired_found : (xs : List Symbol) (ts : List Token) → length ts ≤ n → halt (TyOf ty.Paired ∷ xs) ts ≡ None → Found (IsWritten ts) xs ts
  paired_found xs ts l h =
      let p = sign_taken s.OpenParen (Ty ∷ TyMid ∷ Ty ∷ ASign s.CloseParen ∷ xs) ts (sym (halt-paired_ty xs ts) ∙ h) in
      let t = below (TyMid ∷ Ty ∷ ASign s.CloseParen ∷ xs) p.rest (omega (arith, p.shorter)) p.takes in
      let m = form_taken TyMid mid_form (Ty ∷ ASign s.CloseParen ∷ xs) t.rest (λ kind. refl) t.takes in
      let u = below (ASign s.CloseParen ∷ xs) m.rest (omega (arith, p.shorter, t.shorter, m.shorter)) m.takes in
      let d = sign_taken s.CloseParen xs u.rest u.takes in
      record {
        tree = record { at = p.at; ty = mid_type m.it t.tree.ty u.tree.ty };
        rest = d.rest;
        is = paired_made ts p.rest t.rest m.rest u.rest d.rest p.at d.at m.it t.tree u.tree (mid_type m.it t.tree.ty u.tree.ty) p.is t.is m.is u.is d.is (refl {a = mid_type m.it t.tree.ty u.tree.ty});
        shorter = omega (arith, p.shorter, t.shorter, m.shorter, u.shorter, d.shorter);
        takes = d.takes;
      }

  ty_step : (xs : List Symbol) (ts : List Token) → length ts ≤ n → (f : TyForm) → halt (TyOf f ∷ xs) ts ≡ None → Found (IsWritten ts) xs ts
  ty_step xs ts l ty.Simple h = one_found IsWritten (TyOf ty.Simple) simple_here xs ts h
  ty_step xs ts l ty.Thread h = thread_found xs ts l h
  ty_step xs ts l ty.Paired h = paired_found xs ts l h

pub ty_found : ItemFound IsWritten Ty
ty_found = by_length IsWritten Ty (λ n below xs ts l h. by_choice IsWritten TyOf (form_at ty_form ts) xs ts (ty_step n below xs ts l) (sym (ty-form xs ts) ∙ h))

-- Expressions.
leaf_here : (xs : List Symbol) (at : ℕ) (kind : Kind) (ts : List Token) → halt (ExprOf expr.Leaf ∷ xs) (token at kind ∷ ts) ≡ None → Found (IsExpr (token at kind ∷ ts)) xs (token at kind ∷ ts)
unfolding halt
leaf_here xs at (k.Name n) ts h = record { tree = var at n; rest = ts; is = IsExpr.is_var (record { at = at; id = n }); shorter = omega arith; takes = h }
leaf_here xs at (k.Number n) ts h = record { tree = number at n; rest = ts; is = IsExpr.is_number at n; shorter = omega arith; takes = h }
leaf_here xs at (k.Word w.True) ts h = record { tree = bool_term at true; rest = ts; is = IsExpr.is_true at; shorter = omega arith; takes = h }
leaf_here xs at (k.Word w.False) ts h = record { tree = bool_term at false; rest = ts; is = IsExpr.is_false at; shorter = omega arith; takes = h }
leaf_here xs at _ ts h = absurd (cc)

module _ (n : ℕ) (below : Below IsExpr Expr n) where
  behind_found : (at : ℕ) (xs : List Symbol) (ts us : List Token) (x : RawTerm) → IsExpr us ts x → length ts < n → halt (Behind ∷ xs) ts ≡ None
      → (b : Bool) → is_at (is_sign s.CloseParen) ts ≡ b → Found (IsExpr (sign at s.OpenParen ∷ us)) xs ts
  behind_found at xs ts us x i l h true e =
      let d = sign_taken s.CloseParen xs ts (sym (behind-close xs ts e) ∙ h) in
      record { tree = x; rest = d.rest; is = closed_made us ts d.rest at d.at x d.is i; shorter = d.shorter; takes = d.takes }
  behind_found at xs ts us x i l h false e =
      let j = form_taken AJoint joint_form (Expr ∷ ASign s.CloseParen ∷ xs) ts (λ kind. refl) (sym (halt-joined xs ts) ∙ sym (behind-more xs ts e) ∙ h) in
      let y = below (ASign s.CloseParen ∷ xs) j.rest (omega (arith, j.shorter)) j.takes in
      let d = sign_taken s.CloseParen xs y.rest y.takes in
      record {
        tree = joint_term j.it at x y.tree;
        rest = d.rest;
        is = joined_made us ts j.rest y.rest d.rest at d.at j.it x y.tree (joint_term j.it at x y.tree) j.is y.is d.is (refl {a = joint_term j.it at x y.tree}) i;
        shorter = omega (arith, j.shorter, y.shorter, d.shorter);
        takes = d.takes;
      }

  inside_found : (at : ℕ) (xs : List Symbol) (ts : List Token) → length ts < n → halt (Inside ∷ xs) ts ≡ None → (b : Bool) → is_at (is_sign s.CloseParen) ts ≡ b
      → Found (IsExpr (sign at s.OpenParen ∷ ts)) xs ts
  inside_found at xs ts l h true e =
      let d = sign_taken s.CloseParen xs ts (sym (inside-close xs ts e) ∙ h) in
      record { tree = unit_term at; rest = d.rest; is = nothing_made ts d.rest at d.at d.is; shorter = d.shorter; takes = d.takes }
  inside_found at xs ts l h false e =
      let x = below (Behind ∷ xs) ts l (sym (halt-bracketed xs ts) ∙ sym (inside-more xs ts e) ∙ h) in
      let b = behind_found at xs x.rest ts x.tree x.is (omega (arith, x.shorter)) x.takes (is_at (is_sign s.CloseParen) x.rest) (refl {a = is_at (is_sign s.CloseParen) x.rest}) in
      record { tree = b.tree; rest = b.rest; is = b.is; shorter = omega (arith, x.shorter, b.shorter); takes = b.takes }

  opened_found : (xs : List Symbol) (ts : List Token) → length ts ≤ n → halt (ExprOf expr.Opened ∷ xs) ts ≡ None → Found (IsExpr ts) xs ts
  opened_found xs ts l h =
      let p = sign_taken s.OpenParen (Inside ∷ xs) ts (sym (halt-opened xs ts) ∙ h) in
      let x = inside_found p.at xs p.rest (omega (arith, p.shorter)) p.takes (is_at (is_sign s.CloseParen) p.rest) (refl {a = is_at (is_sign s.CloseParen) p.rest}) in
      record { tree = x.tree; rest = x.rest; is = opened_made ts p.rest x.rest p.at x.tree p.is x.is; shorter = omega (arith, p.shorter, x.shorter); takes = x.takes }

  applied_found : (p : Prefix) (xs : List Symbol) (ts : List Token) → length ts ≤ n → halt (ExprOf (expr.Applied p) ∷ xs) ts ≡ None → Found (IsExpr ts) xs ts
  applied_found p xs ts l h =
      let a = word_taken (prefix_word p) (ASign s.OpenParen ∷ Expr ∷ ASign s.CloseParen ∷ xs) ts (sym (halt-applied p xs ts) ∙ h) in
      let record { opening = b; item = x; closing = d } = in_brackets IsExpr Expr n below xs a.rest (omega (arith, a.shorter)) a.takes in
      record {
        tree = prefix_term p a.at x.tree;
        rest = d.rest;
        is = applied_made ts a.rest b.rest x.rest d.rest a.at b.at d.at p x.tree (prefix_term p a.at x.tree) a.is b.is x.is d.is (refl {a = prefix_term p a.at x.tree});
        shorter = omega (arith, a.shorter, b.shorter, x.shorter, d.shorter);
        takes = d.takes;
      }

  injected_found : (side : Side) (xs : List Symbol) (ts : List Token) → length ts ≤ n → halt (ExprOf (expr.Injected side) ∷ xs) ts ≡ None → Found (IsExpr ts) xs ts
  injected_found side xs ts l h =
      let a = word_taken (side_word side) (ASign s.OpenBracket ∷ Ty ∷ ASign s.CloseBracket ∷ ASign s.OpenParen ∷ Expr ∷ ASign s.CloseParen ∷ xs) ts (sym (halt-injected side xs ts) ∙ h) in
      let b = sign_taken s.OpenBracket (Ty ∷ ASign s.CloseBracket ∷ ASign s.OpenParen ∷ Expr ∷ ASign s.CloseParen ∷ xs) a.rest a.takes in
      let t = ty_found (ASign s.CloseBracket ∷ ASign s.OpenParen ∷ Expr ∷ ASign s.CloseParen ∷ xs) b.rest b.takes in
      let c = sign_taken s.CloseBracket (ASign s.OpenParen ∷ Expr ∷ ASign s.CloseParen ∷ xs) t.rest t.takes in
      let record { opening = d; item = x; closing = e } = in_brackets IsExpr Expr n below xs c.rest (omega (arith, a.shorter, b.shorter, t.shorter, c.shorter)) c.takes in
      record {
        tree = side_term side a.at t.tree x.tree;
        rest = e.rest;
        is = injected_made ts a.rest b.rest t.rest c.rest d.rest x.rest e.rest a.at b.at c.at d.at e.at side t.tree x.tree (side_term side a.at t.tree x.tree) a.is b.is t.is c.is d.is x.is e.is (refl {a = side_term side a.at t.tree x.tree});
        shorter = omega (arith, a.shorter, b.shorter, t.shorter, c.shorter, d.shorter, x.shorter, e.shorter);
        takes = e.takes;
      }

  expr_step : (xs : List Symbol) (ts : List Token) → length ts ≤ n → (f : ExprForm) → halt (ExprOf f ∷ xs) ts ≡ None → Found (IsExpr ts) xs ts
  expr_step xs ts l expr.Leaf h = one_found IsExpr (ExprOf expr.Leaf) leaf_here xs ts h
  expr_step xs ts l expr.Opened h = opened_found xs ts l h
  expr_step xs ts l (expr.Applied p) h = applied_found p xs ts l h
  expr_step xs ts l (expr.Injected d) h = injected_found d xs ts l h

pub expr_found : ItemFound IsExpr Expr
expr_found = by_length IsExpr Expr (λ n below xs ts l h. by_choice IsExpr ExprOf (form_at expr_form ts) xs ts (expr_step n below xs ts l) (sym (expr-form xs ts) ∙ h))
