-- What the machine takes, the grammar takes: blocks, procedures and programs.
use Rattle.std.proofs.Common.{ℕ, zero, suc, ◌+◌, ◌≤◌, ◌<◌, List, [], ◌∷◌, ◌≡◌, Some, None, Option, Bool, true, false, length, sym, refl, ◌∙◌, arith}
use Rattle.source_tokens.specs.declared.token.Token.{Token}
use Rattle.source_tokens.specs.declared.token.Kind.TheVariants as k
use Rattle.source_tokens.specs.declared.token.Word.TheVariants as w
use Rattle.source_tokens.specs.declared.token.Sign.TheVariants as s
use Rattle.source_grammar.specs.declared.raw.Name.{Name}
use Rattle.source_grammar.specs.declared.choice.ActionForm.{ActionForm}
use Rattle.source_grammar.specs.declared.choice.ActionForm.TheVariants as action
use Rattle.source_grammar.specs.declared.choice.TailForm.{TailForm}
use Rattle.source_grammar.specs.declared.choice.TailForm.TheVariants as tail
use Rattle.source_grammar.specs.declared.choice.DeclarationForm.{DeclarationForm}
use Rattle.source_grammar.specs.declared.choice.DeclarationForm.TheVariants as decl
use Rattle.source_grammar.specs.Inside.Next.{is_at, form_at, is_name, is_sign, action_form, tail_form, declaration_form}
use Rattle.source_grammar.specs.Inside.Ends.{name_no_end, expr_no_end, parameter_no_end}
use Rattle.source_grammar.specs.Inside.Joined.{EndsHead}
use Rattle.source_grammar.specs.RawTree.{block, RawBody, bind, ret_tail, if_tail, case_tail, RawAct, ret, spawn, sync, call, do_block, input, output, Declaration, priority, order, procedure, RawTree}
use Rattle.source_grammar.specs.Grammar.{sign, IsName, IsExpr, IsPriorities, IsBlock, IsBody, IsAction, IsConstraint, IsParameter, IsHead, IsRoutine, IsProcedure, IsDecls, IsMain, IsProgram}
use Rattle.source_grammar.specs.Inside.Machine.{Symbol, parens, brackets, variables, halt, declaration_symbol, AName, AWord, ASign, AtEnd, Separated, Listed, Ty, Expr, Block, Binds, Bind, Tail, TailOf, Action, ActionOf, CallOpen, CallPriorities, Program, Priority, Order, Procedure, Main, Routine, HeadOpen, HeadEnd, Given}
use Rattle.source_grammar.specs.Inside.Machine as m
use Rattle.source_grammar.proofs.Forms.{name_made, given_made, parameter_made}
use Rattle.source_grammar.proofs.BlockForms.{body_made, give_made, if_tail_made, case_tail_made, bind_made, ret_made, sync_made, input_made, output_made, spawn_made, run_made, call_found, absent_made, present_made}
use Rattle.source_grammar.proofs.HeadForms as head
use Rattle.source_grammar.proofs.Steps.{halt-given, halt-parameter}
use Rattle.source_grammar.proofs.BlockSteps.{halt-block, halt-bind, halt-ret_tail, halt-if_tail, halt-case_tail, halt-ret, halt-spawn, halt-sync, halt-call, halt-do_block, halt-output, halt-call_priorities, halt-input, end-parens, end-brackets, action-form, tail-form, binds-name, binds-tail, call-open, call-priorities}
use Rattle.source_grammar.proofs.HeadSteps.{halt-priority, halt-order, halt-procedure, halt-main, halt-routine, halt-head_variables, halt-head_close, halt-head_given, end-variables, head-open, head-variables, head-close, head-given, program-declaration, program-main}
use Rattle.source_grammar.proofs.Taken.{BeginsWith, word_taken, sign_taken, name_taken, nothing_left}
use Rattle.source_grammar.proofs.Sound.{Found, ItemFound, by_choice, separated_found, listed_found, ty_found, expr_found}

-- The ends of lists.
parens_taken : (xs : List Symbol) (ts : List Token) → halt (AtEnd parens ∷ xs) ts ≡ None → BeginsWith (k.Sign s.CloseParen) xs ts
parens_taken xs ts h = sign_taken s.CloseParen xs ts (sym (end-parens xs ts) ∙ h)

brackets_taken : (xs : List Symbol) (ts : List Token) → halt (AtEnd brackets ∷ xs) ts ≡ None → BeginsWith (k.Sign s.CloseBracket) xs ts
brackets_taken xs ts h = sign_taken s.CloseBracket xs ts (sym (end-brackets xs ts) ∙ h)

-- Items of lists.
name_found : ItemFound IsName AName
name_found xs ts h = let n = name_taken xs ts h in record { tree = n.it; rest = n.rest; is = name_made ts n.rest n.it n.is; shorter = n.shorter; takes = n.takes }

given_found : ItemFound IsConstraint Given
given_found xs ts h =
    let p = name_taken (ASign s.AtMost ∷ AName ∷ xs) ts (sym (halt-given xs ts) ∙ h) in
    let a = sign_taken s.AtMost (AName ∷ xs) p.rest p.takes in
    let q = name_taken xs a.rest a.takes in
    record { tree = (p.it, q.it); rest = q.rest; is = given_made ts p.rest a.rest q.rest a.at p.it q.it p.is a.is q.is; shorter = omega (arith, p.shorter, a.shorter, q.shorter); takes = q.takes }

parameter_found : ItemFound IsParameter m.Parameter
parameter_found xs ts h =
    let n = name_taken (ASign s.Colon ∷ Ty ∷ xs) ts (sym (halt-parameter xs ts) ∙ h) in
    let c = sign_taken s.Colon (Ty ∷ xs) n.rest n.takes in
    let t = ty_found xs c.rest c.takes in
    record {
      tree = record { name = n.it; ty = t.tree };
      rest = t.rest;
      is = parameter_made ts n.rest c.rest t.rest c.at n.it t.tree n.is c.is t.is;
      shorter = omega (arith, n.shorter, c.shorter, t.shorter);
      takes = t.takes;
    }

-- Actions and endings without blocks.
abbrev IsAct : List Token → List Token → ℕ × RawAct → Type 0
IsAct ts rest a = IsAction ts rest a.0 a.1

ret_tail_found : (xs : List Symbol) (ts : List Token) → halt (TailOf tail.Ret ∷ xs) ts ≡ None → Found (IsBody ts) xs ts
ret_tail_found xs ts h =
    let p = word_taken w.Ret (Expr ∷ xs) ts (sym (halt-ret_tail xs ts) ∙ h) in
    let e = expr_found xs p.rest p.takes in
    record { tree = ret_tail p.at e.tree; rest = e.rest; is = give_made ts p.rest e.rest p.at e.tree p.is e.is; shorter = omega (arith, p.shorter, e.shorter); takes = e.takes }

ret_found : (xs : List Symbol) (ts : List Token) → halt (ActionOf action.Ret ∷ xs) ts ≡ None → Found (IsAct ts) xs ts
ret_found xs ts h =
    let p = word_taken w.Ret (Expr ∷ xs) ts (sym (halt-ret xs ts) ∙ h) in
    let e = expr_found xs p.rest p.takes in
    record { tree = (p.at, ret e.tree); rest = e.rest; is = ret_made ts p.rest e.rest p.at e.tree p.is e.is; shorter = omega (arith, p.shorter, e.shorter); takes = e.takes }

output_found : (xs : List Symbol) (ts : List Token) → halt (ActionOf action.Output ∷ xs) ts ≡ None → Found (IsAct ts) xs ts
output_found xs ts h =
    let p = word_taken w.Output (Expr ∷ xs) ts (sym (halt-output xs ts) ∙ h) in
    let e = expr_found xs p.rest p.takes in
    record { tree = (p.at, output e.tree); rest = e.rest; is = output_made ts p.rest e.rest p.at e.tree p.is e.is; shorter = omega (arith, p.shorter, e.shorter); takes = e.takes }

input_found : (xs : List Symbol) (ts : List Token) → halt (ActionOf action.Input ∷ xs) ts ≡ None → Found (IsAct ts) xs ts
input_found xs ts h =
    let p = word_taken w.Input xs ts (sym (halt-input xs ts) ∙ h) in
    record { tree = (p.at, input); rest = p.rest; is = input_made ts p.rest p.at p.is; shorter = p.shorter; takes = p.takes }

sync_found : (xs : List Symbol) (ts : List Token) → halt (ActionOf action.Sync ∷ xs) ts ≡ None → Found (IsAct ts) xs ts
sync_found xs ts h =
    let p = word_taken w.Sync (AName ∷ xs) ts (sym (halt-sync xs ts) ∙ h) in
    let n = name_taken xs p.rest p.takes in
    record { tree = (p.at, sync n.it); rest = n.rest; is = sync_made ts p.rest n.rest p.at n.it p.is n.is; shorter = omega (arith, p.shorter, n.shorter); takes = n.takes }

abbrev IsOpen : List Token → List Token → List Name → Type 0
IsOpen ts rest ps = (i : ℕ) × IsPriorities ts (sign i s.OpenParen ∷ rest) ps

priorities_found : (xs : List Symbol) (ts : List Token) → halt (CallPriorities ∷ xs) ts ≡ None → Found (IsOpen ts) xs ts
priorities_found xs ts h =
    let p = sign_taken s.OpenBracket (Listed AName brackets ∷ ASign s.OpenParen ∷ xs) ts (sym (halt-call_priorities xs ts) ∙ h) in
    let l = listed_found IsName AName brackets name_found name_no_end (ASign s.OpenParen ∷ xs) p.rest p.takes in
    let c = brackets_taken (ASign s.OpenParen ∷ xs) l.rest l.takes in
    let d = sign_taken s.OpenParen xs c.rest c.takes in
    record {
      tree = l.trees;
      rest = d.rest;
      is = present_made ts p.rest l.rest c.rest d.rest p.at c.at d.at l.trees p.is l.is c.is d.is;
      shorter = omega (arith, p.shorter, l.shorter, c.shorter, d.shorter);
      takes = d.takes;
    }

call_open_found : (xs : List Symbol) (ts : List Token) → halt (CallOpen ∷ xs) ts ≡ None → (b : Bool) → is_at (is_sign s.OpenParen) ts ≡ b → Found (IsOpen ts) xs ts
call_open_found xs ts h true e =
    let d = sign_taken s.OpenParen xs ts (sym (call-open xs ts e) ∙ h) in
    record { tree = []; rest = d.rest; is = absent_made ts d.rest d.at [] d.is refl; shorter = d.shorter; takes = d.takes }
call_open_found xs ts h false e = priorities_found xs ts (sym (call-priorities xs ts e) ∙ h)

call_it : (xs : List Symbol) (ts : List Token) → halt (ActionOf action.Call ∷ xs) ts ≡ None → Found (IsAct ts) xs ts
call_it xs ts h =
    let p = word_taken w.Call (AName ∷ CallOpen ∷ Listed Expr parens ∷ xs) ts (sym (halt-call xs ts) ∙ h) in
    let n = name_taken (CallOpen ∷ Listed Expr parens ∷ xs) p.rest p.takes in
    let o = call_open_found (Listed Expr parens ∷ xs) n.rest n.takes (is_at (is_sign s.OpenParen) n.rest) (refl {a = is_at (is_sign s.OpenParen) n.rest}) in
    let l = listed_found IsExpr Expr parens expr_found expr_no_end xs o.rest o.takes in
    let c = parens_taken xs l.rest l.takes in
    record {
      tree = (p.at, call n.it o.tree l.trees);
      rest = c.rest;
      is = call_found ts p.rest n.rest o.rest l.rest c.rest p.at o.is.0 c.at n.it o.tree l.trees p.is n.is o.is.1 l.is c.is;
      shorter = omega (arith, p.shorter, n.shorter, o.shorter, l.shorter, c.shorter);
      takes = c.takes;
    }

-- the rest of a block, with its closing brace
abbrev IsRest : List Token → List Token → RawBody → Type 0
IsRest ts rest b = (close : ℕ) × IsBody ts (sign close s.CloseBrace ∷ rest) b

-- The forms that hold blocks, for fewer than n tokens.
record Sound (n : ℕ) : Type 0 where
  block_found : (xs : List Symbol) (ts : List Token) → length ts < n → halt (Block ∷ xs) ts ≡ None → Found (IsBlock ts) xs ts
  rest_found : (xs : List Symbol) (ts : List Token) → length ts < n → halt (Binds ∷ xs) ts ≡ None → Found (IsRest ts) xs ts
  action_found : (xs : List Symbol) (ts : List Token) → length ts < n → halt (Action ∷ xs) ts ≡ None → Found (IsAct ts) xs ts

module _ (n : ℕ) (below : Sound n) where
  block_step : (xs : List Symbol) (ts : List Token) → length ts ≤ n → halt (Block ∷ xs) ts ≡ None → Found (IsBlock ts) xs ts
  block_step xs ts l h =
      let p = sign_taken s.OpenBrace (Binds ∷ xs) ts (sym (halt-block xs ts) ∙ h) in
      let b = below.rest_found xs p.rest (omega (arith, p.shorter)) p.takes in
      record { tree = block p.at b.tree; rest = b.rest; is = body_made ts p.rest b.rest p.at b.is.0 b.tree p.is b.is.1; shorter = omega (arith, p.shorter, b.shorter); takes = b.takes }

  if_tail_found : (xs : List Symbol) (ts : List Token) → length ts ≤ n → halt (TailOf tail.If ∷ xs) ts ≡ None → Found (IsBody ts) xs ts
  if_tail_found xs ts l h =
      let p = word_taken w.If (Expr ∷ Block ∷ AWord w.Else ∷ Block ∷ xs) ts (sym (halt-if_tail xs ts) ∙ h) in
      let e = expr_found (Block ∷ AWord w.Else ∷ Block ∷ xs) p.rest p.takes in
      let x = below.block_found (AWord w.Else ∷ Block ∷ xs) e.rest (omega (arith, p.shorter, e.shorter)) e.takes in
      let o = word_taken w.Else (Block ∷ xs) x.rest x.takes in
      let y = below.block_found xs o.rest (omega (arith, p.shorter, e.shorter, x.shorter, o.shorter)) o.takes in
      record {
        tree = if_tail p.at e.tree x.tree y.tree;
        rest = y.rest;
        is = if_tail_made ts p.rest e.rest x.rest o.rest y.rest p.at o.at e.tree x.tree y.tree x.tree y.tree p.is e.is x.is o.is y.is (refl {a = x.tree}) (refl {a = y.tree});
        shorter = omega (arith, p.shorter, e.shorter, x.shorter, o.shorter, y.shorter);
        takes = y.takes;
      }

  case_tail_found : (xs : List Symbol) (ts : List Token) → length ts ≤ n → halt (TailOf tail.Case ∷ xs) ts ≡ None → Found (IsBody ts) xs ts
  case_tail_found xs ts l h =
      let p = word_taken w.Case (Expr ∷ AWord w.Inl ∷ AName ∷ Block ∷ AWord w.Inr ∷ AName ∷ Block ∷ xs) ts (sym (halt-case_tail xs ts) ∙ h) in
      let e = expr_found (AWord w.Inl ∷ AName ∷ Block ∷ AWord w.Inr ∷ AName ∷ Block ∷ xs) p.rest p.takes in
      let a = word_taken w.Inl (AName ∷ Block ∷ AWord w.Inr ∷ AName ∷ Block ∷ xs) e.rest e.takes in
      let i = name_taken (Block ∷ AWord w.Inr ∷ AName ∷ Block ∷ xs) a.rest a.takes in
      let x = below.block_found (AWord w.Inr ∷ AName ∷ Block ∷ xs) i.rest (omega (arith, p.shorter, e.shorter, a.shorter, i.shorter)) i.takes in
      let b = word_taken w.Inr (AName ∷ Block ∷ xs) x.rest x.takes in
      let j = name_taken (Block ∷ xs) b.rest b.takes in
      let y = below.block_found xs j.rest (omega (arith, p.shorter, e.shorter, a.shorter, i.shorter, x.shorter, b.shorter, j.shorter)) j.takes in
      record {
        tree = case_tail p.at e.tree i.it x.tree j.it y.tree;
        rest = y.rest;
        is = case_tail_made ts p.rest e.rest a.rest i.rest x.rest b.rest j.rest y.rest p.at a.at b.at i.it j.it e.tree x.tree y.tree x.tree y.tree p.is e.is a.is i.is x.is b.is j.is y.is (refl {a = x.tree}) (refl {a = y.tree});
        shorter = omega (arith, p.shorter, e.shorter, a.shorter, i.shorter, x.shorter, b.shorter, j.shorter, y.shorter);
        takes = y.takes;
      }

  tail_step : (xs : List Symbol) (ts : List Token) → length ts ≤ n → (f : TailForm) → halt (TailOf f ∷ xs) ts ≡ None → Found (IsBody ts) xs ts
  tail_step xs ts l tail.Ret h = ret_tail_found xs ts h
  tail_step xs ts l tail.If h = if_tail_found xs ts l h
  tail_step xs ts l tail.Case h = case_tail_found xs ts l h

  end_found : (xs : List Symbol) (ts : List Token) → length ts ≤ n → halt (Tail ∷ ASign s.CloseBrace ∷ xs) ts ≡ None → Found (IsRest ts) xs ts
  end_found xs ts l h =
      let e = by_choice IsBody TailOf (form_at tail_form ts) (ASign s.CloseBrace ∷ xs) ts (tail_step (ASign s.CloseBrace ∷ xs) ts l) (sym (tail-form (ASign s.CloseBrace ∷ xs) ts) ∙ h) in
      let q = sign_taken s.CloseBrace xs e.rest e.takes in
      record { tree = e.tree; rest = q.rest; is = (q.at, rw q.is at e.is); shorter = omega (arith, e.shorter, q.shorter); takes = q.takes }

  more_found : (xs : List Symbol) (ts : List Token) → length ts ≤ n → halt (Bind ∷ Binds ∷ xs) ts ≡ None → Found (IsRest ts) xs ts
  more_found xs ts l h =
      let p = name_taken (ASign s.Arrow ∷ Action ∷ ASign s.Semicolon ∷ Binds ∷ xs) ts (sym (halt-bind (Binds ∷ xs) ts) ∙ h) in
      let q = sign_taken s.Arrow (Action ∷ ASign s.Semicolon ∷ Binds ∷ xs) p.rest p.takes in
      let a = below.action_found (ASign s.Semicolon ∷ Binds ∷ xs) q.rest (omega (arith, p.shorter, q.shorter)) q.takes in
      let z = sign_taken s.Semicolon (Binds ∷ xs) a.rest a.takes in
      let b = below.rest_found xs z.rest (omega (arith, p.shorter, q.shorter, a.shorter, z.shorter)) z.takes in
      record {
        tree = bind p.it a.tree.0 a.tree.1 b.tree;
        rest = b.rest;
        is = (b.is.0, bind_made ts p.rest q.rest a.rest z.rest (sign b.is.0 s.CloseBrace ∷ b.rest) p.it q.at a.tree.0 z.at a.tree.1 b.tree p.is q.is a.is z.is b.is.1);
        shorter = omega (arith, p.shorter, q.shorter, a.shorter, z.shorter, b.shorter);
        takes = b.takes;
      }

  rest_step : (xs : List Symbol) (ts : List Token) → length ts ≤ n → halt (Binds ∷ xs) ts ≡ None → (b : Bool) → is_at is_name ts ≡ b → Found (IsRest ts) xs ts
  rest_step xs ts l h false e = end_found xs ts l (sym (binds-tail xs ts e) ∙ h)
  rest_step xs ts l h true e = more_found xs ts l (sym (binds-name xs ts e) ∙ h)

  spawn_found : (xs : List Symbol) (ts : List Token) → length ts ≤ n → halt (ActionOf action.Spawn ∷ xs) ts ≡ None → Found (IsAct ts) xs ts
  spawn_found xs ts l h =
      let p = word_taken w.Spawn (ASign s.OpenBracket ∷ AName ∷ ASign s.CloseBracket ∷ Block ∷ xs) ts (sym (halt-spawn xs ts) ∙ h) in
      let a = sign_taken s.OpenBracket (AName ∷ ASign s.CloseBracket ∷ Block ∷ xs) p.rest p.takes in
      let q = name_taken (ASign s.CloseBracket ∷ Block ∷ xs) a.rest a.takes in
      let z = sign_taken s.CloseBracket (Block ∷ xs) q.rest q.takes in
      let b = below.block_found xs z.rest (omega (arith, p.shorter, a.shorter, q.shorter, z.shorter)) z.takes in
      record {
        tree = (p.at, spawn q.it b.tree);
        rest = b.rest;
        is = spawn_made ts p.rest a.rest q.rest z.rest b.rest p.at a.at z.at q.it b.tree p.is a.is q.is z.is b.is;
        shorter = omega (arith, p.shorter, a.shorter, q.shorter, z.shorter, b.shorter);
        takes = b.takes;
      }

  do_block_found : (xs : List Symbol) (ts : List Token) → length ts ≤ n → halt (ActionOf action.Do ∷ xs) ts ≡ None → Found (IsAct ts) xs ts
  do_block_found xs ts l h =
      let p = word_taken w.Do (Block ∷ xs) ts (sym (halt-do_block xs ts) ∙ h) in
      let b = below.block_found xs p.rest (omega (arith, p.shorter)) p.takes in
      record { tree = (p.at, do_block b.tree); rest = b.rest; is = run_made ts p.rest b.rest p.at b.tree b.tree p.is b.is (refl {a = b.tree}); shorter = omega (arith, p.shorter, b.shorter); takes = b.takes }

  action_step : (xs : List Symbol) (ts : List Token) → length ts ≤ n → (f : ActionForm) → halt (ActionOf f ∷ xs) ts ≡ None → Found (IsAct ts) xs ts
  action_step xs ts l action.Ret h = ret_found xs ts h
  action_step xs ts l action.Spawn h = spawn_found xs ts l h
  action_step xs ts l action.Sync h = sync_found xs ts h
  action_step xs ts l action.Call h = call_it xs ts h
  action_step xs ts l action.Do h = do_block_found xs ts l h
  action_step xs ts l action.Input h = input_found xs ts h
  action_step xs ts l action.Output h = output_found xs ts h

sound : (n : ℕ) → Sound n
sound zero = record {
  block_found = λ xs ts l h. absurd (omega arith);
  rest_found = λ xs ts l h. absurd (omega arith);
  action_found = λ xs ts l h. absurd (omega arith);
}
sound (suc n) = record {
  block_found = λ xs ts l h. block_step n (sound n) xs ts (omega arith) h;
  rest_found = λ xs ts l h. rest_step n (sound n) xs ts (omega arith) h (is_at is_name ts) refl;
  action_found = λ xs ts l h. by_choice IsAct ActionOf (form_at action_form ts) xs ts (action_step n (sound n) xs ts (omega arith)) (sym (action-form xs ts) ∙ h);
}

-- Routines and procedures.
routine_found : (at : ℕ) (xs : List Symbol) (ts : List Token) → halt (Routine ∷ xs) ts ≡ None → Found (λ rest r. IsRoutine ts rest at r) xs ts
routine_found at xs ts h =
    let a = word_taken w.At (AName ∷ ASign s.Colon ∷ Ty ∷ Block ∷ xs) ts (sym (halt-routine xs ts) ∙ h) in
    let q = name_taken (ASign s.Colon ∷ Ty ∷ Block ∷ xs) a.rest a.takes in
    let z = sign_taken s.Colon (Ty ∷ Block ∷ xs) q.rest q.takes in
    let t = ty_found (Block ∷ xs) z.rest z.takes in
    let b = (sound (length t.rest + 1)).block_found xs t.rest (omega arith) t.takes in
    record {
      tree = record { at = at; own = q.it; result = t.tree; body = b.tree };
      rest = b.rest;
      is = head.routine_made ts a.rest q.rest z.rest t.rest b.rest at a.at z.at q.it t.tree b.tree a.is q.is z.is t.is b.is;
      shorter = omega (arith, a.shorter, q.shorter, z.shorter, t.shorter, b.shorter);
      takes = b.takes;
    }

head_end_found : (xs : List Symbol) (ts : List Token) → halt (HeadEnd ∷ xs) ts ≡ None → (b : Bool) → is_at (is_sign s.CloseBracket) ts ≡ b → Found (EndsHead ts) xs ts
head_end_found xs ts h true e =
    let c = sign_taken s.CloseBracket (ASign s.OpenParen ∷ xs) ts (sym (halt-head_close xs ts) ∙ sym (head-close xs ts e) ∙ h) in
    let d = sign_taken s.OpenParen xs c.rest c.takes in
    record { tree = []; rest = d.rest; is = head.no_given_made ts c.rest d.rest c.at d.at [] c.is d.is refl; shorter = omega (arith, c.shorter, d.shorter); takes = d.takes }
head_end_found xs ts h false e =
    let p = sign_taken s.Semicolon (Separated Given brackets ∷ ASign s.OpenParen ∷ xs) ts (sym (halt-head_given xs ts) ∙ sym (head-given xs ts e) ∙ h) in
    let l = separated_found IsConstraint Given brackets given_found (ASign s.OpenParen ∷ xs) p.rest p.takes in
    let c = brackets_taken (ASign s.OpenParen ∷ xs) l.rest l.takes in
    let d = sign_taken s.OpenParen xs c.rest c.takes in
    record {
      tree = l.trees;
      rest = d.rest;
      is = head.given_made ts p.rest l.rest c.rest d.rest p.at c.at d.at l.trees p.is l.is c.is d.is;
      shorter = omega (arith, p.shorter, l.shorter, c.shorter, d.shorter);
      takes = d.takes;
    }

abbrev IsHeadOf : List Token → List Token → List Name × List (Name × Name) → Type 0
IsHeadOf ts rest x = (i : ℕ) × IsHead ts (sign i s.OpenParen ∷ rest) x.0 x.1

head_found : (xs : List Symbol) (ts : List Token) → halt (HeadOpen ∷ xs) ts ≡ None → (b : Bool) → is_at (is_sign s.OpenParen) ts ≡ b → Found (IsHeadOf ts) xs ts
head_found xs ts h true e =
    let d = sign_taken s.OpenParen xs ts (sym (head-open xs ts e) ∙ h) in
    record { tree = ([], []); rest = d.rest; is = head.absent_made ts d.rest d.at [] [] d.is refl refl; shorter = d.shorter; takes = d.takes }
head_found xs ts h false e =
    let p = sign_taken s.OpenBracket (Listed AName variables ∷ xs) ts (sym (halt-head_variables xs ts) ∙ sym (head-variables xs ts e) ∙ h) in
    let l = listed_found IsName AName variables name_found name_no_end xs p.rest p.takes in
    let g = head_end_found xs l.rest (sym (end-variables xs l.rest) ∙ l.takes) (is_at (is_sign s.CloseBracket) l.rest) (refl {a = is_at (is_sign s.CloseBracket) l.rest}) in
    record {
      tree = (l.trees, g.tree);
      rest = g.rest;
      is = head.variables_made ts p.rest l.rest g.rest p.at l.trees g.tree p.is l.is g.is;
      shorter = omega (arith, p.shorter, l.shorter, g.shorter);
      takes = g.takes;
    }

procedure_found : (xs : List Symbol) (ts : List Token) → halt (Procedure ∷ xs) ts ≡ None → Found (IsProcedure ts) xs ts
procedure_found xs ts h =
    let p = word_taken w.Proc (AName ∷ HeadOpen ∷ Listed m.Parameter parens ∷ Routine ∷ xs) ts (sym (halt-procedure xs ts) ∙ h) in
    let n = name_taken (HeadOpen ∷ Listed m.Parameter parens ∷ Routine ∷ xs) p.rest p.takes in
    let g = head_found (Listed m.Parameter parens ∷ Routine ∷ xs) n.rest n.takes (is_at (is_sign s.OpenParen) n.rest) (refl {a = is_at (is_sign s.OpenParen) n.rest}) in
    let l = listed_found IsParameter m.Parameter parens parameter_found parameter_no_end (Routine ∷ xs) g.rest g.takes in
    let c = parens_taken (Routine ∷ xs) l.rest l.takes in
    let r = routine_found p.at xs c.rest c.takes in
    record {
      tree = record { name = n.it; vars = g.tree.0; given = g.tree.1; params = l.trees; routine = r.tree };
      rest = r.rest;
      is = head.procedure_found ts p.rest n.rest g.rest l.rest c.rest r.rest p.at g.is.0 c.at n.it g.tree.0 g.tree.1 l.trees r.tree p.is n.is g.is.1 l.is c.is r.is;
      shorter = omega (arith, p.shorter, n.shorter, g.shorter, l.shorter, c.shorter, r.shorter);
      takes = r.takes;
    }

main_found : (xs : List Symbol) (ts : List Token) → halt (Main ∷ xs) ts ≡ None → Found (IsMain ts) xs ts
main_found xs ts h =
    let p = word_taken w.Main (Routine ∷ xs) ts (sym (halt-main xs ts) ∙ h) in
    let r = routine_found p.at xs p.rest p.takes in
    record { tree = r.tree; rest = r.rest; is = head.main_made ts p.rest r.rest p.at r.tree p.is r.is; shorter = omega (arith, p.shorter, r.shorter); takes = r.takes }

-- one declaration
abbrev IsDecl : List Token → List Token → Declaration → Type 0
IsDecl ts rest d = IsDecls ts rest (d ∷ [])

declaration_found : (xs : List Symbol) (ts : List Token) (f : DeclarationForm) → halt (declaration_symbol f ∷ xs) ts ≡ None → Found (IsDecl ts) xs ts
declaration_found xs ts decl.Priority h =
    let p = word_taken w.Priority (AName ∷ ASign s.Semicolon ∷ xs) ts (sym (halt-priority xs ts) ∙ h) in
    let n = name_taken (ASign s.Semicolon ∷ xs) p.rest p.takes in
    let z = sign_taken s.Semicolon xs n.rest n.takes in
    record {
      tree = priority n.it;
      rest = z.rest;
      is = head.priority_made ts p.rest n.rest z.rest p.at z.at n.it p.is n.is z.is;
      shorter = omega (arith, p.shorter, n.shorter, z.shorter);
      takes = z.takes;
    }
declaration_found xs ts decl.Order h =
    let p = word_taken w.Order (AName ∷ ASign s.Less ∷ AName ∷ ASign s.Semicolon ∷ xs) ts (sym (halt-order xs ts) ∙ h) in
    let a = name_taken (ASign s.Less ∷ AName ∷ ASign s.Semicolon ∷ xs) p.rest p.takes in
    let l = sign_taken s.Less (AName ∷ ASign s.Semicolon ∷ xs) a.rest a.takes in
    let n = name_taken (ASign s.Semicolon ∷ xs) l.rest l.takes in
    let z = sign_taken s.Semicolon xs n.rest n.takes in
    record {
      tree = order p.at a.it n.it;
      rest = z.rest;
      is = head.order_made ts p.rest a.rest l.rest n.rest z.rest p.at l.at z.at a.it n.it p.is a.is l.is n.is z.is;
      shorter = omega (arith, p.shorter, a.shorter, l.shorter, n.shorter, z.shorter);
      takes = z.takes;
    }
declaration_found xs ts decl.Procedure h =
    let f = procedure_found xs ts h in
    record { tree = procedure f.tree; rest = f.rest; is = head.declared_made ts f.rest f.tree f.is; shorter = f.shorter; takes = f.takes }

program_step : (n : ℕ) (ts : List Token) → length ts < suc n → halt (Program ∷ []) ts ≡ None
    → ((us : List Token) → length us < n → halt (Program ∷ []) us ≡ None → (p : RawTree) × IsProgram us p)
    → (o : Option DeclarationForm) → form_at declaration_form ts ≡ o → (p : RawTree) × IsProgram ts p
program_step n ts l h below None e =
    let m = main_found [] ts (sym (program-main [] ts e) ∙ h) in
    (record { decls = []; main = m.tree }, head.program_made ts ts m.rest [] m.tree IsDecls.no_more m.is (nothing_left m.rest m.takes))
program_step n ts l h below (Some f) e =
    let d = declaration_found (Program ∷ []) ts f (sym (program-declaration [] ts f e) ∙ h) in
    let p = below d.rest (omega (arith, d.shorter)) d.takes in
    (record { decls = d.tree ∷ p.0.decls; main = p.0.main }, head.more_declared d.is p.1)

program_below : (n : ℕ) (ts : List Token) → length ts < n → halt (Program ∷ []) ts ≡ None → (p : RawTree) × IsProgram ts p
program_below zero ts l h = absurd (omega arith)
program_below (suc n) ts l h = program_step n ts l h (λ us. program_below n us) (form_at declaration_form ts) refl

pub program_found : (ts : List Token) → halt (Program ∷ []) ts ≡ None → (p : RawTree) × IsProgram ts p
program_found ts h = program_below (length ts + 1) ts (omega arith) h
