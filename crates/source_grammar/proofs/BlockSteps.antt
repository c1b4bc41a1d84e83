-- What one token does to the symbols of blocks and actions.
use Rattle.std.proofs.Common.{List, [], ◌∷◌, ◌≡◌, Some, None, true, false, cond, refl, sym, ap, ◌∙◌}
use Rattle.source_tokens.specs.declared.token.Token.{Token}
use Rattle.source_tokens.specs.declared.token.Word.TheVariants as w
use Rattle.source_tokens.specs.declared.token.Sign.TheVariants as s
use Rattle.source_grammar.specs.declared.choice.ActionForm.TheVariants as action
use Rattle.source_grammar.specs.declared.choice.TailForm.TheVariants as tail
use Rattle.source_grammar.specs.Inside.Next.{is_at, form_at, is_name, is_sign, action_form, tail_form}
use Rattle.source_grammar.specs.Inside.Machine.{Symbol, parens, brackets, halt, by_form, and_then, rule_bind, rule_tail, rule_call_priorities, AName, AWord, ASign, AtEnd, Listed, Expr, Block, Binds, Bind, Tail, TailOf, Action, ActionOf, CallOpen, CallPriorities}
use Rattle.source_grammar.proofs.Steps.{begins, begins_here, halt-end, same, tested, chosen}

-- Straight lines.
pub halt-block : (xs : List Symbol) (ts : List Token) → halt (Block ∷ xs) ts ≡ halt (ASign s.OpenBrace ∷ Binds ∷ xs) ts
halt-block xs ts = begins _ _ (Binds ∷ []) xs ts (λ kind. refl)

pub halt-bind : (xs : List Symbol) (ts : List Token) → halt (Bind ∷ xs) ts ≡ halt (AName ∷ ASign s.Arrow ∷ Action ∷ ASign s.Semicolon ∷ xs) ts
halt-bind xs ts = begins _ _ (ASign s.Arrow ∷ Action ∷ ASign s.Semicolon ∷ []) xs ts (λ kind. refl)

pub halt-ret_tail : (xs : List Symbol) (ts : List Token) → halt (TailOf tail.Ret ∷ xs) ts ≡ halt (AWord w.Ret ∷ Expr ∷ xs) ts
halt-ret_tail xs ts = begins _ _ (Expr ∷ []) xs ts (λ kind. refl)

pub halt-if_tail : (xs : List Symbol) (ts : List Token) → halt (TailOf tail.If ∷ xs) ts ≡ halt (AWord w.If ∷ Expr ∷ Block ∷ AWord w.Else ∷ Block ∷ xs) ts
halt-if_tail xs ts = begins _ _ (Expr ∷ Block ∷ AWord w.Else ∷ Block ∷ []) xs ts (λ kind. refl)

pub halt-case_tail : (xs : List Symbol) (ts : List Token) → halt (TailOf tail.Case ∷ xs) ts ≡ halt (AWord w.Case ∷ Expr ∷ AWord w.Inl ∷ AName ∷ Block ∷ AWord w.Inr ∷ AName ∷ Block ∷ xs) ts
halt-case_tail xs ts = begins _ _ (Expr ∷ AWord w.Inl ∷ AName ∷ Block ∷ AWord w.Inr ∷ AName ∷ Block ∷ []) xs ts (λ kind. refl)

pub halt-ret : (xs : List Symbol) (ts : List Token) → halt (ActionOf action.Ret ∷ xs) ts ≡ halt (AWord w.Ret ∷ Expr ∷ xs) ts
halt-ret xs ts = begins _ _ (Expr ∷ []) xs ts (λ kind. refl)

pub halt-spawn : (xs : List Symbol) (ts : List Token) → halt (ActionOf action.Spawn ∷ xs) ts ≡ halt (AWord w.Spawn ∷ ASign s.OpenBracket ∷ AName ∷ ASign s.CloseBracket ∷ Block ∷ xs) ts
halt-spawn xs ts = begins _ _ (ASign s.OpenBracket ∷ AName ∷ ASign s.CloseBracket ∷ Block ∷ []) xs ts (λ kind. refl)

pub halt-sync : (xs : List Symbol) (ts : List Token) → halt (ActionOf action.Sync ∷ xs) ts ≡ halt (AWord w.Sync ∷ AName ∷ xs) ts
halt-sync xs ts = begins _ _ (AName ∷ []) xs ts (λ kind. refl)

pub halt-call : (xs : List Symbol) (ts : List Token) → halt (ActionOf action.Call ∷ xs) ts ≡ halt (AWord w.Call ∷ AName ∷ CallOpen ∷ Listed Expr parens ∷ xs) ts
halt-call xs ts = begins _ _ (AName ∷ CallOpen ∷ Listed Expr parens ∷ []) xs ts (λ kind. refl)

pub halt-do_block : (xs : List Symbol) (ts : List Token) → halt (ActionOf action.Do ∷ xs) ts ≡ halt (AWord w.Do ∷ Block ∷ xs) ts
halt-do_block xs ts = begins _ _ (Block ∷ []) xs ts (λ kind. refl)

pub halt-output : (xs : List Symbol) (ts : List Token) → halt (ActionOf action.Output ∷ xs) ts ≡ halt (AWord w.Output ∷ Expr ∷ xs) ts
halt-output xs ts = begins _ _ (Expr ∷ []) xs ts (λ kind. refl)

pub halt-call_priorities : (xs : List Symbol) (ts : List Token) → halt (CallPriorities ∷ xs) ts ≡ halt (ASign s.OpenBracket ∷ Listed AName brackets ∷ ASign s.OpenParen ∷ xs) ts
halt-call_priorities xs ts = begins _ _ (Listed AName brackets ∷ ASign s.OpenParen ∷ []) xs ts (λ kind. refl)

-- One symbol for another.
pub halt-input : (xs : List Symbol) (ts : List Token) → halt (ActionOf action.Input ∷ xs) ts ≡ halt (AWord w.Input ∷ xs) ts
halt-input xs ts = same _ _ xs ts (λ kind. refl)

pub end-parens : (xs : List Symbol) (ts : List Token) → halt (AtEnd parens ∷ xs) ts ≡ halt (ASign s.CloseParen ∷ xs) ts
end-parens xs ts = same _ _ xs ts (λ kind. refl)

pub end-brackets : (xs : List Symbol) (ts : List Token) → halt (AtEnd brackets ∷ xs) ts ≡ halt (ASign s.CloseBracket ∷ xs) ts
end-brackets xs ts = same _ _ xs ts (λ kind. refl)

-- The next token chooses an action, and an ending.
pub action-form : (xs : List Symbol) (ts : List Token) → halt (Action ∷ xs) ts ≡ by_form (form_at action_form ts) (λ f. halt (ActionOf f ∷ xs) ts) (Some ts)
action-form xs ts = chosen Action ActionOf action_form xs ts (λ kind. refl)

pub tail-form : (xs : List Symbol) (ts : List Token) → halt (Tail ∷ xs) ts ≡ by_form (form_at tail_form ts) (λ f. halt (TailOf f ∷ xs) ts) (Some ts)
tail-form xs ts = chosen Tail TailOf tail_form xs ts (λ kind. refl)

-- In a block a name begins a bound action, and anything else is the ending's.
pub binds-name : (xs : List Symbol) (ts : List Token) → is_at is_name ts ≡ true → halt (Binds ∷ xs) ts ≡ halt (Bind ∷ Binds ∷ xs) ts
binds-name xs [] h = halt-end _ _ _ _
binds-name xs (t ∷ ts) h = begins_here Binds Bind (Binds ∷ []) xs t ts
    (ap (λ b. cond b (and_then (Binds ∷ []) (rule_bind t.kind)) (and_then (ASign s.CloseBrace ∷ []) (rule_tail t.kind))) h)

pub binds-tail : (xs : List Symbol) (ts : List Token) → is_at is_name ts ≡ false → halt (Binds ∷ xs) ts ≡ halt (Tail ∷ ASign s.CloseBrace ∷ xs) ts
binds-tail xs [] h = halt-end _ _ _ _
binds-tail xs (t ∷ ts) h = begins_here Binds Tail (ASign s.CloseBrace ∷ []) xs t ts
    (ap (λ b. cond b (and_then (Binds ∷ []) (rule_bind t.kind)) (and_then (ASign s.CloseBrace ∷ []) (rule_tail t.kind))) h)

-- A call's priorities may be left out.
pub call-open : (xs : List Symbol) (ts : List Token) → is_at (is_sign s.OpenParen) ts ≡ true → halt (CallOpen ∷ xs) ts ≡ halt (ASign s.OpenParen ∷ xs) ts
call-open xs ts h = tested CallOpen (ASign s.OpenParen) (is_sign s.OpenParen) true xs ts
    (λ kind e. ap (λ b. cond b (Some []) (rule_call_priorities kind)) e ∙ sym (ap (λ b. cond b (Some []) None) e)) h

pub call-priorities : (xs : List Symbol) (ts : List Token) → is_at (is_sign s.OpenParen) ts ≡ false → halt (CallOpen ∷ xs) ts ≡ halt (CallPriorities ∷ xs) ts
call-priorities xs ts h = tested CallOpen CallPriorities (is_sign s.OpenParen) false xs ts (λ kind e. ap (λ b. cond b (Some []) (rule_call_priorities kind)) e) h

pub ruleset steps = (halt-block, halt-bind, halt-ret_tail, halt-if_tail, halt-case_tail, halt-ret, halt-spawn, halt-sync, halt-call, halt-do_block, halt-output, halt-call_priorities, halt-input, end-parens, end-brackets)

pub ruleset choices = (action-form, tail-form, call-open, call-priorities)
