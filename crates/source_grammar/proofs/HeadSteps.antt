-- What one token does to the symbols of procedures and programs.
use Rattle.std.proofs.Common.{List, [], ◌∷◌, ◌≡◌, Some, None, Option, true, false, cond, refl, sym, ap, ◌∙◌}
use Rattle.source_tokens.specs.declared.token.Token.{Token}
use Rattle.source_tokens.specs.declared.token.Kind.{Kind}
use Rattle.source_tokens.specs.declared.token.Word.TheVariants as w
use Rattle.source_tokens.specs.declared.token.Sign.TheVariants as s
use Rattle.source_grammar.specs.declared.choice.DeclarationForm.{DeclarationForm}
use Rattle.source_grammar.specs.declared.choice.DeclarationForm.TheVariants as decl
use Rattle.source_grammar.specs.Inside.Next.{is_at, form_at, is_sign, declaration_form}
use Rattle.source_grammar.specs.Inside.Machine.{Symbol, parens, brackets, variables, rule, halt, and_then, by_form, rule_declaration_form, rule_main, rule_head_close, rule_head_given, rule_head_variables, declaration_symbol, AName, AWord, ASign, AtEnd, Listed, Separated, Ty, Block, Program, Priority, Order, Procedure, Main, Routine, HeadOpen, HeadVariables, HeadEnd, HeadClose, HeadGiven, Given, Parameter}
use Rattle.source_grammar.proofs.Steps.{begins, begins_here, halt-end, same, same_here, tested}
use Rattle.source_grammar.proofs.BlockSteps.{end-parens, end-brackets}

-- Straight lines.
pub halt-priority : (xs : List Symbol) (ts : List Token) → halt (Priority ∷ xs) ts ≡ halt (AWord w.Priority ∷ AName ∷ ASign s.Semicolon ∷ xs) ts
halt-priority xs ts = begins _ _ (AName ∷ ASign s.Semicolon ∷ []) xs ts (λ kind. refl)

pub halt-order : (xs : List Symbol) (ts : List Token) → halt (Order ∷ xs) ts ≡ halt (AWord w.Order ∷ AName ∷ ASign s.Less ∷ AName ∷ ASign s.Semicolon ∷ xs) ts
halt-order xs ts = begins _ _ (AName ∷ ASign s.Less ∷ AName ∷ ASign s.Semicolon ∷ []) xs ts (λ kind. refl)

pub halt-procedure : (xs : List Symbol) (ts : List Token) → halt (Procedure ∷ xs) ts ≡ halt (AWord w.Proc ∷ AName ∷ HeadOpen ∷ Listed Parameter parens ∷ Routine ∷ xs) ts
halt-procedure xs ts = begins _ _ (AName ∷ HeadOpen ∷ Listed Parameter parens ∷ Routine ∷ []) xs ts (λ kind. refl)

pub halt-main : (xs : List Symbol) (ts : List Token) → halt (Main ∷ xs) ts ≡ halt (AWord w.Main ∷ Routine ∷ xs) ts
halt-main xs ts = begins _ _ (Routine ∷ []) xs ts (λ kind. refl)

pub halt-routine : (xs : List Symbol) (ts : List Token) → halt (Routine ∷ xs) ts ≡ halt (AWord w.At ∷ AName ∷ ASign s.Colon ∷ Ty ∷ Block ∷ xs) ts
halt-routine xs ts = begins _ _ (AName ∷ ASign s.Colon ∷ Ty ∷ Block ∷ []) xs ts (λ kind. refl)

pub halt-head_variables : (xs : List Symbol) (ts : List Token) → halt (HeadVariables ∷ xs) ts ≡ halt (ASign s.OpenBracket ∷ Listed AName variables ∷ xs) ts
halt-head_variables xs ts = begins _ _ (Listed AName variables ∷ []) xs ts (λ kind. refl)

pub halt-head_close : (xs : List Symbol) (ts : List Token) → halt (HeadClose ∷ xs) ts ≡ halt (ASign s.CloseBracket ∷ ASign s.OpenParen ∷ xs) ts
halt-head_close xs ts = begins _ _ (ASign s.OpenParen ∷ []) xs ts (λ kind. refl)

pub halt-head_given : (xs : List Symbol) (ts : List Token) → halt (HeadGiven ∷ xs) ts ≡ halt (ASign s.Semicolon ∷ Separated Given brackets ∷ ASign s.OpenParen ∷ xs) ts
halt-head_given xs ts = begins _ _ (Separated Given brackets ∷ ASign s.OpenParen ∷ []) xs ts (λ kind. refl)

pub end-variables : (xs : List Symbol) (ts : List Token) → halt (AtEnd variables ∷ xs) ts ≡ halt (HeadEnd ∷ xs) ts
end-variables xs ts = same _ _ xs ts (λ kind. refl)

-- A test of the next token chooses.
pub head-open : (xs : List Symbol) (ts : List Token) → is_at (is_sign s.OpenParen) ts ≡ true → halt (HeadOpen ∷ xs) ts ≡ halt (ASign s.OpenParen ∷ xs) ts
head-open xs ts h = tested HeadOpen (ASign s.OpenParen) (is_sign s.OpenParen) true xs ts
    (λ kind e. ap (λ b. cond b (Some []) (rule_head_variables kind)) e ∙ sym (ap (λ b. cond b (Some []) None) e)) h

pub head-variables : (xs : List Symbol) (ts : List Token) → is_at (is_sign s.OpenParen) ts ≡ false → halt (HeadOpen ∷ xs) ts ≡ halt (HeadVariables ∷ xs) ts
head-variables xs ts h = tested HeadOpen HeadVariables (is_sign s.OpenParen) false xs ts (λ kind e. ap (λ b. cond b (Some []) (rule_head_variables kind)) e) h

pub head-close : (xs : List Symbol) (ts : List Token) → is_at (is_sign s.CloseBracket) ts ≡ true → halt (HeadEnd ∷ xs) ts ≡ halt (HeadClose ∷ xs) ts
head-close xs ts h = tested HeadEnd HeadClose (is_sign s.CloseBracket) true xs ts (λ kind e. ap (λ b. cond b (rule_head_close kind) (rule_head_given kind)) e) h

pub head-given : (xs : List Symbol) (ts : List Token) → is_at (is_sign s.CloseBracket) ts ≡ false → halt (HeadEnd ∷ xs) ts ≡ halt (HeadGiven ∷ xs) ts
head-given xs ts h = tested HeadEnd HeadGiven (is_sign s.CloseBracket) false xs ts (λ kind e. ap (λ b. cond b (rule_head_close kind) (rule_head_given kind)) e) h

-- In a program the next token chooses a declaration, and anything else is the main procedure's.
declaration_line : (f : DeclarationForm) (kind : Kind) → rule_declaration_form kind f ≡ rule (declaration_symbol f) kind
declaration_line decl.Priority kind = refl
declaration_line decl.Order kind = refl
declaration_line decl.Procedure kind = refl

abbrev rule_by : Kind → Option DeclarationForm → Option (List Symbol)
rule_by kind o = by_form o (λ f. and_then (Program ∷ []) (rule_declaration_form kind f)) (rule_main kind)

pub program-declaration : (xs : List Symbol) (ts : List Token) (f : DeclarationForm) → form_at declaration_form ts ≡ Some f → halt (Program ∷ xs) ts ≡ halt (declaration_symbol f ∷ Program ∷ xs) ts
program-declaration xs [] f h = halt-end _ _ _ _
program-declaration xs (t ∷ ts) f h = begins_here Program (declaration_symbol f) (Program ∷ []) xs t ts (ap (rule_by t.kind) h ∙ ap (and_then (Program ∷ [])) (declaration_line f t.kind))

pub program-main : (xs : List Symbol) (ts : List Token) → form_at declaration_form ts ≡ None → halt (Program ∷ xs) ts ≡ halt (Main ∷ xs) ts
program-main xs [] h = halt-end _ _ _ _
program-main xs (t ∷ ts) h = same_here Program Main xs t ts (ap (rule_by t.kind) h)

pub ruleset steps = (halt-priority, halt-order, halt-procedure, halt-main, halt-routine, halt-head_variables, halt-head_close, halt-head_given, end-variables, end-parens, end-brackets)

pub ruleset choices = (head-open, head-variables, head-close, head-given)
