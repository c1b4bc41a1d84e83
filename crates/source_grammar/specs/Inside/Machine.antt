-- The forms by their first token: what has to follow it.
use Rattle.std.specs.Prelude.{List, [], ◌∷◌, ◌++◌, Option, Some, None, cond}
use Rattle.source_tokens.specs.declared.token.Token.{Token}
use Rattle.source_tokens.specs.declared.token.Kind.{Kind}
use Rattle.source_tokens.specs.declared.token.Kind.TheVariants as k
use Rattle.source_tokens.specs.declared.token.Word.{Word}
use Rattle.source_tokens.specs.declared.token.Word.TheVariants as w
use Rattle.source_tokens.specs.declared.token.Sign.{Sign}
use Rattle.source_tokens.specs.declared.token.Sign.TheVariants as s
use Rattle.source_grammar.specs.declared.choice.TyForm.{TyForm}
use Rattle.source_grammar.specs.declared.choice.TyForm.TheVariants as ty
use Rattle.source_grammar.specs.declared.choice.ExprForm.{ExprForm}
use Rattle.source_grammar.specs.declared.choice.ExprForm.TheVariants as expr
use Rattle.source_grammar.specs.declared.choice.ActionForm.{ActionForm}
use Rattle.source_grammar.specs.declared.choice.ActionForm.TheVariants as action
use Rattle.source_grammar.specs.declared.choice.TailForm.{TailForm}
use Rattle.source_grammar.specs.declared.choice.TailForm.TheVariants as tail
use Rattle.source_grammar.specs.declared.choice.DeclarationForm.{DeclarationForm}
use Rattle.source_grammar.specs.declared.choice.DeclarationForm.TheVariants as decl
use Rattle.source_grammar.specs.Inside.Next.{is_name, is_word, is_sign, ty_form, mid_form, prefix_word, side_word, expr_form, joint_form, action_form, tail_form, declaration_form}

-- what comes behind a list with commas: `)`, `]`, or what ends the priority variables of a procedure
pub data End : Type 0 where
  parens brackets variables : End

-- What is still to come: one token, or a form. A list has its end with it: `Listed x e` is none or more of `x` with commas between and then the end,
-- `Separated x e` is one or more of them, and `More x e` is what comes behind one: a comma and another, `BehindComma x`, or the end.
pub data Symbol : Type 0 where
  AName : Symbol
  AWord : Word → Symbol
  ASign : Sign → Symbol
  AtEnd : End → Symbol
  BehindComma : Symbol → Symbol
  More Separated Listed : Symbol → End → Symbol
  Ty TyMid : Symbol
  TyOf : TyForm → Symbol
  Expr Inside Bracketed Behind Joined AJoint : Symbol
  ExprOf : ExprForm → Symbol
  Block Binds Bind Tail : Symbol
  TailOf : TailForm → Symbol
  Action CallOpen CallPriorities : Symbol
  ActionOf : ActionForm → Symbol
  Program Priority Order Procedure Main Routine HeadOpen HeadVariables HeadEnd HeadClose HeadGiven Given Parameter : Symbol

-- other symbols behind what comes first
abbrev pub and_then : List Symbol → Option (List Symbol) → Option (List Symbol)
and_then zs None = None
and_then zs (Some us) = Some (us ++ zs)

-- the first of two that there is
abbrev pub or_else : Option (List Symbol) → Option (List Symbol) → Option (List Symbol)
or_else (Some us) o = Some us
or_else None o = o

-- by the form, if there is one
abbrev pub by_form : {F A : Type 0} → Option F → (F → A) → A → A
by_form (Some f) here other = here f
by_form None here other = other

abbrev pub rule_name : Kind → Option (List Symbol)
rule_name kind = cond (is_name kind) (Some []) None

abbrev pub rule_word : Word → Kind → Option (List Symbol)
rule_word x kind = cond (is_word x kind) (Some []) None

abbrev pub rule_sign : Sign → Kind → Option (List Symbol)
rule_sign x kind = cond (is_sign x kind) (Some []) None

-- Lists.
-- a given pair behind the priority variables of a procedure, and what ends the pairs
abbrev pub rule_head_given : Kind → Option (List Symbol)
rule_head_given kind = and_then (Separated Given brackets ∷ ASign s.OpenParen ∷ []) (rule_sign s.Semicolon kind)

abbrev pub rule_head_close : Kind → Option (List Symbol)
rule_head_close kind = and_then (ASign s.OpenParen ∷ []) (rule_sign s.CloseBracket kind)

-- what ends the priority variables of a procedure
abbrev pub rule_head_end : Kind → Option (List Symbol)
rule_head_end kind = cond (is_sign s.CloseBracket kind) (rule_head_close kind) (rule_head_given kind)

abbrev pub rule_end : End → Kind → Option (List Symbol)
rule_end parens kind = rule_sign s.CloseParen kind
rule_end brackets kind = rule_sign s.CloseBracket kind
rule_end variables kind = rule_head_end kind

abbrev pub rule_more : Symbol → End → Kind → Option (List Symbol)
rule_more x e kind = cond (is_sign s.Comma kind) (Some (x ∷ More x e ∷ [])) (rule_end e kind)

-- Types.
abbrev pub rule_simple_ty : Kind → Option (List Symbol)
rule_simple_ty (k.Word w.Unit) = Some []
rule_simple_ty (k.Word w.Bool) = Some []
rule_simple_ty (k.Word w.Int) = Some []
rule_simple_ty _ = None

abbrev pub rule_ty_form : Kind → TyForm → Option (List Symbol)
rule_ty_form kind ty.Simple = rule_simple_ty kind
rule_ty_form kind ty.Thread =
    and_then (ASign s.OpenBracket ∷ AName ∷ ASign s.CloseBracket ∷ ASign s.OpenParen ∷ Ty ∷ ASign s.CloseParen ∷ []) (rule_word w.Thread kind)
rule_ty_form kind ty.Paired = and_then (Ty ∷ TyMid ∷ Ty ∷ ASign s.CloseParen ∷ []) (rule_sign s.OpenParen kind)

-- Expressions.
abbrev pub rule_leaf : Kind → Option (List Symbol)
rule_leaf (k.Name n) = Some []
rule_leaf (k.Number n) = Some []
rule_leaf (k.Word w.True) = Some []
rule_leaf (k.Word w.False) = Some []
rule_leaf _ = None

abbrev pub rule_expr_form : Kind → ExprForm → Option (List Symbol)
rule_expr_form kind expr.Leaf = rule_leaf kind
rule_expr_form kind expr.Opened = and_then (Inside ∷ []) (rule_sign s.OpenParen kind)
rule_expr_form kind (expr.Applied p) = and_then (ASign s.OpenParen ∷ Expr ∷ ASign s.CloseParen ∷ []) (rule_word (prefix_word p) kind)
rule_expr_form kind (expr.Injected d) =
    and_then (ASign s.OpenBracket ∷ Ty ∷ ASign s.CloseBracket ∷ ASign s.OpenParen ∷ Expr ∷ ASign s.CloseParen ∷ []) (rule_word (side_word d) kind)

abbrev pub rule_expr : Kind → Option (List Symbol)
rule_expr kind = by_form (expr_form kind) (rule_expr_form kind) None

abbrev pub rule_bracketed : Kind → Option (List Symbol)
rule_bracketed kind = and_then (Behind ∷ []) (rule_expr kind)

-- behind an opening bracket
abbrev pub rule_inside : Kind → Option (List Symbol)
rule_inside kind = cond (is_sign s.CloseParen kind) (Some []) (rule_bracketed kind)

abbrev pub rule_joint : Kind → Option (List Symbol)
rule_joint kind = by_form (joint_form kind) (λ j. Some []) None

abbrev pub rule_joined : Kind → Option (List Symbol)
rule_joined kind = and_then (Expr ∷ ASign s.CloseParen ∷ []) (rule_joint kind)

-- behind an opening bracket and an expression
abbrev pub rule_behind : Kind → Option (List Symbol)
rule_behind kind = cond (is_sign s.CloseParen kind) (Some []) (rule_joined kind)

-- Blocks.
abbrev pub rule_block : Kind → Option (List Symbol)
rule_block kind = and_then (Binds ∷ []) (rule_sign s.OpenBrace kind)

abbrev pub rule_bind : Kind → Option (List Symbol)
rule_bind kind = and_then (ASign s.Arrow ∷ Action ∷ ASign s.Semicolon ∷ []) (rule_name kind)

abbrev pub rule_ret : Kind → Option (List Symbol)
rule_ret kind = and_then (Expr ∷ []) (rule_word w.Ret kind)

abbrev pub rule_tail_form : Kind → TailForm → Option (List Symbol)
rule_tail_form kind tail.Ret = rule_ret kind
rule_tail_form kind tail.If = and_then (Expr ∷ Block ∷ AWord w.Else ∷ Block ∷ []) (rule_word w.If kind)
rule_tail_form kind tail.Case = and_then (Expr ∷ AWord w.Inl ∷ AName ∷ Block ∷ AWord w.Inr ∷ AName ∷ Block ∷ []) (rule_word w.Case kind)

abbrev pub rule_tail : Kind → Option (List Symbol)
rule_tail kind = by_form (tail_form kind) (rule_tail_form kind) None

-- bound actions, an ending and the closing brace
abbrev pub rule_binds : Kind → Option (List Symbol)
rule_binds kind = cond (is_name kind) (and_then (Binds ∷ []) (rule_bind kind)) (and_then (ASign s.CloseBrace ∷ []) (rule_tail kind))

abbrev pub rule_action_form : Kind → ActionForm → Option (List Symbol)
rule_action_form kind action.Ret = rule_ret kind
rule_action_form kind action.Spawn = and_then (ASign s.OpenBracket ∷ AName ∷ ASign s.CloseBracket ∷ Block ∷ []) (rule_word w.Spawn kind)
rule_action_form kind action.Sync = and_then (AName ∷ []) (rule_word w.Sync kind)
rule_action_form kind action.Call = and_then (AName ∷ CallOpen ∷ Listed Expr parens ∷ []) (rule_word w.Call kind)
rule_action_form kind action.Do = and_then (Block ∷ []) (rule_word w.Do kind)
rule_action_form kind action.Input = rule_word w.Input kind
rule_action_form kind action.Output = and_then (Expr ∷ []) (rule_word w.Output kind)

-- the priorities of a call, and the bracket of its arguments
abbrev pub rule_call_priorities : Kind → Option (List Symbol)
rule_call_priorities kind = and_then (Listed AName brackets ∷ ASign s.OpenParen ∷ []) (rule_sign s.OpenBracket kind)

abbrev pub rule_call_open : Kind → Option (List Symbol)
rule_call_open kind = cond (is_sign s.OpenParen kind) (Some []) (rule_call_priorities kind)

-- Declarations.
abbrev pub rule_priority : Kind → Option (List Symbol)
rule_priority kind = and_then (AName ∷ ASign s.Semicolon ∷ []) (rule_word w.Priority kind)

abbrev pub rule_order : Kind → Option (List Symbol)
rule_order kind = and_then (AName ∷ ASign s.Less ∷ AName ∷ ASign s.Semicolon ∷ []) (rule_word w.Order kind)

-- the variables and the given pairs of a procedure, and the bracket of its parameters
abbrev pub rule_head_variables : Kind → Option (List Symbol)
rule_head_variables kind = and_then (Listed AName variables ∷ []) (rule_sign s.OpenBracket kind)

abbrev pub rule_head_open : Kind → Option (List Symbol)
rule_head_open kind = cond (is_sign s.OpenParen kind) (Some []) (rule_head_variables kind)

abbrev pub rule_given : Kind → Option (List Symbol)
rule_given kind = and_then (ASign s.AtMost ∷ AName ∷ []) (rule_name kind)

abbrev pub rule_parameter : Kind → Option (List Symbol)
rule_parameter kind = and_then (ASign s.Colon ∷ Ty ∷ []) (rule_name kind)

abbrev pub rule_procedure : Kind → Option (List Symbol)
rule_procedure kind = and_then (AName ∷ HeadOpen ∷ Listed Parameter parens ∷ Routine ∷ []) (rule_word w.Proc kind)

abbrev pub rule_routine : Kind → Option (List Symbol)
rule_routine kind = and_then (AName ∷ ASign s.Colon ∷ Ty ∷ Block ∷ []) (rule_word w.At kind)

abbrev pub rule_main : Kind → Option (List Symbol)
rule_main kind = and_then (Routine ∷ []) (rule_word w.Main kind)

abbrev pub rule_declaration_form : Kind → DeclarationForm → Option (List Symbol)
rule_declaration_form kind decl.Priority = rule_priority kind
rule_declaration_form kind decl.Order = rule_order kind
rule_declaration_form kind decl.Procedure = rule_procedure kind

abbrev pub rule_program : Kind → Option (List Symbol)
rule_program kind = by_form (declaration_form kind) (λ f. and_then (Program ∷ []) (rule_declaration_form kind f)) (rule_main kind)

abbrev pub declaration_symbol : DeclarationForm → Symbol
declaration_symbol decl.Priority = Priority
declaration_symbol decl.Order = Order
declaration_symbol decl.Procedure = Procedure

-- what has to follow a token of this kind, for the symbol to begin with it; none where the symbol cannot
abbrev pub rule : Symbol → Kind → Option (List Symbol)
rule AName kind = rule_name kind
rule (AWord x) kind = rule_word x kind
rule (ASign x) kind = rule_sign x kind
rule (AtEnd e) kind = rule_end e kind
rule (BehindComma x) kind = and_then (x ∷ []) (rule_sign s.Comma kind)
rule (More x e) kind = rule_more x e kind
rule (Separated x e) kind = and_then (More x e ∷ []) (rule x kind)
rule (Listed x e) kind = or_else (rule_end e kind) (and_then (More x e ∷ []) (rule x kind))
rule Ty kind = by_form (ty_form kind) (rule_ty_form kind) None
rule (TyOf f) kind = rule_ty_form kind f
rule TyMid kind = by_form (mid_form kind) (λ m. Some []) None
rule Expr kind = rule_expr kind
rule Inside kind = rule_inside kind
rule Bracketed kind = rule_bracketed kind
rule Behind kind = rule_behind kind
rule Joined kind = rule_joined kind
rule AJoint kind = rule_joint kind
rule (ExprOf f) kind = rule_expr_form kind f
rule Block kind = rule_block kind
rule Binds kind = rule_binds kind
rule Bind kind = rule_bind kind
rule Tail kind = rule_tail kind
rule (TailOf f) kind = rule_tail_form kind f
rule Action kind = by_form (action_form kind) (rule_action_form kind) None
rule (ActionOf f) kind = rule_action_form kind f
rule CallOpen kind = rule_call_open kind
rule CallPriorities kind = rule_call_priorities kind
rule Program kind = rule_program kind
rule Priority kind = rule_priority kind
rule Order kind = rule_order kind
rule Procedure kind = rule_procedure kind
rule Main kind = rule_main kind
rule Routine kind = rule_routine kind
rule HeadOpen kind = rule_head_open kind
rule HeadVariables kind = rule_head_variables kind
rule HeadEnd kind = rule_head_end kind
rule HeadClose kind = rule_head_close kind
rule HeadGiven kind = rule_head_given kind
rule Given kind = rule_given kind
rule Parameter kind = rule_parameter kind

abbrev pub go_on : Option (List Symbol) → List Symbol → List Token → (List Symbol → Option (List Token)) → Option (List Token)
go_on None xs here next = Some here
go_on (Some ys) xs here next = next (ys ++ xs)

-- The tokens from the one on with which the tokens leave what the symbols stand for; no tokens where they end too early; none where the symbols
-- stand for the tokens.
unfoldable pub halt : List Symbol → List Token → Option (List Token)
halt [] [] = None
halt (x ∷ xs) [] = Some []
halt [] (t ∷ ts) = Some (t ∷ ts)
halt (x ∷ xs) (t ∷ ts) = go_on (rule x t.kind) xs (t ∷ ts) (λ ys. halt ys ts)
