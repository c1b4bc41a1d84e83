-- What the next token shows.
use Rattle.std.specs.Prelude.{ℕ, List, [], ◌∷◌, Option, Some, None, Bool, true, false, ◌==◌}
use Rattle.source_tokens.specs.declared.token.Token.{Token}
use Rattle.source_tokens.specs.declared.token.Kind.{Kind}
use Rattle.source_tokens.specs.declared.token.Kind.TheVariants as k
use Rattle.source_tokens.specs.declared.token.Word.{Word}
use Rattle.source_tokens.specs.declared.token.Word.TheVariants as w
use Rattle.source_tokens.specs.declared.token.Sign.{Sign}
use Rattle.source_tokens.specs.declared.token.Sign.TheVariants as s
use Rattle.priml_syntax.specs.declared.expr.Op.TheVariants as o
use Rattle.source_grammar.specs.declared.choice.TyForm.{TyForm}
use Rattle.source_grammar.specs.declared.choice.TyForm.TheVariants as ty
use Rattle.source_grammar.specs.declared.choice.Mid.{Mid}
use Rattle.source_grammar.specs.declared.choice.Mid.TheVariants as mid
use Rattle.source_grammar.specs.declared.choice.Prefix.{Prefix}
use Rattle.source_grammar.specs.declared.choice.Prefix.TheVariants as prefix
use Rattle.source_grammar.specs.declared.choice.Side.{Side}
use Rattle.source_grammar.specs.declared.choice.Side.TheVariants as side
use Rattle.source_grammar.specs.declared.choice.ExprForm.{ExprForm}
use Rattle.source_grammar.specs.declared.choice.ExprForm.TheVariants as expr
use Rattle.source_grammar.specs.declared.choice.Joint.{Joint}
use Rattle.source_grammar.specs.declared.choice.Joint.TheVariants as joint
use Rattle.source_grammar.specs.declared.choice.ActionForm.{ActionForm}
use Rattle.source_grammar.specs.declared.choice.ActionForm.TheVariants as action
use Rattle.source_grammar.specs.declared.choice.TailForm.{TailForm}
use Rattle.source_grammar.specs.declared.choice.TailForm.TheVariants as tail
use Rattle.source_grammar.specs.declared.choice.DeclarationForm.{DeclarationForm}
use Rattle.source_grammar.specs.declared.choice.DeclarationForm.TheVariants as decl

abbrev pub word_number : Word → ℕ
word_number w.Priority = 0
word_number w.Order = 1
word_number w.Proc = 2
word_number w.Main = 3
word_number w.At = 4
word_number w.Ret = 5
word_number w.Spawn = 6
word_number w.Sync = 7
word_number w.Call = 8
word_number w.Do = 9
word_number w.Input = 10
word_number w.Output = 11
word_number w.If = 12
word_number w.Else = 13
word_number w.Case = 14
word_number w.Inl = 15
word_number w.Inr = 16
word_number w.Fst = 17
word_number w.Snd = 18
word_number w.Not = 19
word_number w.And = 20
word_number w.Or = 21
word_number w.True = 22
word_number w.False = 23
word_number w.Unit = 24
word_number w.Bool = 25
word_number w.Int = 26
word_number w.Thread = 27

abbrev pub sign_number : Sign → ℕ
sign_number s.Arrow = 0
sign_number s.AtMost = 1
sign_number s.Equal = 2
sign_number s.Less = 3
sign_number s.Plus = 4
sign_number s.Minus = 5
sign_number s.Star = 6
sign_number s.Slash = 7
sign_number s.Percent = 8
sign_number s.OpenParen = 9
sign_number s.CloseParen = 10
sign_number s.OpenBrace = 11
sign_number s.CloseBrace = 12
sign_number s.OpenBracket = 13
sign_number s.CloseBracket = 14
sign_number s.Comma = 15
sign_number s.Semicolon = 16
sign_number s.Colon = 17

abbrev pub is_name : Kind → Bool
is_name (k.Name n) = true
is_name _ = false

abbrev pub is_word : Word → Kind → Bool
is_word x (k.Word y) = word_number x == word_number y
is_word x _ = false

abbrev pub is_sign : Sign → Kind → Bool
is_sign x (k.Sign y) = sign_number x == sign_number y
is_sign x _ = false

-- what may end a list with commas
abbrev pub is_end : Kind → Bool
is_end (k.Sign s.CloseParen) = true
is_end (k.Sign s.CloseBracket) = true
is_end (k.Sign s.Semicolon) = true
is_end _ = false

-- the next token passes a test
abbrev pub is_at : (Kind → Bool) → List Token → Bool
is_at test [] = false
is_at test (t ∷ ts) = test t.kind

-- the form that the next token begins
abbrev pub form_at : {F : Type 0} → (Kind → Option F) → List Token → Option F
form_at form [] = None
form_at form (t ∷ ts) = form t.kind

abbrev pub ty_form : Kind → Option TyForm
ty_form (k.Word w.Unit) = Some ty.Simple
ty_form (k.Word w.Bool) = Some ty.Simple
ty_form (k.Word w.Int) = Some ty.Simple
ty_form (k.Word w.Thread) = Some ty.Thread
ty_form (k.Sign s.OpenParen) = Some ty.Paired
ty_form _ = None

abbrev pub mid_form : Kind → Option Mid
mid_form (k.Sign s.Star) = Some mid.Star
mid_form (k.Sign s.Plus) = Some mid.Plus
mid_form _ = None

abbrev pub prefix_word : Prefix → Word
prefix_word prefix.First = w.Fst
prefix_word prefix.Second = w.Snd
prefix_word prefix.Negated = w.Not

abbrev pub side_word : Side → Word
side_word side.Left = w.Inl
side_word side.Right = w.Inr

abbrev pub expr_form : Kind → Option ExprForm
expr_form (k.Name n) = Some expr.Leaf
expr_form (k.Number n) = Some expr.Leaf
expr_form (k.Word w.True) = Some expr.Leaf
expr_form (k.Word w.False) = Some expr.Leaf
expr_form (k.Sign s.OpenParen) = Some expr.Opened
expr_form (k.Word w.Fst) = Some (expr.Applied prefix.First)
expr_form (k.Word w.Snd) = Some (expr.Applied prefix.Second)
expr_form (k.Word w.Not) = Some (expr.Applied prefix.Negated)
expr_form (k.Word w.Inl) = Some (expr.Injected side.Left)
expr_form (k.Word w.Inr) = Some (expr.Injected side.Right)
expr_form _ = None

-- what joins two expressions in brackets
abbrev pub joint_form : Kind → Option Joint
joint_form (k.Sign s.Comma) = Some joint.Comma
joint_form (k.Sign s.Plus) = Some (joint.Operator o.Add)
joint_form (k.Sign s.Minus) = Some (joint.Operator o.Sub)
joint_form (k.Sign s.Star) = Some (joint.Operator o.Mul)
joint_form (k.Sign s.Slash) = Some (joint.Operator o.Div)
joint_form (k.Sign s.Percent) = Some (joint.Operator o.Rem)
joint_form (k.Sign s.Less) = Some (joint.Operator o.Less)
joint_form (k.Sign s.AtMost) = Some (joint.Operator o.AtMost)
joint_form (k.Sign s.Equal) = Some (joint.Operator o.Equal)
joint_form (k.Word w.And) = Some (joint.Operator o.And)
joint_form (k.Word w.Or) = Some (joint.Operator o.Or)
joint_form _ = None

abbrev pub action_form : Kind → Option ActionForm
action_form (k.Word w.Ret) = Some action.Ret
action_form (k.Word w.Spawn) = Some action.Spawn
action_form (k.Word w.Sync) = Some action.Sync
action_form (k.Word w.Call) = Some action.Call
action_form (k.Word w.Do) = Some action.Do
action_form (k.Word w.Input) = Some action.Input
action_form (k.Word w.Output) = Some action.Output
action_form _ = None

abbrev pub tail_form : Kind → Option TailForm
tail_form (k.Word w.Ret) = Some tail.Ret
tail_form (k.Word w.If) = Some tail.If
tail_form (k.Word w.Case) = Some tail.Case
tail_form _ = None

abbrev pub declaration_form : Kind → Option DeclarationForm
declaration_form (k.Word w.Priority) = Some decl.Priority
declaration_form (k.Word w.Order) = Some decl.Order
declaration_form (k.Word w.Proc) = Some decl.Procedure
declaration_form _ = None
