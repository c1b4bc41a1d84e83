-- The parts of lists do not begin with what may end a list.
use Rattle.std.specs.Prelude.{◌≡◌, [], ◌∷◌, None, true, refl}
use Rattle.std.proofs.Common.{ap}
use Rattle.source_tokens.specs.declared.token.Kind.{Kind}
use Rattle.source_tokens.specs.declared.token.Kind.TheVariants as k
use Rattle.source_tokens.specs.declared.token.Sign.TheVariants as s
use Rattle.source_grammar.specs.Inside.Next.{is_end}
use Rattle.source_grammar.specs.Inside.Machine.{Symbol, rule, and_then, AName, ASign, Expr, Given, Parameter, Ty}

-- the symbol does not begin with what may end a list
abbrev pub BeginsOtherwise : Symbol → Type 0
BeginsOtherwise x = (kind : Kind) → is_end kind ≡ true → rule x kind ≡ None

pub name_no_end : BeginsOtherwise AName
name_no_end (k.Name n) h = cc
name_no_end (k.Number n) h = refl
name_no_end (k.Word x) h = refl
name_no_end (k.Sign x) h = refl

pub given_no_end : BeginsOtherwise Given
given_no_end kind h = ap (and_then (ASign s.AtMost ∷ AName ∷ [])) (name_no_end kind h)

pub parameter_no_end : BeginsOtherwise Parameter
parameter_no_end kind h = ap (and_then (ASign s.Colon ∷ Ty ∷ [])) (name_no_end kind h)

pub expr_no_end : BeginsOtherwise Expr
expr_no_end (k.Name n) h = cc
expr_no_end (k.Number n) h = cc
expr_no_end (k.Word x) h = cc
expr_no_end (k.Sign s.CloseParen) h = refl
expr_no_end (k.Sign s.CloseBracket) h = refl
expr_no_end (k.Sign s.Semicolon) h = refl
expr_no_end (k.Sign _) h = cc
