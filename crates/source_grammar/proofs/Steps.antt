-- What one token does to the symbols.
use Rattle.std.proofs.Common.{List, [], ◌∷◌, ◌++◌, ◌≡◌, Some, None, Option, Result, IfOk, Ok, Err, Bool, true, false, cond, refl, sym, ap, ◌∙◌, append_assoc}
use Rattle.source_tokens.specs.declared.token.Token.{Token}
use Rattle.source_tokens.specs.declared.token.Kind.{Kind}
use Rattle.source_tokens.specs.declared.token.Word.TheVariants as w
use Rattle.source_tokens.specs.declared.token.Sign.TheVariants as s
use Rattle.source_grammar.specs.declared.choice.TyForm.TheVariants as ty
use Rattle.source_grammar.specs.declared.choice.Mid.{Mid}
use Rattle.source_grammar.specs.declared.choice.Prefix.{Prefix}
use Rattle.source_grammar.specs.declared.choice.Side.{Side}
use Rattle.source_grammar.specs.declared.choice.ExprForm.TheVariants as expr
use Rattle.source_grammar.specs.declared.choice.Joint.{Joint}
use Rattle.source_grammar.specs.declared.cursor.Stop.{Stop}
use Rattle.source_grammar.specs.declared.cursor.Stop.TheVariants as stop
use Rattle.source_grammar.specs.Inside.Stops.{Moves, MovesTo}
use Rattle.source_grammar.specs.Inside.Next.{is_at, form_at, is_sign, ty_form, mid_form, expr_form, joint_form, prefix_word, side_word}
use Rattle.source_grammar.specs.Inside.Machine.{Symbol, rule, halt, go_on, and_then, by_form, rule_bracketed, rule_joined, AName, AWord, ASign, Ty, TyOf, TyMid, Expr, ExprOf, Inside, Bracketed, Behind, Joined, AJoint, Given, Parameter}

pub halt-some : (x : Symbol) (xs ys : List Symbol) (t : Token) (ts : List Token) → rule x t.kind ≡ Some ys → halt (x ∷ xs) (t ∷ ts) ≡ halt (ys ++ xs) ts
unfolding halt
halt-some x xs ys t ts h = ap (λ o. go_on o xs (t ∷ ts) (λ zs. halt zs ts)) h

halt-none : (x : Symbol) (xs : List Symbol) (t : Token) (ts : List Token) → rule x t.kind ≡ None → halt (x ∷ xs) (t ∷ ts) ≡ Some (t ∷ ts)
unfolding halt
halt-none x xs t ts h = ap (λ o. go_on o xs (t ∷ ts) (λ zs. halt zs ts)) h

pub halt-end : (x y : Symbol) (xs ys : List Symbol) → halt (x ∷ xs) [] ≡ halt (y ∷ ys) []
unfolding halt
halt-end x y xs ys = refl

-- A form begins with another symbol's token, and then other symbols come.
abbrev Begins : Symbol → Symbol → List Symbol → Kind → Type 0
Begins x y zs kind = rule x kind ≡ and_then zs (rule y kind)

regroup : (o : Option (List Symbol)) (zs xs : List Symbol) (here ts : List Token)
    → go_on (and_then zs o) xs here (λ ys. halt ys ts) ≡ go_on o (zs ++ xs) here (λ ys. halt ys ts)
regroup None zs xs here ts = refl
regroup (Some us) zs xs here ts = ap (λ v. halt v ts) (append_assoc us zs xs)

pub begins_here : (x y : Symbol) (zs xs : List Symbol) (t : Token) (ts : List Token) → Begins x y zs t.kind → halt (x ∷ xs) (t ∷ ts) ≡ halt (y ∷ zs ++ xs) (t ∷ ts)
unfolding halt
begins_here x y zs xs t ts h = ap (λ o. go_on o xs (t ∷ ts) (λ ys. halt ys ts)) h ∙ regroup (rule y t.kind) zs xs (t ∷ ts) ts

pub begins : (x y : Symbol) (zs xs : List Symbol) (ts : List Token) → ((kind : Kind) → Begins x y zs kind) → halt (x ∷ xs) ts ≡ halt (y ∷ zs ++ xs) ts
begins x y zs xs [] h = halt-end x y xs (zs ++ xs)
begins x y zs xs (t ∷ ts) h = begins_here x y zs xs t ts (h t.kind)

-- A symbol is another one at this token.
pub same_here : (x y : Symbol) (xs : List Symbol) (t : Token) (ts : List Token) → rule x t.kind ≡ rule y t.kind → halt (x ∷ xs) (t ∷ ts) ≡ halt (y ∷ xs) (t ∷ ts)
unfolding halt
same_here x y xs t ts h = ap (λ o. go_on o xs (t ∷ ts) (λ ys. halt ys ts)) h

pub same : (x y : Symbol) (xs : List Symbol) (ts : List Token) → ((kind : Kind) → rule x kind ≡ rule y kind) → halt (x ∷ xs) ts ≡ halt (y ∷ xs) ts
same x y xs [] h = halt-end x y xs xs
same x y xs (t ∷ ts) h = same_here x y xs t ts (h t.kind)

-- Straight lines.
pub halt-thread_ty : (xs : List Symbol) (ts : List Token) → halt (TyOf ty.Thread ∷ xs) ts ≡ halt (AWord w.Thread ∷ ASign s.OpenBracket ∷ AName ∷ ASign s.CloseBracket ∷ ASign s.OpenParen ∷ Ty ∷ ASign s.CloseParen ∷ xs) ts
halt-thread_ty xs ts = begins _ _ (ASign s.OpenBracket ∷ AName ∷ ASign s.CloseBracket ∷ ASign s.OpenParen ∷ Ty ∷ ASign s.CloseParen ∷ []) xs ts (λ kind. refl)

pub halt-paired_ty : (xs : List Symbol) (ts : List Token) → halt (TyOf ty.Paired ∷ xs) ts ≡ halt (ASign s.OpenParen ∷ Ty ∷ TyMid ∷ Ty ∷ ASign s.CloseParen ∷ xs) ts
halt-paired_ty xs ts = begins _ _ (Ty ∷ TyMid ∷ Ty ∷ ASign s.CloseParen ∷ []) xs ts (λ kind. refl)

pub halt-opened : (xs : List Symbol) (ts : List Token) → halt (ExprOf expr.Opened ∷ xs) ts ≡ halt (ASign s.OpenParen ∷ Inside ∷ xs) ts
halt-opened xs ts = begins _ _ (Inside ∷ []) xs ts (λ kind. refl)

pub halt-bracketed : (xs : List Symbol) (ts : List Token) → halt (Bracketed ∷ xs) ts ≡ halt (Expr ∷ Behind ∷ xs) ts
halt-bracketed xs ts = begins _ _ (Behind ∷ []) xs ts (λ kind. refl)

pub halt-joined : (xs : List Symbol) (ts : List Token) → halt (Joined ∷ xs) ts ≡ halt (AJoint ∷ Expr ∷ ASign s.CloseParen ∷ xs) ts
halt-joined xs ts = begins _ _ (Expr ∷ ASign s.CloseParen ∷ []) xs ts (λ kind. refl)

pub halt-applied : (p : Prefix) (xs : List Symbol) (ts : List Token) → halt (ExprOf (expr.Applied p) ∷ xs) ts ≡ halt (AWord (prefix_word p) ∷ ASign s.OpenParen ∷ Expr ∷ ASign s.CloseParen ∷ xs) ts
halt-applied p xs ts = begins _ _ (ASign s.OpenParen ∷ Expr ∷ ASign s.CloseParen ∷ []) xs ts (λ kind. refl)

pub halt-injected : (d : Side) (xs : List Symbol) (ts : List Token) → halt (ExprOf (expr.Injected d) ∷ xs) ts ≡ halt (AWord (side_word d) ∷ ASign s.OpenBracket ∷ Ty ∷ ASign s.CloseBracket ∷ ASign s.OpenParen ∷ Expr ∷ ASign s.CloseParen ∷ xs) ts
halt-injected d xs ts = begins _ _ (ASign s.OpenBracket ∷ Ty ∷ ASign s.CloseBracket ∷ ASign s.OpenParen ∷ Expr ∷ ASign s.CloseParen ∷ []) xs ts (λ kind. refl)

pub halt-given : (xs : List Symbol) (ts : List Token) → halt (Given ∷ xs) ts ≡ halt (AName ∷ ASign s.AtMost ∷ AName ∷ xs) ts
halt-given xs ts = begins _ _ (ASign s.AtMost ∷ AName ∷ []) xs ts (λ kind. refl)

pub halt-parameter : (xs : List Symbol) (ts : List Token) → halt (Parameter ∷ xs) ts ≡ halt (AName ∷ ASign s.Colon ∷ Ty ∷ xs) ts
halt-parameter xs ts = begins _ _ (ASign s.Colon ∷ Ty ∷ []) xs ts (λ kind. refl)

-- The next token chooses a form; where none comes, the machine stops.
by_form_on : {F : Type 0} (o : Option F) (g : F → Option (List Symbol)) (xs : List Symbol) (here ts : List Token)
    → go_on (by_form o g None) xs here (λ ys. halt ys ts) ≡ by_form o (λ f. go_on (g f) xs here (λ ys. halt ys ts)) (Some here)
by_form_on None g xs here ts = refl
by_form_on (Some f) g xs here ts = refl

pub chosen : {F : Type 0} (x : Symbol) (y : F → Symbol) (form : Kind → Option F) (xs : List Symbol) (ts : List Token) → ((kind : Kind) → rule x kind ≡ by_form (form kind) (λ f. rule (y f) kind) None)
    → halt (x ∷ xs) ts ≡ by_form (form_at form ts) (λ f. halt (y f ∷ xs) ts) (Some ts)
unfolding halt
chosen x y form xs [] is = refl
chosen x y form xs (t ∷ ts) is = ap (λ o. go_on o xs (t ∷ ts) (λ ys. halt ys ts)) (is t.kind) ∙ by_form_on (form t.kind) (λ f. rule (y f) t.kind) xs (t ∷ ts) ts

pub ty-form : (xs : List Symbol) (ts : List Token) → halt (Ty ∷ xs) ts ≡ by_form (form_at ty_form ts) (λ f. halt (TyOf f ∷ xs) ts) (Some ts)
ty-form xs ts = chosen Ty TyOf ty_form xs ts (λ kind. refl)

pub expr-form : (xs : List Symbol) (ts : List Token) → halt (Expr ∷ xs) ts ≡ by_form (form_at expr_form ts) (λ f. halt (ExprOf f ∷ xs) ts) (Some ts)
expr-form xs ts = chosen Expr ExprOf expr_form xs ts (λ kind. refl)

-- One token joins two types, and one joins two expressions.
not_joined : {F : Type 0} (x : Symbol) (form : Kind → Option F) (xs : List Symbol) (ts : List Token) → ((kind : Kind) → rule x kind ≡ by_form (form kind) (λ f. Some []) None)
    → form_at form ts ≡ None → halt (x ∷ xs) ts ≡ Some ts
unfolding halt
not_joined x form xs [] is h = refl
not_joined x form xs (t ∷ ts) is h = halt-none x xs t ts (is t.kind ∙ ap (λ o. by_form o (λ f. Some []) None) h)

pub mid-some : (xs : List Symbol) (ts : List Token) (t : Token) (m : Mid) → mid_form t.kind ≡ Some m → halt (TyMid ∷ xs) (t ∷ ts) ≡ halt xs ts
mid-some xs ts t m h = halt-some TyMid xs [] t ts (ap (λ o. by_form o (λ f. Some []) None) h)

pub mid-none : (xs : List Symbol) (ts : List Token) → form_at mid_form ts ≡ None → halt (TyMid ∷ xs) ts ≡ Some ts
mid-none xs ts h = not_joined TyMid mid_form xs ts (λ kind. refl) h

pub joint-some : (xs : List Symbol) (ts : List Token) (t : Token) (j : Joint) → joint_form t.kind ≡ Some j → halt (AJoint ∷ xs) (t ∷ ts) ≡ halt xs ts
joint-some xs ts t j h = halt-some AJoint xs [] t ts (ap (λ o. by_form o (λ f. Some []) None) h)

pub joint-none : (xs : List Symbol) (ts : List Token) → form_at joint_form ts ≡ None → halt (AJoint ∷ xs) ts ≡ Some ts
joint-none xs ts h = not_joined AJoint joint_form xs ts (λ kind. refl) h

-- A test of the next token chooses between two symbols.
pub tested : (x y : Symbol) (test : Kind → Bool) (b : Bool) (xs : List Symbol) (ts : List Token) → ((kind : Kind) → test kind ≡ b → rule x kind ≡ rule y kind)
    → is_at test ts ≡ b → halt (x ∷ xs) ts ≡ halt (y ∷ xs) ts
tested x y test b xs [] same h = halt-end x y xs xs
tested x y test b xs (t ∷ ts) same h = same_here x y xs t ts (same t.kind h)

pub inside-close : (xs : List Symbol) (ts : List Token) → is_at (is_sign s.CloseParen) ts ≡ true → halt (Inside ∷ xs) ts ≡ halt (ASign s.CloseParen ∷ xs) ts
inside-close xs ts h = tested Inside (ASign s.CloseParen) (is_sign s.CloseParen) true xs ts
    (λ kind e. ap (λ b. cond b (Some []) (rule_bracketed kind)) e ∙ sym (ap (λ b. cond b (Some []) None) e)) h

pub inside-more : (xs : List Symbol) (ts : List Token) → is_at (is_sign s.CloseParen) ts ≡ false → halt (Inside ∷ xs) ts ≡ halt (Bracketed ∷ xs) ts
inside-more xs ts h = tested Inside Bracketed (is_sign s.CloseParen) false xs ts (λ kind e. ap (λ b. cond b (Some []) (rule_bracketed kind)) e) h

pub behind-close : (xs : List Symbol) (ts : List Token) → is_at (is_sign s.CloseParen) ts ≡ true → halt (Behind ∷ xs) ts ≡ halt (ASign s.CloseParen ∷ xs) ts
behind-close xs ts h = tested Behind (ASign s.CloseParen) (is_sign s.CloseParen) true xs ts
    (λ kind e. ap (λ b. cond b (Some []) (rule_joined kind)) e ∙ sym (ap (λ b. cond b (Some []) None) e)) h

pub behind-more : (xs : List Symbol) (ts : List Token) → is_at (is_sign s.CloseParen) ts ≡ false → halt (Behind ∷ xs) ts ≡ halt (Joined ∷ xs) ts
behind-more xs ts h = tested Behind Joined (is_sign s.CloseParen) false xs ts (λ kind e. ap (λ b. cond b (Some []) (rule_joined kind)) e) h

-- What a symbol does, another does that is the same here.
pub moves_to_along : (A : Type 0) (x y : Symbol) (zs : List Symbol) (old new : List Token) (r : Result A Stop)
    → ((xs : List Symbol) → halt (x ∷ xs) old ≡ halt (y ∷ xs) old) → MovesTo {A = A} y zs old new r → MovesTo {A = A} x zs old new r
moves_to_along A x y zs old new (Ok a) f g = λ xs. f xs ∙ g xs
moves_to_along A x y zs old new (Err stop.Syntax) f g = λ xs. f xs ∙ g xs
moves_to_along A x y zs old new (Err stop.Memory) f g = tt

pub if_ok : {A : Type 0} {P Q : A → Type 0} (r : Result A Stop) → ((x : A) → P x → Q x) → IfOk r P → IfOk r Q
if_ok (Ok a) f h = f a h
if_ok (Err e) f h = tt

-- A part that refuses makes the whole refuse.
pub part_refuses : (A B : Type 0) (x y : Symbol) (ys zs : List Symbol) (start now new : List Token) (e : Stop)
    → ((xs : List Symbol) → halt (x ∷ xs) start ≡ halt (y ∷ ys ++ xs) now) → Moves {A = A} y now new (Err e) → MovesTo {A = B} x zs start new (Err e)
part_refuses A B x y ys zs start now new stop.Syntax f g = λ xs. f xs ∙ g (ys ++ xs)
part_refuses A B x y ys zs start now new stop.Memory f g = tt

pub ruleset steps = (halt-thread_ty, halt-paired_ty, halt-opened, halt-bracketed, halt-joined, halt-applied, halt-injected, halt-given, halt-parameter)

pub ruleset choices = (ty-form, expr-form, mid-some, mid-none, joint-some, joint-none, inside-close, inside-more, behind-close, behind-more)
