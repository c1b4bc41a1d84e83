-- Where the machine stops.
use Rattle.std.proofs.Common.{◌≤◌, List, [], ◌∷◌, ◌++◌, ◌≡◌, ◌≢◌, Some, None, Option, true, cond, length, length-append, append_assoc, subst, sym, refl, ap, ◌∙◌, arith}
use Rattle.std.proofs.lemmas.Bool.Decides.{nat_tests}
use Rattle.source_tokens.specs.declared.token.Token.{Token}
use Rattle.source_tokens.specs.declared.token.Kind.TheVariants as k
use Rattle.source_tokens.specs.declared.token.Word.{Word}
use Rattle.source_tokens.specs.declared.token.Word.TheVariants as w
use Rattle.source_tokens.specs.declared.token.Sign.{Sign}
use Rattle.source_tokens.specs.declared.token.Sign.TheVariants as s
use Rattle.source_grammar.specs.Faults.{kinds}
use Rattle.source_grammar.specs.Grammar.{token, sign, word}
use Rattle.source_grammar.specs.declared.choice.Prefix.TheVariants as prefix
use Rattle.source_grammar.specs.declared.choice.Side.TheVariants as side
use Rattle.source_grammar.specs.Inside.Next.{is_word, is_sign, prefix_word, side_word}
use Rattle.source_grammar.specs.declared.choice.TyForm.TheVariants as ty
use Rattle.source_grammar.specs.declared.choice.ExprForm.TheVariants as expr
use Rattle.source_grammar.specs.declared.choice.TailForm.TheVariants as tail
use Rattle.source_grammar.specs.declared.choice.ActionForm.TheVariants as action
use Rattle.source_grammar.specs.Inside.Machine.{Symbol, End, parens, brackets, variables, rule, halt, go_on, AName, AWord, ASign, AtEnd, BehindComma, More, Separated, Listed, Ty, TyOf, TyMid, Expr, ExprOf, Inside, Bracketed, Behind, Joined, AJoint, Block, Binds, Bind, Tail, TailOf, Action, ActionOf, CallOpen, CallPriorities, Program, Priority, Order, Procedure, Main, Routine, HeadOpen, HeadVariables, HeadEnd, HeadClose, HeadGiven, Given}
use Rattle.source_grammar.specs.Inside.Machine as m
use Rattle.source_grammar.proofs.CommaLists.{halt-separated}
use Rattle.source_grammar.proofs.Steps.{halt-some}

-- What is left is a part of the tokens.
left_by : (o : Option (List Symbol)) (xs : List Symbol) (here ts r : List Token) → length ts ≤ length here
    → ((ys : List Symbol) → halt ys ts ≡ Some r → length r ≤ length ts) → go_on o xs here (λ ys. halt ys ts) ≡ Some r → length r ≤ length here
left_by None xs here ts r l ih h = let e : here ≡ r = cc in omega (arith, ap length e)
left_by (Some ys) xs here ts r l ih h = omega (arith, ih (ys ++ xs) h)

pub halt_left : (ts : List Token) (xs : List Symbol) (r : List Token) → halt xs ts ≡ Some r → length r ≤ length ts
unfolding halt
halt_left [] [] r h = absurd (cc)
halt_left [] (x ∷ xs) r h = let e : [] ≡ r = cc in omega (arith, ap length e)
halt_left (t ∷ ts) [] r h = let e : t ∷ ts ≡ r = cc in omega (arith, ap length e)
halt_left (t ∷ ts) (x ∷ xs) r h = left_by (rule x t.kind) xs (t ∷ ts) ts r (omega arith) (λ ys. halt_left ts ys r) h

rest_by : (o : Option (List Symbol)) (xs : List Symbol) (t : Token) (ts r : List Token)
    → ((ys : List Symbol) → halt ys ts ≡ Some r → (before : List Token) × (ts ≡ before ++ r))
    → go_on o xs (t ∷ ts) (λ ys. halt ys ts) ≡ Some r → (before : List Token) × (t ∷ ts ≡ before ++ r)
rest_by None xs t ts r ih h = ([], cc)
rest_by (Some ys) xs t ts r ih h = let p = ih (ys ++ xs) h in (t ∷ p.0, ap (λ z. t ∷ z) p.1)

pub halt_rest : (ts : List Token) (xs : List Symbol) (r : List Token) → halt xs ts ≡ Some r → (before : List Token) × (ts ≡ before ++ r)
unfolding halt
halt_rest [] [] r h = absurd (cc)
halt_rest [] (x ∷ xs) r h = ([], cc)
halt_rest (t ∷ ts) [] r h = ([], cc)
halt_rest (t ∷ ts) (x ∷ xs) r h = rest_by (rule x t.kind) xs t ts r (λ ys. halt_rest ts ys r) h

-- Each symbol stands for some tokens.
abbrev a_name : Token
a_name = token 0 (k.Name 0)

abbrev completion_end : End → List Token
completion_end parens = sign 0 s.CloseParen ∷ []
completion_end brackets = sign 0 s.CloseBracket ∷ []
completion_end variables = sign 0 s.CloseBracket ∷ sign 0 s.OpenParen ∷ []

abbrev completion : Symbol → List Token
completion AName = a_name ∷ []
completion (AWord x) = word 0 x ∷ []
completion (ASign x) = sign 0 x ∷ []
completion (AtEnd e) = completion_end e
completion (BehindComma x) = sign 0 s.Comma ∷ completion x
completion (More x e) = completion_end e
completion (Separated x e) = completion x ++ completion_end e
completion (Listed x e) = completion_end e
completion (ExprOf (expr.Applied p)) = word 0 (prefix_word p) ∷ sign 0 s.OpenParen ∷ a_name ∷ sign 0 s.CloseParen ∷ []
completion (ExprOf (expr.Injected d)) = word 0 (side_word d) ∷ sign 0 s.OpenBracket ∷ word 0 w.Int ∷ sign 0 s.CloseBracket ∷ sign 0 s.OpenParen ∷ a_name ∷ sign 0 s.CloseParen ∷ []
completion Ty = word 0 w.Int ∷ []
completion (TyOf ty.Simple) = word 0 w.Int ∷ []
completion (TyOf ty.Thread) = word 0 w.Thread ∷ sign 0 s.OpenBracket ∷ a_name ∷ sign 0 s.CloseBracket ∷ sign 0 s.OpenParen ∷ word 0 w.Int ∷ sign 0 s.CloseParen ∷ []
completion (TyOf ty.Paired) = sign 0 s.OpenParen ∷ word 0 w.Int ∷ sign 0 s.Star ∷ word 0 w.Int ∷ sign 0 s.CloseParen ∷ []
completion TyMid = sign 0 s.Star ∷ []
completion Expr = a_name ∷ []
completion (ExprOf expr.Leaf) = a_name ∷ []
completion (ExprOf expr.Opened) = sign 0 s.OpenParen ∷ sign 0 s.CloseParen ∷ []
completion Inside = sign 0 s.CloseParen ∷ []
completion Bracketed = a_name ∷ sign 0 s.CloseParen ∷ []
completion Behind = sign 0 s.CloseParen ∷ []
completion Joined = sign 0 s.Comma ∷ a_name ∷ sign 0 s.CloseParen ∷ []
completion AJoint = sign 0 s.Comma ∷ []
completion Block = sign 0 s.OpenBrace ∷ word 0 w.Ret ∷ a_name ∷ sign 0 s.CloseBrace ∷ []
completion Binds = word 0 w.Ret ∷ a_name ∷ sign 0 s.CloseBrace ∷ []
completion Bind = a_name ∷ sign 0 s.Arrow ∷ word 0 w.Ret ∷ a_name ∷ sign 0 s.Semicolon ∷ []
completion Tail = word 0 w.Ret ∷ a_name ∷ []
completion (TailOf tail.Ret) = word 0 w.Ret ∷ a_name ∷ []
completion (TailOf tail.If) = word 0 w.If ∷ a_name ∷ sign 0 s.OpenBrace ∷ word 0 w.Ret ∷ a_name ∷ sign 0 s.CloseBrace ∷ word 0 w.Else ∷ sign 0 s.OpenBrace ∷ word 0 w.Ret ∷ a_name ∷ sign 0 s.CloseBrace ∷ []
completion (TailOf tail.Case) = word 0 w.Case ∷ a_name ∷ word 0 w.Inl ∷ a_name ∷ sign 0 s.OpenBrace ∷ word 0 w.Ret ∷ a_name ∷ sign 0 s.CloseBrace ∷ word 0 w.Inr ∷ a_name ∷ sign 0 s.OpenBrace ∷ word 0 w.Ret ∷ a_name ∷ sign 0 s.CloseBrace ∷ []
completion Action = word 0 w.Ret ∷ a_name ∷ []
completion (ActionOf action.Ret) = word 0 w.Ret ∷ a_name ∷ []
completion (ActionOf action.Spawn) = word 0 w.Spawn ∷ sign 0 s.OpenBracket ∷ a_name ∷ sign 0 s.CloseBracket ∷ sign 0 s.OpenBrace ∷ word 0 w.Ret ∷ a_name ∷ sign 0 s.CloseBrace ∷ []
completion (ActionOf action.Sync) = word 0 w.Sync ∷ a_name ∷ []
completion (ActionOf action.Call) = word 0 w.Call ∷ a_name ∷ sign 0 s.OpenParen ∷ sign 0 s.CloseParen ∷ []
completion (ActionOf action.Do) = word 0 w.Do ∷ sign 0 s.OpenBrace ∷ word 0 w.Ret ∷ a_name ∷ sign 0 s.CloseBrace ∷ []
completion (ActionOf action.Input) = word 0 w.Input ∷ []
completion (ActionOf action.Output) = word 0 w.Output ∷ a_name ∷ []
completion CallOpen = sign 0 s.OpenParen ∷ []
completion CallPriorities = sign 0 s.OpenBracket ∷ sign 0 s.CloseBracket ∷ sign 0 s.OpenParen ∷ []
completion Program = word 0 w.Main ∷ word 0 w.At ∷ a_name ∷ sign 0 s.Colon ∷ word 0 w.Int ∷ sign 0 s.OpenBrace ∷ word 0 w.Ret ∷ a_name ∷ sign 0 s.CloseBrace ∷ []
completion Priority = word 0 w.Priority ∷ a_name ∷ sign 0 s.Semicolon ∷ []
completion Order = word 0 w.Order ∷ a_name ∷ sign 0 s.Less ∷ a_name ∷ sign 0 s.Semicolon ∷ []
completion Procedure = word 0 w.Proc ∷ a_name ∷ sign 0 s.OpenParen ∷ sign 0 s.CloseParen ∷ word 0 w.At ∷ a_name ∷ sign 0 s.Colon ∷ word 0 w.Int ∷ sign 0 s.OpenBrace ∷ word 0 w.Ret ∷ a_name ∷ sign 0 s.CloseBrace ∷ []
completion Main = word 0 w.Main ∷ word 0 w.At ∷ a_name ∷ sign 0 s.Colon ∷ word 0 w.Int ∷ sign 0 s.OpenBrace ∷ word 0 w.Ret ∷ a_name ∷ sign 0 s.CloseBrace ∷ []
completion Routine = word 0 w.At ∷ a_name ∷ sign 0 s.Colon ∷ word 0 w.Int ∷ sign 0 s.OpenBrace ∷ word 0 w.Ret ∷ a_name ∷ sign 0 s.CloseBrace ∷ []
completion HeadOpen = sign 0 s.OpenParen ∷ []
completion HeadVariables = sign 0 s.OpenBracket ∷ sign 0 s.CloseBracket ∷ sign 0 s.OpenParen ∷ []
completion HeadEnd = sign 0 s.CloseBracket ∷ sign 0 s.OpenParen ∷ []
completion HeadClose = sign 0 s.CloseBracket ∷ sign 0 s.OpenParen ∷ []
completion HeadGiven = sign 0 s.Semicolon ∷ a_name ∷ sign 0 s.AtMost ∷ a_name ∷ sign 0 s.CloseBracket ∷ sign 0 s.OpenParen ∷ []
completion Given = a_name ∷ sign 0 s.AtMost ∷ a_name ∷ []
completion m.Parameter = a_name ∷ sign 0 s.Colon ∷ word 0 w.Int ∷ []

abbrev completions : List Symbol → List Token
completions [] = []
completions (x ∷ xs) = completion x ++ completions xs

word_itself : (x : Word) → is_word x (k.Word x) ≡ true
word_itself x = grind (arith, nat_tests)

sign_itself : (x : Sign) → is_sign x (k.Sign x) ≡ true
sign_itself x = grind (arith, nat_tests)

end_completes : (e : End) (xs : List Symbol) (ts : List Token) → halt (AtEnd e ∷ xs) (completion_end e ++ ts) ≡ halt xs ts
unfolding halt
end_completes parens xs ts = refl
end_completes brackets xs ts = refl
end_completes variables xs ts = refl

more_completes : (x : Symbol) (e : End) (xs : List Symbol) (ts : List Token) → halt (More x e ∷ xs) (completion_end e ++ ts) ≡ halt xs ts
unfolding halt
more_completes x parens xs ts = refl
more_completes x brackets xs ts = refl
more_completes x variables xs ts = refl

listed_completes : (x : Symbol) (e : End) (xs : List Symbol) (ts : List Token) → halt (Listed x e ∷ xs) (completion_end e ++ ts) ≡ halt xs ts
unfolding halt
listed_completes x parens xs ts = refl
listed_completes x brackets xs ts = refl
listed_completes x variables xs ts = refl

completes : (x : Symbol) (xs : List Symbol) (ts : List Token) → halt (x ∷ xs) (completion x ++ ts) ≡ halt xs ts
unfolding halt
completes (AWord x) xs ts = ap (λ b. go_on (cond b (Some []) None) xs (word 0 x ∷ ts) (λ ys. halt ys ts)) (word_itself x)
completes (ASign x) xs ts = ap (λ b. go_on (cond b (Some []) None) xs (sign 0 x ∷ ts) (λ ys. halt ys ts)) (sign_itself x)
completes (AtEnd e) xs ts = end_completes e xs ts
completes (BehindComma x) xs ts = completes x xs ts
completes (More x e) xs ts = more_completes x e xs ts
completes (Separated x e) xs ts =
    halt-separated x e xs _ ∙ ap (halt (x ∷ More x e ∷ xs)) (append_assoc (completion x) (completion_end e) ts) ∙ completes x (More x e ∷ xs) (completion_end e ++ ts) ∙ more_completes x e xs ts
completes (Listed x e) xs ts = listed_completes x e xs ts
completes (TyOf ty.Simple) xs ts = refl
completes (TyOf _) xs ts = refl
completes (ExprOf (expr.Applied prefix.First)) xs ts = refl
completes (ExprOf (expr.Applied _)) xs ts = refl
completes (ExprOf (expr.Injected side.Left)) xs ts = refl
completes (ExprOf (expr.Injected side.Right)) xs ts = refl
completes (ExprOf _) xs ts = refl
completes (TailOf tail.Ret) xs ts = refl
completes (TailOf _) xs ts = refl
completes (ActionOf action.Ret) xs ts = refl
completes (ActionOf _) xs ts = refl
completes _ xs ts = refl

completed : (xs : List Symbol) → halt xs (completions xs) ≡ None
unfolding halt
completed [] = refl
completed (x ∷ xs) = completes x xs (completions xs) ∙ completed xs

-- Tokens at whose end the machine wants more can go on to what it takes.
ends_by : (o : Option (List Symbol)) (xs : List Symbol) (t : Token) (ts : List Token)
    → ((ys : List Symbol) → halt ys ts ≡ Some [] → (more : List Token) × (halt ys (ts ++ more) ≡ None))
    → go_on o xs (t ∷ ts) (λ ys. halt ys ts) ≡ Some [] → (more : List Token) × (go_on o xs (t ∷ (ts ++ more)) (λ ys. halt ys (ts ++ more)) ≡ None)
ends_by None xs t ts ih h = absurd (cc)
ends_by (Some ys) xs t ts ih h = ih (ys ++ xs) h

pub goes_on : (ts : List Token) (xs : List Symbol) → halt xs ts ≡ Some [] → (more : List Token) × (halt xs (ts ++ more) ≡ None)
unfolding halt
goes_on [] [] h = absurd (cc)
goes_on [] (x ∷ xs) h = (completions (x ∷ xs), completed (x ∷ xs))
goes_on (t ∷ ts) [] h = absurd (cc)
goes_on (t ∷ ts) (x ∷ xs) h = ends_by (rule x t.kind) xs t ts (goes_on ts) h

-- The tokens before the one that the machine refuses can go on to what it takes, and together with it they cannot.
pub record RefusedAt (xs : List Symbol) (before : List Token) (t : Token) : Type 0 where
  pub without : (more : List Token) × (halt xs (before ++ more) ≡ None)
  pub with : (more : List Token) → halt xs (before ++ t ∷ more) ≢ None

at_once : (o : Option (List Symbol)) (xs : List Symbol) (t : Token) (ts : List Token) → go_on o xs (t ∷ ts) (λ ys. halt ys ts) ≡ Some (t ∷ ts) → o ≡ None
at_once None xs t ts h = refl
at_once (Some ys) xs t ts h = absurd (omega (arith, halt_left ts (ys ++ xs) (t ∷ ts) h))

refused_by : (o : Option (List Symbol)) (xs : List Symbol) (b : Token) (bs : List Token) (t : Token) (ts : List Token)
    → ((ys : List Symbol) → halt ys (bs ++ t ∷ ts) ≡ Some (t ∷ ts) → RefusedAt ys bs t)
    → go_on o xs (b ∷ (bs ++ t ∷ ts)) (λ ys. halt ys (bs ++ t ∷ ts)) ≡ Some (t ∷ ts)
    → (ys : List Symbol) × (o ≡ Some ys) × RefusedAt (ys ++ xs) bs t
refused_by None xs b bs t ts ih h = let e : b ∷ (bs ++ t ∷ ts) ≡ t ∷ ts = cc in absurd (omega (arith, ap length e, length-append bs (t ∷ ts)))
refused_by (Some ys) xs b bs t ts ih h = (ys, refl, ih (ys ++ xs) h)

pub refused_at : (before : List Token) (xs : List Symbol) (t : Token) (ts : List Token) → halt xs (before ++ t ∷ ts) ≡ Some (t ∷ ts) → RefusedAt xs before t
unfolding halt
refused_at [] [] t ts h = record { without = ([], refl); with = λ more e. cc }
refused_at [] (x ∷ xs) t ts h =
    let o = at_once (rule x t.kind) xs t ts h in
    record { without = (completions (x ∷ xs), completed (x ∷ xs)); with = λ more e. let n : go_on None xs (t ∷ more) (λ ys. halt ys more) ≡ None = rw o at e in cc }
refused_at (b ∷ bs) [] t ts h = let e : b ∷ (bs ++ t ∷ ts) ≡ t ∷ ts = cc in absurd (omega (arith, ap length e, length-append bs (t ∷ ts)))
refused_at (b ∷ bs) (x ∷ xs) t ts h =
    let p = refused_by (rule x b.kind) xs b bs t ts (λ ys. refused_at bs ys t ts) h in
    record {
      without = (p.2.without.0, halt-some x xs p.0 b (bs ++ p.2.without.0) p.1 ∙ p.2.without.1);
      with = λ more e. p.2.with more (sym (halt-some x xs p.0 b (bs ++ t ∷ more) p.1) ∙ e);
    }

-- The machine reads kinds alone.
kinds_by : (o : Option (List Symbol)) (xs : List Symbol) (t u : Token) (ts us : List Token) → ((ys : List Symbol) → halt ys ts ≡ None → halt ys us ≡ None)
    → go_on o xs (t ∷ ts) (λ ys. halt ys ts) ≡ None → go_on o xs (u ∷ us) (λ ys. halt ys us) ≡ None
kinds_by None xs t u ts us ih h = absurd (cc)
kinds_by (Some ys) xs t u ts us ih h = ih (ys ++ xs) h

pub same_kinds : (ts us : List Token) (xs : List Symbol) → kinds ts ≡ kinds us → halt xs ts ≡ None → halt xs us ≡ None
unfolding halt
same_kinds [] [] xs e h = h
same_kinds [] (u ∷ us) xs e h = absurd (cc)
same_kinds (t ∷ ts) [] xs e h = absurd (cc)
same_kinds (t ∷ ts) (u ∷ us) [] e h = absurd (cc)
same_kinds (t ∷ ts) (u ∷ us) (x ∷ xs) e h =
    let i : kinds ts ≡ kinds us = cc in
    let j : t.kind ≡ u.kind = cc in
    let r = kinds_by (rule x t.kind) xs t u ts us (λ ys. same_kinds ts us ys i) h in
    subst (λ z. go_on (rule x z) xs (u ∷ us) (λ ys. halt ys us) ≡ None) j r
