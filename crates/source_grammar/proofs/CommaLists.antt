-- Lists with commas: their forms, and what one token does to their symbols.
use Rattle.std.proofs.Common.{ℕ, List, [], ◌∷◌, ◌++◌, ◌≡◌, Some, None, Option, true, false, cond, map, refl, sym, ap, ◌∙◌}
use Rattle.source_tokens.specs.declared.token.Token.{Token}
use Rattle.source_tokens.specs.declared.token.Kind.{Kind}
use Rattle.source_tokens.specs.declared.token.Kind.TheVariants as k
use Rattle.source_tokens.specs.declared.token.Sign.TheVariants as s
use Rattle.source_grammar.specs.Grammar.{sign, IsSeparated, IsListed}
use Rattle.source_grammar.specs.Inside.Joined.{IsBehindComma}
use Rattle.source_grammar.specs.Inside.Next.{is_at, is_end, is_sign}
use Rattle.source_grammar.specs.Inside.Machine.{Symbol, End, parens, brackets, variables, rule, rule_end, halt, and_then, or_else, ASign, AtEnd, BehindComma, More, Separated, Listed}
use Rattle.source_grammar.specs.Inside.Ends.{BeginsOtherwise}
use Rattle.source_grammar.proofs.Steps.{begins, begins_here, halt-end, tested}

-- Forms.
separated_push : {A : Type 0} {Is : List Token → List Token → A → Type 0} {ts us rest : List Token} {xs : List A} {x : A} (comma : ℕ)
    → IsSeparated Is ts (sign comma s.Comma ∷ us) xs → Is us rest x → IsSeparated Is ts rest (xs ++ x ∷ [])
separated_push comma (IsSeparated.one h) g = IsSeparated.more comma h (IsSeparated.one g)
separated_push comma (IsSeparated.more c h hs) g = IsSeparated.more c h (separated_push comma hs g)

pub separated_behind : {A : Type 0} {Is : List Token → List Token → A → Type 0} {ts us rest : List Token} {xs : List A} {x : A}
    → IsSeparated Is ts us xs → IsBehindComma Is us rest x → IsSeparated Is ts rest (xs ++ x ∷ [])
separated_behind h b = separated_push b.0 (rw b.2 at h) b.3

pub separated_map : {A B : Type 0} {Is : List Token → List Token → B → Type 0} (f : A → B) {ts rest : List Token} {xs : List A}
    → IsSeparated (λ us vs x. Is us vs (f x)) ts rest xs → IsSeparated Is ts rest (map f xs)
separated_map f (IsSeparated.one h) = IsSeparated.one h
separated_map f (IsSeparated.more c h hs) = IsSeparated.more c h (separated_map f hs)

pub listed_map : {A B : Type 0} {Is : List Token → List Token → B → Type 0} (f : A → B) {ts rest : List Token} {xs : List A}
    → IsListed (λ us vs x. Is us vs (f x)) ts rest xs → IsListed Is ts rest (map f xs)
listed_map f IsListed.none = IsListed.none
listed_map f (IsListed.some h) = IsListed.some (separated_map f h)

-- Symbols.
pub halt-separated : (x : Symbol) (e : End) (xs : List Symbol) (ts : List Token) → halt (Separated x e ∷ xs) ts ≡ halt (x ∷ More x e ∷ xs) ts
halt-separated x e xs ts = begins _ _ (More x e ∷ []) xs ts (λ kind. refl)

pub halt-behind_comma : (x : Symbol) (xs : List Symbol) (ts : List Token) → halt (BehindComma x ∷ xs) ts ≡ halt (ASign s.Comma ∷ x ∷ xs) ts
halt-behind_comma x xs ts = begins _ _ (x ∷ []) xs ts (λ kind. refl)

or_none : (o : Option (List Symbol)) → or_else o None ≡ o
or_none None = refl
or_none (Some us) = refl

end_none : (e : End) (kind : Kind) → is_end kind ≡ false → rule_end e kind ≡ None
end_none parens (k.Sign s.CloseParen) h = cc
end_none brackets (k.Sign s.CloseBracket) h = cc
end_none variables (k.Sign s.CloseBracket) h = cc
end_none variables (k.Sign s.Semicolon) h = cc
end_none _ _ h = refl

listed_end : (x : Symbol) (e : End) (kind : Kind) → BeginsOtherwise x → is_end kind ≡ true → rule (Listed x e) kind ≡ rule (AtEnd e) kind
listed_end x e kind other h = ap (λ o. or_else (rule_end e kind) (and_then (More x e ∷ []) o)) (other kind h) ∙ or_none (rule_end e kind)

pub listed-end : (x : Symbol) (e : End) (xs : List Symbol) (ts : List Token) → BeginsOtherwise x → is_at is_end ts ≡ true → halt (Listed x e ∷ xs) ts ≡ halt (AtEnd e ∷ xs) ts
listed-end x e xs ts other h = tested (Listed x e) (AtEnd e) is_end true xs ts (λ kind i. listed_end x e kind other i) h

listed_more : (x : Symbol) (e : End) (kind : Kind) → is_end kind ≡ false → rule (Listed x e) kind ≡ rule (Separated x e) kind
listed_more x e kind h = ap (λ o. or_else o (and_then (More x e ∷ []) (rule x kind))) (end_none e kind h)

pub listed-more : (x : Symbol) (e : End) (xs : List Symbol) (ts : List Token) → is_at is_end ts ≡ false → halt (Listed x e ∷ xs) ts ≡ halt (Separated x e ∷ xs) ts
listed-more x e xs ts h = tested (Listed x e) (Separated x e) is_end false xs ts (λ kind i. listed_more x e kind i) h

comma_begins : (x : Symbol) (e : End) (kind : Kind) → is_sign s.Comma kind ≡ true → rule (More x e) kind ≡ and_then (More x e ∷ []) (rule (BehindComma x) kind)
comma_begins x e kind h =
    ap (λ b. cond b (Some (x ∷ More x e ∷ [])) (rule_end e kind)) h ∙ sym (ap (λ b. and_then (More x e ∷ []) (and_then (x ∷ []) (cond b (Some []) None))) h)

pub more-comma : (x : Symbol) (e : End) (xs : List Symbol) (ts : List Token) → is_at (is_sign s.Comma) ts ≡ true → halt (More x e ∷ xs) ts ≡ halt (BehindComma x ∷ More x e ∷ xs) ts
more-comma x e xs [] h = halt-end _ _ _ _
more-comma x e xs (t ∷ ts) h = begins_here (More x e) (BehindComma x) (More x e ∷ []) xs t ts (comma_begins x e t.kind h)

pub more-end : (x : Symbol) (e : End) (xs : List Symbol) (ts : List Token) → is_at (is_sign s.Comma) ts ≡ false → halt (More x e ∷ xs) ts ≡ halt (AtEnd e ∷ xs) ts
more-end x e xs ts h = tested (More x e) (AtEnd e) (is_sign s.Comma) false xs ts (λ kind i. ap (λ b. cond b (Some (x ∷ More x e ∷ [])) (rule_end e kind)) i) h

pub ruleset lists = (halt-separated, halt-behind_comma, listed-end, listed-more, more-comma, more-end)
