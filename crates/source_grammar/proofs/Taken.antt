-- What the first symbol takes, where the symbols stand for the tokens.
use Rattle.std.proofs.Common.{ℕ, ◌<◌, List, [], ◌∷◌, ◌++◌, ◌≡◌, Some, None, Option, Bool, true, false, cond, ◌==◌, length, slice_get, sym, refl, ap, ◌∙◌, arith}
use Rattle.std.proofs.lemmas.Bool.{eqb-true}
use Rattle.source_tokens.specs.declared.token.Token.{Token}
use Rattle.source_tokens.specs.declared.token.Kind.{Kind}
use Rattle.source_tokens.specs.declared.token.Kind.TheVariants as k
use Rattle.source_tokens.specs.declared.token.Word.{Word}
use Rattle.source_tokens.specs.declared.token.Word.TheVariants as w
use Rattle.source_tokens.specs.declared.token.Sign.{Sign}
use Rattle.source_tokens.specs.declared.token.Sign.TheVariants as s
use Rattle.source_grammar.specs.declared.raw.Name.{Name}
use Rattle.source_grammar.specs.Grammar.{token, name}
use Rattle.source_grammar.specs.Inside.Joined.{IsToken}
use Rattle.source_grammar.specs.Inside.Next.{word_number, sign_number}
use Rattle.source_tokens.proofs.Tables.{words, signs, same_item}
use Rattle.source_grammar.specs.Inside.Machine.{Symbol, rule, halt, go_on, by_form, AName, AWord, ASign}

-- A word and a sign are known by their numbers.
word_back : (x : Word) → slice_get words (word_number x) ≡ Some x
word_back w.Priority = refl
word_back _ = refl

sign_back : (x : Sign) → slice_get signs (sign_number x) ≡ Some x
sign_back s.Arrow = refl
sign_back _ = refl

word_same : (x y : Word) → (word_number x == word_number y) ≡ true → x ≡ y
word_same x y h = same_item words x y _ _ (word_back x) (word_back y) (eqb-true (word_number x) (word_number y) h)

pub sign_same : (x y : Sign) → (sign_number x == sign_number y) ≡ true → x ≡ y
sign_same x y h = same_item signs x y _ _ (sign_back x) (sign_back y) (eqb-true (sign_number x) (sign_number y) h)

-- The first symbol has a rule for the first token.
record Took (x : Symbol) (xs : List Symbol) (t : Token) (ts : List Token) : Type 0 where
  next : List Symbol
  by : rule x t.kind ≡ Some next
  takes : halt (next ++ xs) ts ≡ None

took_by : (o : Option (List Symbol)) (xs : List Symbol) (here ts : List Token) → go_on o xs here (λ zs. halt zs ts) ≡ None
    → (ys : List Symbol) × (o ≡ Some ys) × (halt (ys ++ xs) ts ≡ None)
took_by None xs here ts h = absurd (cc)
took_by (Some ys) xs here ts h = (ys, refl, h)

took : (x : Symbol) (xs : List Symbol) (t : Token) (ts : List Token) → halt (x ∷ xs) (t ∷ ts) ≡ None → Took x xs t ts
unfolding halt
took x xs t ts h = let p = took_by (rule x t.kind) xs (t ∷ ts) ts h in record { next = p.0; by = p.1; takes = p.2 }

pub not_at_end : {A : Type 0} (x : Symbol) (xs : List Symbol) → halt (x ∷ xs) [] ≡ None → A
unfolding halt
not_at_end x xs h = absurd (cc)

-- The tokens begin with this kind, and the symbols behind it take the rest.
pub record BeginsWith (kind : Kind) (xs : List Symbol) (ts : List Token) : Type 0 where
  pub at : ℕ
  pub rest : List Token
  pub is : ts ≡ token at kind ∷ rest
  pub shorter : length rest < length ts
  pub takes : halt xs rest ≡ None

begins : (kind : Kind) (x : Symbol) → ((other : Kind) (ys : List Symbol) → rule x other ≡ Some ys → (other ≡ kind) × (ys ≡ []))
    → (xs : List Symbol) (ts : List Token) → halt (x ∷ xs) ts ≡ None → BeginsWith kind xs ts
begins kind x rules xs [] h = not_at_end x xs h
begins kind x rules xs (t ∷ ts) h =
    let p = took x xs t ts h in
    let q = rules t.kind p.next p.by in
    record { at = t.at; rest = ts; is = ap (λ z. token t.at z ∷ ts) q.0; shorter = omega arith; takes = rw q.1 at p.takes }

only : (b : Bool) (ys : List Symbol) → cond b (Some []) None ≡ Some ys → (b ≡ true) × (ys ≡ [])
only true ys h = (refl, cc)
only false ys h = absurd (cc)

word_rule : (x : Word) (kind : Kind) (ys : List Symbol) → rule (AWord x) kind ≡ Some ys → (kind ≡ k.Word x) × (ys ≡ [])
word_rule x (k.Word y) ys h = let p = only (word_number x == word_number y) ys h in (ap k.Word (sym (word_same x y p.0)), p.1)
word_rule x (k.Name n) ys h = absurd (cc)
word_rule x (k.Number n) ys h = absurd (cc)
word_rule x (k.Sign y) ys h = absurd (cc)

sign_rule : (x : Sign) (kind : Kind) (ys : List Symbol) → rule (ASign x) kind ≡ Some ys → (kind ≡ k.Sign x) × (ys ≡ [])
sign_rule x (k.Sign y) ys h = let p = only (sign_number x == sign_number y) ys h in (ap k.Sign (sym (sign_same x y p.0)), p.1)
sign_rule x (k.Name n) ys h = absurd (cc)
sign_rule x (k.Number n) ys h = absurd (cc)
sign_rule x (k.Word y) ys h = absurd (cc)

pub word_taken : (x : Word) (xs : List Symbol) (ts : List Token) → halt (AWord x ∷ xs) ts ≡ None → BeginsWith (k.Word x) xs ts
word_taken x xs ts h = begins (k.Word x) (AWord x) (word_rule x) xs ts h

pub sign_taken : (x : Sign) (xs : List Symbol) (ts : List Token) → halt (ASign x ∷ xs) ts ≡ None → BeginsWith (k.Sign x) xs ts
sign_taken x xs ts h = begins (k.Sign x) (ASign x) (sign_rule x) xs ts h

-- The tokens begin with a name.
pub record BeginsWithName (xs : List Symbol) (ts : List Token) : Type 0 where
  pub it : Name
  pub rest : List Token
  pub is : ts ≡ name it ∷ rest
  pub shorter : length rest < length ts
  pub takes : halt xs rest ≡ None

name_here : (xs : List Symbol) (at : ℕ) (kind : Kind) (ts : List Token) → halt (AName ∷ xs) (token at kind ∷ ts) ≡ None → BeginsWithName xs (token at kind ∷ ts)
unfolding halt
name_here xs at (k.Name n) ts h = record { it = record { at = at; id = n }; rest = ts; is = refl; shorter = omega arith; takes = h }
name_here xs at (k.Number n) ts h = absurd (cc)
name_here xs at (k.Word x) ts h = absurd (cc)
name_here xs at (k.Sign x) ts h = absurd (cc)

pub name_taken : (xs : List Symbol) (ts : List Token) → halt (AName ∷ xs) ts ≡ None → BeginsWithName xs ts
name_taken xs [] h = not_at_end AName xs h
name_taken xs (t ∷ ts) h = name_here xs t.at t.kind ts h

-- The first token has a form.
pub record BeginsWithForm {F : Type 0} (form : Kind → Option F) (xs : List Symbol) (ts : List Token) : Type 0 where
  pub it : F
  pub rest : List Token
  pub is : IsToken form ts rest it
  pub shorter : length rest < length ts
  pub takes : halt xs rest ≡ None

form_by : {F : Type 0} (o : Option F) (ys : List Symbol) → by_form o (λ f. Some []) None ≡ Some ys → (f : F) × (o ≡ Some f) × (ys ≡ [])
form_by (Some f) ys h = (f, refl, cc)
form_by None ys h = absurd (cc)

pub form_taken : {F : Type 0} (x : Symbol) (form : Kind → Option F) (xs : List Symbol) (ts : List Token) → ((kind : Kind) → rule x kind ≡ by_form (form kind) (λ f. Some []) None)
    → halt (x ∷ xs) ts ≡ None → BeginsWithForm form xs ts
form_taken x form xs [] same h = not_at_end x xs h
form_taken x form xs (t ∷ ts) same h =
    let p = took x xs t ts h in
    let q = form_by (form t.kind) p.next (sym (same t.kind) ∙ p.by) in
    record { it = q.0; rest = ts; is = (t, refl, q.1); shorter = omega arith; takes = rw q.2 at p.takes }

-- Nothing is left where nothing is to come.
pub nothing_left : (ts : List Token) → halt [] ts ≡ None → ts ≡ []
unfolding halt
nothing_left [] h = refl
nothing_left (t ∷ ts) h = absurd (cc)
