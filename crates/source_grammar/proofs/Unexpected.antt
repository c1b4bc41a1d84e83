-- The place where a text leaves the grammar.
use Rattle.std.proofs.Common.{ℕ, ◌+◌, List, [], ◌∷◌, ◌++◌, ◌≡◌, Option, Some, None, length, take, length-append, sym, refl, ap, ◌∙◌, arith, append_assoc, slice_get, MatchOption}
use Rattle.std.proofs.Math.Seq.{get_or-append_seam}
use Rattle.std.proofs.lemmas.Option.{slice_get-get_or, slice_get_past}
use Rattle.std.proofs.lemmas.Grind.{common_steps}
use Rattle.source_tokens.specs.declared.token.Token.{Token}
use Rattle.source_grammar.specs.Faults.{kinds, Viable, IsUnexpected}
use Rattle.source_grammar.specs.Inside.Machine.{halt, Program}
use Rattle.source_grammar.proofs.Moves.{no_program, program_moves}
use Rattle.source_grammar.proofs.SoundBlocks.{program_found}
use Rattle.source_grammar.proofs.Viable.{goes_on, refused_at, same_kinds, halt_rest}

kinds-append : (ts us : List Token) → kinds (ts ++ us) ≡ kinds ts ++ kinds us
kinds-append [] us = refl
kinds-append (t ∷ ts) us = ap (λ z. t.kind ∷ z) (kinds-append ts us)

viable_from : (before more : List Token) → halt (Program ∷ []) (before ++ more) ≡ None → Viable (kinds before)
viable_from before more h = let p = program_found (before ++ more) h in record { tokens = before; more = more; tree = p.0; same = refl; is = p.1 }

not_viable : (us : List Token) → ((more : List Token) → halt (Program ∷ []) (us ++ more) ≡ None → ⊥) → Viable (kinds us) → ⊥
not_viable us f v =
    let e : kinds (v.tokens ++ v.more) ≡ kinds (us ++ v.more) = kinds-append v.tokens v.more ∙ ap (λ z. z ++ kinds v.more) v.same ∙ sym (kinds-append us v.more) in
    f v.more (same_kinds (v.tokens ++ v.more) (us ++ v.more) (Program ∷ []) e (program_moves v.is))

take_before : (before r : List Token) → take (length before) (before ++ r) ≡ before
take_before [] r = grind (arith, common_steps)
take_before (b ∷ bs) r = ap (λ z. b ∷ z) (take_before bs r)

take_with : (before r : List Token) (t : Token) → take (length before + 1) (before ++ t ∷ r) ≡ before ++ t ∷ []
take_with before r t =
    let e : before ++ t ∷ r ≡ (before ++ t ∷ []) ++ r = sym (append_assoc before (t ∷ []) r) in
    let l : length (before ++ t ∷ []) ≡ length before + 1 = omega (arith, length-append before (t ∷ [])) in
    rw (e, ← l) (take_before (before ++ t ∷ []) r)

take_all : (ts : List Token) → take (length ts) ts ≡ ts
take_all [] = refl
take_all (t ∷ ts) = ap (λ z. t ∷ z) (take_all ts)

at_end : (ts : List Token) → halt (Program ∷ []) ts ≡ Some [] → IsUnexpected ts (length ts)
at_end ts h =
    let g = goes_on ts (Program ∷ []) h in
    record {
      within = omega arith;
      before = rw (take_all ts) (viable_from ts g.0 g.1);
      here = λ l. absurd (omega arith);
      none = no_program h;
    }

at_token : (before r : List Token) (t : Token) → halt (Program ∷ []) (before ++ t ∷ r) ≡ Some (t ∷ r) → IsUnexpected (before ++ t ∷ r) (length before)
at_token before r t h =
    let g = refused_at before (Program ∷ []) t r h in
    record {
      within = omega (arith, length-append before (t ∷ r));
      before = rw (take_before before (t ∷ r)) (viable_from before g.without.0 g.without.1);
      here = λ l v. not_viable (before ++ t ∷ []) (λ more i. g.with more (rw (append_assoc before (t ∷ []) more) at i)) (rw (take_with before r t) at v);
      none = no_program h;
    }

pub placed : (ts before r : List Token) (n : ℕ) → ts ≡ before ++ r → n ≡ length before → halt (Program ∷ []) ts ≡ Some r → IsUnexpected ts n
placed ts before [] n e l h = let m : n ≡ length ts = omega (arith, ap length e, length-append before []) in rw m (at_end ts h)
placed ts before (t ∷ r) n e l h = rw (e, l) (at_token before r t (rw e at h))

seam : (before r : List Token) (t : Token) → slice_get (before ++ t ∷ r) (length before) ≡ Some t
seam before r t = slice_get-get_or (before ++ t ∷ r) (length before) t (omega (arith, length-append before (t ∷ r))) ∙ ap Some (get_or-append_seam before t r t)

found_at : (ts before r : List Token) (t : Option Token) → ts ≡ before ++ r → MatchOption t (r ≡ []) (λ x. (us : List Token) × (r ≡ x ∷ us)) → slice_get ts (length before) ≡ t
found_at ts before r None e empty = slice_get_past ts (length before) (omega (arith, ap length e, length-append before r, ap length empty))
found_at ts before r (Some x) e some = ap (λ l. slice_get l (length before)) (e ∙ ap (λ l. before ++ l) some.1) ∙ seam before some.0 x

-- the first token that is left is the one with which the text leaves the grammar
pub unexpected : (ts r : List Token) (t : Option Token) → halt (Program ∷ []) ts ≡ Some r → MatchOption t (r ≡ []) (λ x. (us : List Token) × (r ≡ x ∷ us))
    → (n : ℕ) × IsUnexpected ts n × (slice_get ts n ≡ t)
unexpected ts r t h first =
    let p = halt_rest ts (Program ∷ []) r h in
    (length p.0, placed ts p.0 r (length p.0) p.1 refl h, found_at ts p.0 r t p.1 first)
