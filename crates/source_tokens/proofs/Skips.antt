-- What stands between tokens by the rule, and by the lexer's look at each byte.
use Rattle.std.proofs.Common.{◌≡◌, ℕ, List, [], ◌∷◌, ◌++◌, Bool, true, false, ◌&&◌, refl, sym, ap, subst, ◌∙◌, arith}
use Rattle.std.specs.Prelude.{IsTrue, not, ◌==◌}
use Rattle.std.proofs.lemmas.Bool.{and_from, and_parts, not_from_false}
use Rattle.std.proofs.lemmas.Bool.Decides.{nat_tests}
use Rattle.source_tokens.specs.Lexemes.{is_separator, is_line, ends_line, ends_gap, Skips, here, separator, comment}
use Rattle.source_tokens.specs.Inside.Gaps.{is_passed, behind, begins}
use Rattle.source_tokens.proofs.Gaps.{passed, no_comment}

line_feed : (b : ℕ) → (b == 10) ≡ true → is_separator b ≡ true
line_feed b e = grind (arith, nat_tests)

hash : (b : ℕ) → (b == 35) ≡ true → b ≡ 35
hash b e = grind (arith, nat_tests)

stays : (b : ℕ) → is_separator b ≡ false → (b == 35) ≡ false → is_passed false b ≡ false
stays b s e = grind (arith, nat_tests)

stands : (b : ℕ) → (not (is_separator b) && not (b == 35)) ≡ true → is_passed false b ≡ false
stands b e = grind (arith, nat_tests)

-- inside a comment: the rest of its line, and what is left behind that
record IsOpen (bs : List ℕ) : Type 0 where
  said : List ℕ
  more : List ℕ
  cut : bs ≡ said ++ more
  line : IsTrue (is_line said)
  ended : IsTrue (ends_line more)
  left : Skips more (behind true bs)

record IsOver (bs : List ℕ) : Type 0 where
  outside : Skips bs (begins bs)
  inside : IsOpen bs

opened : (b : ℕ) (bs : List ℕ) → IsOver bs → (t : Bool) → (b == 10) ≡ t → IsOpen (b ∷ bs)
opened b bs over true f =
    record { said = []; more = b ∷ bs; cut = refl; line = refl; ended = f; left = subst (λ x. Skips (b ∷ bs) (behind (not x) bs)) (sym f) (separator b bs refl (line_feed b f) over.outside) }
opened b bs over false f =
    let o = over.inside in
    record {
      said = b ∷ o.said;
      more = o.more;
      cut = ap (λ l. b ∷ l) o.cut;
      line = and_from (not (b == 10)) (is_line o.said) (not_from_false (b == 10) f) o.line;
      ended = o.ended;
      left = subst (λ x. Skips o.more (behind (not x) bs)) (sym f) o.left;
    }

stood : (b : ℕ) (bs : List ℕ) → IsOver bs → (s t : Bool) → is_separator b ≡ s → (b == 35) ≡ t → Skips (b ∷ bs) (begins (b ∷ bs))
stood b bs over true t s e =
    let p = passed b s in
    let k = no_comment b s in
    rw (p, k) (separator b bs refl s over.outside)
stood b bs over false true s e =
    let o = over.inside in
    let is = hash b e in
    let whole : b ∷ bs ≡ 35 ∷ (o.said ++ o.more) = ap (λ c. c ∷ bs) is ∙ ap (λ l. 35 ∷ l) o.cut in
    subst (λ c. Skips (b ∷ bs) (begins (c ∷ bs))) (sym is) (comment o.said o.more whole o.line o.ended o.left)
stood b bs over false false s e =
    let p = stays b s e in
    rw p (here (and_from (not (is_separator b)) (not (b == 35)) (not_from_false (is_separator b) s) (not_from_false (b == 35) e)) refl)

over : (bs : List ℕ) → IsOver bs
over [] = record { outside = here refl refl; inside = record { said = []; more = []; cut = refl; line = refl; ended = refl; left = here refl refl } }
over (b ∷ bs) = record { outside = stood b bs (over bs) (is_separator b) (b == 35) refl refl; inside = opened b bs (over bs) (b == 10) refl }

-- what the lexer comes to is left behind a gap
pub skips_to : {bs left : List ℕ} → begins bs ≡ left → Skips bs left
skips_to {bs} e = subst (Skips bs) e (over bs).outside

over_line : (said more : List ℕ) → IsTrue (is_line said) → behind true (said ++ more) ≡ behind true more
over_line [] more line = refl
over_line (b ∷ said) more line =
    let parts = and_parts (not (b == 10)) (is_line said) line in
    ap (λ x. behind x (said ++ more)) parts.0 ∙ over_line said more parts.1

line_end : (more : List ℕ) → IsTrue (ends_line more) → behind true more ≡ begins more
line_end [] e = refl
line_end (b ∷ bs) e =
    let p = passed b (line_feed b e) in
    let k = no_comment b (line_feed b e) in
    let here : begins (b ∷ bs) ≡ begins bs = rw (p, k) refl in
    ap (λ x. behind (not x) bs) e ∙ sym here

nothing : (bs : List ℕ) → IsTrue (ends_gap bs) → begins bs ≡ bs
nothing [] e = refl
nothing (b ∷ bs) e = let p = stands b e in rw p refl

-- and nothing else is
pub begun : {bs left : List ℕ} → Skips bs left → begins bs ≡ left
begun {bs} (here ends e) = nothing bs ends ∙ sym e
begun (separator b more e s h) =
    let p = passed b s in
    let k = no_comment b s in
    let there : begins (b ∷ more) ≡ begins more = rw (p, k) refl in
    ap begins e ∙ there ∙ begun h
begun (comment said more e line ended h) = ap begins e ∙ over_line said more line ∙ line_end more ended ∙ begun h
