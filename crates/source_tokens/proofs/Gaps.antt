-- What stands before a token.
use Rattle.std.proofs.Common.{◌≡◌, ℕ, ◌<◌, List, [], ◌∷◌, Bool, true, false, length, drop, get_or, refl, sym, ap, ◌∙◌, arith}
use Rattle.std.specs.List.{prefix_len}
use Rattle.std.proofs.Math.Numerals.{one-add}
use Rattle.std.proofs.lemmas.Bool.Decides.{nat_tests}
use Rattle.source_tokens.specs.Lexemes.{is_separator}
use Rattle.source_tokens.specs.Inside.Gaps.{is_passed, keeps_comment, begins}
use Rattle.source_tokens.proofs.Longest.{run_stops}

pub passed : (b : ℕ) → is_separator b ≡ true → is_passed false b ≡ true
passed b e = grind (arith, nat_tests)

pub no_comment : (b : ℕ) → is_separator b ≡ true → keeps_comment false b ≡ false
no_comment b e = grind (arith, nat_tests)

not_passed : (b : ℕ) → is_separator b ≡ false → (b ≡ 35 → ⊥) → is_passed false b ≡ false
not_passed b e other = grind (arith, nat_tests)

-- separators at the front make no difference
pub begins_behind : (bs : List ℕ) → begins (drop (prefix_len is_separator bs) bs) ≡ begins bs
begins_behind [] = refl
begins_behind (b ∷ bs) = go (is_separator b) refl (begins_behind bs)
  where
    go : (t : Bool) → is_separator b ≡ t → begins (drop (prefix_len is_separator bs) bs) ≡ begins bs → begins (drop (prefix_len is_separator (b ∷ bs)) (b ∷ bs)) ≡ begins (b ∷ bs)
    go true e rest =
        let p = passed b e in
        let k = no_comment b e in
        rw (p, k, e, one-add) rest
    go false e rest =
        let none : prefix_len is_separator (b ∷ bs) ≡ 0 = rw e refl in
        ap (λ n. begins (drop n (b ∷ bs))) none

-- behind them a token begins, or a comment
pub begins_here : (bs rest : List ℕ) → rest ≡ drop (prefix_len is_separator bs) bs → (0 < length rest → get_or rest 0 0 ≡ 35 → ⊥) → begins rest ≡ rest
begins_here bs [] e other = refl
begins_here bs (b ∷ more) e other =
    let p = not_passed b (run_stops is_separator bs b more (sym e)) (other (omega arith)) in
    rw p refl

-- where a token begins behind the separators
pub gap_token : (bs rest : List ℕ) (n : ℕ) → n ≡ prefix_len is_separator bs → rest ≡ drop n bs → (0 < length rest → get_or rest 0 0 ≡ 35 → ⊥) → rest ≡ begins bs
gap_token bs rest n len e other =
    let there : rest ≡ drop (prefix_len is_separator bs) bs = e ∙ ap (λ m. drop m bs) len in
    sym (begins_here bs rest there other) ∙ ap begins there ∙ begins_behind bs

-- where a comment begins there
pub gap_comment : (bs rest found : List ℕ) (n : ℕ) → n ≡ prefix_len is_separator bs → rest ≡ drop n bs → found ≡ begins rest → found ≡ begins bs
gap_comment bs rest found n len e h = h ∙ ap begins (e ∙ ap (λ m. drop m bs) len) ∙ begins_behind bs
