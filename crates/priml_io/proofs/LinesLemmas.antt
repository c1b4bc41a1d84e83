-- The lines of a text, line by line.
use Rattle.std.proofs.Common.{◌≡◌, ◌≢◌, ◌==◌, ℕ, ◌<◌, Bool, true, false, if◌then◌else◌, List, [], ◌∷◌, ◌++◌, length, All, refl, sym, ap, ◌∙◌, arith, append_assoc, append-nil, inl, inr, ◌⊎◌}
use Rattle.std.proofs.lemmas.List.Elements.{All-head, All-tail}
use Rattle.std.proofs.lemmas.Bool.Decides.{nat_tests}
use Rattle.priml_io.specs.Lines.{lines, lines_from}
use Rattle.priml_io.specs.Sections.{IsRow, IsWhole}

-- worked texts: no line, a line that ends, a line that a last one follows, and an empty line
worked-none : lines [] ≡ []
worked-none = refl

worked-ended : lines (97 ∷ 10 ∷ []) ≡ (97 ∷ []) ∷ []
worked-ended = refl

worked-two : lines (97 ∷ 10 ∷ 98 ∷ []) ≡ (97 ∷ []) ∷ (98 ∷ []) ∷ []
worked-two = refl

worked-empty : lines (10 ∷ 10 ∷ []) ≡ [] ∷ [] ∷ []
worked-empty = refl

lines_from-byte : (so_far : List ℕ) (b : ℕ) (bs : List ℕ) → b ≢ 10 → lines_from so_far (b ∷ bs) ≡ lines_from (so_far ++ b ∷ []) bs
lines_from-byte so_far b bs n = grind (arith, nat_tests)

lines_from-line : (so_far line bs : List ℕ) → All (λ b. b ≢ 10) line → lines_from so_far (line ++ 10 ∷ bs) ≡ (so_far ++ line) ∷ lines bs
lines_from-line so_far [] bs p = ap (λ v. v ∷ lines bs) (sym (append-nil so_far))
lines_from-line so_far (b ∷ line) bs p =
    lines_from-byte so_far b (line ++ 10 ∷ bs) (All-head (λ b. b ≢ 10) b line p) ∙ lines_from-line (so_far ++ b ∷ []) line bs (All-tail (λ b. b ≢ 10) b line p) ∙ ap (λ v. v ∷ lines bs) (append_assoc so_far (b ∷ []) line)

lines_from-last : (so_far line : List ℕ) → All (λ b. b ≢ 10) line → lines_from so_far line ≡ lines_from (so_far ++ line) []
lines_from-last so_far [] p = ap (λ v. lines_from v []) (sym (append-nil so_far))
lines_from-last so_far (b ∷ line) p =
    lines_from-byte so_far b line (All-head (λ b. b ≢ 10) b line p) ∙ lines_from-last (so_far ++ b ∷ []) line (All-tail (λ b. b ≢ 10) b line p) ∙ ap (λ v. lines_from v []) (append_assoc so_far (b ∷ []) line)

-- a line that ends in a line feed is the first
pub lines-line : (line bs : List ℕ) → All (λ b. b ≢ 10) line → lines (line ++ 10 ∷ bs) ≡ line ∷ lines bs
lines-line line bs p = lines_from-line [] line bs p

-- a text with no line feed is one line
pub lines-last : (b : ℕ) (line : List ℕ) → All (λ b. b ≢ 10) (b ∷ line) → lines (b ∷ line) ≡ (b ∷ line) ∷ []
lines-last b line p = lines_from-last [] (b ∷ line) p

lines_from-whole : (so_far prefix back : List ℕ) → lines_from so_far (prefix ++ 10 ∷ back) ≡ lines_from so_far (prefix ++ 10 ∷ []) ++ lines back
lines_from-whole so_far [] back = refl
lines_from-whole so_far (b ∷ prefix) back =
    let at : Bool → Type 0 = λ t. (if t then so_far ∷ lines_from [] (prefix ++ 10 ∷ back) else lines_from (so_far ++ b ∷ []) (prefix ++ 10 ∷ back)) ≡ (if t then so_far ∷ lines_from [] (prefix ++ 10 ∷ []) else lines_from (so_far ++ b ∷ []) (prefix ++ 10 ∷ [])) ++ lines back in
    elim (b == 10) as at [ true ↦ ap (λ v. so_far ∷ v) (lines_from-whole [] prefix back) | false ↦ lines_from-whole (so_far ++ b ∷ []) prefix back ]

-- the lines of a text of whole lines, and then those of what follows
pub lines-append : (prefix back : List ℕ) → IsWhole prefix → lines (prefix ++ back) ≡ lines prefix ++ lines back
lines-append prefix back (inl e) = rw e refl
lines-append prefix back (inr (most, e)) = rw e (ap lines (append_assoc most (10 ∷ []) back) ∙ lines_from-whole [] most back)

-- the bytes of one line are one line
pub lines-row : (bytes line after : List ℕ) → IsRow bytes line after → 0 < length bytes → lines bytes ≡ line ∷ []
lines-row bytes line after row some = go line row.plain row.ended some where
  go : (line : List ℕ) → All (λ b. b ≢ 10) line → (bytes ≡ line ++ 10 ∷ []) ⊎ ((bytes ≡ line) × (after ≡ [])) → 0 < length bytes → lines bytes ≡ line ∷ []
  go line p (inl e) l = rw e (lines-line line [] p)
  go [] p (inr q) l = absurd (omega (arith, ap length q.0))
  go (b ∷ line) p (inr q) l = rw q.0 (lines-last b line p)
