-- A text begins with one part, one line and one section at most.
use Rattle.std.proofs.Common.{drop, Bool, true, false, if◌then◌else◌, ◌==◌, ◌≡◌, ◌≢◌, ℕ, ◌<◌, ◌≤◌, ◌⊎◌, List, [], ◌∷◌, ◌++◌, length, codes, All, get_or, refl, sym, ap, ◌∙◌, arith, append_assoc, append-nil, length-append, inl, inr}
use Rattle.std.proofs.Math.Seq.{drop-append_seam}
use Rattle.std.proofs.lemmas.List.{drop-append-le, take-append-drop}
use Rattle.std.proofs.lemmas.List.Elements.{All-head, All-tail, All-drop}
use Rattle.priml_io.specs.Lines.{lines, lines_from}
use Rattle.priml_io.specs.Sections.{IsMarked, IsRow, IsWhole, IsPart}
use Rattle.priml_io.proofs.LinesLemmas.{lines-append}
use Rattle.priml_io.proofs.SectionsLemmas.{marked-append}

-- of two texts that begin one text, one begins the other
pub two_fronts : (a b c d : List ℕ) → a ++ b ≡ c ++ d → ((more : List ℕ) × (c ≡ a ++ more) × (b ≡ more ++ d)) ⊎ ((more : List ℕ) × (a ≡ c ++ more) × (d ≡ more ++ b))
two_fronts [] b c d e = inl (c, refl, e)
two_fronts (x ∷ a) b [] d e = inr (x ∷ a, refl, sym e)
two_fronts (x ∷ a) b (y ∷ c) d e =
    let same : x ≡ y = cc in
    let rest : a ++ b ≡ c ++ d = cc in
    elim (two_fronts a b c d rest) [
      | inl p ↦ inl (p.0, (let q : c ≡ a ++ p.0 = p.1 in cc), p.2)
      | inr p ↦ inr (p.0, (let q : a ≡ c ++ p.0 = p.1 in cc), p.2)
    ]

-- the end of a text of whole lines that a text of whole lines begins
whole-rest : (prefix back : List ℕ) → 0 < length back → IsWhole (prefix ++ back) → IsWhole back
whole-rest prefix back some (inl e) = absurd (omega (arith, ap length e, length-append prefix back))
whole-rest prefix back some (inr (most, e)) =
    let short : length prefix ≤ length most = omega (arith, ap length e, length-append prefix back, length-append most (10 ∷ [])) in
    inr (drop (length prefix) most, sym (drop-append_seam prefix back) ∙ ap (λ v. drop (length prefix) v) e ∙ drop-append-le (length prefix) most (10 ∷ []) short)

whole-byte : (b : ℕ) → IsWhole (b ∷ []) → b ≡ 10
whole-byte b (inl e) = absurd (omega (arith, ap length e))
whole-byte b (inr ([], e)) = cc
whole-byte b (inr (x ∷ most, e)) = absurd (omega (arith, ap length e, length-append most (10 ∷ [])))

-- a text of whole lines before a marked one does not end within the mark
front-marked : (prefix after : List ℕ) → 0 < length prefix → IsWhole prefix → IsMarked (prefix ++ after) → IsMarked prefix
front-marked [] after some w m = absurd (omega arith)
front-marked (a ∷ []) after some w m =
    let e : a ≡ 61 = ap (λ v. get_or v 0 0) m in
    absurd (omega (arith, e, whole-byte a w))
front-marked (a ∷ b ∷ []) after some w m =
    let e : b ≡ 61 = ap (λ v. get_or v 1 0) m in
    absurd (omega (arith, e, whole-byte b (whole-rest (a ∷ []) (b ∷ []) (omega arith) w)))
front-marked (a ∷ b ∷ c ∷ prefix) after some w m = m

-- a line of which a marked text was read is marked
marked-read : (line text : List ℕ) → IsMarked line → ¬ All (λ v. ¬ IsMarked v) (lines_from line text)
marked-read [] [] m all = absurd (omega (arith, ap length m))
marked-read (x ∷ xs) [] m all = All-head (λ v. ¬ IsMarked v) (x ∷ xs) [] all m
marked-read line (b ∷ bs) m all =
    let at : Bool → Type 0 = λ t. ¬ All (λ v. ¬ IsMarked v) (if t then line ∷ lines_from [] bs else lines_from (line ++ b ∷ []) bs) in
    (elim (b == 10) as at [
      | true ↦ λ h. All-head (λ v. ¬ IsMarked v) line (lines_from [] bs) h m
      | false ↦ marked-read (line ++ b ∷ []) bs (marked-append line (b ∷ []) m)
    ])
    all

-- a marked text has a marked line
marked-line : (text : List ℕ) → IsMarked text → ¬ All (λ line. ¬ IsMarked line) (lines text)
marked-line text m all =
    let is : text ≡ codes "===" ++ drop 3 text = sym (take-append-drop 3 text) ∙ ap (λ v. v ++ drop 3 text) m in
    go (drop 3 text) text is all where
      go : (rest text : List ℕ) → text ≡ codes "===" ++ rest → ¬ All (λ line. ¬ IsMarked line) (lines text)
      go rest text e h = marked-read (codes "===") rest refl (rw e at h)

marked-alone : (text after : List ℕ) → after ≡ [] → IsMarked (text ++ after) → IsMarked text
marked-alone text after e m = rw (e, append-nil text) at m

pub rest-all : (P : List ℕ → Type 0) (prefix rest : List (List ℕ)) → All P (prefix ++ rest) → All P rest
rest-all P prefix rest all = rw drop-append_seam at (All-drop P (length prefix) (prefix ++ rest) all)

-- where a part ends, no longer part ends
no_longer : (part more after : List ℕ) → IsPart part (more ++ after) → IsPart (part ++ more) after → more ≡ []
no_longer part [] after p q = refl
no_longer part (b ∷ more) after p q = absurd (go p.ended q.ended) where
  plain : IsWhole part → All (λ line. ¬ IsMarked line) (lines (b ∷ more))
  plain w = rest-all (λ line. ¬ IsMarked line) (lines part) (lines (b ∷ more)) (rw (lines-append part (b ∷ more) w) at q.plain)

  go : ((b ∷ more) ++ after ≡ []) ⊎ (IsWhole part × IsMarked ((b ∷ more) ++ after)) → (after ≡ []) ⊎ (IsWhole (part ++ b ∷ more) × IsMarked after) → ⊥
  go (inl e) r = omega (arith, ap length e)
  go (inr (w, m)) (inl e) = marked-line (b ∷ more) (marked-alone (b ∷ more) after e m) (plain w)
  go (inr (w, m)) (inr v) = marked-line (b ∷ more) (front-marked (b ∷ more) after (omega arith) (whole-rest part (b ∷ more) (omega arith) v.0) m) (plain w)

-- a part that a part begins is that part
same_part : (part more after part' after' : List ℕ) → part' ≡ part ++ more → after ≡ more ++ after' → IsPart part after → IsPart part' after' → (part ≡ part') × (after ≡ after')
same_part part more after part' after' e f p q =
    let none : more ≡ [] = no_longer part more after' (rw f at p) (rw e at q) in
    (sym (append-nil part) ∙ ap (λ v. part ++ v) (sym none) ∙ sym e, f ∙ ap (λ v. v ++ after') none)

-- a text begins with one part that ends where the text ends or where a marked line begins
pub one_part : (program after program' after' : List ℕ) → program ++ after ≡ program' ++ after' → IsPart program after → IsPart program' after' → (program ≡ program') × (after ≡ after')
one_part program after program' after' e p q =
    elim (two_fronts program after program' after' e) [
      | inl t ↦ same_part program t.0 after program' after' t.1 t.2 p q
      | inr t ↦ let same = same_part program' t.0 after' program after t.1 t.2 q p in (sym same.0, sym same.1)
    ]

no_feed : (line line' rest : List ℕ) → All (λ b. b ≢ 10) line' → line ++ 10 ∷ rest ≢ line'
no_feed line [] rest p e = omega (arith, ap length e, length-append line (10 ∷ rest))
no_feed [] (y ∷ line') rest p e = All-head (λ b. b ≢ 10) y line' p cc
no_feed (x ∷ line) (y ∷ line') rest p e = no_feed line line' rest (All-tail (λ b. b ≢ 10) y line' p) cc

one_feed : (line line' rest rest' : List ℕ) → All (λ b. b ≢ 10) line → All (λ b. b ≢ 10) line' → line ++ 10 ∷ rest ≡ line' ++ 10 ∷ rest' → (line ≡ line') × (rest ≡ rest')
one_feed [] [] rest rest' p q e = (refl, cc)
one_feed [] (y ∷ line') rest rest' p q e = absurd (All-head (λ b. b ≢ 10) y line' q cc)
one_feed (x ∷ line) [] rest rest' p q e = absurd (All-head (λ b. b ≢ 10) x line p cc)
one_feed (x ∷ line) (y ∷ line') rest rest' p q e =
    let first : x ≡ y = cc in
    let more = one_feed line line' rest rest' (All-tail (λ b. b ≢ 10) x line p) (All-tail (λ b. b ≢ 10) y line' q) cc in
    let same : line ≡ line' = more.0 in
    (cc, more.1)

fed : (bytes line after : List ℕ) → bytes ≡ line ++ 10 ∷ [] → bytes ++ after ≡ line ++ 10 ∷ after
fed bytes line after e = rw e (append_assoc line (10 ∷ []) after)

unfed : (bytes line after : List ℕ) → (bytes ≡ line) × (after ≡ []) → bytes ++ after ≡ line
unfed bytes line after e = rw (e.1, append-nil bytes) e.0

-- a text begins with one line
pub one_row : (bytes line after bytes' line' after' : List ℕ) → bytes ++ after ≡ bytes' ++ after' → IsRow bytes line after → IsRow bytes' line' after' → (bytes ≡ bytes') × (line ≡ line') × (after ≡ after')
one_row bytes line after bytes' line' after' e row row' = go row.ended row'.ended where
  go : (bytes ≡ line ++ 10 ∷ []) ⊎ ((bytes ≡ line) × (after ≡ [])) → (bytes' ≡ line' ++ 10 ∷ []) ⊎ ((bytes' ≡ line') × (after' ≡ [])) → (bytes ≡ bytes') × (line ≡ line') × (after ≡ after')
  go (inl p) (inl q) =
      let same = one_feed line line' after after' row.plain row'.plain (sym (fed bytes line after p) ∙ e ∙ fed bytes' line' after' q) in
      (p ∙ ap (λ v. v ++ 10 ∷ []) same.0 ∙ sym q, same.0, same.1)
  go (inl p) (inr q) = absurd (no_feed line line' after row'.plain (sym (fed bytes line after p) ∙ e ∙ unfed bytes' line' after' q))
  go (inr p) (inl q) = absurd (no_feed line' line after' row.plain (sym (fed bytes' line' after' q) ∙ sym e ∙ unfed bytes line after p))
  go (inr p) (inr q) =
      let same = sym (unfed bytes line after p) ∙ e ∙ unfed bytes' line' after' q in
      (p.0 ∙ same ∙ sym q.0, same, p.1 ∙ sym q.1)
