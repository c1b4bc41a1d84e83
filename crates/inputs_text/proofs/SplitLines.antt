-- The lines of a text, and the texts between its line feeds.
use Rattle.std.proofs.Common.{◌≡◌, ℕ, ◌<◌, Bool, true, false, ◌==◌, List, [], ◌∷◌, ◌++◌, length, refl, sym, ap, inl, inr, ◌⊎◌, arith, append_assoc, append-nil, cond, if◌then◌else◌}
use Rattle.std.specs.List.{slice_split, onto_first}
use Rattle.std.proofs.lemmas.List.Splits.{length-slice_split}
use Rattle.priml_io.specs.Lines.{lines, lines_from}

-- the lines, or the lines and an empty text behind the last line feed
abbrev pub Ends : List (List ℕ) → List (List ℕ) → Type 0
Ends ls pieces = (pieces ≡ ls) ⊎ (pieces ≡ ls ++ [] ∷ [])

abbrev behind : List ℕ → List (List ℕ) → List (List ℕ)
behind prefix [] = prefix ∷ []
behind prefix (piece ∷ pieces) = (prefix ++ piece) ∷ pieces

ends-more : (x : List ℕ) (ls pieces : List (List ℕ)) → Ends ls pieces → Ends (x ∷ ls) (x ∷ pieces)
ends-more x ls pieces (inl e) = inl (ap (λ v. x ∷ v) e)
ends-more x ls pieces (inr e) = inr (ap (λ v. x ∷ v) e)

behind-none : (pieces : List (List ℕ)) → 0 < length pieces → behind [] pieces ≡ pieces
behind-none [] h = absurd (omega arith)
behind-none (x ∷ xs) h = refl

behind-first : (prefix : List ℕ) (b : ℕ) (pieces : List (List ℕ)) → behind prefix (onto_first b pieces) ≡ behind (prefix ++ b ∷ []) pieces
behind-first prefix b [] = refl
behind-first prefix b (x ∷ xs) = ap (λ v. v ∷ xs) (sym (append_assoc prefix (b ∷ []) x))

ends-from : (prefix text : List ℕ) → Ends (lines_from prefix text) (behind prefix (slice_split (λ b. b == 10) text))
ends-from [] [] = inr refl
ends-from (x ∷ xs) [] = inl (ap (λ v. v ∷ []) (append-nil (x ∷ xs)))
ends-from prefix (b ∷ bs) = go (b == 10) (λ f. ends-from f bs)
  where
    go : (t : Bool) → ((f : List ℕ) → Ends (lines_from f bs) (behind f (slice_split (λ b. b == 10) bs)))
        → Ends (if t then prefix ∷ lines_from [] bs else lines_from (prefix ++ b ∷ []) bs) (behind prefix (cond t ([] ∷ slice_split (λ b. b == 10) bs) (onto_first b (slice_split (λ b. b == 10) bs))))
    go true rest =
        let last : Ends (lines_from [] bs) (slice_split (λ b. b == 10) bs) = rw (behind-none (slice_split (λ b. b == 10) bs) (omega (arith, length-slice_split (λ b. b == 10) bs))) at (rest []) in
        rw (append-nil prefix) (ends-more prefix (lines_from [] bs) (slice_split (λ b. b == 10) bs) last)
    go false rest = rw (behind-first prefix b (slice_split (λ b. b == 10) bs)) (rest (prefix ++ b ∷ []))

-- a text cut at its line feeds gives its lines
pub ends-lines : (text : List ℕ) → Ends (lines text) (slice_split (λ b. b == 10) text)
ends-lines text = rw (behind-none (slice_split (λ b. b == 10) text) (omega (arith, length-slice_split (λ b. b == 10) text))) at (ends-from [] text)
