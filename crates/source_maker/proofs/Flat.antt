-- The text of a main, with its number at three places.
use Rattle.std.proofs.Common.{◌≡◌, ℕ, List, ◌++◌, append_assoc, [], ◌∷◌, ap, ◌∙◌}
use Rattle.std.specs.Prelude.{codes}
use Rattle.std.specs.Fmt.{decimal}
use Rattle.source_maker.specs.Text.{text_of, main_lines}

-- the bytes before the first number, and behind each
abbrev pub before : List ℕ
before = text_of (codes "main at ui : int {" ∷ []) ++ codes "  h <- spawn[bg] { x <- call chain("

abbrev pub behind_first : List ℕ
behind_first = text_of (codes "); ret x };" ∷ []) ++ codes "  u <- output "

abbrev pub behind_second : List ℕ
behind_second = text_of (codes ";" ∷ []) ++ codes "  ret "

abbrev pub behind_third : List ℕ
behind_third = 10 ∷ text_of (codes "}" ∷ [])

abbrev pub main_text : ℕ → List ℕ
main_text n = before ++ (decimal n ++ (behind_first ++ (decimal n ++ (behind_second ++ (decimal n ++ behind_third)))))

pub flat : (n : ℕ) → text_of (main_lines n) ≡ main_text n
flat n =
    ap (λ t. before ++ t) (append_assoc (decimal n) (codes "); ret x };") (10 ∷ text_of ((codes "  u <- output " ++ decimal n ++ codes ";") ∷ (codes "  ret " ++ decimal n) ∷ codes "}" ∷ []))
    ∙ ap (λ t. decimal n ++ (behind_first ++ t)) (append_assoc (decimal n) (codes ";") (10 ∷ text_of ((codes "  ret " ++ decimal n) ∷ codes "}" ∷ []))))
