-- The tokens of the text of a number.
use Rattle.std.proofs.Common.{◌≡◌, ℕ, ◌+◌, ◌*◌, ◌^◌, ◌<◌, List, [], ◌∷◌, ◌++◌, length, true, refl, sym, ◌∙◌, ap, subst, arith, length-append}
use Rattle.std.specs.Fmt.{decimal}
use Rattle.std.proofs.lemmas.Bool.{lt-ltb}
use Rattle.source_tokens.specs.declared.token.Token.{Token}
use Rattle.source_tokens.specs.declared.token.Stop.TheVariants as stop
use Rattle.source_tokens.specs.Lexemes.{here, separator}
use Rattle.source_tokens.specs.Lexes.{IsLexed, Lexes, done}
use Rattle.source_maker.specs.Text.{text_of, declaration_lines, leaf_lines, chain_lines, made_text}
use Rattle.source_maker.proofs.Flat.{flat}
use Rattle.source_maker.proofs.Pieces.{names, Piece, spelling, render, width, tokens, checked}
use Rattle.source_maker.proofs.Lexing.{lexes}
use Rattle.source_maker.proofs.Sample.{declaration_pieces, leaf_pieces, chain_pieces, main_start, main_next, main_last, main_end}

declarations_checked : (rest : List ℕ) → checked declaration_pieces 0 0 rest ≡ true
declarations_checked rest = refl

leaf_checked : (rest : List ℕ) → checked leaf_pieces 0 2 rest ≡ true
leaf_checked rest = refl

chain_checked : (rest : List ℕ) → checked chain_pieces 0 5 rest ≡ true
chain_checked rest = refl

end_checked : checked main_end 1 10 (10 ∷ []) ≡ true
end_checked = refl

module _ (n : ℕ) (small : n < 2 ^ 63) where
  last_checked : checked (main_last n) 1 10 (render main_end (10 ∷ [])) ≡ true
  last_checked = rw (lt-ltb n (2 ^ 63) small) refl

  next_checked : checked (main_next n) 3 10 (render (main_last n) (render main_end (10 ∷ []))) ≡ true
  next_checked = rw (lt-ltb n (2 ^ 63) small) refl

  start_checked : checked (main_start n) 0 10 (render (main_next n) (render (main_last n) (render main_end (10 ∷ [])))) ≡ true
  start_checked = rw (lt-ltb n (2 ^ 63) small) refl

size : (ps : List Piece) (rest : List ℕ) → length (render ps rest) ≡ width ps + length rest
size [] rest = omega arith
size (p ∷ ps) rest = omega (arith, length-append p.gap (spelling p.written ++ render ps rest), length-append (spelling p.written) (render ps rest), size ps rest)

-- the text behind its declarations, behind each procedure, and behind each number
abbrev last_text : ℕ → List ℕ
last_text n = render (main_last n) (render main_end (10 ∷ []))

abbrev next_text : ℕ → List ℕ
next_text n = render (main_next n) (last_text n)

abbrev start_text : ℕ → List ℕ
start_text n = render (main_start n) (next_text n)

abbrev chain_text : ℕ → List ℕ
chain_text n = render chain_pieces (start_text n)

abbrev leaf_text : ℕ → List ℕ
leaf_text n = render leaf_pieces (chain_text n)

abbrev whole_text : ℕ → List ℕ
whole_text n = render declaration_pieces (leaf_text n)

same_text : (n : ℕ) → whole_text n ≡ made_text n
same_text n = ap (λ t. text_of declaration_lines ++ text_of leaf_lines ++ text_of chain_lines ++ t) (sym (flat n))

-- the tokens, at the same places of the text
module _ (n : ℕ) where
  abbrev digits : ℕ
  digits = length (decimal n)

  abbrev last_tokens : List Token
  last_tokens = tokens (2 * digits) 377 (main_last n) (tokens (3 * digits) 385 main_end [])

  abbrev pub main_tokens : List Token
  main_tokens = tokens 0 296 (main_start n) (tokens digits 351 (main_next n) last_tokens)

  abbrev pub whole_tokens : List Token
  whole_tokens = tokens 0 0 declaration_pieces (tokens 0 40 leaf_pieces (tokens 0 112 chain_pieces main_tokens))

  module _ (small : n < 2 ^ 63) where
    last_lexed : (total : ℕ) → total ≡ 2 * digits + (377 + length (last_text n)) → Lexes total 1 names (last_text n) last_tokens names stop.Done
    last_lexed total e =
        let s : length (last_text n) ≡ 8 + (digits + length (render main_end (10 ∷ []))) = size (main_last n) (render main_end (10 ∷ [])) ∙ omega arith in
        lexes total (2 * digits) (main_last n) 377 1 10 (render main_end (10 ∷ [])) (tokens (3 * digits) 385 main_end []) (omega arith) (last_checked n small) e
        (lexes total (3 * digits) main_end 385 1 10 (10 ∷ []) [] (omega arith) end_checked (omega (arith, e, s)) (done (separator 10 [] refl refl (here refl refl)) refl refl refl))

    main_lexed : (total : ℕ) → total ≡ 296 + length (start_text n) → Lexes total 0 names (start_text n) main_tokens names stop.Done
    main_lexed total e =
        let s : length (start_text n) ≡ 55 + (digits + length (next_text n)) = size (main_start n) (next_text n) ∙ omega arith in
        let t : length (next_text n) ≡ 26 + (digits + length (last_text n)) = size (main_next n) (last_text n) ∙ omega arith in
        lexes total 0 (main_start n) 296 0 10 (next_text n) (tokens digits 351 (main_next n) last_tokens) (omega arith) (start_checked n small) (omega (arith, e))
        (lexes total digits (main_next n) 351 3 10 (last_text n) last_tokens (omega arith) (next_checked n small) (omega (arith, e, s))
        (last_lexed total (omega (arith, e, s, t))))

    whole_lexed : IsLexed (whole_text n) whole_tokens names stop.Done
    whole_lexed =
        let total = length (whole_text n) in
        let s : total ≡ 40 + length (leaf_text n) = size declaration_pieces (leaf_text n) in
        let t : length (leaf_text n) ≡ 72 + length (chain_text n) = size leaf_pieces (chain_text n) in
        let u : length (chain_text n) ≡ 184 + length (start_text n) = size chain_pieces (start_text n) in
        lexes total 0 declaration_pieces 0 0 0 (leaf_text n) (tokens 0 40 leaf_pieces (tokens 0 112 chain_pieces main_tokens)) (omega arith) (declarations_checked (leaf_text n)) (omega arith)
        (lexes total 0 leaf_pieces 40 0 2 (chain_text n) (tokens 0 112 chain_pieces main_tokens) (omega arith) (leaf_checked (chain_text n)) (omega (arith, s))
        (lexes total 0 chain_pieces 112 0 5 (start_text n) main_tokens (omega arith) (chain_checked (start_text n)) (omega (arith, s, t))
        (main_lexed total (omega (arith, s, t, u)))))

    pub made_lexed : IsLexed (made_text n) whole_tokens names stop.Done
    made_lexed = subst (λ text. IsLexed text whole_tokens names stop.Done) (same_text n) whole_lexed
