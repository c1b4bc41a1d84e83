-- What the search for the next section keeps, line by line.
use Rattle.std.proofs.Common.{drop, get_or, Option, None, Some, is_some, IsSome, Bool, true, false, ◌≡◌, ◌≢◌, ℕ, ◌+◌, ◌-◌, ◌<◌, ◌≤◌, List, [], ◌∷◌, ◌++◌, length, take, All, refl, sym, ap, ◌∙◌, arith, append_assoc, append-nil, length-append, inl, inr, ◌⊎◌}
use Rattle.std.proofs.Math.Seq.{take-append_seam, drop-append_seam}
use Rattle.std.proofs.lemmas.List.{take-append-drop, take_all}
use Rattle.std.proofs.Common.{drop-cons, add-one, length-drop, MatchBool, ◌==◌}
use Rattle.std.specs.Borrow.{Bor}
use Rattle.std.specs.List.{list_all}
use Rattle.std.proofs.lemmas.Bool.{false≢true}
use Rattle.std.proofs.lemmas.Bool.Decides.{nat_tests}
use Rattle.std.proofs.lemmas.Grind.{common_steps}
use Rattle.std.proofs.lemmas.List.Elements.{All-append, All-cons, All-nil}
use Rattle.priml_io.specs.Lines.{is_blank, AreBlank, lines}
use Rattle.priml_io.specs.Sections.{IsMarked, IsRow, IsWhole, IsPart, IsPadded, bytes_of}
use Rattle.priml_io.proofs.LinesLemmas.{lines-append, lines-row}

-- what was passed of the text, line by line: no line of it is marked
pub record Passed (text rest : List ℕ) (count : ℕ) : Type 0 where
  pub prefix : List ℕ
  pub is : text ≡ prefix ++ rest
  pub count_is : count ≡ length (lines prefix)
  pub few : count ≤ length prefix
  pub plain : All (λ line. ¬ IsMarked line) (lines prefix)
  pub whole : (rest ≡ []) ⊎ IsWhole prefix

pub passed-none : (text : List ℕ) → Passed text text 0
passed-none text = record { prefix = []; is = refl; count_is = refl; few = omega arith; plain = All-nil (λ line. ¬ IsMarked line); whole = inr (inl refl) }

pub marked-append : (line more : List ℕ) → IsMarked line → IsMarked (line ++ more)
marked-append [] more m = absurd (omega (arith, ap length m))
marked-append (a ∷ []) more m = absurd (omega (arith, ap length m))
marked-append (a ∷ b ∷ []) more m = absurd (omega (arith, ap length m))
marked-append (a ∷ b ∷ c ∷ line) more m = m

row-append : (line after bytes : List ℕ) → IsRow bytes line after → (more : List ℕ) × (bytes ++ after ≡ line ++ more)
row-append line after bytes row = go row.ended where
  go : (bytes ≡ line ++ 10 ∷ []) ⊎ ((bytes ≡ line) × (after ≡ [])) → (more : List ℕ) × (bytes ++ after ≡ line ++ more)
  go (inl e) = (10 ∷ after, rw e (append_assoc line (10 ∷ []) after))
  go (inr q) = (after, rw q.0 refl)

-- the first line of a text that is not marked is not
plain-row : (line after bytes : List ℕ) → IsRow bytes line after → ¬ IsMarked (bytes ++ after) → ¬ IsMarked line
plain-row line after bytes row n m =
    let r = row-append line after bytes row in
    n (rw r.1 (marked-append line r.0 m))

whole-row : (prefix line after bytes : List ℕ) → IsRow bytes line after → (after ≡ []) ⊎ IsWhole (prefix ++ bytes)
whole-row prefix line after bytes row = go row.ended where
  go : (bytes ≡ line ++ 10 ∷ []) ⊎ ((bytes ≡ line) × (after ≡ [])) → (after ≡ []) ⊎ IsWhole (prefix ++ bytes)
  go (inl e) = inr (inr (prefix ++ line, rw e (sym (append_assoc prefix line (10 ∷ [])))))
  go (inr q) = inl q.1

whole-some : (rest prefix : List ℕ) → 0 < length rest → (rest ≡ []) ⊎ IsWhole prefix → IsWhole prefix
whole-some rest prefix some (inl e) = absurd (omega (arith, ap length e))
whole-some rest prefix some (inr w) = w

-- one line more
pub passed-more : (text rest after line bytes : List ℕ) (count : ℕ) → Passed text rest count → 0 < length rest → ¬ IsMarked rest → rest ≡ bytes ++ after → length after < length rest → IsRow bytes line after → Passed text after (count + 1)
passed-more text rest after line bytes count p some unmarked e shorter row =
    let long : 0 < length bytes = omega (arith, ap length e, length-append bytes after) in
    let whole = whole-some rest p.prefix some p.whole in
    let is = lines-append p.prefix bytes whole ∙ ap (λ v. lines p.prefix ++ v) (lines-row bytes line after row long) in
    let not = plain-row line after bytes row (rw e at unmarked) in
    record {
      prefix = p.prefix ++ bytes;
      is = p.is ∙ ap (λ v. p.prefix ++ v) e ∙ sym (append_assoc p.prefix bytes after);
      count_is = rw is (omega (arith, length-append (lines p.prefix) (line ∷ []), p.count_is));
      few = omega (arith, length-append p.prefix bytes, p.few);
      plain = rw is (All-append (λ v. ¬ IsMarked v) (lines p.prefix) (line ∷ []) p.plain (All-cons (λ v. ¬ IsMarked v) line [] not (All-nil (λ v. ¬ IsMarked v))));
      whole = whole-row p.prefix line after bytes row;
    }

-- at the end of the text or at a marked line, what was passed is a part
pub passed-part : (text rest : List ℕ) (count : ℕ) → Passed text rest count → (rest ≡ []) ⊎ IsMarked rest → IsPart (take (length text - length rest) text) rest × (text ≡ take (length text - length rest) text ++ rest) × (count ≡ length (lines (take (length text - length rest) text))) × (count ≤ length (take (length text - length rest) text))
passed-part text rest count p stop =
    let n : length text - length rest ≡ length p.prefix = omega (arith, ap length p.is, length-append p.prefix rest) in
    let e : take (length text - length rest) text ≡ p.prefix = rw (n, p.is) (take-append_seam p.prefix rest) in
    rw e (record { plain = p.plain; ended = ended stop p.whole }, p.is, p.count_is, p.few) where
      ended : (rest ≡ []) ⊎ IsMarked rest → (rest ≡ []) ⊎ IsWhole p.prefix → (rest ≡ []) ⊎ (IsWhole p.prefix × IsMarked rest)
      ended (inl e) w = inl e
      ended (inr m) (inl e) = inl e
      ended (inr m) (inr w) = inr (w, m)

-- a line that a line feed ends
pub row-inner : (text rest : List ℕ) (n : ℕ) → n < length text → get_or text n 0 ≡ 10 → All (λ b. b ≢ 10) (take n text) → rest ≡ drop (n + 1) text → (bytes : List ℕ) × IsRow bytes (take n text) rest × (text ≡ bytes ++ rest)
row-inner text rest n within feed plain e =
    let split : drop n text ≡ 10 ∷ drop (n + 1) text = rw (drop-cons text n 0, feed, add-one) refl in (
      take n text ++ 10 ∷ [],
      record { plain = plain; ended = inl refl },
      sym (take-append-drop n text) ∙ ap (λ v. take n text ++ v) split ∙ sym (append_assoc (take n text) (10 ∷ []) (drop (n + 1) text)) ∙ ap (λ v. (take n text ++ 10 ∷ []) ++ v) (sym e),
    )

-- a line that the text ends
pub row-last : (text rest : List ℕ) (n : ℕ) → n ≡ length text → All (λ b. b ≢ 10) (take n text) → rest ≡ [] → (bytes : List ℕ) × IsRow bytes text rest × (text ≡ bytes ++ rest)
row-last text rest n e plain z =
    let all : take n text ≡ text = take_all n text (omega (arith, e)) in
    (text, record { plain = rw all at plain; ended = inr (refl, z) }, sym (append-nil text) ∙ ap (λ v. text ++ v) (sym z))

pub bytes_of-none : (o : Option (Bor (List ℕ))) → false ≡ is_some o → bytes_of o ≡ None
bytes_of-none None e = refl
bytes_of-none (Some x) e = let k : false ≡ true = e in absurd cc

pub bytes_of-some : (o : Option (Bor (List ℕ))) → true ≡ is_some o → IsSome (bytes_of o)
bytes_of-some None e = let k : true ≡ false = e in absurd cc
bytes_of-some (Some x) e = refl

pub some-from_test : (n : ℕ) → false ≡ (n == 0) → 0 < n
some-from_test n e = grind (arith, nat_tests)

pub none-from_test : (n : ℕ) → true ≡ (n == 0) → n ≡ 0
none-from_test n e = grind (arith, nat_tests)

-- the slice of a list from n on
pub rest-is : (text : List ℕ) (n : ℕ) → take (length text - n) (drop n text) ≡ drop n text
rest-is text n = take_all (length text - n) (drop n text) (omega (arith, length-drop n text))

pub rest-none : (text : List ℕ) (n : ℕ) → n ≡ length text → take (length text - n) (drop n text) ≡ []
rest-none text n e = grind (arith, common_steps)

-- a line that begins with a start is padded where what follows is blank, and not else
pub padded : (start line : List ℕ) → take (length start) line ≡ start → AreBlank (drop (length start) line) → IsPadded start line
padded start line e blank = (drop (length start) line, sym (take-append-drop (length start) line) ∙ ap (λ v. v ++ drop (length start) line) e, blank)

pub not_padded : (start line : List ℕ) → take (length start) line ≡ start → ¬ AreBlank (drop (length start) line) → ¬ IsPadded start line
not_padded start line e n =
    λ p. n (rw (p.1, drop-append_seam start p.0) p.2)

pub padding_told : (start line : List ℕ) (r : Bool) → take (length start) line ≡ start → r ≡ list_all is_blank (drop (length start) line) → MatchBool r (IsPadded start line) (¬ IsPadded start line)
padding_told start line true e tells = padded start line e (sym tells)
padding_told start line false e tells = not_padded start line e (λ h. false≢true (tells ∙ h))

pub unpadded : (start line : List ℕ) → ¬ (take (length start) line ≡ start) → ¬ IsPadded start line
unpadded start line n p = n (rw (p.1, take-append_seam start p.0) refl)
