-- How far an input was cut, section by section.
use Rattle.std.proofs.Common.{◌≡◌, ℕ, ◌+◌, ◌<◌, ◌⊎◌, List, [], ◌∷◌, ◌++◌, length, codes, get_or, All, true, false, Option, None, Some, IsSome, refl, sym, ap, subst, ◌∙◌, arith, append_assoc, append-nil, length-append, inl, inr}
use Rattle.std.proofs.lemmas.List.Elements.{All-append, All-cons, All-head, All-tail, All-weaker}
use Rattle.priml_io.specs.Lines.{lines}
use Rattle.priml_io.specs.declared.sections.SectionFault.TheVariants as fault
use Rattle.priml_io.specs.Sections.{IsMarked, IsHeading, IsAbsent, Stands, StandsOnce, AreSections, IsRow, IsWhole, IsPart, IsProgram, IsBehind, IsSection, Cuts, Comes, HasSectionFault}
use Rattle.priml_io.proofs.LinesLemmas.{lines-append, lines-line, lines-row}

pub heading-marked : (name line : List ℕ) → IsHeading name line → IsMarked line
heading-marked name line h = rw h.1 refl

-- a line is not the heading of both
pub two_headings : (line : List ℕ) → IsHeading (codes "inputs") line → IsHeading (codes "schedule") line → ⊥
two_headings line p q = let e : 105 ≡ 115 = ap (λ v. get_or v 3 0) (sym p.1 ∙ q.1) in omega (arith, e)

-- lines that begin no section are no headings
plain-absent : (name : List ℕ) (ls : List (List ℕ)) → All (λ line. ¬ IsMarked line) ls → IsAbsent name ls
plain-absent name ls p = All-weaker (λ line. ¬ IsMarked line) (λ line. ¬ IsHeading name line) (λ line n h. n (heading-marked name line h)) ls p

once-absent : (name : List ℕ) (ls : List (List ℕ)) → IsAbsent name ls → StandsOnce name ls
once-absent name [] a = tt
once-absent name (x ∷ xs) a = (λ h. absurd (All-head (λ line. ¬ IsHeading name line) x xs a h), once-absent name xs (All-tail (λ line. ¬ IsHeading name line) x xs a))

once-append : (name : List ℕ) (xs ys : List (List ℕ)) → StandsOnce name xs → StandsOnce name ys → IsAbsent name xs ⊎ IsAbsent name ys → StandsOnce name (xs ++ ys)
once-append name [] ys o p a = p
once-append name (x ∷ xs) ys o p (inl a) =
    let N = λ (line : List ℕ). ¬ IsHeading name line in
    (λ h. absurd (All-head N x xs a h), once-append name xs ys o.1 p (inl (All-tail N x xs a)))
once-append name (x ∷ xs) ys o p (inr a) = (λ h. All-append (λ line. ¬ IsHeading name line) xs ys (o.0 h) a, once-append name xs ys o.1 p (inr a))

stands-append : (name : List ℕ) (ls more : List (List ℕ)) → Stands name ls → Stands name (ls ++ more)
stands-append name ls more s = (s.0, s.1, s.2 ++ more, ap (λ v. v ++ more) s.3 ∙ append_assoc s.0 (s.1 ∷ s.2) more, s.4)

-- a section whose heading is this line comes behind some lines
module _ (ls body : List (List ℕ)) (line : List ℕ) (plain : All (λ v. ¬ IsMarked v) body) (name : List ℕ) where
  new_once : StandsOnce name ls → IsAbsent name ls → StandsOnce name (ls ++ line ∷ body)
  new_once o a = once-append name ls (line ∷ body) o (λ h. plain-absent name body plain, once-absent name body (plain-absent name body plain)) (inl a)

  other_absent : ¬ IsHeading name line → IsAbsent name (line ∷ body)
  other_absent n = All-cons (λ v. ¬ IsHeading name v) line body n (plain-absent name body plain)

  other_once : StandsOnce name ls → ¬ IsHeading name line → StandsOnce name (ls ++ line ∷ body)
  other_once o n = once-append name ls (line ∷ body) o (once-absent name (line ∷ body) (other_absent n)) (inr (other_absent n))

abbrev IsKnown : List ℕ → Type 0
IsKnown line = IsMarked line → IsHeading (codes "inputs") line ⊎ IsHeading (codes "schedule") line

plain-known : (ls : List (List ℕ)) → All (λ v. ¬ IsMarked v) ls → All IsKnown ls
plain-known ls p = All-weaker (λ v. ¬ IsMarked v) IsKnown (λ v n m. absurd (n m)) ls p

known-append : (ls body : List (List ℕ)) (line : List ℕ) → All IsKnown ls → IsKnown line → All (λ v. ¬ IsMarked v) body → All IsKnown (ls ++ line ∷ body)
known-append ls body line k l p = All-append IsKnown ls (line ∷ body) k (All-cons IsKnown line body l (plain-known body p))

-- what the part before the rest has of the section of this name
abbrev SoFar : List ℕ → List ℕ → List ℕ → Option (List ℕ) → Type 0
SoFar input prefix name None = IsAbsent name (lines prefix)
SoFar input prefix name (Some body) = IsBehind input name body × Stands name (lines prefix)

-- The input was cut up to the rest, which begins at this line, into a program and these sections.
pub record Cutting (input program : List ℕ) (inputs schedule : Option (List ℕ)) (number : ℕ) (rest : List ℕ) : Type 0 where
  prefix : List ℕ
  is : input ≡ prefix ++ rest
  ends : (rest ≡ []) ⊎ (IsWhole prefix × IsMarked rest)
  number_is : number ≡ 1 + length (lines prefix)
  right : AreSections (lines prefix)
  program_is : IsProgram input program
  inputs_is : SoFar input prefix (codes "inputs") inputs
  schedule_is : SoFar input prefix (codes "schedule") schedule

-- a text is a line, and then a part and what is after it
pub record Headed (text line body after : List ℕ) : Type 0 where
  pub bytes : List ℕ
  pub tail : List ℕ
  pub is : text ≡ bytes ++ tail
  pub row : IsRow bytes line tail
  pub whole : tail ≡ body ++ after
  pub part : IsPart body after

pub row-some : (text bytes line tail : List ℕ) → IsRow bytes line tail → text ≡ bytes ++ tail → 0 < length text → 0 < length bytes
row-some text bytes line tail row e some = go row.ended where
  go : (bytes ≡ line ++ 10 ∷ []) ⊎ ((bytes ≡ line) × (tail ≡ [])) → 0 < length bytes
  go (inl p) = omega (arith, ap length p, length-append line (10 ∷ []))
  go (inr q) = omega (arith, some, ap length q.1, ap length e, length-append bytes tail)

pub row-lines : (bytes line tail body after : List ℕ) → IsRow bytes line tail → tail ≡ body ++ after → 0 < length bytes → lines (bytes ++ body) ≡ line ∷ lines body
row-lines bytes line tail body after row e some = go body e row.ended where
  go : (body : List ℕ) → tail ≡ body ++ after → (bytes ≡ line ++ 10 ∷ []) ⊎ ((bytes ≡ line) × (tail ≡ [])) → lines (bytes ++ body) ≡ line ∷ lines body
  go body e (inl p) = ap (λ v. lines (v ++ body)) p ∙ ap lines (append_assoc line (10 ∷ []) body) ∙ lines-line line body row.plain
  go [] e (inr q) = ap lines (append-nil bytes) ∙ lines-row bytes line tail row some
  go (b ∷ bs) e (inr q) = absurd (omega (arith, ap length q.1, ap length e))

row-whole : (bytes line tail : List ℕ) → IsRow bytes line tail → 0 < length tail → IsWhole bytes
row-whole bytes line tail row some = go row.ended where
  go : (bytes ≡ line ++ 10 ∷ []) ⊎ ((bytes ≡ line) × (tail ≡ [])) → IsWhole bytes
  go (inl p) = inr (line, p)
  go (inr q) = absurd (omega (arith, some, ap length q.1))

whole-append : (a b : List ℕ) → IsWhole a → IsWhole b → IsWhole (a ++ b)
whole-append a b w (inl e) = rw (e, append-nil a) w
whole-append a b w (inr (m, e)) = inr (a ++ m, rw e (sym (append_assoc a m (10 ∷ []))))

pub marked-some : (text : List ℕ) → IsMarked text → 0 < length text
marked-some [] m = absurd (omega (arith, ap length m))
marked-some (b ∷ text) m = omega arith

-- the first line of a marked text is marked
marked-row : (bytes line tail : List ℕ) → IsRow bytes line tail → IsMarked (bytes ++ tail) → IsMarked line
marked-row bytes line tail row m = go row.ended where
  inner : (line : List ℕ) → IsMarked (line ++ 10 ∷ tail) → IsMarked line
  inner [] m = let e : 10 ≡ 61 = ap (λ v. get_or v 0 0) m in absurd (omega (arith, e))
  inner (a ∷ []) m = let e : 10 ≡ 61 = ap (λ v. get_or v 1 0) m in absurd (omega (arith, e))
  inner (a ∷ b ∷ []) m = let e : 10 ≡ 61 = ap (λ v. get_or v 2 0) m in absurd (omega (arith, e))
  inner (a ∷ b ∷ c ∷ line) m = m

  go : (bytes ≡ line ++ 10 ∷ []) ⊎ ((bytes ≡ line) × (tail ≡ [])) → IsMarked line
  go (inl p) = inner line (subst IsMarked (ap (λ v. v ++ tail) p ∙ append_assoc line (10 ∷ []) tail) m)
  go (inr q) = subst IsMarked (ap (λ v. bytes ++ v) q.1 ∙ append-nil bytes ∙ q.0) m

left-whole : (prefix rest : List ℕ) → (rest ≡ []) ⊎ (IsWhole prefix × IsMarked rest) → 0 < length rest → IsWhole prefix × IsMarked rest
left-whole prefix rest (inl e) some = absurd (omega (arith, some, ap length e))
left-whole prefix rest (inr w) some = w

-- where a cut begins, after the program
pub cutting-start : (input program after : List ℕ) (n : ℕ) → input ≡ program ++ after → IsPart program after → n ≡ 1 + length (lines program) → Cutting input program None None n after
cutting-start input program after n is part e =
    let absent = λ (name : List ℕ). plain-absent name (lines program) part.plain in
    record {
      prefix = program;
      is = is;
      ends = part.ended;
      number_is = e;
      right = record { known = plain-known (lines program) part.plain; inputs = once-absent (codes "inputs") (lines program) (absent (codes "inputs")); schedule = once-absent (codes "schedule") (lines program) (absent (codes "schedule")) };
      program_is = (after, is, part);
      inputs_is = absent (codes "inputs");
      schedule_is = absent (codes "schedule");
    }

-- where nothing is left, the input is cut
pub cutting-end : (input program : List ℕ) (i s : Option (List ℕ)) (n : ℕ) → Cutting input program i s n [] → Cuts input program i s
cutting-end input program i s n c =
    let e : lines c.prefix ≡ lines input = ap lines (sym (append-nil c.prefix) ∙ sym c.is) in
    record { right = subst AreSections e c.right; program_is = c.program_is; inputs_is = section (codes "inputs") i e c.inputs_is; schedule_is = section (codes "schedule") s e c.schedule_is } where
      section : (name : List ℕ) (o : Option (List ℕ)) → lines c.prefix ≡ lines input → SoFar input c.prefix name o → IsSection input name o
      section name None e h = subst (IsAbsent name) e h
      section name (Some body) e h = h.0

pub cutting-done : (input program : List ℕ) (i s : Option (List ℕ)) (n : ℕ) (rest : List ℕ) → length rest ≡ 0 → Cutting input program i s n rest → Cuts input program i s
cutting-done input program i s n [] e c = cutting-end input program i s n c
cutting-done input program i s n (b ∷ bs) e c = absurd (omega (arith, e))

-- one more section
module _ (input program : List ℕ) (i s : Option (List ℕ)) (m : ℕ) (rest line body after : List ℕ) (c : Cutting input program i s m rest) (h : Headed rest line body after) (some : 0 < length rest) where
  before : IsWhole c.prefix
  before = (left-whole c.prefix rest c.ends some).0

  long : 0 < length h.bytes
  long = row-some rest h.bytes line h.tail h.row h.is some

  further : List ℕ
  further = c.prefix ++ (h.bytes ++ body)

  further_lines : lines further ≡ lines c.prefix ++ line ∷ lines body
  unfolding further
  further_lines = lines-append c.prefix (h.bytes ++ body) before ∙ ap (λ v. lines c.prefix ++ v) (row-lines h.bytes line h.tail body after h.row h.whole long)

  further_is : input ≡ further ++ after
  unfolding further
  further_is = c.is ∙ ap (λ v. c.prefix ++ v) (h.is ∙ ap (λ v. h.bytes ++ v) h.whole ∙ sym (append_assoc h.bytes body after)) ∙ sym (append_assoc c.prefix (h.bytes ++ body) after)

  further_ends : (after ≡ []) ⊎ (IsWhole body × IsMarked after) → (after ≡ []) ⊎ (IsWhole further × IsMarked after)
  unfolding further
  further_ends (inl e) = inl e
  further_ends (inr (w, k)) =
      let more : 0 < length h.tail = omega (arith, marked-some after k, ap length h.whole, length-append body after) in
      inr (whole-append c.prefix (h.bytes ++ body) before (whole-append h.bytes body (row-whole h.bytes line h.tail h.row more) w), k)

  further_behind : (name : List ℕ) → IsHeading name line → IsBehind input name body
  further_behind name heading =
      record {
        prefix = c.prefix;
        bytes = h.bytes;
        line = line;
        after = after;
        is = c.is ∙ ap (λ v. c.prefix ++ v) (h.is ∙ ap (λ v. h.bytes ++ v) h.whole);
        whole = before;
        row = subst (IsRow h.bytes line) h.whole h.row;
        heading = heading;
        part = h.part;
      }

  new_so_far : (name : List ℕ) → IsHeading name line → SoFar input further name (Some body)
  new_so_far name heading = (further_behind name heading, (lines c.prefix, line, lines body, further_lines, heading))

  other_so_far : (name : List ℕ) (o : Option (List ℕ)) → ¬ IsHeading name line → SoFar input c.prefix name o → SoFar input further name o
  other_so_far name None n a = subst (IsAbsent name) (sym further_lines) (All-append (λ v. ¬ IsHeading name v) (lines c.prefix) (line ∷ lines body) a (other_absent (lines c.prefix) (lines body) line h.part.plain name n))
  other_so_far name (Some b) n a = (a.0, subst (Stands name) (sym further_lines) (stands-append name (lines c.prefix) (line ∷ lines body) a.1))

  further_number : (n : ℕ) → n ≡ m + 1 + length (lines body) → n ≡ 1 + length (lines further)
  further_number n e = omega (arith, e, c.number_is, ap length further_lines, length-append (lines c.prefix) (line ∷ lines body))

  -- what is cut with this section, where the known ones so far are right
  with_section : (i' s' : Option (List ℕ)) (n : ℕ) → AreSections (lines c.prefix ++ line ∷ lines body) → SoFar input further (codes "inputs") i' → SoFar input further (codes "schedule") s'
      → n ≡ m + 1 + length (lines body) → Cutting input program i' s' n after
  with_section i' s' n right inputs schedule e =
      record {
        prefix = further;
        is = further_is;
        ends = further_ends h.part.ended;
        number_is = further_number n e;
        right = subst AreSections (sym further_lines) right;
        program_is = c.program_is;
        inputs_is = inputs;
        schedule_is = schedule;
      }

-- the section `inputs` comes
pub inputs-next : (input program : List ℕ) (s : Option (List ℕ)) (m n : ℕ) (rest line body after : List ℕ) → Cutting input program None s m rest → Headed rest line body after → 0 < length rest → IsHeading (codes "inputs") line → n ≡ m + 1 + length (lines body) → Cutting input program (Some body) s n after
inputs-next input program s m n rest line body after c h some heading e =
    let other : ¬ IsHeading (codes "schedule") line = λ k. two_headings line heading k in
    let plain = h.part.plain in
    let right : AreSections (lines c.prefix ++ line ∷ lines body) = record {
      known = known-append (lines c.prefix) (lines body) line c.right.known (λ k. inl heading) plain;
      inputs = new_once (lines c.prefix) (lines body) line plain (codes "inputs") c.right.inputs c.inputs_is;
      schedule = other_once (lines c.prefix) (lines body) line plain (codes "schedule") c.right.schedule other;
    } in
    with_section input program None s m rest line body after c h some (Some body) s n right
    (new_so_far input program None s m rest line body after c h some (codes "inputs") heading)
    (other_so_far input program None s m rest line body after c h some (codes "schedule") s other c.schedule_is) e

-- the section `schedule` comes
pub schedule-next : (input program : List ℕ) (i : Option (List ℕ)) (m n : ℕ) (rest line body after : List ℕ) → Cutting input program i None m rest → Headed rest line body after → 0 < length rest → IsHeading (codes "schedule") line → n ≡ m + 1 + length (lines body) → Cutting input program i (Some body) n after
schedule-next input program i m n rest line body after c h some heading e =
    let other : ¬ IsHeading (codes "inputs") line = λ k. two_headings line k heading in
    let plain = h.part.plain in
    let right : AreSections (lines c.prefix ++ line ∷ lines body) = record {
      known = known-append (lines c.prefix) (lines body) line c.right.known (λ k. inr heading) plain;
      inputs = other_once (lines c.prefix) (lines body) line plain (codes "inputs") c.right.inputs other;
      schedule = new_once (lines c.prefix) (lines body) line plain (codes "schedule") c.right.schedule c.schedule_is;
    } in
    with_section input program i None m rest line body after c h some i (Some body) n right
    (other_so_far input program i None m rest line body after c h some (codes "inputs") i other c.inputs_is)
    (new_so_far input program i None m rest line body after c h some (codes "schedule") heading) e

-- the line at which a cut stops
module _ (input program : List ℕ) (i s : Option (List ℕ)) (n : ℕ) (rest bytes line tail : List ℕ) (c : Cutting input program i s n rest) (row : IsRow bytes line tail) (is : rest ≡ bytes ++ tail) (some : 0 < length rest) where
  comes : Comes input n (lines c.prefix) line
  comes =
      let left = left-whole c.prefix rest c.ends some in
      record {
        after = lines tail;
        is = ap lines c.is ∙ lines-append c.prefix rest left.0 ∙ ap (λ v. lines c.prefix ++ v) (ap lines is ∙ row-lines bytes line tail tail [] row (sym (append-nil tail)) (row-some rest bytes line tail row is some));
        number = omega (arith, c.number_is);
        right = c.right;
        marked = marked-row bytes line tail row (subst IsMarked is left.1);
      }

  pub unknown-stops : ¬ IsHeading (codes "inputs") line → ¬ IsHeading (codes "schedule") line → HasSectionFault input (fault.UnknownSection n)
  unknown-stops p q = (lines c.prefix, line, comes, p, q)

  stands : (name : List ℕ) (o : Option (List ℕ)) → IsSome o → SoFar input c.prefix name o → Stands name (lines c.prefix)
  stands name None e h = absurd (let k : false ≡ true = e in cc)
  stands name (Some body) e h = h.1

  pub inputs-stop : IsSome i → IsHeading (codes "inputs") line → HasSectionFault input (fault.TwiceSection n)
  inputs-stop e h = (lines c.prefix, line, comes, inl (h, stands (codes "inputs") i e c.inputs_is))

  pub schedule-stops : IsSome s → IsHeading (codes "schedule") line → HasSectionFault input (fault.TwiceSection n)
  schedule-stops e h = (lines c.prefix, line, comes, inr (h, stands (codes "schedule") s e c.schedule_is))
