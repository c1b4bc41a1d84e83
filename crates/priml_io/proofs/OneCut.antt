-- An input is cut in one way at most, and has one section fault at most, and not both.
use Rattle.std.proofs.Common.{◌≡◌, ℕ, ◌+◌, ◌<◌, ◌⊎◌, List, [], ◌∷◌, ◌++◌, length, codes, Option, None, Some, refl, sym, ap, subst, ◌∙◌, arith, append-nil, length-append, inl, inr, Bool, true, false, ◌==◌, if◌then◌else◌}
use Rattle.std.proofs.lemmas.List.{append_cancel_left}
use Rattle.std.proofs.lemmas.List.Elements.{All-nil, All-cons, All-head}
use Rattle.priml_io.specs.Lines.{lines, lines_from}
use Rattle.priml_io.specs.declared.sections.SectionFault.{SectionFault}
use Rattle.priml_io.specs.declared.sections.SectionFault.TheVariants as fault
use Rattle.priml_io.specs.Sections.{IsMarked, IsHeading, IsAbsent, StandsOnce, AreSections, IsRow, IsWhole, IsBehind, IsSection, Cuts, Sections, IsCut, Comes, ComesAgain, HasSectionFault, CutsOneWay}
use Rattle.priml_io.proofs.LinesLemmas.{lines-append}
use Rattle.priml_io.proofs.OnePart.{rest-all, two_fronts, one_part, one_row}
use Rattle.priml_io.proofs.Cutting.{row-lines, heading-marked, marked-some}
use Rattle.priml_io.proofs.Places.{Places, same_place, comes_before, comes_after, places}

-- no line before a heading that stands once is one
once-before : (name : List ℕ) (before : List (List ℕ)) (line : List ℕ) (after : List (List ℕ)) → StandsOnce name (before ++ line ∷ after) → IsHeading name line → IsAbsent name before
once-before name [] line after o h = All-nil (λ v. ¬ IsHeading name v)
once-before name (x ∷ xs) line after o h =
    All-cons (λ v. ¬ IsHeading name v) x xs
    (λ k. All-head (λ v. ¬ IsHeading name v) line after (rest-all (λ v. ¬ IsHeading name v) xs (line ∷ after) (o.0 k)) h)
    (once-before name xs line after o.1 h)

absent-clash : (name : List ℕ) (ls before : List (List ℕ)) (line : List ℕ) (after : List (List ℕ)) → ls ≡ before ++ line ∷ after → IsHeading name line → IsAbsent name ls → ⊥
absent-clash name ls before line after e h a = All-head (λ v. ¬ IsHeading name v) line after (rest-all (λ v. ¬ IsHeading name v) before (line ∷ after) (subst (IsAbsent name) e a)) h

again-clash : (name : List ℕ) (before : List (List ℕ)) (line : List ℕ) (after : List (List ℕ)) → StandsOnce name (before ++ line ∷ after) → ComesAgain name before line → ⊥
again-clash name before line after o (h, s) = absent-clash name before s.0 s.1 s.2 s.3 s.4 (once-before name before line after o h)

lines-some : (so_far text : List ℕ) → 0 < length so_far + length text → 0 < length (lines_from so_far text)
lines-some [] [] some = absurd (omega arith)
lines-some (x ∷ xs) [] some = omega arith
lines-some so_far (b ∷ bs) some =
    let at : Bool → Type 0 = λ t. 0 < length (if t then so_far ∷ lines_from [] bs else lines_from (so_far ++ b ∷ []) bs) in
    elim (b == 10) as at [ true ↦ omega arith | false ↦ lines-some (so_far ++ b ∷ []) bs (omega (arith, length-append so_far (b ∷ []))) ]

no-lines : (text : List ℕ) → length (lines text) ≡ 0 → text ≡ []
no-lines [] e = refl
no-lines (b ∷ bs) e = absurd (omega (arith, e, lines-some [] (b ∷ bs) (omega arith)))

longer-front : (a c more : List ℕ) → IsWhole a → c ≡ a ++ more → length (lines a) ≡ length (lines c) → a ≡ c
longer-front a c more w e n =
    let none : more ≡ [] = no-lines more (omega (arith, n, ap (λ v. length (lines v)) e, ap length (lines-append a more w), length-append (lines a) (lines more))) in
    sym (e ∙ ap (λ v. a ++ v) none ∙ append-nil a)

-- two texts of whole lines, equally many, that begin one text
same_front : (a b c d : List ℕ) → a ++ b ≡ c ++ d → IsWhole a → IsWhole c → length (lines a) ≡ length (lines c) → a ≡ c
same_front a b c d e w v n =
    elim (two_fronts a b c d e) [
      | inl t ↦ longer-front a c t.0 w t.1 n
      | inr t ↦ sym (longer-front c a t.0 v t.1 (sym n))
    ]

module _ (input name : List ℕ) (once : StandsOnce name (lines input)) where
  row-long : (bytes line tail : List ℕ) → IsRow bytes line tail → IsHeading name line → 0 < length bytes
  row-long bytes line tail row h = go row.ended where
    go : (bytes ≡ line ++ 10 ∷ []) ⊎ ((bytes ≡ line) × (tail ≡ [])) → 0 < length bytes
    go (inl p) = omega (arith, ap length p, length-append line (10 ∷ []))
    go (inr q) = omega (arith, ap length q.0, marked-some line (heading-marked name line h))

  behind-lines : (body : List ℕ) (b : IsBehind input name body) → lines input ≡ lines b.prefix ++ b.line ∷ lines (body ++ b.after)
  behind-lines body b =
      let tail = body ++ b.after in
      ap lines b.is ∙ lines-append b.prefix (b.bytes ++ tail) b.whole
      ∙ ap (λ v. lines b.prefix ++ v) (row-lines b.bytes b.line tail tail [] b.row (sym (append-nil tail)) (row-long b.bytes b.line tail b.row b.heading))

  -- the heading of a section stands in one place
  one-place : (body other : List ℕ) (a : IsBehind input name body) (b : IsBehind input name other) → Places (lines a.prefix) a.line (lines b.prefix) b.line → lines a.prefix ≡ lines b.prefix
  one-place body other a b (same_place e l) = e
  one-place body other a b (comes_before m e) =
      absurd (again-clash name (lines b.prefix) b.line (lines (other ++ b.after)) (subst (StandsOnce name) (behind-lines other b) once) (b.heading, (lines a.prefix, a.line, m, e, a.heading)))
  one-place body other a b (comes_after m e) =
      absurd (again-clash name (lines a.prefix) a.line (lines (body ++ a.after)) (subst (StandsOnce name) (behind-lines body a) once) (a.heading, (lines b.prefix, b.line, m, e, b.heading)))

  one-behind : (body other : List ℕ) → IsBehind input name body → IsBehind input name other → body ≡ other
  one-behind body other a b =
      let place = places (lines a.prefix) a.line (lines (body ++ a.after)) (lines b.prefix) b.line (lines (other ++ b.after)) (sym (behind-lines body a) ∙ behind-lines other b) in
      let whole = sym a.is ∙ b.is in
      let prefix : a.prefix ≡ b.prefix = same_front a.prefix (a.bytes ++ (body ++ a.after)) b.prefix (b.bytes ++ (other ++ b.after)) whole a.whole b.whole (ap length (one-place body other a b place)) in
      let left : a.bytes ++ (body ++ a.after) ≡ b.bytes ++ (other ++ b.after) = append_cancel_left b.prefix (a.bytes ++ (body ++ a.after)) (b.bytes ++ (other ++ b.after)) (ap (λ v. v ++ (a.bytes ++ (body ++ a.after))) (sym prefix) ∙ whole) in
      let row = one_row a.bytes a.line (body ++ a.after) b.bytes b.line (other ++ b.after) left a.row b.row in
      (one_part body a.after other b.after row.2 a.part b.part).0

  one-section : (o p : Option (List ℕ)) → IsSection input name o → IsSection input name p → o ≡ p
  one-section None None a b = refl
  one-section None (Some body) a b = absurd (absent-clash name (lines input) (lines b.prefix) b.line (lines (body ++ b.after)) (behind-lines body b) b.heading a)
  one-section (Some body) None a b = absurd (absent-clash name (lines input) (lines a.prefix) a.line (lines (body ++ a.after)) (behind-lines body a) a.heading b)
  one-section (Some body) (Some other) a b = ap Some (one-behind body other a b)

one_program : (input program other : List ℕ) (i s j t : Option (List ℕ)) → Cuts input program i s → Cuts input other j t → program ≡ other
one_program input program other i s j t a b =
    let p = a.program_is in
    let q = b.program_is in
    (one_part program p.0 other q.0 (sym p.1 ∙ q.1) p.2 q.2).0

-- an input is cut in one way
pub one_cutting : (input program other : List ℕ) (i s j t : Option (List ℕ)) → Cuts input program i s → Cuts input other j t → (program ≡ other) × (i ≡ j) × (s ≡ t)
one_cutting input program other i s j t a b = (
  one_program input program other i s j t a b,
  one-section input (codes "inputs") a.right.inputs i j a.inputs_is b.inputs_is,
  one-section input (codes "schedule") a.right.schedule s t a.schedule_is b.schedule_is,
)

one-texts : (input : List ℕ) (s t : Sections) → IsCut input s → IsCut input t → s ≡ t
one-texts input s t (i, c, a, e) (j, d, b, f) =
    let same = one_cutting input s.program t.program i c j d a b in
    let program : s.program ≡ t.program = same.0 in
    let inputs : i ≡ j = same.1 in
    let schedule : c ≡ d = same.2 in
    e ∙ rw (program, inputs, schedule) (sym f)

-- what a fault says of the line at which it stands
IsFaultOf : SectionFault → ℕ → List (List ℕ) → List ℕ → Type 0
IsFaultOf (fault.UnknownSection n) number before line = (n ≡ number) × (¬ IsHeading (codes "inputs") line) × (¬ IsHeading (codes "schedule") line)
IsFaultOf (fault.TwiceSection n) number before line = (n ≡ number) × (ComesAgain (codes "inputs") before line ⊎ ComesAgain (codes "schedule") before line)

-- where a cut stops with a fault
record Stops (input : List ℕ) (f : SectionFault) : Type 0 where
  number : ℕ
  before : List (List ℕ)
  line : List ℕ
  comes : Comes input number before line
  wrong : IsFaultOf f number before line

stops : (input : List ℕ) (f : SectionFault) → HasSectionFault input f → Stops input f
unfolding IsFaultOf
stops input (fault.UnknownSection n) h = record { number = n; before = h.0; line = h.1; comes = h.2; wrong = (refl, h.3, h.4) }
stops input (fault.TwiceSection n) h = record { number = n; before = h.0; line = h.1; comes = h.2; wrong = (refl, h.3) }

-- right lines have no line at fault
fault-clash : (f : SectionFault) (n : ℕ) (before : List (List ℕ)) (line : List ℕ) (after : List (List ℕ)) → AreSections (before ++ line ∷ after) → IsMarked line → IsFaultOf f n before line → ⊥
unfolding IsFaultOf
fault-clash (fault.UnknownSection m) n before line after r marked w =
    elim (All-head (λ v. IsMarked v → IsHeading (codes "inputs") v ⊎ IsHeading (codes "schedule") v) line after (rest-all (λ v. IsMarked v → IsHeading (codes "inputs") v ⊎ IsHeading (codes "schedule") v) before (line ∷ after) r.known) marked) [ inl h ↦ w.1 h | inr h ↦ w.2 h ]
fault-clash (fault.TwiceSection m) n before line after r marked w =
    elim w.1 [ inl h ↦ again-clash (codes "inputs") before line after r.inputs h | inr h ↦ again-clash (codes "schedule") before line after r.schedule h ]

-- an input that is cut has no section fault
pub cut_right : (input program : List ℕ) (i s : Option (List ℕ)) (f : SectionFault) → Cuts input program i s → HasSectionFault input f → ⊥
cut_right input program i s f c h =
    let k = stops input f h in
    fault-clash f k.number k.before k.line k.comes.after (subst AreSections k.comes.is c.right) k.comes.marked k.wrong

one_kind : (f g : SectionFault) (number : ℕ) (before : List (List ℕ)) (line : List ℕ) → IsFaultOf f number before line → IsFaultOf g number before line → f ≡ g
unfolding IsFaultOf
one_kind (fault.UnknownSection m) (fault.UnknownSection n) number before line a b = ap fault.UnknownSection (a.0 ∙ sym b.0)
one_kind (fault.TwiceSection m) (fault.TwiceSection n) number before line a b = ap fault.TwiceSection (a.0 ∙ sym b.0)
one_kind (fault.UnknownSection m) (fault.TwiceSection n) number before line a b = absurd (elim b.1 [ inl h ↦ a.1 h.0 | inr h ↦ a.2 h.0 ])
one_kind (fault.TwiceSection m) (fault.UnknownSection n) number before line a b = absurd (elim a.1 [ inl h ↦ b.1 h.0 | inr h ↦ b.2 h.0 ])

-- an input has one section fault at most
pub one_fault : (input : List ℕ) (f g : SectionFault) → HasSectionFault input f → HasSectionFault input g → f ≡ g
one_fault input f g h k = go (stops input f h) (stops input g k) where
  at : (a : Stops input f) (b : Stops input g) → Places a.before a.line b.before b.line → f ≡ g
  at a b (same_place e l) =
      let number : a.number ≡ b.number = a.comes.number ∙ ap (λ v. length v + 1) e ∙ sym b.comes.number in
      one_kind f g b.number b.before b.line (rw (number, e, l) at a.wrong) b.wrong
  at a b (comes_before m e) = absurd (fault-clash f a.number a.before a.line m (subst AreSections e b.comes.right) a.comes.marked a.wrong)
  at a b (comes_after m e) = absurd (fault-clash g b.number b.before b.line m (subst AreSections e a.comes.right) b.comes.marked b.wrong)

  go : Stops input f → Stops input g → f ≡ g
  go a b = at a b (places a.before a.line a.comes.after b.before b.line b.comes.after (sym a.comes.is ∙ b.comes.is))

pub one_way : (input : List ℕ) → CutsOneWay input
one_way input = record { one = one-texts input; first = one_fault input; apart = λ s f c h. cut_right input s.program c.0 c.1 f c.2 h }
