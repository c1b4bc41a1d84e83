-- Every input is cut into sections, or has a section fault.
use Rattle.std.proofs.Common.{◌≡◌, ◌≢◌, ℕ, zero, suc, ◌+◌, ◌-◌, ◌<◌, ◌≤◌, ◌⊎◌, List, [], ◌∷◌, ◌++◌, length, take, codes, Option, None, Some, refl, ap, arith, length-append, inl, inr}
use Rattle.std.proofs.lemmas.List.Elements.{All-nil, All-cons}
use Rattle.priml_io.specs.Lines.{lines}
use Rattle.priml_io.specs.declared.sections.SectionFault.{SectionFault}
use Rattle.priml_io.specs.declared.sections.SectionFault.TheVariants as fault
use Rattle.priml_io.specs.Sections.{IsMarked, IsHeading, IsRow, IsPart, Cuts, Sections, texts, IsCut, HasSectionFault}
use Rattle.priml_io.specs.Laws.{InputsAreCut}
use Rattle.priml_io.proofs.SectionsLemmas.{Passed, passed-none, passed-more, passed-part}
use Rattle.priml_io.proofs.Cutting.{Cutting, Headed, row-some, cutting-start, cutting-end, inputs-next, schedule-next, unknown-stops, inputs-stop, schedule-stops}
use Rattle.priml_io.proofs.Decided.{equal_or_not, marked_or_not, padded_or_not}

-- the first line of a text, and what is after it
record Row (text : List ℕ) : Type 0 where
  bytes : List ℕ
  line : List ℕ
  after : List ℕ
  row : IsRow bytes line after
  is : text ≡ bytes ++ after

row_of : (text : List ℕ) → Row text
row_of [] = record { bytes = []; line = []; after = []; row = record { plain = All-nil (λ b. b ≢ 10); ended = inr (refl, refl) }; is = refl }
row_of (b ∷ bs) = go (equal_or_not b 10) (row_of bs) where
  ended : (r : Row bs) → (r.bytes ≡ r.line ++ 10 ∷ []) ⊎ ((r.bytes ≡ r.line) × (r.after ≡ [])) → (b ∷ r.bytes ≡ b ∷ r.line ++ 10 ∷ []) ⊎ ((b ∷ r.bytes ≡ b ∷ r.line) × (r.after ≡ []))
  ended r (inl e) = inl (ap (λ v. b ∷ v) e)
  ended r (inr q) = inr (ap (λ v. b ∷ v) q.0, q.1)

  go : (b ≡ 10) ⊎ (b ≢ 10) → Row bs → Row (b ∷ bs)
  go (inl e) r = record { bytes = 10 ∷ []; line = []; after = bs; row = record { plain = All-nil (λ c. c ≢ 10); ended = inl refl }; is = ap (λ v. v ∷ bs) e }
  go (inr n) r = record { bytes = b ∷ r.bytes; line = b ∷ r.line; after = r.after; row = record { plain = All-cons (λ c. c ≢ 10) b r.line n r.row.plain; ended = ended r r.row.ended }; is = ap (λ v. b ∷ v) r.is }

shorter : (text : List ℕ) (r : Row text) → 0 < length text → length r.after < length text
shorter text r some = omega (arith, row-some text r.bytes r.line r.after r.row r.is some, ap length r.is, length-append r.bytes r.after)

-- the lines of a text up to the first that is marked, and what is after them
record Part (text : List ℕ) : Type 0 where
  part : List ℕ
  after : List ℕ
  is : text ≡ part ++ after
  ends : IsPart part after

part_at : (text rest : List ℕ) (count : ℕ) → Passed text rest count → (rest ≡ []) ⊎ IsMarked rest → Part text
part_at text rest count p stop = let q = passed-part text rest count p stop in record { part = take (length text - length rest) text; after = rest; is = q.1; ends = q.0 }

-- the fuel is no less than what is left
part_from : (fuel : ℕ) (text rest : List ℕ) (count : ℕ) → length rest ≤ fuel → Passed text rest count → Part text
part_from fuel text [] count few p = part_at text [] count p (inl refl)
part_from zero text (b ∷ bs) count few p = absurd (omega arith)
part_from (suc fuel) text (b ∷ bs) count few p = go (λ rest n short q. part_from fuel text rest n short q) (marked_or_not (b ∷ bs)) (row_of (b ∷ bs)) where
  go : ((rest : List ℕ) (n : ℕ) → length rest ≤ fuel → Passed text rest n → Part text) → IsMarked (b ∷ bs) ⊎ ¬ IsMarked (b ∷ bs) → Row (b ∷ bs) → Part text
  go further (inl m) r = part_at text (b ∷ bs) count p (inr m)
  go further (inr n) r =
      let less = shorter (b ∷ bs) r (omega arith) in
      further r.after (count + 1) (omega (arith, less, few)) (passed-more text (b ∷ bs) r.after r.line r.bytes count p (omega arith) n r.is less r.row)

part_of : (text : List ℕ) → Part text
part_of text = part_from (length text) text text 0 (omega arith) (passed-none text)

abbrev Decided : List ℕ → Type 0
Decided input = ((s : Sections) × IsCut input s) ⊎ ((f : SectionFault) × HasSectionFault input f)

ended : (input program : List ℕ) (i s : Option (List ℕ)) → Cuts input program i s → Decided input
ended input program i s c = inl (texts program i s, (i, s, c, refl))

-- what the next line does
data Next (line : List ℕ) : Type 0 where
  of_inputs : IsHeading (codes "inputs") line → Next line
  of_schedule : IsHeading (codes "schedule") line → Next line
  unknown : ¬ IsHeading (codes "inputs") line → ¬ IsHeading (codes "schedule") line → Next line

next_of : (line : List ℕ) → Next line
next_of line =
    elim (padded_or_not (codes "===inputs") line) [
      | inl h ↦ of_inputs h
      | inr n ↦ elim (padded_or_not (codes "===schedule") line) [ inl h ↦ of_schedule h | inr m ↦ unknown n m ]
    ]

-- what was cut so far leads to a decision, where less is left
abbrev Further : List ℕ → List ℕ → ℕ → Type 0
Further input program fuel = (i s : Option (List ℕ)) (number : ℕ) (rest : List ℕ) → length rest ≤ fuel → Cutting input program i s number rest → Decided input

module _ (input program : List ℕ) (fuel : ℕ) (further : Further input program fuel) (number : ℕ) (rest : List ℕ) (few : length rest ≤ suc fuel) (some : 0 < length rest) (r : Row rest) (p : Part r.after) where
  headed : Headed rest r.line p.part p.after
  headed = record { bytes = r.bytes; tail = r.after; is = r.is; row = r.row; whole = p.is; part = p.ends }

  less : length p.after ≤ fuel
  less = omega (arith, shorter rest r some, few, ap length p.is, length-append p.part p.after)

  later : ℕ
  later = number + 1 + length (lines p.part)

  later_is : later ≡ number + 1 + length (lines p.part)
  unfolding later
  later_is = refl

  decided_here : (i s : Option (List ℕ)) → Cutting input program i s number rest → Next r.line → Decided input
  decided_here i s c (unknown n m) = inr (fault.UnknownSection number, unknown-stops input program i s number rest r.bytes r.line r.after c r.row r.is some n m)
  decided_here (Some x) s c (of_inputs h) = inr (fault.TwiceSection number, inputs-stop input program (Some x) s number rest r.bytes r.line r.after c r.row r.is some refl h)
  decided_here i (Some x) c (of_schedule h) = inr (fault.TwiceSection number, schedule-stops input program i (Some x) number rest r.bytes r.line r.after c r.row r.is some refl h)
  decided_here None s c (of_inputs h) = further (Some p.part) s later p.after less (inputs-next input program s number later rest r.line p.part p.after c headed some h later_is)
  decided_here i None c (of_schedule h) = further i (Some p.part) later p.after less (schedule-next input program i number later rest r.line p.part p.after c headed some h later_is)

-- the fuel is no less than what is left
decided_from : (input program : List ℕ) (fuel : ℕ) → Further input program fuel
decided_from input program fuel i s number [] few c = ended input program i s (cutting-end input program i s number c)
decided_from input program zero i s number (b ∷ bs) few c = absurd (omega arith)
decided_from input program (suc fuel) i s number (b ∷ bs) few c =
    let r = row_of (b ∷ bs) in
    decided_here input program fuel (decided_from input program fuel) number (b ∷ bs) few (omega arith) r (part_of r.after) i s c (next_of r.line)

pub all_cut : InputsAreCut
all_cut input =
    let p = part_of input in
    let n = 1 + length (lines p.part) in
    decided_from input p.part (length p.after) None None n p.after (omega arith) (cutting-start input p.part p.after n p.is p.ends refl)
