-- What the lines that were read so far give, and the first line at fault.
use Rattle.std.proofs.Common.{◌≡◌, ◌≢◌, ℕ, suc, ◌+◌, ◌<◌, ℤ, List, [], ◌∷◌, ◌++◌, length, take, drop, get_or, map, Option, None, Some, Result, Ok, Err, IfErr, refl, sym, ap, subst, ◌∙◌, inl, inr, ◌⊎◌, arith, append-nil, take-append-drop, drop-cons, length-take, length-append}
use Rattle.std.specs.Result.{IsErrAnd}
use Rattle.std.proofs.lemmas.List.{map-append}
use Rattle.priml_io.proofs.Places.{Places, same_place, comes_before, comes_after, places}
use Rattle.priml_syntax.specs.Inputs.{IsNoneOf, NoPathTwice}
use Rattle.inputs_text.specs.declared.inputs.InputFault.{InputFault}
use Rattle.inputs_text.specs.declared.inputs.InputFault.TheVariants as fault
use Rattle.inputs_text.specs.PathText.{Pairwise}
use Rattle.inputs_text.specs.InputLines.{IsInputLine}
use Rattle.inputs_text.specs.Inputs.{present, HasPath, IsInputs, IsFaultAt, IsFirstFault, HasInputFault, ReadsOneWay}
use Rattle.inputs_text.specs.Inside.Forms.{AddsLine, StopsAt}
use Rattle.inputs_text.proofs.Pairs.{pairs-more, pairs-one, pairs-parted}
use Rattle.inputs_text.proofs.LineForms.{line-one}
use Rattle.inputs_text.proofs.SplitLines.{Ends}

present-append : {A : Type 0} (xs ys : List (Option A)) → present (xs ++ ys) ≡ present xs ++ present ys
present-append [] ys = refl
present-append (None ∷ xs) ys = present-append xs ys
present-append (Some x ∷ xs) ys = ap (λ v. x ∷ v) (present-append xs ys)

none-more : (p : List ℕ) (xs : List (List ℕ × List ℤ)) (x : List ℕ × List ℤ) → IsNoneOf p xs → x.0 ≢ p → IsNoneOf p (xs ++ x ∷ [])
none-more p [] x n d = (d, tt)
none-more p (y ∷ xs) x n d = (n.0, none-more p xs x n.1 d)

once-more : (xs : List (List ℕ × List ℤ)) (x : List ℕ × List ℤ) → NoPathTwice xs → IsNoneOf x.0 xs → NoPathTwice (xs ++ x ∷ [])
once-more [] x o n = (tt, tt)
once-more (y ∷ xs) x o n = (none-more y.0 xs x o.0 (λ e. n.0 (sym e)), once-more xs x o.1 n.1)

-- one line more
pub inputs-more : (ls : List (List ℕ)) (line : List ℕ) (lists later : List (List ℕ × List ℤ)) → IsInputs ls lists → AddsLine line lists later → IsInputs (ls ++ line ∷ []) later
inputs-more ls line lists later i (inl (h, e)) =
    record {
      forms = i.forms ++ None ∷ [];
      each = pairs-more IsInputLine ls i.forms line None i.each h;
      gives = e ∙ i.gives ∙ sym (present-append i.forms (None ∷ []) ∙ append-nil (present i.forms));
      once = rw e i.once;
    }
inputs-more ls line lists later i (inr (x, h, n, e)) =
    record {
      forms = i.forms ++ Some x ∷ [];
      each = pairs-more IsInputLine ls i.forms line (Some x) i.each h;
      gives = e ∙ ap (λ v. v ++ x ∷ []) i.gives ∙ sym (present-append i.forms (Some x ∷ []));
      once = rw e (once-more lists x i.once n);
    }

-- the same, where the lines are read from a list of slices
pub inputs-step : {C : Type 0} (v : C → List ℕ) (xs : List C) (x : C) (lists later : List (List ℕ × List ℤ)) → IsInputs (map v xs) lists → AddsLine (v x) lists later → IsInputs (map v (xs ++ x ∷ [])) later
inputs-step v xs x lists later i a = rw (map-append v xs (x ∷ [])) (inputs-more (map v xs) (v x) lists later i a)

empty-none : (form : Option (List ℕ × List ℤ)) → IsInputLine [] form → form ≡ None
empty-none form h = line-one [] form None h (inl refl)

present-last : (prefix back : List (Option (List ℕ × List ℤ))) (form : Option (List ℕ × List ℤ)) → form ≡ None → Pairwise IsInputLine [] back → present (prefix ++ form ∷ back) ≡ present prefix
present-last prefix [] form e p = ap (λ f. present (prefix ++ f ∷ [])) e ∙ present-append prefix (None ∷ []) ∙ append-nil (present prefix)
present-last prefix (x ∷ back) form e p = absurd p

-- an empty text behind the lines gives nothing
inputs-last : (ls : List (List ℕ)) (lists : List (List ℕ × List ℤ)) → IsInputs (ls ++ [] ∷ []) lists → IsInputs ls lists
inputs-last ls lists i =
    let parts = pairs-parted IsInputLine ls [] [] i.forms i.each in
    record {
      forms = parts.prefix;
      each = parts.before;
      gives = i.gives ∙ ap present parts.is ∙ present-last parts.prefix parts.back parts.item (empty-none parts.item parts.here) parts.after;
      once = i.once;
    }

pub inputs-ends : (ls pieces : List (List ℕ)) (lists : List (List ℕ × List ℤ)) → Ends ls pieces → IsInputs pieces lists → IsInputs ls lists
inputs-ends ls pieces lists (inl e) i = rw e at i
inputs-ends ls pieces lists (inr e) i = inputs-last ls lists (rw e at i)

-- the last of a list, and an item of it
last-or-before : {A : Type 0} (ls : List A) (x : A) (before : List A) (l : A) (after : List A) → ls ++ x ∷ [] ≡ before ++ l ∷ after → (l ≡ x) ⊎ ((rest : List A) × (ls ≡ before ++ l ∷ rest))
last-or-before [] x [] l after e = let same : l ≡ x = cc in inl same
last-or-before (y ∷ ls) x [] l after e = let same : y ≡ l = cc in inr (ls, ap (λ v. v ∷ ls) same)
last-or-before [] x (b ∷ before) l after e = absurd (omega (arith, ap length e, length-append before (l ∷ after)))
last-or-before {A} (y ∷ ls) x (b ∷ before) l after e =
    let head : y ≡ b = cc in
    let tail : ls ++ x ∷ [] ≡ before ++ l ∷ after = cc in
    go head (last-or-before ls x before l after tail)
  where
    go : y ≡ b → (l ≡ x) ⊎ ((rest : List A) × (ls ≡ before ++ l ∷ rest)) → (l ≡ x) ⊎ ((rest : List A) × (y ∷ ls ≡ b ∷ (before ++ l ∷ rest)))
    go h (inl s) = inl s
    go h (inr (rest, s)) = inr (rest, ap (λ v. v ∷ ls) h ∙ ap (λ v. b ∷ v) s)

-- an empty line is not at fault
empty-right : (k : ℕ) (lists : List (List ℕ × List ℤ)) (f : InputFault) → IsFaultAt k [] lists f → ⊥
empty-right k lists (fault.BadLine n) h = h.1 None (inl refl)
empty-right k lists (fault.TwicePath n) (e, (given, h, m)) = let clash : Some given ≡ None = empty-none (Some given) h in absurd (cc)
empty-right k lists fault.OutOfMemory h = h

fault-ends : (ls pieces : List (List ℕ)) (f : InputFault) → Ends ls pieces → IsFirstFault pieces f → IsFirstFault ls f
fault-ends ls pieces f (inl e) h = rw e at h
fault-ends ls pieces f (inr e) h = go (last-or-before ls [] h.before h.line h.after (sym e ∙ h.is))
  where
    go : (h.line ≡ []) ⊎ ((rest : List (List ℕ)) × (ls ≡ h.before ++ h.line ∷ rest)) → IsFirstFault ls f
    go (inl s) = absurd (empty-right (length h.before + 1) h.lists f (rw s at h.wrong))
    go (inr (rest, s)) = record { before = h.before; line = h.line; after = rest; lists = h.lists; is = s; right = h.right; wrong = h.wrong }

-- the lines before piece n are right, and it is at fault
fault-here : (ls pieces : List (List ℕ)) (n : ℕ) (line : List ℕ) (lists : List (List ℕ × List ℤ)) (f : InputFault) → Ends ls pieces → n < length pieces → line ≡ get_or pieces n line → IsInputs (take n pieces) lists → IsFaultAt (n + 1) line lists f → IsFirstFault ls f
fault-here ls pieces n line lists f ends h at i w =
    let split : drop n pieces ≡ line ∷ drop (suc n) pieces = drop-cons pieces n line h ∙ ap (λ v. v ∷ drop (suc n) pieces) (sym at) in
    let size : length (take n pieces) ≡ n = omega (arith, length-take n pieces) in
    fault-ends ls pieces f ends (record {
      before = take n pieces;
      line = line;
      after = drop (suc n) pieces;
      lists = lists;
      is = sym (take-append-drop n pieces) ∙ ap (λ v. take n pieces ++ v) split;
      right = i;
      wrong = rw size w;
    })

pub stops-here : (ls pieces : List (List ℕ)) (n : ℕ) (line : List ℕ) (lists : List (List ℕ × List ℤ)) (f : InputFault) → Ends ls pieces → n < length pieces → line ≡ get_or pieces n line → IsInputs (take n pieces) lists → StopsAt (n + 1) line lists f → HasInputFault ls f
stops-here ls pieces n line lists fault.OutOfMemory ends h at i w = tt
stops-here ls pieces n line lists (fault.BadLine k) ends h at i w = fault-here ls pieces n line lists (fault.BadLine k) ends h at i w
stops-here ls pieces n line lists (fault.TwicePath k) ends h at i w = fault-here ls pieces n line lists (fault.TwicePath k) ends h at i w

forms-one : (ls : List (List ℕ)) (f g : List (Option (List ℕ × List ℤ))) → Pairwise IsInputLine ls f → Pairwise IsInputLine ls g → f ≡ g
forms-one ls f g p q = pairs-one IsInputLine line-one ls f g p q

lists-one : (ls : List (List ℕ)) (a b : List (List ℕ × List ℤ)) → IsInputs ls a → IsInputs ls b → a ≡ b
lists-one ls a b i j = i.gives ∙ ap present (forms-one ls i.forms j.forms i.each j.each) ∙ sym j.gives

none-has : (p : List ℕ) (xs : List (List ℕ × List ℤ)) → IsNoneOf p xs → HasPath p xs → ⊥
none-has p [] n h = h
none-has p (x ∷ xs) n (inl e) = n.0 e
none-has p (x ∷ xs) n (inr h) = none-has p xs n.1 h

none-later : (p : List ℕ) (xs : List (List ℕ × List ℤ)) (x : List ℕ × List ℤ) (ys : List (List ℕ × List ℤ)) → IsNoneOf p (xs ++ x ∷ ys) → x.0 ≢ p
none-later p [] x ys n = n.0
none-later p (y ∷ xs) x ys n = none-later p xs x ys n.1

twice-clash : (xs : List (List ℕ × List ℤ)) (x : List ℕ × List ℤ) (ys : List (List ℕ × List ℤ)) → NoPathTwice (xs ++ x ∷ ys) → HasPath x.0 xs → ⊥
twice-clash [] x ys o h = h
twice-clash (y ∷ xs) x ys o (inl e) = none-later y.0 xs x ys o.0 (sym e)
twice-clash (y ∷ xs) x ys o (inr h) = twice-clash xs x ys o.1 h

-- a line at fault after right lines makes the whole no inputs
fault-clash : (before : List (List ℕ)) (line : List ℕ) (after : List (List ℕ)) (lists all : List (List ℕ × List ℤ)) (k : ℕ) (f : InputFault) → IsInputs before lists → IsInputs (before ++ line ∷ after) all → IsFaultAt k line lists f → ⊥
fault-clash before line after lists all k fault.OutOfMemory i j w = w
fault-clash before line after lists all k (fault.BadLine n) i j w =
    let parts = pairs-parted IsInputLine before line after j.forms j.each in
    w.1 parts.item parts.here
fault-clash before line after lists all k (fault.TwicePath n) i j (e, (given, h, m)) =
    let parts = pairs-parted IsInputLine before line after j.forms j.each in
    let item : parts.item ≡ Some given = line-one line parts.item (Some given) parts.here h in
    let prefix : lists ≡ present parts.prefix = i.gives ∙ ap present (forms-one before i.forms parts.prefix i.each parts.before) in
    let whole : all ≡ present parts.prefix ++ given ∷ present parts.back = j.gives ∙ ap present (parts.is ∙ ap (λ v. parts.prefix ++ v ∷ parts.back) item) ∙ present-append parts.prefix (Some given ∷ parts.back) in
    twice-clash (present parts.prefix) given (present parts.back) (rw whole at j.once) (rw prefix at m)

pub inputs-clash : (ls : List (List ℕ)) (all : List (List ℕ × List ℤ)) (f : InputFault) → IsInputs ls all → IsFirstFault ls f → ⊥
inputs-clash ls all f i h = fault-clash h.before h.line h.after h.lists all (length h.before + 1) f h.right (rw h.is at i) h.wrong

-- a line is at fault in one way
fault-one : (k : ℕ) (line : List ℕ) (lists : List (List ℕ × List ℤ)) (f g : InputFault) → IsFaultAt k line lists f → IsFaultAt k line lists g → f ≡ g
fault-one k line lists fault.OutOfMemory g v w = absurd v
fault-one k line lists (fault.BadLine n) fault.OutOfMemory v w = absurd w
fault-one k line lists (fault.BadLine n) (fault.BadLine m) v w = ap fault.BadLine (v.0 ∙ sym w.0)
fault-one k line lists (fault.BadLine n) (fault.TwicePath m) v (e, (given, h, p)) = absurd (v.1 (Some given) h)
fault-one k line lists (fault.TwicePath n) fault.OutOfMemory v w = absurd w
fault-one k line lists (fault.TwicePath n) (fault.BadLine m) (e, (given, h, p)) w = absurd (w.1 (Some given) h)
fault-one k line lists (fault.TwicePath n) (fault.TwicePath m) v w = ap fault.TwicePath (v.0 ∙ sym w.0)

first-one : (ls : List (List ℕ)) (f g : InputFault) → IsFirstFault ls f → IsFirstFault ls g → f ≡ g
first-one ls f g h k = go (places h.before h.line h.after k.before k.line k.after (sym h.is ∙ k.is))
  where
    go : Places h.before h.line k.before k.line → f ≡ g
    go (same_place s t) =
        let lists : h.lists ≡ k.lists = lists-one k.before h.lists k.lists (rw s at h.right) k.right in
        fault-one (length k.before + 1) k.line k.lists f g (rw (s, t, lists) at h.wrong) k.wrong
    go (comes_before m s) = absurd (fault-clash h.before h.line m h.lists k.lists (length h.before + 1) f h.right (rw s at k.right) h.wrong)
    go (comes_after m s) = absurd (fault-clash k.before k.line m k.lists h.lists (length k.before + 1) g k.right (rw s at h.right) k.wrong)

pub one-way : (ls : List (List ℕ)) → ReadsOneWay ls
one-way ls = record { one = lists-one ls; first = first-one ls; apart = inputs-clash ls }

-- a fault that is handed on
pub handed : {A : Type 0} (e : InputFault) (r : Result A InputFault) (ls : List (List ℕ)) → IsErrAnd r (λ f. f ≡ e) → HasInputFault ls e → IfErr r (HasInputFault ls)
handed e (Ok x) ls is h = absurd is
handed e (Err f) ls is h = subst (HasInputFault ls) (sym is) h
