-- What the lines of a schedule's text give.
use Rattle.std.proofs.Common.{◌≡◌, ◌≢◌, ℕ, zero, suc, ◌+◌, ◌<◌, List, [], ◌∷◌, ◌++◌, length, get_or, map, All, Option, Some, None, Result, Ok, Err, IfErr, true, false, ◌==◌, refl, sym, ap, ◌∙◌, subst, inl, inr, ◌⊎◌, arith, append_assoc, append-nil}
use Rattle.std.specs.Prelude.{MatchOption}
use Rattle.std.specs.Result.{IsErrAnd}
use Rattle.std.proofs.lemmas.Bool.Decides.{nat_tests}
use Rattle.std.specs.List.{Contains}
use Rattle.priml_io.specs.Lines.{lines}
use Rattle.priml_io.specs.Sections.{IsRow}
use Rattle.priml_io.proofs.LinesLemmas.{lines-line, lines-last}
use Rattle.inputs_text.specs.PathText.{Pairwise, IsPartText, IsPathText}
use Rattle.inputs_text.specs.InputLines.{IsCutAtColon, words_of}
use Rattle.inputs_text.proofs.Pairs.{pairs-more, pairs-one, pairs-at, pairs-length, pairs-parted}
use Rattle.inputs_text.proofs.PathForms.{part-one, path-one}
use Rattle.inputs_text.proofs.LineForms.{cut-one, no-colon}
use Rattle.priml_io.proofs.Places.{Places, same_place, comes_before, comes_after, places}
use Rattle.std.proofs.lemmas.List.Elements.{All-cons, All-nil}
use Rattle.cost_graph.specs.Graph.{CostGraph, IsGraph, IsVertexAt, first_vertex, vertex_total}
use Rattle.cost_graph.proofs.Members.{no_member_short, member_head}
use Rattle.cost_graph.proofs.Threads.{one_path}
use Rattle.cost_graph.proofs.Ends.{thread_within}
use Rattle.prompt_checker.specs.ScheduleText.{Name, last_root, IsVertexText, IsNamed, IsVertexWord, IsUnknownWord, IsBadWord, IsStepLine, IsUnknownLine, AreStepLines, IsLineFault, IsFirstFault, HasFault, ReadsOneWay}
use Rattle.prompt_checker.specs.Inside.Looks.{IsLook, StopsAt}
use Rattle.prompt_checker.specs.declared.reader.ScheduleFault.{ScheduleFault}
use Rattle.prompt_checker.specs.declared.reader.ScheduleFault.TheVariants.{BadText, UnknownVertex, OutOfMemory}

-- what has not the form of a vertex
pub no-cut : (g : CostGraph) (text : List ℕ) → All (λ b. b ≢ 58) text → IsBadWord g text
no-cut g text p name h = no-colon h.prefix h.back (subst (All (λ b. b ≢ 58)) h.cut.is p)

pub no-path : (g : CostGraph) (text prefix back : List ℕ) → IsCutAtColon text prefix back → ((p : List ℕ) → ¬ IsPathText (last_root g) prefix p) → IsBadWord g text
no-path g text prefix back c b name h = b name.0 (subst (λ t. IsPathText (last_root g) t name.0) (cut-one text h.prefix h.back prefix back h.cut c).0 h.path)

pub no-number : (g : CostGraph) (text prefix back : List ℕ) → IsCutAtColon text prefix back → ((n : ℕ) → ¬ IsPartText back n) → IsBadWord g text
no-number g text prefix back c b name h = b name.1 (subst (λ t. IsPartText t name.1) (cut-one text h.prefix h.back prefix back h.cut c).1 h.number)

pub vertex-made : (last : ℕ) (text prefix back path : List ℕ) (n : ℕ) → IsCutAtColon text prefix back → IsPathText last prefix path → IsPartText back n → IsVertexText last text (path, n)
vertex-made last text prefix back path n c p k = record { prefix = prefix; back = back; cut = c; path = p; number = k }

-- a text names one vertex at most
vertex-one : (last : ℕ) (text : List ℕ) (x y : Name) → IsVertexText last text x → IsVertexText last text y → x ≡ y
vertex-one last text x y g h =
    let cuts = cut-one text g.prefix g.back h.prefix h.back g.cut h.cut in
    let paths : x.0 ≡ y.0 = path-one last h.prefix x.0 y.0 (subst (λ t. IsPathText last t x.0) cuts.0 g.path) h.path in
    let numbers : x.1 ≡ y.1 = part-one h.back x.1 y.1 (subst (λ t. IsPartText t x.1) cuts.1 g.number) h.number in
    let P : List ℕ → Name = λ p. (p, x.1) in
    let Q : ℕ → Name = λ n. (y.0, n) in
    ap P paths ∙ ap Q numbers

-- the looks
pub look-made : (g : CostGraph) (word path : List ℕ) (n : ℕ) (r : Option ℕ) → IsVertexText (last_root g) word (path, n) → MatchOption r ((v : ℕ) → IsVertexAt g path n v → ⊥) (IsVertexAt g path n) → IsLook g word r
look-made g word path n None t h = ((path, n), t, h)
look-made g word path n (Some v) t h = ((path, n), t, h)

look-text : (g : CostGraph) (word : List ℕ) (r : Option ℕ) → IsLook g word r → (name : Name) × IsVertexText (last_root g) word name
look-text g word None h = (h.0, h.1)
look-text g word (Some v) h = (h.0, h.1)

pub found-step : (g : CostGraph) (words : List (List ℕ)) (step : List ℕ) → Pairwise (IsLook g) words (map Some step) → Pairwise (IsVertexWord g) words step
found-step g [] [] p = tt
found-step g [] (v ∷ step) p = absurd p
found-step g (w ∷ words) [] p = absurd p
found-step g (w ∷ words) (v ∷ step) p = (p.0, found-step g words step p.1)

-- a missing look is that of a word
missing-word : (g : CostGraph) (words : List (List ℕ)) (looks : List (Option ℕ)) (k : ℕ) → Pairwise (IsLook g) words looks → k < length looks → get_or looks k None ≡ None → (word : List ℕ) × Contains words word × IsUnknownWord g word
missing-word g words [] k p lt e = absurd (omega (arith, lt))
missing-word g [] (r ∷ looks) k p lt e = absurd p
missing-word g (w ∷ words) (r ∷ looks) zero p lt e = let here : 0 < length (w ∷ words) = omega arith in (w, (0, here, refl), subst (IsLook g w) e p.0)
missing-word g (w ∷ words) (r ∷ looks) (suc k) p lt e =
    let under : k < length looks = omega (arith, lt) in
    let found = missing-word g words looks k p.1 under e in
    let at = found.1 in
    let later : suc at.0 < length (w ∷ words) = omega (arith, at.1) in
    (found.0, (suc at.0, later, at.2), found.2)

pub unknown-line : (g : CostGraph) (line : List ℕ) (looks : List (Option ℕ)) → Pairwise (IsLook g) (words_of line) looks → Contains looks None → IsUnknownLine g line
unknown-line g line looks p c = (
  λ word at bad.
      let look = pairs-at (IsLook g) (words_of line) looks at.0 word p at.1 in
      let named = look-text g word look.0 (subst (λ w. IsLook g w look.0) at.2 look.1) in
      bad named.0 named.1,
  missing-word g (words_of line) looks c.0 p c.1 c.2,
)

-- a step's line is not at fault
word-vertex : (g : CostGraph) (line step word : List ℕ) → IsStepLine g line step → Contains (words_of line) word → (v : ℕ) × IsVertexWord g word v
word-vertex g line step word p at =
    let look = pairs-at (IsVertexWord g) (words_of line) step at.0 word p at.1 in
    (look.0, subst (λ w. IsVertexWord g w look.0) at.2 look.1)

line-clash : (g : CostGraph) (k : ℕ) (line step : List ℕ) (f : ScheduleFault) → IsStepLine g line step → IsLineFault g k line f → ⊥
line-clash g k line step (BadText n) p h =
    let bad = h.1 in
    let v = word-vertex g line step bad.0 p bad.1 in
    bad.2 v.1.0 v.1.1
line-clash g k line step (UnknownVertex n) p h =
    let some = h.1.1 in
    let v = word-vertex g line step some.0 p some.1 in
    let unknown = some.2 in
    let same = vertex-one (last_root g) some.0 v.1.0 unknown.0 v.1.1 unknown.1 in
    unknown.2 v.0 (subst (λ name. IsNamed g name v.0) same v.1.2)
line-clash g k line step OutOfMemory p h = h

-- ---- one way

vertex-at-one : (g : CostGraph) (path : List ℕ) (n v w : ℕ) → IsGraph g → IsVertexAt g path n v → IsVertexAt g path n w → v ≡ w
vertex-at-one g path n v w ok a b =
    let same = one_path g a.thread b.thread ok a.within b.within (a.path_is ∙ sym b.path_is) in
    a.is ∙ ap (λ t. first_vertex g t + n) same ∙ sym b.is

word-one : (g : CostGraph) → IsGraph g → (word : List ℕ) (v w : ℕ) → IsVertexWord g word v → IsVertexWord g word w → v ≡ w
word-one g ok word v w a b =
    let same = vertex-one (last_root g) word a.0 b.0 a.1 b.1 in
    vertex-at-one g b.0.0 b.0.1 v w ok (subst (λ name. IsNamed g name v) same a.2) b.2

steps-one : (g : CostGraph) → IsGraph g → (ls : List (List ℕ)) (a b : List (List ℕ)) → AreStepLines g ls a → AreStepLines g ls b → a ≡ b
steps-one g ok ls a b = pairs-one (IsStepLine g) (λ line x y. pairs-one (IsVertexWord g) (word-one g ok) (words_of line) x y) ls a b

fault-clash : (g : CostGraph) (k : ℕ) (before : List (List ℕ)) (line : List ℕ) (after : List (List ℕ)) (steps : List (List ℕ)) (f : ScheduleFault) → AreStepLines g (before ++ line ∷ after) steps → IsLineFault g k line f → ⊥
fault-clash g k before line after steps f p h =
    let parts = pairs-parted (IsStepLine g) before line after steps p in
    line-clash g k line parts.item f parts.here h

fault-one : (g : CostGraph) (k : ℕ) (line : List ℕ) (e f : ScheduleFault) → IsLineFault g k line e → IsLineFault g k line f → e ≡ f
fault-one g k line (BadText n) (BadText m) a b = ap BadText (a.0 ∙ sym b.0)
fault-one g k line (BadText n) (UnknownVertex m) a b = absurd (b.1.0 a.1.0 a.1.1 a.1.2)
fault-one g k line (BadText n) OutOfMemory a b = absurd b
fault-one g k line (UnknownVertex n) (BadText m) a b = absurd (a.1.0 b.1.0 b.1.1 b.1.2)
fault-one g k line (UnknownVertex n) (UnknownVertex m) a b = ap UnknownVertex (a.0 ∙ sym b.0)
fault-one g k line (UnknownVertex n) OutOfMemory a b = absurd b
fault-one g k line OutOfMemory f a b = absurd a

first-one : (g : CostGraph) (ls : List (List ℕ)) (e f : ScheduleFault) → IsFirstFault g ls e → IsFirstFault g ls f → e ≡ f
first-one g ls e f h k = go (places h.before h.line h.after k.before k.line k.after (sym h.is ∙ k.is))
  where
    go : Places h.before h.line k.before k.line → e ≡ f
    go (same_place s t) =
        let place : IsLineFault g (length k.before + 1) h.line e = subst (λ b. IsLineFault g (length b + 1) h.line e) s h.wrong in
        fault-one g (length k.before + 1) k.line e f (subst (λ l. IsLineFault g (length k.before + 1) l e) t place) k.wrong
    go (comes_before m s) = absurd (fault-clash g (length h.before + 1) h.before h.line m k.steps e (subst (λ b. AreStepLines g b k.steps) s k.right) h.wrong)
    go (comes_after m s) = absurd (fault-clash g (length k.before + 1) k.before k.line m h.steps f (subst (λ b. AreStepLines g b h.steps) s h.right) k.wrong)

pub one-way : (g : CostGraph) (ls : List (List ℕ)) → IsGraph g → ReadsOneWay g ls
one-way g ls ok = record {
  one = steps-one g ok ls;
  first = first-one g ls;
  apart = λ a f p h. fault-clash g (length h.before + 1) h.before h.line h.after a f (subst (λ l. AreStepLines g l a) h.is p) h.wrong;
}

-- ---- line by line

-- the lines before the rest are the steps so far
pub record IsReading (g : CostGraph) (text rest : List ℕ) (steps : List (List ℕ)) : Type 0 where
  pub done : List (List ℕ)
  pub is : lines text ≡ done ++ lines rest
  pub right : AreStepLines g done steps

first-line : (rest bytes line after : List ℕ) → 0 < length rest → IsRow bytes line after → rest ≡ bytes ++ after → lines rest ≡ line ∷ lines after
first-line rest bytes line after some row e = go row.ended
  where
    last : (text : List ℕ) → All (λ b. b ≢ 10) text → 0 < length text → lines text ≡ text ∷ []
    last [] p h = absurd (omega (arith, h))
    last (b ∷ text) p h = lines-last b text p

    go : (bytes ≡ line ++ 10 ∷ []) ⊎ ((bytes ≡ line) × (after ≡ [])) → lines rest ≡ line ∷ lines after
    go (inl f) = ap lines (e ∙ ap (λ b. b ++ after) f ∙ append_assoc line (10 ∷ []) after) ∙ lines-line line after row.plain
    go (inr f) =
        let whole : rest ≡ line = e ∙ ap (λ b. b ++ after) f.0 ∙ ap (λ a. line ++ a) f.1 ∙ append-nil line in
        ap lines whole ∙ last line row.plain (subst (λ l. 0 < length l) whole some) ∙ ap (λ a. line ∷ lines a) (sym f.1)

pub reading-next : (g : CostGraph) (text rest bytes line after step : List ℕ) (steps next : List (List ℕ)) → IsReading g text rest steps → 0 < length rest → IsRow bytes line after → rest ≡ bytes ++ after → IsStepLine g line step → next ≡ steps ++ step ∷ []
    → IsReading g text after next
reading-next g text rest bytes line after step steps next now some row e right pushed = record {
  done = now.done ++ line ∷ [];
  is = now.is ∙ ap (λ l. now.done ++ l) (first-line rest bytes line after some row e) ∙ sym (append_assoc now.done (line ∷ []) (lines after));
  right = subst (AreStepLines g (now.done ++ line ∷ [])) (sym pushed) (pairs-more (IsStepLine g) now.done steps line step now.right right);
}

pub reading-end : (g : CostGraph) (text rest : List ℕ) (steps : List (List ℕ)) → IsReading g text rest steps → rest ≡ [] → AreStepLines g (lines text) steps
reading-end g text rest steps now e = subst (λ l. AreStepLines g l steps) (sym (now.is ∙ ap (λ r. now.done ++ lines r) e ∙ append-nil now.done)) now.right

pub reading-stops : (g : CostGraph) (text rest bytes line after : List ℕ) (steps : List (List ℕ)) (n : ℕ) (f : ScheduleFault) → IsReading g text rest steps → 0 < length rest → IsRow bytes line after → rest ≡ bytes ++ after → n ≡ length steps + 1 → StopsAt g n line f
    → HasFault g (lines text) f
reading-stops g text rest bytes line after steps n f now some row e number = go f
  where
    here : (h : ScheduleFault) → IsLineFault g n line h → IsFirstFault g (lines text) h
    here h w = record {
      before = now.done;
      line = line;
      after = lines after;
      steps = steps;
      is = now.is ∙ ap (λ l. now.done ++ l) (first-line rest bytes line after some row e);
      right = now.right;
      wrong = subst (λ k. IsLineFault g k line h) (number ∙ ap (λ k. k + 1) (sym (pairs-length (IsStepLine g) now.done steps now.right))) w;
    }

    go : (h : ScheduleFault) → StopsAt g n line h → HasFault g (lines text) h
    go (BadText k) w = here (BadText k) w
    go (UnknownVertex k) w = here (UnknownVertex k) w
    go OutOfMemory w = tt

-- ---- what a step names are vertices

named-below : (g : CostGraph) (name : Name) (v : ℕ) → IsGraph g → IsNamed g name v → v < vertex_total g
named-below g name v ok at = omega (arith, at.is, at.below, thread_within g at.thread ok at.within)

step-below : (g : CostGraph) → IsGraph g → (words : List (List ℕ)) (step : List ℕ) → Pairwise (IsVertexWord g) words step → All (λ v. v < vertex_total g) step
step-below g ok [] [] p = All-nil (λ v. v < vertex_total g)
step-below g ok [] (v ∷ step) p = absurd p
step-below g ok (w ∷ words) [] p = absurd p
step-below g ok (w ∷ words) (v ∷ step) p = All-cons (λ u. u < vertex_total g) v step (named-below g p.0.0 v ok p.0.2) (step-below g ok words step p.1)

pub steps-below : (g : CostGraph) → IsGraph g → (ls steps : List (List ℕ)) → AreStepLines g ls steps → All (λ s. All (λ v. v < vertex_total g) s) steps
steps-below g ok [] [] p = All-nil (λ (s : List ℕ). All (λ v. v < vertex_total g) s)
steps-below g ok [] (s ∷ steps) p = absurd p
steps-below g ok (l ∷ ls) [] p = absurd p
steps-below g ok (l ∷ ls) (s ∷ steps) p = All-cons (λ (x : List ℕ). All (λ v. v < vertex_total g) x) s steps (step-below g ok (words_of l) s p.0) (steps-below g ok ls steps p.1)

-- a fault that is handed on
pub handed : {A : Type 0} (g : CostGraph) (e : ScheduleFault) (r : Result A ScheduleFault) (ls : List (List ℕ)) → IsErrAnd r (λ f. f ≡ e) → HasFault g ls e → IfErr r (HasFault g ls)
handed g e (Ok x) ls is h = absurd is
handed g e (Err f) ls is h = subst (HasFault g ls) (sym is) h

-- what a test for emptiness tells
pub some-left : (n : ℕ) → (n == 0) ≡ false → 0 < n
some-left n e = grind (arith, nat_tests)

pub none-left : (xs : List ℕ) → (length xs == 0) ≡ true → xs ≡ []
none-left [] e = refl
none-left (x ∷ xs) e = absurd (no_member_short (x ∷ xs) x e (member_head x xs))
