-- The marks of a line, vertex by vertex.
use Rattle.std.proofs.Common.{◌≡◌, ℕ, ◌+◌, ◌<◌, ◌≤◌, Bool, true, false, List, [], ◌∷◌, ◌++◌, length, take, get_or, set, refl, sym, ap, ◌∙◌, subst, inl, inr, arith}
use Rattle.std.specs.Prelude.{Option, None, Some}
use Rattle.std.specs.List.{Contains}
use Rattle.std.proofs.lemmas.List.Elements.{Contains-append_left, Contains-append_right, Contains-append_cases}
use Rattle.std.proofs.lemmas.Bool.{cases_lt, both_ways}
use Rattle.std.proofs.lemmas.List.{length-set, take_more}
use Rattle.std.proofs.Math.Seq.{take-length}
use Rattle.cost_graph.specs.Marks.{is_marked}
use Rattle.cost_graph.specs.Inside.Marks.{marks_after}
use Rattle.prompt_checker.specs.Inside.Watch.{IsFound, WasMarked, AreStood, StandsAgain}
use Rattle.cost_graph.proofs.Members.{in_take}
use Rattle.cost_graph.proofs.ReadyNext.{after_marked, marked_after}
use Rattle.prompt_checker.proofs.Found.{first_same}

marks_on : (xs ys : List ℕ) (marks : List Bool) → marks_after marks (xs ++ ys) ≡ marks_after (marks_after marks xs) ys
marks_on [] ys marks = refl
marks_on (x ∷ xs) ys marks = marks_on xs ys (set marks x true)

long_after : (xs : List ℕ) (marks : List Bool) → length (marks_after marks xs) ≡ length marks
long_after [] marks = refl
long_after (x ∷ xs) marks = long_after xs (set marks x true) ∙ length-set marks x true

-- the marks after the first vertices of a line, none of which stood before
pub record AreNew (marks : List Bool) (line : List ℕ) (now : List Bool) (i : ℕ) : Type 0 where
  pub are : now ≡ marks_after marks (take i line)
  pub long : length now ≡ length marks
  pub new : (k : ℕ) → k < i → WasMarked marks line k (get_or line k 0) → ⊥

pub new_more : (marks : List Bool) (line : List ℕ) (now next : List Bool) (i : ℕ) → i < length line → AreNew marks line now i → is_marked now (get_or line i 0) ≡ false → next ≡ set now (get_or line i 0) true → AreNew marks line next (i + 1)
new_more marks line now next i lt before free e = record {
  are = e ∙ ap (λ m. set m x true) before.are ∙ sym (marks_on (take i line) (x ∷ []) marks) ∙ ap (marks_after marks) (sym (take_more line i 0 lt));
  long = ap length e ∙ length-set now x true ∙ before.long;
  new = λ k small. elim (cases_lt k i) [
    | inl early ↦ before.new k early
    | inr late ↦ (
        let same : i ≡ k = omega (arith, small, late) in
        subst (λ j. WasMarked marks line j (get_or line j 0) → ⊥) same (λ was. both_ways (is_marked now x) free (ap (λ m. is_marked m x) before.are ∙ was)))
  ];
}
  where
    x : ℕ
    x = get_or line i 0

pub found_again : (marks : List Bool) (line : List ℕ) (now : List Bool) (i : ℕ) → i < length line → AreNew marks line now i → is_marked now (get_or line i 0) ≡ true → IsFound line (WasMarked marks line) (Some (get_or line i 0))
found_again marks line now i lt before was = (i, lt, refl, ap (λ m. is_marked m (get_or line i 0)) (sym before.are) ∙ was, before.new)

pub none_again : (marks : List Bool) (line : List ℕ) (now : List Bool) (i : ℕ) → length line ≤ i → AreNew marks line now i → IsFound line (WasMarked marks line) None
none_again marks line now i le before = λ k lt. let small : k < i = omega (arith, lt, le) in before.new k small

pub marked_all : (marks : List Bool) (line : List ℕ) (now : List Bool) (i : ℕ) → i ≡ length line → AreNew marks line now i → now ≡ marks_after marks line
marked_all marks line now i e before = before.are ∙ ap (λ n. marks_after marks (take n line)) e ∙ ap (marks_after marks) (take-length line)

-- the marks of a line are those of its vertices besides those that stood
module _ (marks : List Bool) (done : List ℕ) (are : AreStood marks done) where
  pub stood_after : (vs : List ℕ) → ((v : ℕ) → Contains vs v → v < length marks) → AreStood (marks_after marks vs) (done ++ vs)
  stood_after vs small v = (
    λ m. elim (after_marked vs marks v small m) [ inl old ↦ Contains-append_left done vs v ((are v).0 old) | inr new ↦ Contains-append_right done vs v new ],
    λ c. marked_after vs marks v small (elim (Contains-append_cases done vs v c) [ inl a ↦ inl ((are v).1 a) | inr b ↦ inr b ]),
  )

  -- so a vertex that was marked stands again
  pub found_stands : (line : List ℕ) → ((v : ℕ) → Contains line v → v < length marks) → (r : Option ℕ) → IsFound line (WasMarked marks line) r → IsFound line (StandsAgain done line) r
  found_stands line small r h = by_cases r h
    where
      early : (j v : ℕ) → Contains (take j line) v → v < length marks
      early j v c = small v (in_take line j v c)

      by_cases : (r : Option ℕ) → IsFound line (WasMarked marks line) r → IsFound line (StandsAgain done line) r
      by_cases None h = λ k lt c. h k lt ((stood_after (take k line) (early k) (get_or line k 0)).1 c)
      by_cases (Some v) h = first_same line (WasMarked marks line) (StandsAgain done line) (λ j w m. (stood_after (take j line) (early j) w).0 m) (λ j w c. (stood_after (take j line) (early j) w).1 c) v h
