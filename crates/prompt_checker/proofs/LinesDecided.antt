-- Lines are a schedule of a graph, or have a first fault.
use Rattle.std.proofs.Common.{◌≡◌, ◌≢◌, ℕ, ◌+◌, ◌<◌, ◌≤◌, List, [], ◌∷◌, ◌++◌, length, map, All, refl, sym, ap, subst, ◌⊎◌, inl, inr, arith, append_assoc, append-nil}
use Rattle.std.specs.Prelude.{Option, None, Some}
use Rattle.std.specs.List.{Contains}
use Rattle.std.proofs.lemmas.Bool.{cases_lt}
use Rattle.priml_io.proofs.Decided.{same_text_or_not}
use Rattle.inputs_text.specs.PathText.{Pairwise, IsPartText, IsPathText}
use Rattle.inputs_text.specs.InputLines.{IsCutAtColon, words_of}
use Rattle.inputs_text.proofs.LinesDecided.{part_or_none, path_or_none, cut_or_none}
use Rattle.inputs_text.proofs.Pairs.{pairs-more}
use Rattle.cost_graph.specs.Graph.{CostGraph, thread_at, thread_total, first_vertex, IsVertexAt}
use Rattle.cost_graph.proofs.Members.{member_head, member_tail}
use Rattle.prompt_checker.specs.ScheduleText.{Name, last_root, IsVertexText, IsBadWord, IsStepLine, IsBadLine, IsUnknownLine, AreStepLines, IsFirstFault}
use Rattle.prompt_checker.specs.Inside.Looks.{IsLook}
use Rattle.prompt_checker.specs.Inside.Watch.{IsLeastOf}
use Rattle.prompt_checker.specs.Laws.{LinesAreRead}
use Rattle.prompt_checker.specs.declared.reader.ScheduleFault.{ScheduleFault}
use Rattle.prompt_checker.specs.declared.reader.ScheduleFault.TheVariants.{BadText, UnknownVertex}
use Rattle.prompt_checker.proofs.ReadLines.{no-cut, no-path, no-number, vertex-made, found-step, unknown-line}
use Rattle.prompt_checker.proofs.Search.{least_found}

-- the vertex of a graph with this name, or that it has none
module _ (g : CostGraph) (path : List ℕ) (n : ℕ) where
  abbrev Owns : ℕ → Type 0
  Owns t = (t < thread_total g) × ((thread_at g t).path ≡ path) × (n < (thread_at g t).vertices)

  owns_or_not : (t : ℕ) → Owns t ⊎ (Owns t → ⊥)
  owns_or_not t = go (cases_lt t (thread_total g)) (same_text_or_not (thread_at g t).path path) (cases_lt n (thread_at g t).vertices) where
    go : (t < thread_total g) ⊎ (thread_total g ≤ t) → ((thread_at g t).path ≡ path) ⊎ ((thread_at g t).path ≢ path) → (n < (thread_at g t).vertices) ⊎ ((thread_at g t).vertices ≤ n) → Owns t ⊎ (Owns t → ⊥)
    go (inr past) e low = inr (λ h. let lt = h.0 in omega (arith, past, lt))
    go (inl lt) (inr other) low = inr (λ h. other h.1)
    go (inl lt) (inl e) (inr past) = inr (λ h. let lt = h.2 in omega (arith, past, lt))
    go (inl lt) (inl e) (inl low) = inl (lt, e, low)

  vertex_or_none : ((v : ℕ) × IsVertexAt g path n v) ⊎ ((v : ℕ) → IsVertexAt g path n v → ⊥)
  vertex_or_none = go (least_found Owns owns_or_not (thread_total g) (λ t h. h.0)) where
    go : (r : Option ℕ) × IsLeastOf Owns r → ((v : ℕ) × IsVertexAt g path n v) ⊎ ((v : ℕ) → IsVertexAt g path n v → ⊥)
    go (None, none) = inr (λ v h. none h.thread (h.within, h.path_is, h.below))
    go (Some t, least) = inl (first_vertex g t + n, record { thread = t; within = least.0.0; path_is = least.0.1; below = least.0.2; is = refl })

-- the form of a word
named_or_bad : (g : CostGraph) (word : List ℕ) → ((name : Name) × IsVertexText (last_root g) word name) ⊎ IsBadWord g word
named_or_bad g word = go (cut_or_none word) where
  made : (prefix back : List ℕ) → IsCutAtColon word prefix back → ((p : List ℕ) × IsPathText (last_root g) prefix p) ⊎ ((p : List ℕ) → ¬ IsPathText (last_root g) prefix p) → ((n : ℕ) × IsPartText back n) ⊎ ((n : ℕ) → ¬ IsPartText back n) → ((name : Name) × IsVertexText (last_root g) word name) ⊎ IsBadWord g word
  made prefix back c (inr none) n = inr (no-path g word prefix back c none)
  made prefix back c (inl p) (inr none) = inr (no-number g word prefix back c none)
  made prefix back c (inl p) (inl n) = inl ((p.0, n.0), vertex-made (last_root g) word prefix back p.0 n.0 c p.1 n.1)

  go : ((path : List ℕ) × (numbers : List ℕ) × IsCutAtColon word path numbers) ⊎ All (λ b. b ≢ 58) word → ((name : Name) × IsVertexText (last_root g) word name) ⊎ IsBadWord g word
  go (inr none) = inr (no-cut g word none)
  go (inl c) = made c.0 c.1 c.2 (path_or_none (last_root g) c.0) (part_or_none c.1)

module _ (g : CostGraph) where
  -- what looking a word up gives
  looked_up : (word : List ℕ) → ((r : Option ℕ) × IsLook g word r) ⊎ IsBadWord g word
  looked_up word = go (named_or_bad g word) where
    at : (name : Name) → IsVertexText (last_root g) word name → ((v : ℕ) × IsVertexAt g name.0 name.1 v) ⊎ ((v : ℕ) → IsVertexAt g name.0 name.1 v → ⊥) → ((r : Option ℕ) × IsLook g word r) ⊎ IsBadWord g word
    at name t (inl v) = inl (Some v.0, (name, t, v.1))
    at name t (inr none) = inl (None, (name, t, none))

    go : ((name : Name) × IsVertexText (last_root g) word name) ⊎ IsBadWord g word → ((r : Option ℕ) × IsLook g word r) ⊎ IsBadWord g word
    go (inr bad) = inr bad
    go (inl named) = at named.0 named.1 (vertex_or_none g named.0.0 named.0.1)

  all_looked_up : (words : List (List ℕ)) → ((looks : List (Option ℕ)) × Pairwise (IsLook g) words looks) ⊎ ((word : List ℕ) × Contains words word × IsBadWord g word)
  all_looked_up [] = inl ([], tt)
  all_looked_up (w ∷ words) = go (looked_up w) (all_looked_up words) where
    go : ((r : Option ℕ) × IsLook g w r) ⊎ IsBadWord g w → ((looks : List (Option ℕ)) × Pairwise (IsLook g) words looks) ⊎ ((word : List ℕ) × Contains words word × IsBadWord g word) → ((looks : List (Option ℕ)) × Pairwise (IsLook g) (w ∷ words) looks) ⊎ ((word : List ℕ) × Contains (w ∷ words) word × IsBadWord g word)
    go (inr bad) rest = inr (w, member_head w words, bad)
    go (inl r) (inr bad) = inr (bad.0, member_tail w words bad.0 bad.1, bad.2)
    go (inl r) (inl looks) = inl (r.0 ∷ looks.0, (r.1, looks.1))

  -- each look has a vertex, or one has none
  all_or_missing : (looks : List (Option ℕ)) → ((step : List ℕ) × (looks ≡ map Some step)) ⊎ Contains looks None
  all_or_missing [] = inl ([], refl)
  all_or_missing (None ∷ looks) = inr (member_head None looks)
  all_or_missing (Some v ∷ looks) =
      elim (all_or_missing looks) [
        | inl step ↦ inl (v ∷ step.0, ap (λ l. Some v ∷ l) step.1)
        | inr none ↦ inr (member_tail (Some v) looks None none)
      ]

  -- a line is a step, or is at fault
  data LineDecided (line : List ℕ) : Type 0 where
    a_step : (step : List ℕ) → IsStepLine g line step → LineDecided line
    bad : IsBadLine g line → LineDecided line
    unknown : IsUnknownLine g line → LineDecided line

  line_decided : (line : List ℕ) → LineDecided line
  line_decided line = go (all_looked_up (words_of line)) where
    at : (looks : List (Option ℕ)) → Pairwise (IsLook g) (words_of line) looks → ((step : List ℕ) × (looks ≡ map Some step)) ⊎ Contains looks None → LineDecided line
    at looks p (inl step) = a_step step.0 (found-step g (words_of line) step.0 (subst (Pairwise (IsLook g) (words_of line)) step.1 p))
    at looks p (inr none) = unknown (unknown-line g line looks p none)

    go : ((looks : List (Option ℕ)) × Pairwise (IsLook g) (words_of line) looks) ⊎ ((word : List ℕ) × Contains (words_of line) word × IsBadWord g word) → LineDecided line
    go (inr word) = bad word
    go (inl looks) = at looks.0 looks.1 (all_or_missing looks.0)

  abbrev Decided : List (List ℕ) → Type 0
  Decided ls = ((steps : List (List ℕ)) × AreStepLines g ls steps) ⊎ ((f : ScheduleFault) × IsFirstFault g ls f)

  -- the next line, behind lines that are steps
  next_decided : (before : List (List ℕ)) (steps : List (List ℕ)) → AreStepLines g before steps → (line : List ℕ) (after : List (List ℕ)) → LineDecided line
      → ((later : List (List ℕ)) × AreStepLines g (before ++ line ∷ []) later) ⊎ ((f : ScheduleFault) × IsFirstFault g (before ++ line ∷ after) f)
  next_decided before steps right line after (a_step step h) = inl (steps ++ step ∷ [], pairs-more (IsStepLine g) before steps line step right h)
  next_decided before steps right line after (bad h) = inr (BadText (length before + 1), record { before = before; line = line; after = after; steps = steps; is = refl; right = right; wrong = (refl, h) })
  next_decided before steps right line after (unknown h) = inr (UnknownVertex (length before + 1), record { before = before; line = line; after = after; steps = steps; is = refl; right = right; wrong = (refl, h) })

  decided_from : (before : List (List ℕ)) (steps : List (List ℕ)) → AreStepLines g before steps → (after : List (List ℕ)) → Decided (before ++ after)
  decided_from before steps right [] = inl (steps, subst (λ ls. AreStepLines g ls steps) (sym (append-nil before)) right)
  decided_from before steps right (line ∷ after) =
      elim (next_decided before steps right line after (line_decided line)) [
        | inr f ↦ inr f
        | inl more ↦ subst Decided (append_assoc before (line ∷ []) after) (decided_from (before ++ line ∷ []) more.0 more.1 after)
      ]

pub all_read : LinesAreRead
all_read g ls = decided_from g [] [] tt ls
