-- The flaw of a step, from what ran before it and what the sets show.
use Rattle.std.proofs.Common.{◌≡◌, ℕ, ◌<◌, ◌≤◌, ◌↔◌, true, List, length, take, refl, sym, subst, inl, inr, arith}
use Rattle.std.specs.Prelude.{None, Some}
use Rattle.std.specs.List.{Contains}
use Rattle.std.specs.BTreeSet.{BTreeSet}
use Rattle.std.proofs.lemmas.List.Elements.{Contains-append_left}
use Rattle.cost_graph.specs.Graph.{CostGraph, vertex_total, vertex_priority, parents_at, IsVertexBelow}
use Rattle.priority_order.specs.Order.{IsBelow}
use Rattle.cost_graph.specs.Marks.{IsReady}
use Rattle.cost_graph.proofs.Members.{parents_seen}
use Rattle.prompt_checker.specs.Schedule.{vertices_before, step_at}
use Rattle.prompt_checker.specs.Verdict.{IsLeftOut, Overtakes, HasFlaw, IsFlaw, rank}
use Rattle.prompt_checker.specs.Inside.Watch.{IsFound, StandsAgain, IsEarly, holds, IsHeld, IsIdle, IsBroken, IsUnfair}
use Rattle.prompt_checker.specs.declared.schedule.FlawKind.{FlawKind}
use Rattle.prompt_checker.specs.declared.schedule.FlawKind.TheVariants.{EmptyStep, TooWide, Twice, NotReady, IdleCore, Inverted, Unfinished}
use Rattle.prompt_checker.proofs.Fine.{IsFine, place, no_flaw}
use Rattle.prompt_checker.proofs.Found.{first_same, least_same}

-- the sets have the ready vertices, each in that of its priority
pub record AreHeld (g : CostGraph) (done : List ℕ) (sets : List (BTreeSet ℕ)) : Type 0 where
  pub are : (p v : ℕ) → (holds sets p v ≡ true) ↔ (IsReady g done v × (vertex_priority g v ≡ p))

-- the sets without the vertices of the line
pub record AreLeft (g : CostGraph) (sets left : List (BTreeSet ℕ)) (line : List ℕ) : Type 0 where
  pub are : (p v : ℕ) → (holds left p v ≡ true) ↔ ((holds sets p v ≡ true) × ((Contains line v × (vertex_priority g v ≡ p)) → ⊥))

module _ (g : CostGraph) (pairs : List (ℕ × ℕ)) (cores : ℕ) (steps : List (List ℕ)) where
  abbrev Flawed : ℕ → FlawKind → Type 0
  Flawed = HasFlaw g (IsVertexBelow g pairs) cores steps

  -- no flaw of a kind below n
  pub none_to : (i n : ℕ) → (1 < n → Flawed i EmptyStep → ⊥) → (2 < n → Flawed i TooWide → ⊥) → (3 < n → (v : ℕ) → Flawed i (Twice v) → ⊥) → (4 < n → (v : ℕ) → Flawed i (NotReady v) → ⊥)
      → (5 < n → (u : ℕ) → Flawed i (IdleCore u) → ⊥) → (6 < n → (v u : ℕ) → Flawed i (Inverted v u) → ⊥) → (7 < n → (u : ℕ) → Flawed i (Unfinished u) → ⊥)
      → (other : FlawKind) → rank other < n → Flawed i other → ⊥
  none_to i n a b c d e f h EmptyStep lt = a lt
  none_to i n a b c d e f h TooWide lt = b lt
  none_to i n a b c d e f h (Twice v) lt = c lt v
  none_to i n a b c d e f h (NotReady v) lt = d lt v
  none_to i n a b c d e f h (IdleCore u) lt = e lt u
  none_to i n a b c d e f h (Inverted v u) lt = f lt v u
  none_to i n a b c d e f h (Unfinished u) lt = h lt u

  pub is_flaw : (i : ℕ) (kind : FlawKind) → i ≤ length steps → ((j : ℕ) → j < i → IsFine g (IsVertexBelow g pairs) cores steps j) → Flawed i kind → ((other : FlawKind) → rank other < rank kind → Flawed i other → ⊥)
      → IsFlaw g (IsVertexBelow g pairs) cores steps i kind
  is_flaw i kind le before here least = record {
    here = here;
    step = λ j other lt h. no_flaw g (IsVertexBelow g pairs) cores steps j (omega (arith, le, lt)) (before j lt) other h;
    least = least;
  }

  -- after the last step there is no flaw but one
  pub missing_flaw : (i u : ℕ) → i ≡ length steps → ((j : ℕ) → j < i → IsFine g (IsVertexBelow g pairs) cores steps j) → Flawed i (Unfinished u) → IsFlaw g (IsVertexBelow g pairs) cores steps i (Unfinished u)
  missing_flaw i u e before here =
      let le : i ≤ length steps = omega (arith, e) in
      is_flaw i (Unfinished u) le before here
      (none_to i 7 (λ _ h. past h.0) (λ _ h. past h.0) (λ _ v h. past h.0) (λ _ v h. past h.0) (λ _ w h. past h.0) (λ _ v w h. past h.0) (λ l. absurd (omega (arith, l))))
    where
      past : i < length steps → ⊥
      past lt = omega (arith, lt, e)

  module _ (i : ℕ) (lt : i < length steps) (small : (v : ℕ) → Contains (step_at steps i) v → v < vertex_total g) (before : (j : ℕ) → j < i → IsFine g (IsVertexBelow g pairs) cores steps j) where
    abbrev line : List ℕ
    line = step_at steps i

    abbrev done_list : List ℕ
    done_list = vertices_before steps i

    le : i ≤ length steps
    le = omega (arith, lt)

    pub empty_not : 0 < length line → Flawed i EmptyStep → ⊥
    empty_not s h = omega (arith, s, h.1)

    pub wide_not : length line ≤ cores → Flawed i TooWide → ⊥
    wide_not s h = omega (arith, s, h.1)

    pub twice_not : IsFound line (StandsAgain done_list line) None → (v : ℕ) → Flawed i (Twice v) → ⊥
    twice_not none v h = none h.1.0 h.1.1 (subst (StandsAgain done_list line h.1.0) (sym h.1.2) h.1.3)

    pub early_not : IsFound line (IsEarly g done_list) None → (v : ℕ) → Flawed i (NotReady v) → ⊥
    early_not none v h = none h.1.0 h.1.1 (subst (IsEarly g done_list h.1.0) (sym h.1.2) h.1.3)

    pub broken_flaw : (kind : FlawKind) → IsBroken g cores done_list line (Some kind) → IsFlaw g (IsVertexBelow g pairs) cores steps i kind
    broken_flaw EmptyStep h =
        is_flaw i EmptyStep le before (lt, h)
        (none_to i 1 (λ l. absurd (omega (arith, l))) (λ l. absurd (omega (arith, l))) (λ l. absurd (omega (arith, l))) (λ l. absurd (omega (arith, l))) (λ l. absurd (omega (arith, l))) (λ l. absurd (omega (arith, l))) (λ l. absurd (omega (arith, l))))
    broken_flaw TooWide h =
        is_flaw i TooWide le before (lt, h.1)
        (none_to i 2 (λ _. empty_not h.0) (λ l. absurd (omega (arith, l))) (λ l. absurd (omega (arith, l))) (λ l. absurd (omega (arith, l))) (λ l. absurd (omega (arith, l))) (λ l. absurd (omega (arith, l))) (λ l. absurd (omega (arith, l))))
    broken_flaw (Twice v) h =
        is_flaw i (Twice v) le before (lt, h.2)
        (none_to i 3 (λ _. empty_not h.0) (λ _. wide_not h.1) (λ l. absurd (omega (arith, l))) (λ l. absurd (omega (arith, l))) (λ l. absurd (omega (arith, l))) (λ l. absurd (omega (arith, l))) (λ l. absurd (omega (arith, l))))
    broken_flaw (NotReady v) h =
        is_flaw i (NotReady v) le before (lt, h.3)
        (none_to i 4 (λ _. empty_not h.0) (λ _. wide_not h.1) (λ _. twice_not h.2) (λ l. absurd (omega (arith, l))) (λ l. absurd (omega (arith, l))) (λ l. absurd (omega (arith, l))) (λ l. absurd (omega (arith, l))))
    broken_flaw (IdleCore u) h = absurd h
    broken_flaw (Inverted v u) h = absurd h
    broken_flaw (Unfinished u) h = absurd h

    -- a line of which nothing is wrong by itself is of ready vertices
    pub runs : IsBroken g cores done_list line None → (v : ℕ) → Contains line v → IsReady g done_list v
    runs h v c =
        let at = place line v c in
        record {
          vertex = small v c;
          waits = λ d. h.2 at.0 at.1 (subst (λ w. StandsAgain done_list line at.0 w) (sym at.2) (Contains-append_left done_list (take at.0 line) v d));
          parents = λ u d. elim (parents_seen done_list (parents_at g v)) [
            | inl all ↦ all u d
            | inr p ↦ absurd (h.3 at.0 at.1 (subst (IsEarly g done_list at.0) (sym at.2) (p.0, p.1, p.2)))
          ];
        }

    module _ (sets left : List (BTreeSet ℕ)) (held : AreHeld g (vertices_before steps i) sets) (out : AreLeft g sets left (step_at steps i)) (fine : IsBroken g cores (vertices_before steps i) (step_at steps i) None) where
      left_ready : (p u : ℕ) → holds left p u ≡ true → IsLeftOut g (IsVertexBelow g pairs) cores steps i u × (vertex_priority g u ≡ p)
      left_ready p u h =
          let stays = (out.are p u).0 h in
          let ready = (held.are p u).0 stays.0 in
          ((ready.0, λ c. stays.1 (c, ready.1)), ready.1)

      ready_left : (u : ℕ) → IsLeftOut g (IsVertexBelow g pairs) cores steps i u → holds left (vertex_priority g u) u ≡ true
      ready_left u h = (out.are (vertex_priority g u) u).1 ((held.are (vertex_priority g u) u).1 (h.0, refl), λ c. h.1 c.0)

      left_to : (u : ℕ) → IsHeld pairs left None u → IsLeftOut g (IsVertexBelow g pairs) cores steps i u
      left_to u h = (left_ready h.0 u h.2).0

      left_from : (u : ℕ) → IsLeftOut g (IsVertexBelow g pairs) cores steps i u → IsHeld pairs left None u
      left_from u h = (vertex_priority g u, tt, ready_left u h)

      over_to : (v u : ℕ) → IsHeld pairs left (Some (vertex_priority g v)) u → Overtakes g (IsVertexBelow g pairs) cores steps i v u
      over_to v u h = let r = left_ready h.0 u h.2 in (r.0, subst (IsBelow pairs (vertex_priority g v)) (sym r.1) h.1)

      over_from : (v u : ℕ) → Overtakes g (IsVertexBelow g pairs) cores steps i v u → IsHeld pairs left (Some (vertex_priority g v)) u
      over_from v u h = (vertex_priority g u, h.1, ready_left u h.0)

      idle_not : IsIdle pairs cores left line None → (u : ℕ) → Flawed i (IdleCore u) → ⊥
      idle_not none u h = none h.1 u (left_from u h.2.0)

      pub unfair_flaw : (kind : FlawKind) → IsUnfair g pairs cores left line (Some kind) → IsFlaw g (IsVertexBelow g pairs) cores steps i kind
      unfair_flaw EmptyStep h = absurd h
      unfair_flaw TooWide h = absurd h
      unfair_flaw (Twice v) h = absurd h
      unfair_flaw (NotReady v) h = absurd h
      unfair_flaw (IdleCore u) h =
          is_flaw i (IdleCore u) le before (lt, h.0, least_same (IsHeld pairs left None) (IsLeftOut g (IsVertexBelow g pairs) cores steps i) left_to left_from u h.1)
          (none_to i 5 (λ _. empty_not fine.0) (λ _. wide_not fine.1) (λ _. twice_not fine.2) (λ _. early_not fine.3) (λ l. absurd (omega (arith, l))) (λ l. absurd (omega (arith, l))) (λ l. absurd (omega (arith, l))))
      unfair_flaw (Inverted v u) h =
          is_flaw i (Inverted v u) le before (
            lt,
            first_same line (λ j w. (x : ℕ) × IsHeld pairs left (Some (vertex_priority g w)) x) (λ j w. (x : ℕ) × Overtakes g (IsVertexBelow g pairs) cores steps i w x) (λ j w s. (s.0, over_to w s.0 s.1)) (λ j w s. (s.0, over_from w s.0 s.1)) v h.1.0,
            least_same (IsHeld pairs left (Some (vertex_priority g v))) (Overtakes g (IsVertexBelow g pairs) cores steps i v) (over_to v) (over_from v) u h.1.1,
          )
          (none_to i 6 (λ _. empty_not fine.0) (λ _. wide_not fine.1) (λ _. twice_not fine.2) (λ _. early_not fine.3) (λ _. idle_not h.0) (λ l. absurd (omega (arith, l))) (λ l. absurd (omega (arith, l))))
      unfair_flaw (Unfinished u) h = absurd h

      pub fine_here : IsUnfair g pairs cores left line None → IsFine g (IsVertexBelow g pairs) cores steps i
      fine_here h = record {
        some = fine.0;
        fits = fine.1;
        once = fine.2;
        ready = fine.3;
        busy = λ less u l. h.0 less u (left_from u l);
        fair = λ v u c o. let at = place line v c in h.1 at.0 at.1 u (subst (λ w. IsHeld pairs left (Some (vertex_priority g w)) u) (sym at.2) (over_from v u o));
      }
