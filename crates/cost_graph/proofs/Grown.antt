-- Lists that are built up, turn by turn.
use Rattle.std.proofs.Common.{◌≡◌, ◌≢◌, ℕ, ◌+◌, ◌-◌, ◌<◌, cond, List, [], ◌∷◌, ◌++◌, length, take, get_or, set, replicate, refl, sym, ap, ◌∙◌, subst, inl, inr, arith}
use Rattle.std.specs.Prelude.{nat_eq}
use Rattle.std.specs.List.{Contains, list_any, sum_by}
use Rattle.std.specs.List.Sorted.{IsStrictlyIncreasing}
use Rattle.std.specs.declared.vec.Vec.{Vec}
use Rattle.std.specs.declared.alloc.Global.{Global}
use Rattle.std.proofs.lemmas.Map.Made.{is_member-Decides}
use Rattle.std.proofs.lemmas.Bool.{cases_eq, cases_lt, cond-true, cond-false, false_from_ne_true}
use Rattle.std.proofs.lemmas.List.{get_or_default, get_or-take, length-take, get_or-set_same, get_or-set_other, get_or-map, append-nil, take_more, length-append, length-replicate, get_or-replicate, map-set, length-map}
use Rattle.std.proofs.lemmas.List.Elements.{Contains-append_left, Contains-append_right, Contains-append_cases}
use Rattle.std.proofs.lemmas.List.Kept.{AllPairs-from_increasing}
use Rattle.std.proofs.lemmas.List.Sums.{sum_by_more}
use Rattle.std.proofs.lemmas.List.{get_or-append_right}
use Rattle.std.proofs.Math.ListN.{get_or-append}
use Rattle.cost_graph.specs.declared.graph.Thread.{Thread}
use Rattle.cost_graph.specs.Graph.{IsOwner, no_thread}
use Rattle.cost_graph.specs.View.{lists, short_lists}
use Rattle.smallvec.specs.SmallVec.{SmallVec}
use Rattle.cost_graph.proofs.Members.{decides_eq, member_or_not, no_member, member_cons, member_head}

-- a number of a rising list is not among those before it
pub new_here : (xs : List ℕ) (i : ℕ) → IsStrictlyIncreasing xs → i < length xs → Contains (take i xs) (get_or xs i 0) → ⊥
new_here xs i rising lt c =
    let p = get_or xs i 0 in
    let j_lt : c.0 < i = omega (arith, c.1, length-take i xs) in
    let j_in : c.0 < length xs = omega (arith, j_lt, lt) in
    let at : get_or xs c.0 0 ≡ p = get_or_default xs c.0 0 p j_in ∙ sym (get_or-take i xs c.0 p j_lt) ∙ c.2 in
    let less = AllPairs-from_increasing xs rising c.0 i 0 j_lt lt in
    omega (arith, less, at)

-- the list with v at its end, where u is among the numbers
abbrev more_if : List ℕ → ℕ → ℕ → List ℕ
more_if xs u v = cond (list_any (nat_eq u) xs) (v ∷ []) []

there : (xs : List ℕ) (u v : ℕ) → Contains xs u → more_if xs u v ≡ v ∷ []
there xs u v c = cond-true (list_any (nat_eq u) xs) (v ∷ []) [] ((is_member-Decides decides_eq xs u).1 c)

not_there : (xs : List ℕ) (u v : ℕ) → (Contains xs u → ⊥) → more_if xs u v ≡ []
not_there xs u v n = cond-false (list_any (nat_eq u) xs) (v ∷ []) [] (false_from_ne_true (list_any (nat_eq u) xs) (λ e. n ((is_member-Decides decides_eq xs u).0 e)))

pub added_on : (old now next : List (List ℕ)) (ps : List ℕ) (i v : ℕ) → IsStrictlyIncreasing ps → i < length ps → get_or ps i 0 < length now
    → ((u : ℕ) → get_or now u [] ≡ get_or old u [] ++ more_if (take i ps) u v) → next ≡ set now (get_or ps i 0) (get_or now (get_or ps i 0) [] ++ v ∷ [])
    → (u : ℕ) → get_or next u [] ≡ get_or old u [] ++ more_if (take (i + 1) ps) u v
added_on old now next ps i v rising lt small before e u = ap (λ l. get_or l u []) e ∙ elim (cases_eq u p) [ inl same ↦ here same | inr other ↦ else other ]
  where
    p : ℕ
    p = get_or ps i 0

    more : take (i + 1) ps ≡ take i ps ++ get_or ps i 0 ∷ []
    more = take_more ps i 0 lt

    here : u ≡ get_or ps i 0 → get_or (set now (get_or ps i 0) (get_or now (get_or ps i 0) [] ++ v ∷ [])) u [] ≡ get_or old u [] ++ more_if (take (i + 1) ps) u v
    here same =
        let none = not_there (take i ps) (get_or ps i 0) v (new_here ps i rising lt) in
        let now_is : get_or now (get_or ps i 0) [] ≡ get_or old (get_or ps i 0) [] = before (get_or ps i 0) ∙ ap (λ l. get_or old (get_or ps i 0) [] ++ l) none ∙ append-nil (get_or old (get_or ps i 0) []) in
        let has : Contains (take (i + 1) ps) (get_or ps i 0) = subst (λ l. Contains l (get_or ps i 0)) (sym more) (Contains-append_right (take i ps) (get_or ps i 0 ∷ []) (get_or ps i 0) (member_head (get_or ps i 0) [])) in
        rw same (get_or-set_same now (get_or ps i 0) (get_or now (get_or ps i 0) [] ++ v ∷ []) [] small ∙ ap (λ l. l ++ v ∷ []) now_is ∙ ap (λ l. get_or old (get_or ps i 0) [] ++ l) (sym (there (take (i + 1) ps) (get_or ps i 0) v has)))

    same_more : u ≢ get_or ps i 0 → more_if (take i ps) u v ≡ more_if (take (i + 1) ps) u v
    same_more other =
        elim (member_or_not (take i ps) u) [
          | inl c ↦ there (take i ps) u v c ∙ sym (there (take (i + 1) ps) u v (subst (λ l. Contains l u) (sym more) (Contains-append_left (take i ps) (get_or ps i 0 ∷ []) u c)))
          | inr n ↦ not_there (take i ps) u v n ∙ sym (not_there (take (i + 1) ps) u v (λ c.
              elim (Contains-append_cases (take i ps) (get_or ps i 0 ∷ []) u (subst (λ l. Contains l u) more c)) [
                | inl early ↦ n early
                | inr late ↦ elim (member_cons (get_or ps i 0) [] u late) [ inl s ↦ other (sym s) | inr z ↦ no_member u z ]
              ]))
        ]

    else : u ≢ get_or ps i 0 → get_or (set now (get_or ps i 0) (get_or now (get_or ps i 0) [] ++ v ∷ [])) u [] ≡ get_or old u [] ++ more_if (take (i + 1) ps) u v
    else other = get_or-set_other now (get_or ps i 0) u (get_or now (get_or ps i 0) [] ++ v ∷ []) [] other ∙ before u ∙ ap (λ l. get_or old u [] ++ l) (same_more other)

-- the item of a list of vectors, as a list
pub list_at : (xs : List (Vec ℕ Global)) (i : ℕ) (x : Vec ℕ Global) → i < length xs → x ≡ get_or xs i x → get_or (lists xs) i [] ≡ x.items
list_at xs i x lt e = get_or-map (λ (l : Vec ℕ Global). l.items) xs i x [] lt ∙ ap (λ (l : Vec ℕ Global). l.items) (sym e)

pub lists_length : (xs : List (Vec ℕ Global)) → length (lists xs) ≡ length xs
lists_length xs = length-map xs (λ (l : Vec ℕ Global). l.items)

pub short_at : (xs : List (SmallVec ℕ)) (i : ℕ) (x : SmallVec ℕ) → i < length xs → x ≡ get_or xs i x → get_or (short_lists xs) i [] ≡ x.items
short_at xs i x lt e = get_or-map (λ (l : SmallVec ℕ). l.items) xs i x [] lt ∙ ap (λ (l : SmallVec ℕ). l.items) (sym e)

pub short_set : (xs : List (SmallVec ℕ)) (i : ℕ) (x : SmallVec ℕ) → short_lists (set xs i x) ≡ set (short_lists xs) i x.items
short_set xs i x = map-set (λ (l : SmallVec ℕ). l.items) xs i x

pub short_length : (xs : List (SmallVec ℕ)) → length (short_lists xs) ≡ length xs
short_length xs = length-map xs (λ (l : SmallVec ℕ). l.items)

-- the vertices of one thread more have their owner
pub owners_on : (ts : List Thread) (parents : List (List ℕ)) (t : ℕ) (now next : List ℕ) → t < length ts → length now ≡ sum_by (λ (x : Thread). x.vertices) (take t ts) → next ≡ now ++ replicate (get_or ts t no_thread).vertices t
    → ((v : ℕ) → v < length now → IsOwner (record { threads = ts; parents = parents }) v (get_or now v 0))
    → (v : ℕ) → v < length next → IsOwner (record { threads = ts; parents = parents }) v (get_or next v 0)
owners_on ts parents t now next lt long e before v v_lt =
    elim (cases_lt v (length now)) [
      | inl early ↦ subst (IsOwner (record { threads = ts; parents = parents }) v) (sym (ap (λ l. get_or l v 0) e ∙ get_or-append now (replicate (get_or ts t no_thread).vertices t) 0 v early)) (before v early)
      | inr late ↦
          let size : length next ≡ length now + (get_or ts t no_thread).vertices = ap length e ∙ length-append now (replicate (get_or ts t no_thread).vertices t) ∙ ap (λ n. length now + n) (length-replicate (get_or ts t no_thread).vertices t) in
          let k : ℕ = v - length now in
          let k_lt : k < (get_or ts t no_thread).vertices = omega (arith, late, v_lt, size) in
          let is : get_or next v 0 ≡ t = ap (λ l. get_or l v 0) e ∙ get_or-append_right now (replicate (get_or ts t no_thread).vertices t) (length now) v 0 refl late ∙ get_or-replicate (get_or ts t no_thread).vertices k t 0 k_lt in
          subst (IsOwner (record { threads = ts; parents = parents }) v) (sym is) (record { within = lt; low = omega (arith, long, late); high = omega (arith, long, v_lt, size) })
    ]

pub owners_more : (ts : List Thread) (t : ℕ) (now next : List ℕ) → t < length ts → length now ≡ sum_by (λ (x : Thread). x.vertices) (take t ts) → next ≡ now ++ replicate (get_or ts t no_thread).vertices t
    → length next ≡ sum_by (λ (x : Thread). x.vertices) (take (t + 1) ts)
owners_more ts t now next lt long e =
    ap length e ∙ length-append now (replicate (get_or ts t no_thread).vertices t) ∙ ap (λ n. length now + n) (length-replicate (get_or ts t no_thread).vertices t)
    ∙ ap (λ n. n + (get_or ts t no_thread).vertices) long ∙ sym (sum_by_more (λ (x : Thread). x.vertices) ts t no_thread lt)
