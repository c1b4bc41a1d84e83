-- Threads by their paths, and the numbers of their vertices.
use Rattle.std.proofs.Common.{◌≡◌, ◌≢◌, ℕ, zero, suc, ◌+◌, ◌-◌, ◌<◌, ◌≤◌, Bool, true, false, List, [], ◌∷◌, length, take, get_or, map, refl, sym, ap, ◌∙◌, subst, inl, inr, arith}
use Rattle.std.specs.Prelude.{Option, Some, Result, Ok, Err, IfOk, IfErr, if◌then◌else◌}
use Rattle.std.specs.List.{sum_by, AllByRecursion, Contains, HoldsAt}
use Rattle.std.proofs.lemmas.Bool.{cases_lt}
use Rattle.std.proofs.lemmas.List.{get_or-map, length-map}
use Rattle.std.proofs.lemmas.List.Elements.{Contains-get_or}
use Rattle.std.proofs.lemmas.List.Sums.{sum_by-cons, sum_by_more, sum_by_more_le}
use Rattle.priml_syntax.specs.declared.record.Record.{Record}
use Rattle.priml_syntax.specs.Paths.{Precedes, same_path}
use Rattle.priml_syntax.specs.Values.{Entry}
use Rattle.priml_syntax.specs.Read.{read_record}
use Rattle.priml_syntax.specs.Records.{Each, InPathOrder}
use Rattle.priml_syntax.proofs.Orders.{irreflexive, same_path_is, same_path_refl, same_path_not}
use Rattle.cost_graph.specs.declared.graph.Thread.{Thread}
use Rattle.cost_graph.specs.Graph.{Vertex, no_thread, name_in, AreInOrder}
use Rattle.cost_graph.specs.Records.{Part, part_of, parts_of, parts_in, part_at, event_total, thread_of, IsThere}
use Rattle.cost_graph.specs.Inside.Tables.{no_part, part_nth, first_in, vertex_at, IsNumber}
use Rattle.cost_graph.proofs.Members.{member_head, member_tail}
use Rattle.cost_graph.proofs.Names.{name_here}

-- ---- records as threads

pub parts_length : (rs : List Record) → length (parts_in rs) ≡ length rs
parts_length rs = length-map (map read_record rs) part_of ∙ length-map rs read_record

pub nth_of : (rs : List Record) (t : ℕ) (r : Record) → t < length rs → r ≡ get_or rs t r → part_nth (parts_in rs) t ≡ part_of (read_record r)
nth_of rs t r lt e =
    get_or-map part_of (map read_record rs) t (read_record r) no_part (omega (arith, lt, length-map rs read_record))
    ∙ ap part_of (get_or-map read_record rs t r (read_record r) lt) ∙ ap (λ (z : Record). part_of (read_record z)) (sym e)

-- a thread's record
pub record_at : (rs : List Record) (t : ℕ) → t < length rs → (r : Record) × Contains rs r × (part_nth (parts_in rs) t ≡ part_of (read_record r))
record_at [] t lt = absurd (omega (arith, lt))
record_at (r ∷ rs) zero lt = (r, member_head r rs, refl)
record_at (r ∷ rs) (suc t) lt = let x = record_at rs t (omega (arith, lt)) in (x.0, member_tail r rs x.0 x.1, x.2)

held_path : (rs : List Record) (t : ℕ) (p : List ℕ) → t < length rs → HoldsAt (λ (y : Record). (read_record y).path ≡ p) rs t → (part_nth (parts_in rs) t).path ≡ p
held_path [] t p lt h = absurd (omega (arith, lt))
held_path (r ∷ rs) zero p lt h = h r
held_path (r ∷ rs) (suc t) p lt h = held_path rs t p (omega (arith, lt)) (λ d. h d)

-- ---- the order of paths

each_part : (p : List ℕ) (es : List Entry) (j : ℕ) → Each (λ (x : Entry). Precedes p x.path) es → j < length es → Precedes p (part_nth (parts_of es) j).path
each_part p [] j h lt = absurd (omega (arith, lt))
each_part p (e ∷ es) zero h lt = h.0
each_part p (e ∷ es) (suc j) h lt = each_part p es j h.1 (omega (arith, lt))

pub parts_rise : (es : List Entry) (i j : ℕ) → InPathOrder es → i < j → j < length es → Precedes (part_nth (parts_of es) i).path (part_nth (parts_of es) j).path
parts_rise [] i j h less lt = absurd (omega (arith, lt))
parts_rise (e ∷ es) i zero h less lt = absurd (omega (arith, less))
parts_rise (e ∷ es) zero (suc j) h less lt = each_part e.path es j h.0 (omega (arith, lt))
parts_rise (e ∷ es) (suc i) (suc j) h less lt = parts_rise es i j h.1 (omega (arith, less)) (omega (arith, lt))

-- no path stands twice
abbrev pub AreApart : List Part → Type 0
AreApart xs = (i j : ℕ) → i < length xs → j < length xs → (part_nth xs i).path ≡ (part_nth xs j).path → i ≡ j

pub apart_of : (es : List Entry) → InPathOrder es → AreApart (parts_of es)
apart_of es order i j i_lt j_lt e =
    let long : length (parts_of es) ≡ length es = length-map es part_of in
    let q : List ℕ = (part_nth (parts_of es) j).path in
    elim (cases_lt i j) [
      | inl less ↦ absurd (irreflexive q (subst (λ p. Precedes p q) e (parts_rise es i j order less (omega (arith, j_lt, long)))))
      | inr more ↦ elim (cases_lt j i) [
        | inl less ↦ absurd (irreflexive q (subst (Precedes q) e (parts_rise es j i order less (omega (arith, i_lt, long)))))
        | inr less ↦ omega (arith, more, less)
      ]
    ]

pub apart_in : (rs : List Record) → InPathOrder (map read_record rs) → AreApart (parts_in rs)
apart_in rs order = apart_of (map read_record rs) order

each_thread : (p : List ℕ) (es : List Entry) → Each (λ (x : Entry). Precedes p x.path) es → AllByRecursion (λ (x : Thread). Precedes p x.path) (map thread_of (parts_of es))
each_thread p [] h = tt
each_thread p (e ∷ es) h = (h.0, each_thread p es h.1)

pub threads_in_order : (es : List Entry) → InPathOrder es → AreInOrder (map thread_of (parts_of es))
threads_in_order [] h = tt
threads_in_order (e ∷ es) h = (each_thread e.path es h.0, threads_in_order es h.1)

-- ---- the thread of a path

pub part_found : (xs : List Part) (p : List ℕ) (x : Part) → part_at xs p ≡ Some x → (t : ℕ) × (t < length xs) × (part_nth xs t ≡ x) × (x.path ≡ p)
part_found [] p x e = let z : ⊥ = cc in absurd z
part_found (y ∷ ys) p x e = go (same_path y.path p) refl (part_found ys p x)
  where
    go : (b : Bool) → same_path y.path p ≡ b → (part_at ys p ≡ Some x → (t : ℕ) × (t < length ys) × (part_nth ys t ≡ x) × (x.path ≡ p)) → (t : ℕ) × (t < length (y ∷ ys)) × (part_nth (y ∷ ys) t ≡ x) × (x.path ≡ p)
    go true s rest =
        let f : Some y ≡ Some x = ap (λ (b : Bool). if b then Some y else part_at ys p) (sym s) ∙ e in
        let same : y ≡ x = cc in
        let some : 0 < length (y ∷ ys) = omega arith in
        (0, some, same, ap (λ (z : Part). z.path) (sym same) ∙ same_path_is y.path p s)
    go false s rest =
        let f : part_at ys p ≡ Some x = ap (λ (b : Bool). if b then Some y else part_at ys p) (sym s) ∙ e in
        let r = rest f in
        let below : suc r.0 < length (y ∷ ys) = omega (arith, r.1) in
        (suc r.0, below, r.2, r.3)

pub part_here : (xs : List Part) (t : ℕ) → AreApart xs → t < length xs → part_at xs (part_nth xs t).path ≡ Some (part_nth xs t)
part_here [] t apart lt = absurd (omega (arith, lt))
part_here (y ∷ ys) zero apart lt = ap (λ (b : Bool). if b then Some y else part_at ys y.path) (same_path_refl y.path)
part_here (y ∷ ys) (suc t) apart lt =
    let other : y.path ≢ (part_nth ys t).path = λ e. let z : 0 ≡ suc t = apart 0 (suc t) (omega arith) lt e in omega (arith, z) in
    let rest : AreApart ys = λ i j a b e. let z : suc i ≡ suc j = apart (suc i) (suc j) (omega (arith, a)) (omega (arith, b)) e in omega (arith, z) in
    ap (λ (b : Bool). if b then Some y else part_at ys (part_nth ys t).path) (same_path_not y.path (part_nth ys t).path other) ∙ part_here ys t rest (omega (arith, lt))

pub part_among : (xs : List Part) (p : List ℕ) (x : Part) → part_at xs p ≡ Some x → Contains xs x
part_among xs p x e = let r = part_found xs p x e in subst (Contains xs) r.2 (Contains-get_or xs r.0 no_part r.1)

pub nth_among : (xs : List Part) (t : ℕ) → t < length xs → Contains xs (part_nth xs t)
nth_among xs t lt = Contains-get_or xs t no_part lt

pub one_part : {x y : Part} {o : Option Part} → o ≡ Some x → o ≡ Some y → x ≡ y
one_part {x} {y} a b = let s : Some x ≡ Some y = sym a ∙ b in cc

-- a member stands at its path
pub part_of_member : (xs : List Part) (x : Part) → AreApart xs → Contains xs x → part_at xs x.path ≡ Some x
part_of_member xs x apart c =
    let at : part_nth xs c.0 ≡ x = get_or_same xs c.0 x c.1 ∙ c.2 in
    subst (λ (z : Part). part_at xs z.path ≡ Some z) at (part_here xs c.0 apart c.1)
  where
    get_or_same : (ys : List Part) (i : ℕ) (d : Part) → i < length ys → part_nth ys i ≡ get_or ys i d
    get_or_same [] i d lt = absurd (omega (arith, lt))
    get_or_same (y ∷ ys) zero d lt = refl
    get_or_same (y ∷ ys) (suc i) d lt = get_or_same ys i d (omega (arith, lt))

-- ---- what a search by halves finds

pub search_ok : (rs : List Record) (p : List ℕ) (r : Result ℕ ℕ) → IfOk r (λ i. (i < length rs) × HoldsAt (λ (y : Record). (read_record y).path ≡ p) rs i)
    → IfOk r (λ t. (t < length rs) × ((part_nth (parts_in rs) t).path ≡ p))
search_ok rs p (Ok t) h = (h.0, held_path rs t p h.0 h.1)
search_ok rs p (Err t) h = tt

pub search_err : (rs : List Record) (p : List ℕ) (r : Result ℕ ℕ) → IfErr r (λ _. (x : Record) → Contains rs x → (read_record x).path ≢ p) → IfErr r (λ _. IsThere (parts_in rs) p → ⊥)
search_err rs p (Ok t) h = tt
search_err rs p (Err t) h = λ there.
    let r = part_found (parts_in rs) p there.0 there.1 in
    let at = record_at rs r.0 (omega (arith, r.1, parts_length rs)) in
    h at.0 at.1 (ap (λ (z : Part). z.path) (sym at.2 ∙ r.2) ∙ r.3)

-- ---- numbers of vertices

pub events_few : (xs : List Part) (t : ℕ) → t < length xs → first_in xs t + length (part_nth xs t).events ≤ event_total xs
events_few xs t lt = sum_by_more_le (λ (x : Part). length x.events) xs t no_part lt

pub first_more : (xs : List Part) (t : ℕ) → t < length xs → first_in xs (t + 1) ≡ first_in xs t + length (part_nth xs t).events
first_more xs t lt = sum_by_more (λ (x : Part). length x.events) xs t no_part lt

pub firsts_same : (xs : List Part) (t : ℕ) → sum_by (λ (x : Thread). x.vertices) (take t (map thread_of xs)) ≡ first_in xs t
firsts_same [] zero = refl
firsts_same [] (suc t) = refl
firsts_same (x ∷ xs) zero = refl
firsts_same (x ∷ xs) (suc t) =
    omega (arith, sum_by-cons (λ (y : Thread). y.vertices) (thread_of x) (take t (map thread_of xs)), sum_by-cons (λ (y : Part). length y.events) x (take t xs), firsts_same xs t)

pub totals_same : (xs : List Part) → sum_by (λ (x : Thread). x.vertices) (map thread_of xs) ≡ event_total xs
totals_same [] = refl
totals_same (x ∷ xs) = omega (arith, sum_by-cons (λ (y : Thread). y.vertices) (thread_of x) (map thread_of xs), sum_by-cons (λ (y : Part). length y.events) x xs, totals_same xs)

pub thread_nth : (xs : List Part) (t : ℕ) → t < length xs → get_or (map thread_of xs) t no_thread ≡ thread_of (part_nth xs t)
thread_nth xs t lt = get_or-map thread_of xs t no_part no_thread lt

pub number_small : (xs : List Part) (u : Vertex) (a : ℕ) → IsNumber xs u a → a < event_total xs
number_small xs u a n = omega (arith, n.is, n.below, events_few xs n.thread n.within)

pub name_at : (xs : List Part) (t n a : ℕ) → t < length xs → n < length (part_nth xs t).events → a ≡ first_in xs t + n → name_in (map thread_of xs) a ≡ vertex_at xs t n
name_at xs t n a lt n_lt e =
    let at = thread_nth xs t lt in
    let below : n < (get_or (map thread_of xs) t no_thread).vertices = omega (arith, n_lt, ap (λ (x : Thread). x.vertices) at) in
    name_here (map thread_of xs) t n a (omega (arith, lt, length-map xs thread_of)) below (omega (arith, e, firsts_same xs t))
    ∙ ap (λ (x : Thread). let v : Vertex = record { path = x.path; number = n } in v) at

pub number_named : (xs : List Part) (u : Vertex) (a : ℕ) → IsNumber xs u a → name_in (map thread_of xs) a ≡ u
number_named xs u a n =
    name_at xs n.thread u.number a n.within n.below n.is ∙ ap (λ (p : List ℕ). let v : Vertex = record { path = p; number = u.number } in v) n.path_is

pub number_at : (xs : List Part) (t n : ℕ) → t < length xs → n < length (part_nth xs t).events → IsNumber xs (vertex_at xs t n) (first_in xs t + n)
number_at xs t n lt n_lt = record { thread = t; within = lt; path_is = refl; below = n_lt; is = refl }

pub one_number : (xs : List Part) (u : Vertex) (a b : ℕ) → AreApart xs → IsNumber xs u a → IsNumber xs u b → a ≡ b
one_number xs u a b apart m n =
    let same : m.thread ≡ n.thread = apart m.thread n.thread m.within n.within (m.path_is ∙ sym n.path_is) in
    omega (arith, m.is, n.is, ap (first_in xs) same)

-- each number is that of a vertex
owner_in : (xs : List Part) (a : ℕ) → a < event_total xs → (t : ℕ) × (n : ℕ) × (t < length xs) × (n < length (part_nth xs t).events) × (a ≡ first_in xs t + n)
owner_in [] a lt = absurd (omega (arith, lt))
owner_in (x ∷ xs) a lt =
    let whole = sum_by-cons (λ (y : Part). length y.events) x xs in
    elim (cases_lt a (length x.events)) [
      | inl here ↦
          let some : 0 < length (x ∷ xs) = omega arith in
          let is : a ≡ 0 + a = omega arith in
          (0, a, some, here, is)
      | inr later ↦
          let r = owner_in xs (a - length x.events) (omega (arith, later, lt, whole)) in
          let more = sum_by-cons (λ (y : Part). length y.events) x (take r.0 xs) in
          let some : suc r.0 < length (x ∷ xs) = omega (arith, r.2) in
          let is : a ≡ first_in (x ∷ xs) (suc r.0) + r.1 = omega (arith, r.4, more, later) in
          (suc r.0, r.1, some, r.3, is)
    ]

pub numbered : (xs : List Part) (a : ℕ) → a < event_total xs → IsNumber xs (name_in (map thread_of xs) a) a
numbered xs a lt =
    let r = owner_in xs a lt in
    let n : IsNumber xs (vertex_at xs r.0 r.1) a = record { thread = r.0; within = r.2; path_is = refl; below = r.3; is = r.4 } in
    subst (λ (u : Vertex). IsNumber xs u a) (sym (name_at xs r.0 r.1 a r.2 r.3 r.4)) n
