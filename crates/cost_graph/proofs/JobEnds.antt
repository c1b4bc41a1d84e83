-- Whether records are those of a finished job, by their events and kin one after the other.
use Rattle.std.proofs.Common.{◌≡◌, ◌≢◌, ℕ, zero, suc, ◌+◌, ◌-◌, ◌<◌, ◌≤◌, ◌^◌, Bool, true, false, List, [], ◌∷◌, length, take, get_or, map, refl, sym, ap, ◌∙◌, subst, inl, inr, arith, ◌↔◌, below_more}
use Rattle.std.specs.Prelude.{Some, slice_get, nat_eq}
use Rattle.std.specs.List.{Contains}
use Rattle.std.proofs.lemmas.Bool.{ne_eqb, both_ways, cases_lt}
use Rattle.std.proofs.lemmas.List.{take_more, take_all, length-take}
use Rattle.std.proofs.lemmas.Option.{slice_get-get_or, slice_get_within}
use Rattle.priml_syntax.specs.declared.record.Record.{Record}
use Rattle.priml_syntax.specs.declared.event.Event.{Event}
use Rattle.priml_syntax.specs.declared.event.Event.TheVariants.{Start, Plain, Spawn, Join, Read, Wrote, End}
use Rattle.priml_syntax.specs.Paths.{child_path}
use Rattle.priml_syntax.specs.Events.{one_spawn, spawns}
use Rattle.priml_syntax.specs.Read.{read_record}
use Rattle.priml_syntax.specs.Records.{InPathOrder}
use Rattle.cost_graph.specs.Records.{Part, part_of, parts_in, part_at, event_total, IsThere, HasRoots, AreFinished}
use Rattle.cost_graph.specs.Inside.Tables.{part_nth, first_in, HasSpawn}
use Rattle.cost_graph.specs.Inside.Finished.{Fits, HasSpawner, IsPartFinished}
use Rattle.cost_graph.proofs.Members.{decides_eq}
use Rattle.cost_graph.proofs.Parts.{AreApart, parts_length, nth_of, apart_in, part_here, part_found, part_among, nth_among, part_of_member, events_few, first_more}
use Rattle.cost_graph.proofs.Arrows.{child_same}
use Rattle.cost_graph.proofs.Spawns.{spawns_more}

-- ---- what a search finds

pub there_at : (rs : List Record) (t : ℕ) (p : List ℕ) → InPathOrder (map read_record rs) → t < length rs → (part_nth (parts_in rs) t).path ≡ p → part_at (parts_in rs) p ≡ Some (part_nth (parts_in rs) t)
there_at rs t p order lt e =
    subst (λ q. part_at (parts_in rs) q ≡ Some (part_nth (parts_in rs) t)) e (part_here (parts_in rs) t (apart_in rs order) (omega (arith, lt, parts_length rs)))

-- ---- Spawns

pub spawns_short : (es : List Event) → spawns es ≤ length es
spawns_short [] = omega arith
spawns_short (e ∷ es) = omega (arith, one_at_most e, spawns_short es)
  where
    one_at_most : (e : Event) → one_spawn e ≤ 1
    one_at_most Spawn = omega arith
    one_at_most e = omega arith

last_apart : (p : List ℕ) (depth : ℕ) → length p ≡ depth + 1 → p ≡ child_path (take depth p) (get_or p depth 0)
last_apart p depth long = sym (take_all (depth + 1) p (omega (arith, long))) ∙ take_more p depth 0 (omega (arith, long))

pub spawner_from : (xs : List Part) (p : List ℕ) (depth : ℕ) → length p ≡ depth + 1 → HasSpawn xs (take depth p) (get_or p depth 0) → HasSpawner xs p
spawner_from xs p depth long h other =
    let found = part_found xs (take depth p) h.part h.is in
    let is : p ≡ child_path h.part.path (get_or p depth 0) = last_apart p depth long ∙ ap (λ q. child_path q (get_or p depth 0)) (sym found.3) in
    (h.part, get_or p depth 0, part_among xs (take depth p) h.part h.is, is, h.some)

pub spawner_to : (xs : List Part) (p : List ℕ) (depth : ℕ) → AreApart xs → length p ≡ depth + 1 → length p ≢ 1 → HasSpawner xs p → HasSpawn xs (take depth p) (get_or p depth 0)
spawner_to xs p depth apart long other h =
    let s = h other in
    let same = child_same (take depth p) s.0.path (get_or p depth 0) s.1 (sym (last_apart p depth long) ∙ s.3) in
    record {
      part = s.0;
      is = subst (λ q. part_at xs q ≡ Some s.0) (sym same.0) (part_of_member xs s.0 apart s.2);
      some = subst (λ k. k < spawns s.0.events) (sym same.1) s.4;
    }

-- ---- events

pub first_is : (xs : List Part) (e : Event) (first last : Bool) → Fits xs e first last → first ≡ true → e ≡ Start
first_is xs Start first last h is = refl
first_is xs Plain first last h is = absurd (both_ways first h.0 is)
first_is xs Spawn first last h is = absurd (both_ways first h.0 is)
first_is xs (Join p) first last h is = absurd (both_ways first h.0 is)
first_is xs Read first last h is = absurd (both_ways first h.0 is)
first_is xs (Wrote n) first last h is = absurd (both_ways first h.0 is)
first_is xs End first last h is = absurd (both_ways first h.0 is)

pub last_is : (xs : List Part) (e : Event) (first last : Bool) → Fits xs e first last → last ≡ true → e ≡ End
last_is xs Start first last h is = absurd (both_ways last h.1 is)
last_is xs Plain first last h is = absurd (both_ways last h.1 is)
last_is xs Spawn first last h is = absurd (both_ways last h.1 is)
last_is xs (Join p) first last h is = absurd (both_ways last h.1 is)
last_is xs Read first last h is = absurd (both_ways last h.1 is)
last_is xs (Wrote n) first last h is = absurd (both_ways last h.1 is)
last_is xs End first last h is = refl

module _ (xs : List Part) (es : List Event) (n : ℕ) (starts : (slice_get es n ≡ Some Start) ↔ (n ≡ 0)) (ends : (slice_get es n ≡ Some End) ↔ (n + 1 ≡ length es)) (joined : (p : List ℕ) → slice_get es n ≡ Some (Join p) → IsThere xs p) where
  not_first : (e : Event) → e ≢ Start → slice_get es n ≡ Some e → nat_eq n 0 ≡ false
  not_first e other at = ne_eqb n 0 (λ z. let both : Some e ≡ Some Start = sym at ∙ starts.1 z in let same : e ≡ Start = cc in other same)

  not_last : (e : Event) → e ≢ End → slice_get es n ≡ Some e → nat_eq (n + 1) (length es) ≡ false
  not_last e other at = ne_eqb (n + 1) (length es) (λ z. let both : Some e ≡ Some End = sym at ∙ ends.1 z in let same : e ≡ End = cc in other same)

  fit_at : (e : Event) → slice_get es n ≡ Some e → Fits xs e (nat_eq n 0) (nat_eq (n + 1) (length es))
  fit_at Start at = ((decides_eq n 0).1 (starts.0 at), not_last Start (λ z. cc) at)
  fit_at Plain at = (not_first Plain (λ z. cc) at, not_last Plain (λ z. cc) at)
  fit_at Spawn at = (not_first Spawn (λ z. cc) at, not_last Spawn (λ z. cc) at)
  fit_at (Join p) at = (not_first (Join p) (λ z. cc) at, not_last (Join p) (λ z. cc) at, joined p at)
  fit_at Read at = (not_first Read (λ z. cc) at, not_last Read (λ z. cc) at)
  fit_at (Wrote m) at = (not_first (Wrote m) (λ z. cc) at, not_last (Wrote m) (λ z. cc) at)
  fit_at End at = (not_first End (λ z. cc) at, (decides_eq (n + 1) (length es)).1 (ends.0 at))

-- ---- from all records to each, and back

pub each_finished : (xs : List Part) → AreFinished xs → (x : Part) → Contains xs x → IsPartFinished xs x
each_finished xs h x c =
    record {
      events = record {
        some = let w = slice_get_within x.events 0 Start ((h.starts x 0 c).1 refl) in omega (arith, w);
        each = λ n e at. fit_at xs x.events n (h.starts x n c) (h.ends x n c) (λ p. h.joined x n p c) e at;
      };
      spawner = h.spawned x c;
      children = λ k lt. h.children x k c lt;
    }

pub all_finished : (xs : List Part) → event_total xs < 2 ^ 32 → (count : ℕ) × (0 < count) × HasRoots xs count → ((x : Part) → Contains xs x → IsPartFinished xs x) → AreFinished xs
all_finished xs few roots each =
    record {
      roots = roots;
      spawned = λ x c. (each x c).spawner;
      children = λ x k c lt. (each x c).children k lt;
      joined = λ x n p c at. ((each x c).events.each n (Join p) at).2;
      starts = λ x n c. (
        λ at. (decides_eq n 0).0 ((each x c).events.each n Start at).0,
        λ z.
            let lt : n < length x.events = omega (arith, z, (each x c).events.some) in
            let at = slice_get-get_or x.events n End lt in
            at ∙ ap (λ (e : Event). Some e) (first_is xs (get_or x.events n End) (nat_eq n 0) (nat_eq (n + 1) (length x.events)) ((each x c).events.each n (get_or x.events n End) at) ((decides_eq n 0).1 z)),
      );
      ends = λ x n c. (
        λ at. (decides_eq (n + 1) (length x.events)).0 ((each x c).events.each n End at).1,
        λ z.
            let lt : n < length x.events = omega (arith, z) in
            let at = slice_get-get_or x.events n Start lt in
            at ∙ ap (λ (e : Event). Some e) (last_is xs (get_or x.events n Start) (nat_eq n 0) (nat_eq (n + 1) (length x.events)) ((each x c).events.each n (get_or x.events n Start) at) ((decides_eq (n + 1) (length x.events)).1 z)),
      );
      few = few;
    }

-- each thread by its place
pub each_at : (xs : List Part) → ((t : ℕ) → t < length xs → IsPartFinished xs (part_nth xs t)) → (x : Part) → Contains xs x → IsPartFinished xs x
each_at xs h x c =
    let at : part_nth xs c.0 ≡ x = nth_same xs c.0 x c.1 ∙ c.2 in
    subst (IsPartFinished xs) at (h c.0 c.1)
  where
    nth_same : (ys : List Part) (i : ℕ) (d : Part) → i < length ys → part_nth ys i ≡ get_or ys i d
    nth_same [] i d lt = absurd (omega (arith, lt))
    nth_same (y ∷ ys) zero d lt = refl
    nth_same (y ∷ ys) (suc i) d lt = nth_same ys i d (omega (arith, lt))

-- ---- loops

pub spawns_on : (es : List Event) (i : ℕ) (e : Event) (now more : ℕ) → i < length es → e ≡ get_or es i e → now ≡ spawns (take i es) → more ≡ one_spawn e → now + more ≡ spawns (take (i + 1) es)
spawns_on es i e now more lt is so_far one = omega (arith, spawns_more es i e lt, ap one_spawn is, so_far, one)

pub spawns_fit : (es : List Event) (i : ℕ) (e : Event) (now more : ℕ) → i < length es → e ≡ get_or es i e → now ≡ spawns (take i es) → more ≡ one_spawn e → now + more ≤ length es
spawns_fit es i e now more lt is so_far one = omega (arith, spawns_on es i e now more lt is so_far one, spawns_short (take (i + 1) es), length-take (i + 1) es)

pub left_on : (rs : List Record) (i left : ℕ) (r : Record) → i < length rs → r ≡ get_or rs i r → length r.events.items ≤ left → left + first_in (parts_in rs) i ≡ 4294967295 → (left - length r.events.items) + first_in (parts_in rs) (i + 1) ≡ 4294967295
left_on rs i left r lt is le so_far =
    omega (arith, le, so_far, first_more (parts_in rs) i (omega (arith, lt, parts_length rs)), ap (λ (x : Part). length x.events) (nth_of rs i r lt is))

pub left_short : (rs : List Record) (i left : ℕ) (r : Record) → i < length rs → r ≡ get_or rs i r → left < length r.events.items → left + first_in (parts_in rs) i ≡ 4294967295 → event_total (parts_in rs) < 2 ^ 32 → ⊥
left_short rs i left r lt is less so_far few =
    omega (arith, less, so_far, few, events_few (parts_in rs) i (omega (arith, lt, parts_length rs)), ap (λ (x : Part). length x.events) (nth_of rs i r lt is))

pub left_all : (rs : List Record) (i left : ℕ) → i ≡ length rs → left + first_in (parts_in rs) i ≡ 4294967295 → event_total (parts_in rs) < 2 ^ 32
left_all rs i left all so_far =
    omega (arith, so_far, ap event_total (take_all i (parts_in rs) (omega (arith, all, parts_length rs))))

pub record_few : (rs : List Record) (i : ℕ) (r : Record) → i < length rs → r ≡ get_or rs i r → event_total (parts_in rs) < 2 ^ 32 → length r.events.items < 2 ^ 32
record_few rs i r lt is few = omega (arith, few, events_few (parts_in rs) i (omega (arith, lt, parts_length rs)), ap (λ (x : Part). length x.events) (nth_of rs i r lt is))

pub event_at : (es : List Event) (n : ℕ) (e : Event) → n < length es → e ≡ get_or es n e → slice_get es n ≡ Some e
event_at es n e lt is = slice_get-get_or es n e lt ∙ ap (λ (x : Event). Some x) (sym is)

pub fit_on : (xs : List Part) (es : List Event) (n : ℕ) (e : Event) → n < length es → e ≡ get_or es n e → ((k : ℕ) (f : Event) → k < n → slice_get es k ≡ Some f → Fits xs f (nat_eq k 0) (nat_eq (k + 1) (length es)))
    → Fits xs e (nat_eq n 0) (nat_eq (n + 1) (length es)) → (k : ℕ) (f : Event) → k < n + 1 → slice_get es k ≡ Some f → Fits xs f (nat_eq k 0) (nat_eq (k + 1) (length es))
fit_on xs es n e lt is before here k f k_lt at =
    elim (cases_lt k n) [
      | inl early ↦ before k f early at
      | inr late ↦
          let same : n ≡ k = omega (arith, late, k_lt) in
          let both : Some e ≡ Some f = sym (event_at es n e lt is) ∙ subst (λ j. slice_get es j ≡ Some f) (sym same) at in
          let is_f : e ≡ f = cc in
          subst (λ (x : Event). Fits xs x (nat_eq k 0) (nat_eq (k + 1) (length es))) is_f (subst (λ j. Fits xs e (nat_eq j 0) (nat_eq (j + 1) (length es))) same here)
    ]

pub finished_on : (rs : List Record) (i : ℕ) (r : Record) → i < length rs → r ≡ get_or rs i r → ((t : ℕ) → t < i → IsPartFinished (parts_in rs) (part_nth (parts_in rs) t)) → IsPartFinished (parts_in rs) (part_of (read_record r))
    → (t : ℕ) → t < i + 1 → IsPartFinished (parts_in rs) (part_nth (parts_in rs) t)
finished_on rs i r lt is before here = below_more (λ t. IsPartFinished (parts_in rs) (part_nth (parts_in rs) t)) i before (subst (IsPartFinished (parts_in rs)) (sym (nth_of rs i r lt is)) here)

pub not_finished : (rs : List Record) (i : ℕ) (r : Record) → i < length rs → r ≡ get_or rs i r → (IsPartFinished (parts_in rs) (part_of (read_record r)) → ⊥) → AreFinished (parts_in rs) → ⊥
not_finished rs i r lt is lacks h =
    let within : i < length (parts_in rs) = omega (arith, lt, parts_length rs) in
    lacks (subst (IsPartFinished (parts_in rs)) (nth_of rs i r lt is) (each_finished (parts_in rs) h (part_nth (parts_in rs) i) (nth_among (parts_in rs) i within)))
