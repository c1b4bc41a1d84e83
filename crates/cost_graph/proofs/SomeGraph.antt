-- The threads of a finished job, in the order of their paths, have a graph.
use Rattle.std.proofs.Common.{◌≡◌, ℕ, zero, suc, ◌<◌, List, [], ◌∷◌, ◌++◌, length, map, get_or, refl, arith}
use Rattle.std.proofs.lemmas.List.{length-append}
use Rattle.cost_graph.specs.Graph.{name_in}
use Rattle.cost_graph.specs.Records.{Part, parts_of, event_total, thread_of}
use Rattle.cost_graph.specs.Inside.Tables.{AreParents}
use Rattle.cost_graph.specs.Laws.{SomeGraph}
use Rattle.cost_graph.proofs.Edges.{parents_known}
use Rattle.cost_graph.proofs.Made.{each_more, made_of}

-- the parents of the first n vertices
record ParentLists (xs : List Part) (n : ℕ) : Type 0 where
  lists : List (List ℕ)
  long : length lists ≡ n
  right : (v : ℕ) → v < n → AreParents xs (name_in (map thread_of xs) v) (get_or lists v [])

parent_lists : (xs : List Part) (n : ℕ) → ParentLists xs n
parent_lists xs zero = record { lists = []; long = refl; right = λ v lt. absurd (omega (arith, lt)) }
parent_lists xs (suc n) =
    let before = parent_lists xs n in
    let here = parents_known xs (name_in (map thread_of xs) n) in
    record {
      lists = before.lists ++ here.0 ∷ [];
      long = omega (arith, length-append before.lists (here.0 ∷ []), before.long);
      right = λ v lt. each_more (λ (w : ℕ) (l : List ℕ). AreParents xs (name_in (map thread_of xs) w) l) before.lists here.0 n before.long before.right here.1 v (omega (arith, lt));
    }

pub some_graph : SomeGraph
some_graph rs order finished =
    let ps = parent_lists (parts_of rs) (event_total (parts_of rs)) in
    let long : length ps.lists ≡ event_total (parts_of rs) = ps.long in
    (record { threads = map thread_of (parts_of rs); parents = ps.lists }, made_of rs order finished ps.lists long (λ v lt. ps.right v (omega (arith, lt, long))))
