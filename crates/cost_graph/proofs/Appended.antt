-- Lines that are added one after another.
use Rattle.std.proofs.Common.{◌≡◌, ◌≢◌, ℕ, ◌+◌, ◌-◌, ◌<◌, Bool, List, [], ◌∷◌, ◌++◌, length, get_or, sym, ap, ◌∙◌, subst, arith, add-one}
use Rattle.std.specs.Prelude.{nat_eq, codes, if◌then◌else◌}
use Rattle.std.specs.List.{Contains, flat_map, range_with_len}
use Rattle.std.proofs.lemmas.Bool.{ne_eqb}
use Rattle.std.proofs.lemmas.Grind.{flat_map-append}
use Rattle.std.proofs.lemmas.List.{append-nil, append_assoc}
use Rattle.std.proofs.lemmas.List.Concat.{flat_map-cons}
use Rattle.std.proofs.lemmas.List.Elements.{Contains-get_or}
use Rattle.cost_graph.specs.Graph.{CostGraph, Vertex, vertex_total, parents_at, first_vertex, IsOwner, IsGraph}
use Rattle.cost_graph.specs.Text.{edge_line, joins_to, join_lines}
use Rattle.cost_graph.proofs.Names.{owned_name}
use Rattle.cost_graph.proofs.Ranges.{range_push}

pub one_line : {X : Type 0} (f : X → List ℕ) (x : X) → flat_map f (x ∷ []) ≡ f x
one_line f x = flat_map-cons f x [] ∙ append-nil (f x)

pub range_lines : (f : ℕ → List ℕ) (n : ℕ) → flat_map f (range_with_len 0 (n + 1)) ≡ flat_map f (range_with_len 0 n) ++ f n
range_lines f n =
    let e : 0 + n ≡ n = omega arith in
    rw add-one (ap (flat_map f) (range_push 0 n ∙ ap (λ x. range_with_len 0 n ++ x ∷ []) e) ∙ flat_map-append f (range_with_len 0 n) (n ∷ []) ∙ ap (λ l. flat_map f (range_with_len 0 n) ++ l) (one_line f n))

pub join_first : (g : CostGraph) (v t : ℕ) → IsOwner g v t → first_vertex g t ≡ v → join_lines g v ≡ []
join_first g v t own e = ap (λ (w : Vertex). if nat_eq w.number 0 then [] else flat_map (edge_line g (codes "join") v) (joins_to v (parents_at g v))) (owned_name g v t 0 own (omega (arith, e)))

pub join_later : (g : CostGraph) (v t : ℕ) → IsOwner g v t → first_vertex g t ≢ v → join_lines g v ≡ flat_map (edge_line g (codes "join") v) (joins_to v (parents_at g v))
join_later g v t own n =
    let k : ℕ = v - first_vertex g t in
    let named = owned_name g v t k own (omega (arith, own.low)) in
    ap (λ (w : Vertex). if nat_eq w.number 0 then [] else flat_map (edge_line g (codes "join") v) (joins_to v (parents_at g v))) named
    ∙ ap (λ (b : Bool). if b then [] else flat_map (edge_line g (codes "join") v) (joins_to v (parents_at g v))) (ne_eqb k 0 (λ z. n (omega (arith, z, own.low))))

-- the text with one line more
pub grown : (f : ℕ → List ℕ) (n : ℕ) (old now next : List ℕ) → now ≡ old ++ flat_map f (range_with_len 0 n) → next ≡ now ++ f n → next ≡ old ++ flat_map f (range_with_len 0 (n + 1))
grown f n old now next before more =
    more ∙ ap (λ l. l ++ f n) before ∙ append_assoc old (flat_map f (range_with_len 0 n)) (f n) ∙ ap (λ l. old ++ l) (sym (range_lines f n))

pub parent_small : (g : CostGraph) (v : ℕ) (ps : List ℕ) (i : ℕ) → IsGraph g → ps ≡ parents_at g v → i < length ps → get_or ps i 0 < vertex_total g
parent_small g v ps i ok e lt = ok.ends (get_or ps i 0) v (subst (λ l. Contains l (get_or ps i 0)) e (Contains-get_or ps i 0 lt))
