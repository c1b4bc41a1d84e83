use Rattle.std.proofs.Common.{◌≡◌, ◌+◌, ◌-◌, ◌<◌, ◌∷◌, [], List, ℕ, length, take, get_or, sym, ap, subst, arith}
use Rattle.std.proofs.lemmas.Result.{IfOk-weaker}
use Rattle.cost_graph.specs.Records.{parts_in}
use Rattle.cost_graph.specs.Inside.Tables.{part_nth, vertex_at, AreParents, HasSpawn, IsKthSpawn, IsNumber}
use Rattle.cost_graph.proofs.Parts.{parts_length}
use Rattle.cost_graph.proofs.Arrows.{root_parents, spawner_there, spawned_parents}
use Rattle.cost_graph.proofs.Made.{apart_known, path_read}
use Rattle.cost_graph.proofs.records.first_parents.Goals as goal

pub returns-then-depth-eq0 : goal.returns-then-depth-eq0
returns-then-depth-eq0 c =
    let rs = c.args.list.now in
    let t = c.args.t in
    let within : t < length (parts_in rs) = omega (arith, c.requires.within, parts_length rs) in
    let path : c.parts-parts.result.now ≡ (part_nth (parts_in rs) t).path = path_read rs t c.index-list-t.result c.parts-parts.result.now c.requires.within c.index-list-t.is c.parts-parts.ensures.value in
    let long : length (part_nth (parts_in rs) t).path ≡ 1 = omega (arith, ap (λ (l : List ℕ). length l) path, c.if-depth-eq0.true, c.parts-parts.ensures.is_path.some) in
    subst (AreParents (parts_in rs) (vertex_at (parts_in rs) t 0)) (sym c.new.ensures.items) (root_parents (parts_in rs) c.requires.known.finished (apart_known rs c.args.tables.now c.requires.known) t within long)

pub spawn_vertex-spawner-requires-clause-there : goal.spawn_vertex-spawner-requires-clause-there
spawn_vertex-spawner-requires-clause-there c =
    let rs = c.args.list.now in
    let t = c.args.t in
    let p = (part_nth (parts_in rs) t).path in
    let within : t < length (parts_in rs) = omega (arith, c.requires.within, parts_length rs) in
    let path : c.parts-parts.result.now ≡ (part_nth (parts_in rs) t).path = path_read rs t c.index-list-t.result c.parts-parts.result.now c.requires.within c.index-list-t.is c.parts-parts.ensures.value in
    let same = ap (λ (l : List ℕ). length l) path in
    let long : length p ≡ (length p - 1) + 1 = omega (arith, same, c.parts-parts.ensures.is_path.some) in
    let deep : 0 < length p - 1 = omega (arith, same, c.if-depth-eq0.false) in
    subst (λ (q : List ℕ). HasSpawn (parts_in rs) (take (length q - 1) q) (get_or q (length q - 1) 0)) (sym path) (spawner_there (parts_in rs) c.requires.known.finished (apart_known rs c.args.tables.now c.requires.known) t within (length p - 1) long deep)

pub returns : goal.returns
returns c =
    let rs = c.args.list.now in
    let xs = parts_in rs in
    let t = c.args.t in
    let a = c.spawn_vertex-spawner.result in
    let p = (part_nth xs t).path in
    let within : t < length (parts_in rs) = omega (arith, c.requires.within, parts_length rs) in
    let path : c.parts-parts.result.now ≡ (part_nth (parts_in rs) t).path = path_read rs t c.index-list-t.result c.parts-parts.result.now c.requires.within c.index-list-t.is c.parts-parts.ensures.value in
    let same = ap (λ (l : List ℕ). length l) path in
    let long : length p ≡ (length p - 1) + 1 = omega (arith, same, c.parts-parts.ensures.is_path.some) in
    let found = subst (λ (q : List ℕ). (n : ℕ) × IsKthSpawn xs (take (length q - 1) q) (get_or q (length q - 1) 0) n × IsNumber xs (record { path = take (length q - 1) q; number = n }) a) path c.spawn_vertex-spawner.ensures in
    let right = spawned_parents xs c.requires.known.finished (apart_known rs c.args.tables.now c.requires.known) t within (length p - 1) found.0 a long found.1 found.2 in
    IfOk-weaker c.single.result (λ v. v.items ≡ a ∷ []) (λ v. AreParents xs (vertex_at xs t 0) v.items) (λ v e. subst (AreParents xs (vertex_at xs t 0)) (sym e) right) c.single.ensures
