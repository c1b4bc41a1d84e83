-- The steps of a valid schedule are of vertices.
use Rattle.std.proofs.Common.{ℕ, ◌<◌, List, [], ◌∷◌, get_or, sym, subst, inl, inr}
use Rattle.std.specs.List.{All, Contains, concat}
use Rattle.std.proofs.lemmas.List.Elements.{Contains-append_left, Contains-append_right, Contains-get_or}
use Rattle.cost_graph.specs.Graph.{CostGraph, vertex_total}
use Rattle.cost_graph.proofs.Members.{no_member, member_cons}
use Rattle.prompt_checker.specs.Schedule.{IsValid}

in_concat : (steps : List (List ℕ)) (s : List ℕ) (v : ℕ) → Contains steps s → Contains s v → Contains (concat steps) v
in_concat [] s v a b = absurd (no_member s a)
in_concat (x ∷ xs) s v a b =
    elim (member_cons x xs s a) [
      | inl e ↦ Contains-append_left x (concat xs) v (subst (λ l. Contains l v) (sym e) b)
      | inr z ↦ Contains-append_right x (concat xs) v (in_concat xs s v z b)
    ]

pub valid_within : (g : CostGraph) (cores : ℕ) (steps : List (List ℕ)) → IsValid g cores steps → All (λ s. All (λ v. v < vertex_total g) s) steps
valid_within g cores steps valid k d lt j e lt_j =
    let s : List ℕ = get_or steps k d in
    let v : ℕ = get_or s j e in
    (valid.all v).1 (in_concat steps s v (Contains-get_or steps k d lt) (Contains-get_or s j e lt_j))
