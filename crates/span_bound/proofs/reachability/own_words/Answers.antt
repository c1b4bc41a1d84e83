use Rattle.std.proofs.Common.{arith, ◌≡◌, ◌<◌, ◌∙◌, ◌↔◌, ℕ, List, length, get_or, subst, sym, ap}
use Rattle.std.specs.List.{All}
use Rattle.std.specs.Int.{bit_at}
use Rattle.span_bound.specs.Inside.Segments.{images}
use Rattle.span_bound.proofs.Passes.{images_below, owns_images}
use Rattle.span_bound.proofs.reachability.own_words.Goals as goal

pub places_of-requires-clause-within : goal.places_of-requires-clause-within
places_of-requires-clause-within c =
    let s = c.args.segments.now in
    let count : length s.heads.items ≡ c.len-count.result = omega (arith, c.len-count.ensures, s.heads.ok.0) in
    subst (λ n. All (λ x. x < n) c.deref-2.result.now) count
    (subst (All (λ x. x < length s.heads.items)) (sym (c.deref-2.ensures.value ∙ c.in_ok-places.ensures ∙ ap (λ l. images l c.args.vertices.now) c.deref.ensures.value))
    (images_below c.args.graph.now s.heads.items s.lens.items s.slots.items c.args.vertices.now c.requires.segments.cut c.requires.within))

pub returns-clause-owns : goal.returns-clause-owns
returns-clause-owns c =
    let s = c.args.segments.now in
    let places = c.deref-2.ensures.value ∙ c.in_ok-places.ensures ∙ ap (λ l. images l c.args.vertices.now) c.deref.ensures.value in
    owns_images s.slots.items c.args.vertices.now c.in_ok-own.own.items
    (subst (λ (l : List ℕ). (i x : ℕ) → i < length l → (bit_at (get_or c.in_ok-own.own.items x 0) i ≡ 1) ↔ (x ≡ get_or l i 0)) places c.in_ok-own.ensures.are)
