use Rattle.std.proofs.Common.{◌≡◌, ℕ, ◌+◌, List, [], ◌∷◌, ◌++◌, take, drop, map, sym, ap, ◌∙◌}
use Rattle.std.proofs.lemmas.List.{map-append}
use Rattle.prompt_planner.proofs.Turns.{take_turn, drop_turn}
use Rattle.prompt_planner.proofs.planner.take_first.Goals as goal

taken_on : (xs : List (ℕ × ℕ)) (n : ℕ) (k : ℕ × ℕ) (rest : List (ℕ × ℕ)) (now next : List ℕ) → drop n xs ≡ k ∷ rest → now ≡ map (λ x. x.1) (take n xs) → next ≡ now ++ k.1 ∷ []
    → next ≡ map (λ x. x.1) (take (n + 1) xs)
taken_on xs n k rest now next e a b = b ∙ ap (λ l. l ++ k.1 ∷ []) a ∙ sym (map-append (λ x. x.1) (take n xs) (k ∷ [])) ∙ ap (map (λ x. x.1)) (sym (take_turn xs n k rest e))

pub loop-preserved : goal.loop-preserved
loop-preserved c =
    let e = sym c.loop.invariant.left ∙ c.in-Some.ensures.removal in
    record {
      taken = taken_on c.args.ready.now.keys c.loop.counter (c.in-Some.field-0-0, c.in-Some.vertex) c.pop_first.new.self.keys c.loop.step.items c.push.new.self.items e c.loop.invariant.taken c.in_ok-push-in-Some.ensures.items;
      left = sym (drop_turn c.args.ready.now.keys c.loop.counter (c.in-Some.field-0-0, c.in-Some.vertex) c.pop_first.new.self.keys e);
    }
