use Rattle.std.proofs.Common.{◌≡◌, ℕ, ◌<◌, ◌≤◌, List, [], ◌∷◌, ◌++◌, Option, Some, None, length, get_or, map, take, sym, ap, ◌∙◌, arith}
use Rattle.std.proofs.lemmas.List.{take_all, take_more, map-append}
use Rattle.prompt_checker.proofs.reader.all_found.Goals as goal

pub loop-look-preserved : goal.loop-look-preserved
loop-look-preserved c =
    let looks = c.args.looks.now.items in
    let i = c.loop-look.look-index in
    let same = c.deref-look-items.ensures.value in
    let lt : i < length looks = omega (arith, c.loop-look-test.true, ap length same) in
    let at : get_or looks i None ≡ Some c.in-Some.vertex = ap (λ (l : List (Option ℕ)). get_or l i None) (sym same) ∙ c.in-Some.is in
    take_more looks i None lt
    ∙ ap (λ (x : Option ℕ). take i looks ++ x ∷ []) at
    ∙ ap (λ (l : List (Option ℕ)). l ++ Some c.in-Some.vertex ∷ []) c.loop-look.invariant
    ∙ sym (map-append Some c.loop-look.step.items (c.in-Some.vertex ∷ []))
    ∙ ap (map Some) (sym c.in_ok-push.ensures.items)

pub returns-in_default : goal.returns-in_default
returns-in_default c =
    let looks = c.args.looks.now.items in
    let i = c.loop-look.look-index in
    let same = c.deref-look-items.ensures.value in
    let lt : i < length looks = omega (arith, c.loop-look-test.true, ap length same) in
    (i, lt, ap (λ (l : List (Option ℕ)). get_or l i None) (sym same) ∙ c.in_default.is)

pub returns : goal.returns
returns c =
    let looks = c.args.looks.now.items in
    let le : length looks ≤ c.loop-look.look-index = omega (arith, c.loop-look-test.false, ap length c.deref-look-items.ensures.value) in
    sym (take_all c.loop-look.look-index looks le) ∙ c.loop-look.invariant
