-- The results of several expressions, with one more at the end.
use Rattle.std.proofs.Common.{◌≡◌, ℕ, ◌+◌, ◌<◌, List, [], ◌∷◌, ◌++◌, length, take, drop, map, get_or, Option, Some, None, refl, sym, ap, ◌∙◌}
use Rattle.std.proofs.lemmas.List.{take_more, map-append, take-append-drop}
use Rattle.priml_syntax.specs.declared.expr.Expr.{Expr}
use Rattle.priml_syntax.specs.Tree.{Term}
use Rattle.priml_syntax.specs.Values.{Value', Outcome', returned, faulted}
use Rattle.priml_syntax.specs.Read.{read_term}
use Rattle.core_steps.specs.Expressions.{Results, AllGave, OneFault, result_of, results_of, one_more}
use Rattle.core_steps.specs.Inside.Results.{with_last}

abbrev one_last : Option Results → Option Outcome' → Option Results
one_last None o = None
one_last (Some r) None = None
one_last (Some r) (Some o) = Some (with_last r o)

swapped : (a : Option Outcome') (r : Option Results) (b : Option Outcome') → one_more a (one_last r b) ≡ one_last (one_more a r) b
swapped None r b = refl
swapped (Some a) None b = refl
swapped (Some (faulted k)) (Some r) None = refl
swapped (Some (returned v)) (Some (OneFault j)) None = refl
swapped (Some (returned v)) (Some (AllGave vs)) None = refl
swapped (Some (faulted k)) (Some r) (Some b) = refl
swapped (Some (returned v)) (Some (OneFault j)) (Some b) = refl
swapped (Some (returned v)) (Some (AllGave vs)) (Some (faulted j)) = refl
swapped (Some (returned v)) (Some (AllGave vs)) (Some (returned w)) = refl

single : (o : Option Outcome') → one_more o (Some (AllGave [])) ≡ one_last (Some (AllGave [])) o
single None = refl
single (Some (faulted k)) = refl
single (Some (returned v)) = refl

push : (s : List Value') (es : List Term) (e : Term) → results_of s (es ++ e ∷ []) ≡ one_last (results_of s es) (result_of s e)
push s [] e = single (result_of s e)
push s (x ∷ es) e = ap (one_more (result_of s x)) (push s es e) ∙ swapped (result_of s x) (results_of s es) (result_of s e)

turn : (s : List Value') (es : List Expr) (i : ℕ) (d : Expr) → i < length es → results_of s (map read_term (take (i + 1) es)) ≡ one_last (results_of s (map read_term (take i es))) (result_of s (read_term (get_or es i d)))
turn s es i d lt = ap (λ l. results_of s (map read_term l)) (take_more es i d lt) ∙ ap (results_of s) (map-append read_term (take i es) (get_or es i d ∷ [])) ∙ push s (map read_term (take i es)) (read_term (get_or es i d))

-- one more expression gave an outcome
pub turn_on : (s : List Value') (es : List Expr) (i : ℕ) (d : Expr) (r : Results) (o : Outcome') → i < length es → Some r ≡ results_of s (map read_term (take i es)) → get_or es i d ≡ d → result_of s (read_term d) ≡ Some o →
    Some (with_last r o) ≡ results_of s (map read_term (take (i + 1) es))
turn_on s es i d r o lt so_far at is = sym (turn s es i d lt ∙ ap (λ q. one_last q (result_of s (read_term (get_or es i d)))) (sym so_far) ∙ ap (one_last (Some r)) (ap (λ x. result_of s (read_term x)) at ∙ is))

none_on : (s : List Value') (es fs : List Term) → results_of s es ≡ None → results_of s (es ++ fs) ≡ None
none_on s [] fs e = absurd (cc)
none_on s (x ∷ es) fs e = go (result_of s x) (results_of s es) (none_on s es fs) e
  where
    go : (a : Option Outcome') (r : Option Results) → (r ≡ None → results_of s (es ++ fs) ≡ None) → one_more a r ≡ None → one_more a (results_of s (es ++ fs)) ≡ None
    go None r q e = refl
    go (Some a) None q e = ap (one_more (Some a)) (q refl)
    go (Some (faulted k)) (Some r) q e = absurd (cc)
    go (Some (returned v)) (Some (OneFault j)) q e = absurd (cc)
    go (Some (returned v)) (Some (AllGave vs)) q e = absurd (cc)

-- one of the expressions met a value of a wrong kind
pub turn_off : (s : List Value') (es : List Expr) (i : ℕ) (d : Expr) (r : Results) → i < length es → Some r ≡ results_of s (map read_term (take i es)) → get_or es i d ≡ d → result_of s (read_term d) ≡ None →
    None ≡ results_of s (map read_term es)
turn_off s es i d r lt so_far at is =
    let here : results_of s (map read_term (take (i + 1) es)) ≡ None = turn s es i d lt ∙ ap (λ q. one_last q (result_of s (read_term (get_or es i d)))) (sym so_far) ∙ ap (one_last (Some r)) (ap (λ x. result_of s (read_term x)) at ∙ is) in
    let whole : map read_term (take (i + 1) es) ++ map read_term (drop (i + 1) es) ≡ map read_term es = sym (map-append read_term (take (i + 1) es) (drop (i + 1) es)) ∙ ap (map read_term) (take-append-drop (i + 1) es) in
    sym (sym (ap (results_of s) whole) ∙ none_on s (map read_term (take (i + 1) es)) (map read_term (drop (i + 1) es)) here)
