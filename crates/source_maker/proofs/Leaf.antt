-- A leaf's thread: it writes the square of its number, and gives what is left of the number by sevens.
use Rattle.std.proofs.Common.{◌≡◌, ℕ, zero, suc, ◌+◌, ◌*◌, ◌%◌, ◌^◌, ◌<◌, List, [], ◌∷◌, ◌++◌, refl, pos}
use Rattle.priml_syntax.specs.Tree.{inside}
use Rattle.priml_syntax.specs.Values.{int_value, returned, Entry}
use Rattle.priml_syntax.specs.declared.event.Event.{Event}
use Rattle.priml_syntax.specs.declared.event.Event.TheVariants.{Start, Plain, Wrote, End}
use Rattle.core_steps.specs.Meaning.{Here, Back, eval, entered}
use Rattle.source_maker.specs.Tree.{call_leaf, made_job}
use Rattle.source_maker.proofs.Numbers.{checked_small, by_sevens}

abbrev pub leaf_events : ℕ → List Event
leaf_events k = Start ∷ Plain ∷ Wrote (pos (k * k)) ∷ Plain ∷ []

abbrev pub behind_leaf : List ℕ → ℕ → Here
behind_leaf path k = record { path = path; prio = 0; reads = 0; children = 0; events = leaf_events k }

pub leaf_gives : (n d k : ℕ) (path : List ℕ) (done : List Entry) → k * k < 2 ^ 63 → k < 2 ^ 63 →
    eval (made_job n) (suc (suc (suc d))) (entered path 0) done (inside call_leaf) (int_value (pos k) ∷ []) [] ≡ Back (returned (int_value (pos (k % 7)))) (behind_leaf path k) done
leaf_gives n d k path done square small = rw (checked_small (k * k) square, by_sevens k small) refl

-- the record of the leaf that is the thread with this number among the chain's
abbrev pub leaf_entry : ℕ → ℕ → Entry
leaf_entry i k = record { path = 0 ∷ 0 ∷ i ∷ []; prio = 0; events = leaf_events k ++ End ∷ []; outcome = returned (int_value (pos (k % 7))) }

-- the records of the leaves of the numbers from k down to 1, from the thread with number i on
abbrev pub leaves : ℕ → ℕ → List Entry
leaves i zero = []
leaves i (suc k) = leaf_entry i (suc k) ∷ leaves (i + 1) k
