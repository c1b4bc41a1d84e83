-- Laws of the spellings of names.
use Rattle.std.proofs.Common.{◌≡◌, ℕ, ◌<◌, Some, [], length, get_or, slice_get, ap, ◌∙◌, arith}
use Rattle.std.specs.HashSet.{HashSet}
use Rattle.std.specs.declared.vec.Vec.{Vec}
use Rattle.std.proofs.lemmas.List.{get_or-map, length-map}
use Rattle.std.proofs.lemmas.Option.{get_or_from_slice_get, slice_get_within}
use Rattle.source_tokens.specs.Names.{name_bytes}

pub name_at : {Z S : Type 0} (names : HashSet (Vec ℕ Z) S) (id : ℕ) (v : Vec ℕ Z) → slice_get names.keys id ≡ Some v → get_or (name_bytes names) id [] ≡ v.items
name_at names id v e = get_or-map (λ (x : Vec ℕ _). x.items) names.keys id v [] (slice_get_within names.keys id v e) ∙ ap (λ (x : Vec ℕ _). x.items) (get_or_from_slice_get names.keys id v v e)

pub name_within : {Z S : Type 0} (names : HashSet (Vec ℕ Z) S) (id : ℕ) (v : Vec ℕ Z) → slice_get names.keys id ≡ Some v → id < length (name_bytes names)
name_within names id v e = let l = slice_get_within names.keys id v e in let m = length-map names.keys (λ (x : Vec ℕ _). x.items) in omega (arith, l, m)
