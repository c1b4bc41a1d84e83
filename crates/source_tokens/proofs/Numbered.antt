-- What a look-up in an index set of spellings tells of its names.
use Rattle.std.proofs.Common.{◌≡◌, ℕ, List, [], ◌∷◌, ◌++◌, false, length, map, slice_get, position, Some, refl, sym, ap, ◌∙◌, inl, inr, if◌then◌else◌}
use Rattle.std.specs.List.{list_any}
use Rattle.std.specs.Option.{option_map}
use Rattle.std.specs.declared.vec.Vec.{Vec}
use Rattle.std.proofs.lemmas.List.{length-map}
use Rattle.std.proofs.lemmas.Option.{slice_get-map}
use Rattle.priml_io.proofs.Found.{items_of, has_items, found_at, found_nowhere, added}
use Rattle.source_tokens.specs.declared.token.Kind.TheVariants as k
use Rattle.source_tokens.specs.Lexes.{IsName, Spells, old_name, new_name}
use Rattle.source_tokens.specs.Names.{IsNumbered}

-- a name that is found has the number at which it is found
pub old_number : {Z : Type 0} (keys : List (Vec ℕ Z)) (name : List ℕ) (id : ℕ) → position (has_items name) keys ≡ Some id → IsNumbered (map items_of keys) name id (map items_of keys)
old_number keys name id e = inl (found_at keys name id e, refl)

-- a name that is not found becomes the last
pub new_number : {Z : Type 0} (keys later : List (Vec ℕ Z)) (v : Vec ℕ Z) (name : List ℕ) → list_any (has_items name) keys ≡ false → items_of v ≡ name
    → later ≡ (if list_any (has_items (items_of v)) keys then keys else keys ++ (v ∷ [])) → IsNumbered (map items_of keys) name (length keys) (map items_of later)
new_number keys later v name none e made = inr (found_nowhere keys name none, sym (length-map keys items_of), added keys later v name none e made)

-- what a numbered name writes
pub named : {known names : List (List ℕ)} {lexeme : List ℕ} {id : ℕ} → IsName lexeme → IsNumbered known lexeme id names → Spells known lexeme (k.Name id) names
named {id = id} name (inl h) = old_name id name h.0 refl h.1
named name (inr h) = new_name name h.0 (ap k.Name h.1) h.2

-- a name that stands at its number
pub numbered_at : {Z : Type 0} (keys : List (Vec ℕ Z)) (id : ℕ) (v : Vec ℕ Z) (name : List ℕ) → slice_get keys id ≡ Some v → items_of v ≡ name → slice_get (map items_of keys) id ≡ Some name
numbered_at keys id v name at e = slice_get-map items_of keys id ∙ ap (option_map items_of) at ∙ ap Some e
