-- What a look-up in an index set of paths tells of the paths in it.
use Rattle.std.proofs.Common.{◌≡◌, ◌≢◌, ℕ, zero, suc, ℤ, List, [], ◌∷◌, ◌++◌, Bool, true, false, map, slice_get, position, Some, ap, inl, inr, if◌then◌else◌}
use Rattle.std.specs.List.{list_any}
use Rattle.std.specs.declared.vec.Vec.{Vec}
use Rattle.priml_io.proofs.Found.{items_of, has_items, found_at, found_nowhere, added}
use Rattle.priml_syntax.specs.Inputs.{IsNoneOf}
use Rattle.inputs_text.specs.Inputs.{HasPath}
use Rattle.inputs_text.specs.Inside.Forms.{AddsPath, paths_of}

-- a path that is found is known
pub known_path : {Z : Type 0} (keys : List (Vec ℕ Z)) (path : List ℕ) (k : ℕ) → position (has_items path) keys ≡ Some k → AddsPath (map items_of keys) path false (map items_of keys)
known_path keys path k e = (k, found_at keys path k e)

-- a path that is not found becomes the last
pub new_path : {Z : Type 0} (keys later : List (Vec ℕ Z)) (v : Vec ℕ Z) (path : List ℕ) → list_any (has_items path) keys ≡ false → items_of v ≡ path
    → later ≡ (if list_any (has_items (items_of v)) keys then keys else keys ++ (v ∷ [])) → AddsPath (map items_of keys) path true (map items_of later)
new_path keys later v path none e made = (found_nowhere keys path none, added keys later v path none e made)

-- a path that is none of the lists' paths has no list
pub none-of : (p : List ℕ) (lists : List (List ℕ × List ℤ)) → ((k : ℕ) → slice_get (paths_of lists) k ≢ Some p) → IsNoneOf p lists
none-of p [] h = tt
none-of p (x ∷ xs) h = (λ e. h zero (ap Some e), none-of p xs (λ k. h (suc k)))

pub has-path : (p : List ℕ) (lists : List (List ℕ × List ℤ)) (k : ℕ) → slice_get (paths_of lists) k ≡ Some p → HasPath p lists
has-path p [] k e = absurd (cc)
has-path p (x ∷ xs) zero e = let same : x.0 ≡ p = cc in inl same
has-path p (x ∷ xs) (suc k) e = inr (has-path p xs k e)

-- a path that was not added has a list
pub path-known : (known later : List (List ℕ)) (path : List ℕ) (b : Bool) (lists : List (List ℕ × List ℤ)) → known ≡ paths_of lists → AddsPath known path b later → b ≡ false → HasPath path lists
path-known known later path b lists e a f =
    let k : AddsPath (paths_of lists) path false later = rw (f, e) at a in
    has-path path lists k.0 k.1

-- a path that was added had none
pub path-new : (known later : List (List ℕ)) (path : List ℕ) (b : Bool) (lists : List (List ℕ × List ℤ)) → known ≡ paths_of lists → AddsPath known path b later → b ≡ true → IsNoneOf path lists
path-new known later path b lists e a f =
    let k : AddsPath (paths_of lists) path true later = rw (f, e) at a in
    none-of path lists k.0
