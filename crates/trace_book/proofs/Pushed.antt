-- Records of logs, one after the other.
use Rattle.std.proofs.Common.{◌≡◌, ℕ, List, [], ◌∷◌, ◌++◌, Option, Some, None, refl, sym, ap, subst}
use Rattle.std.specs.Option.{option_map}
use Rattle.std.proofs.lemmas.Option.{none-some, same_Some}
use Rattle.priml_syntax.specs.declared.value.Outcome.{Outcome}
use Rattle.priml_syntax.specs.Paths.{Precedes}
use Rattle.priml_syntax.specs.Values.{Entry}
use Rattle.priml_syntax.specs.Records.{Each, InPathOrder}
use Rattle.trace_book.specs.Log.{Log}
use Rattle.std.specs.List.{AllByRecursion}
use Rattle.trace_book.specs.Book.{RiseByPath, both, entry_of, entry_with, entries_of}

-- a record has the path of its log
entry_path : (l : Log) (o : Option Outcome) (x : Entry) → option_map (entry_with l) o ≡ Some x → x.path ≡ l.path
entry_path l None x e = absurd (none-some x e)
entry_path l (Some o) x e = ap (λ (y : Entry). y.path) (sym (same_Some (entry_with l o) x e))

-- what stands before each log stands before each record
entries_before : (p : List ℕ) (ls : List Log) (es : List Entry) → AllByRecursion (λ (l : Log). Precedes p l.path) ls → entries_of ls ≡ Some es → Each (λ x. Precedes p x.path) es
entries_before p [] es b e = subst (Each (λ x. Precedes p x.path)) (same_Some [] es e) tt
entries_before p (l ∷ ls) es b e = go (entry_of l) (entries_of ls) refl (λ xs c. entries_before p ls xs b.1 c) e
  where
    go : (x : Option Entry) (y : Option (List Entry)) → entry_of l ≡ x → ((xs : List Entry) → y ≡ Some xs → Each (λ z. Precedes p z.path) xs) → both x y ≡ Some es → Each (λ z. Precedes p z.path) es
    go None y a h f = absurd (none-some es f)
    go (Some x) None a h f = absurd (none-some es f)
    go (Some x) (Some xs) a h f =
        subst (Each (λ z. Precedes p z.path)) (same_Some (x ∷ xs) es f) (subst (Precedes p) (sym (entry_path l l.outcome x a)) b.0, h xs refl)

-- the records of logs in the order of their paths are in that order
pub entries_rise : (ls : List Log) (es : List Entry) → RiseByPath ls → entries_of ls ≡ Some es → InPathOrder es
entries_rise [] es r e = subst InPathOrder (same_Some [] es e) tt
entries_rise (l ∷ ls) es r e = go (entry_of l) (entries_of ls) refl (λ xs c. (entries_before l.path ls xs r.0 c, entries_rise ls xs r.1 c)) e
  where
    go : (x : Option Entry) (y : Option (List Entry)) → entry_of l ≡ x → ((xs : List Entry) → y ≡ Some xs → Each (λ z. Precedes l.path z.path) xs × InPathOrder xs) → both x y ≡ Some es → InPathOrder es
    go None y a h f = absurd (none-some es f)
    go (Some x) None a h f = absurd (none-some es f)
    go (Some x) (Some xs) a h f =
        let k = h xs refl in subst InPathOrder (same_Some (x ∷ xs) es f) (subst (λ p. Each (λ z. Precedes p z.path) xs) (sym (entry_path l l.outcome x a)) k.0, k.1)

-- behind none
pub pushed_first : (es : Option (List Entry)) (new : List Entry) → option_map (λ (xs : List Entry). [] ++ xs) es ≡ Some new → es ≡ Some new
pushed_first None new e = e
pushed_first (Some xs) new e = e
