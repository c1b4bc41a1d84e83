-- What holds of the tokens of every text: their places ascend, their names are distinct, and a bracket is too deep only where 64 are open.
use Rattle.std.proofs.Common.{◌≡◌, ℕ, ◌+◌, ◌-◌, ◌≤◌, ◌<◌, List, [], ◌∷◌, ◌++◌, Bool, true, false, ◌&&◌, length, Some, None, refl, sym, ap, subst, ◌∙◌, arith, length-append}
use Rattle.std.specs.Prelude.{IsTrue, nat_le}
use Rattle.std.proofs.lemmas.Option.{slice_get_within}
use Rattle.std.proofs.lemmas.Bool.{and_from, and_left, and_right, cond-true, cond-false, le-leb, lt-leb}
use Rattle.source_tokens.specs.declared.token.Kind.{Kind}
use Rattle.source_tokens.specs.declared.token.Kind.TheVariants as k
use Rattle.source_tokens.specs.declared.token.Token.{Token}
use Rattle.source_tokens.specs.declared.token.Stop.{Stop}
use Rattle.source_tokens.specs.Lexemes.{IsLexeme, of_digits}
use Rattle.source_tokens.specs.Inside.Gaps.{begins, behind, is_passed, keeps_comment}
use Rattle.source_tokens.specs.Lexes.{IsDistinct, Spells, word, sign, number, old_name, new_name, opens, closes, open_behind, place, Lexes, done, bad_byte, bad_number, too_deep, next, IsLexed}
use Rattle.source_tokens.specs.Laws.{IsEndFrom, AreInOrder, IsNameBelow, AreNamesBelow, first_deep, deep_place, AreShallow, AreLawful}
use Rattle.source_tokens.proofs.Longest.{nil_no_lexeme}
use Rattle.source_tokens.proofs.Spelled.{spelled, spelled_distinct}
use Rattle.source_tokens.proofs.Once.{no_names}
use Rattle.source_tokens.proofs.Skips.{begun}

pub behind_shorter : (in_comment : Bool) (bs : List ℕ) → length (behind in_comment bs) ≤ length bs
behind_shorter in_comment [] = omega arith
behind_shorter in_comment (b ∷ bs) = go (is_passed in_comment b) refl (behind_shorter (keeps_comment in_comment b) bs)
  where
    go : (t : Bool) → is_passed in_comment b ≡ t → length (behind (keeps_comment in_comment b) bs) ≤ length bs → length (behind in_comment (b ∷ bs)) ≤ length (b ∷ bs)
    go true e shorter = rw e (omega arith)
    go false e shorter = rw e (omega arith)

pub lexeme_some : (lexeme : List ℕ) → IsLexeme lexeme → 0 < length lexeme
lexeme_some [] is = absurd (nil_no_lexeme is)
lexeme_some (b ∷ bs) is = omega arith

-- where a token begins, and where the next may
record IsRoom (total : ℕ) (bs front rest : List ℕ) : Type 0 where
  here : total - length bs ≤ place total front
  inside : place total front < total
  there : place total front + 1 ≤ total - length rest
  left : length rest ≤ total

room : (total : ℕ) (bs lexeme rest : List ℕ) → length bs ≤ total → begins bs ≡ lexeme ++ rest → IsLexeme lexeme → IsRoom total bs (lexeme ++ rest) rest
room total bs lexeme rest within e is =
    let some = lexeme_some lexeme is in
    let shorter = behind_shorter false bs in
    let same : length (begins bs) ≡ length (lexeme ++ rest) = ap length e in
    let parts = length-append lexeme rest in
    record { here = omega arith; inside = omega arith; there = omega arith; left = omega arith }

-- places ascend
in_order : {total depth : ℕ} {known : List (List ℕ)} {bs : List ℕ} {ts : List Token} {ns : List (List ℕ)} {end : Stop} (from : ℕ)
    → length bs ≤ total → from ≤ total - length bs → Lexes total depth known bs ts ns end → AreInOrder from total ts end
in_order {total} {end = end} from within low (done e t n s) =
    subst (λ u. AreInOrder from total u end) (sym t) (subst (IsEndFrom from total) (sym s) tt)
in_order {total} {bs = bs} {end = end} from within low (bad_byte b rest e none t n s) =
    let shorter = behind_shorter false bs in
    let some : length (begins bs) ≡ length (b ∷ rest) = ap length (begun e) in
    subst (λ u. AreInOrder from total u end) (sym t) (subst (IsEndFrom from total) (sym s) (omega arith, omega arith))
in_order {total} {bs = bs} {end = end} from within low (bad_number lexeme rest e longest digits large t n s) =
    let r = room total bs lexeme rest within (begun e) (of_digits digits) in
    subst (λ u. AreInOrder from total u end) (sym t) (subst (IsEndFrom from total) (sym s) (omega arith, r.inside))
in_order {total} {bs = bs} {end = end} from within low (too_deep lexeme rest kind e longest spells opening deep t s) =
    let r = room total bs lexeme rest within (begun e) (spelled spells) in
    subst (λ u. AreInOrder from total u end) (sym t) (omega arith, r.inside, subst (IsEndFrom (place total (lexeme ++ rest) + 1) total) (sym s) refl)
in_order {total} {bs = bs} {end = end} from within low (next lexeme rest kind later more e longest spells shallow t tail) =
    let r = room total bs lexeme rest within (begun e) (spelled spells) in
    subst (λ u. AreInOrder from total u end) (sym t) (omega arith, r.inside, in_order (place total (lexeme ++ rest) + 1) r.left r.there tail)

-- a number of a name stays below the count of names
more_names : (kind : Kind) (n m : ℕ) → n ≤ m → IsNameBelow n kind → IsNameBelow m kind
more_names (k.Name id) n m l h = omega arith
more_names (k.Number x) n m l h = tt
more_names (k.Word x) n m l h = tt
more_names (k.Sign x) n m l h = tt

record HasRoom (known names : List (List ℕ)) (kind : Kind) : Type 0 where
  grows : length known ≤ length names
  below : IsNameBelow (length names) kind

name_room : {known names : List (List ℕ)} {lexeme : List ℕ} {kind : Kind} → Spells known lexeme kind names → HasRoom known names kind
name_room {known} {names} (word v e q n) = let same = ap length n in record { grows = omega arith; below = subst (IsNameBelow (length names)) (sym q) tt }
name_room {known} {names} (sign x e q n) = let same = ap length n in record { grows = omega arith; below = subst (IsNameBelow (length names)) (sym q) tt }
name_room {known} {names} (number h small q n) = let same = ap length n in record { grows = omega arith; below = subst (IsNameBelow (length names)) (sym q) tt }
name_room {known} {names} {lexeme} (old_name id name at q n) =
    let same = ap length n in
    let inside = slice_get_within known id lexeme at in
    let fits : id < length names = omega arith in
    record { grows = omega arith; below = subst (IsNameBelow (length names)) (sym q) fits }
name_room {known} {names} {lexeme} (new_name name none q n) =
    let longer : length names ≡ length known + 1 = ap length n ∙ length-append known (lexeme ∷ []) in
    let fits : length known < length names = omega arith in
    record { grows = omega arith; below = subst (IsNameBelow (length names)) (sym q) fits }

record AreNumbered (known names : List (List ℕ)) (ts : List Token) : Type 0 where
  grows : length known ≤ length names
  below : AreNamesBelow (length names) ts

no_tokens : (known names : List (List ℕ)) (ts : List Token) → ts ≡ [] → names ≡ known → AreNumbered known names ts
no_tokens known names ts t n = let same = ap length n in record { grows = omega arith; below = subst (AreNamesBelow (length names)) (sym t) tt }

numbered : {total depth : ℕ} {known : List (List ℕ)} {bs : List ℕ} {ts : List Token} {ns : List (List ℕ)} {end : Stop}
    → Lexes total depth known bs ts ns end → AreNumbered known ns ts
numbered {known = known} {ts = ts} {ns = ns} (done e t n s) = no_tokens known ns ts t n
numbered {known = known} {ts = ts} {ns = ns} (bad_byte b rest e none t n s) = no_tokens known ns ts t n
numbered {known = known} {ts = ts} {ns = ns} (bad_number lexeme rest e longest digits large t n s) = no_tokens known ns ts t n
numbered {ns = ns} (too_deep lexeme rest kind e longest spells opening deep t s) =
    let r = name_room spells in
    record { grows = r.grows; below = subst (AreNamesBelow (length ns)) (sym t) (r.below, tt) }
numbered {ns = ns} (next lexeme rest kind later more e longest spells shallow t tail) =
    let r = name_room spells in
    let rest_of = numbered tail in
    record { grows = omega arith; below = subst (AreNamesBelow (length ns)) (sym t) (more_names kind (length later) (length ns) rest_of.grows r.below, rest_of.below) }

distinct : {total depth : ℕ} {known : List (List ℕ)} {bs : List ℕ} {ts : List Token} {ns : List (List ℕ)} {end : Stop}
    → IsDistinct known → Lexes total depth known bs ts ns end → IsDistinct ns
distinct d (done e t n s) = subst IsDistinct (sym n) d
distinct d (bad_byte b rest e none t n s) = subst IsDistinct (sym n) d
distinct d (bad_number lexeme rest e longest digits large t n s) = subst IsDistinct (sym n) d
distinct d (too_deep lexeme rest kind e longest spells opening deep t s) = spelled_distinct d spells
distinct d (next lexeme rest kind later more e longest spells shallow t tail) = distinct (spelled_distinct d spells) tail

-- a bracket that opens while fewer are open is not too deep
passes : (kind : Kind) (depth : ℕ) → (IsTrue (opens kind) → depth < 64) → (opens kind && nat_le 64 depth) ≡ false
passes kind depth shallow = go (opens kind) refl
  where
    go : (b : Bool) → opens kind ≡ b → (opens kind && nat_le 64 depth) ≡ false
    go true e = and_right (opens kind) (nat_le 64 depth) (lt-leb 64 depth (shallow e))
    go false e = and_left (opens kind) (nat_le 64 depth) e

deep : {total depth : ℕ} {known : List (List ℕ)} {bs : List ℕ} {ts : List Token} {ns : List (List ℕ)} {end : Stop}
    → Lexes total depth known bs ts ns end → first_deep depth ts ≡ deep_place end
deep {depth = depth} (done e t n s) = ap (first_deep depth) t ∙ ap deep_place (sym s)
deep {depth = depth} (bad_byte b rest e none t n s) = ap (first_deep depth) t ∙ ap deep_place (sym s)
deep {depth = depth} (bad_number lexeme rest e longest digits large t n s) = ap (first_deep depth) t ∙ ap deep_place (sym s)
deep {total} {depth = depth} {bs = bs} (too_deep lexeme rest kind e longest spells opening down t s) =
    ap (first_deep depth) t
    ∙ cond-true (opens kind && nat_le 64 depth) (Some (place total (lexeme ++ rest))) None (and_from (opens kind) (nat_le 64 depth) opening (le-leb 64 depth down))
    ∙ ap deep_place (sym s)
deep {total} {depth = depth} {bs = bs} (next lexeme rest kind later more e longest spells shallow t tail) =
    ap (first_deep depth) t
    ∙ cond-false (opens kind && nat_le 64 depth) (Some (place total (lexeme ++ rest))) (first_deep (open_behind kind depth) more) (passes kind depth shallow)
    ∙ deep tail

-- brackets that are open stay few
open_next : (kind : Kind) (depth : ℕ) → depth ≤ 64 → (IsTrue (opens kind) → depth < 64) → open_behind kind depth ≤ 64
open_next kind depth few shallow = go (opens kind) refl (closes kind) refl
  where
    go : (b : Bool) → opens kind ≡ b → (d : Bool) → closes kind ≡ d → open_behind kind depth ≤ 64
    go true e d f = let l = shallow e in rw e (omega arith)
    go false e true f = rw (e, f) (omega arith)
    go false e false f = rw (e, f) (omega arith)

few_open : {total depth : ℕ} {known : List (List ℕ)} {bs : List ℕ} {ts : List Token} {ns : List (List ℕ)} {end : Stop}
    → depth ≤ 64 → Lexes total depth known bs ts ns end → AreShallow depth ts
few_open {depth = depth} few (done e t n s) = subst (AreShallow depth) (sym t) (omega arith)
few_open {depth = depth} few (bad_byte b rest e none t n s) = subst (AreShallow depth) (sym t) (omega arith)
few_open {depth = depth} few (bad_number lexeme rest e longest digits large t n s) = subst (AreShallow depth) (sym t) (omega arith)
few_open {depth = depth} few (too_deep lexeme rest kind e longest spells opening down t s) =
    subst (AreShallow depth) (sym t) (few, rw (opening) (omega arith))
few_open {depth = depth} few (next lexeme rest kind later more e longest spells shallow t tail) =
    subst (AreShallow depth) (sym t) (few, few_open (open_next kind depth few shallow) tail)

-- what holds of the tokens of every text
pub lexed_lawful : (text : List ℕ) (ts : List Token) (ns : List (List ℕ)) (end : Stop) → IsLexed text ts ns end → AreLawful (length text) ts ns end
lexed_lawful text ts ns end h =
    record { in_order = in_order 0 (omega arith) (omega arith) h; distinct = distinct no_names h; numbered = (numbered h).below; deep = deep h; shallow = few_open (omega arith) h }
