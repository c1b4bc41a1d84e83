-- A text has one list of tokens, one list of names and one end.
use Rattle.std.proofs.Common.{◌≡◌, ℕ, ◌^◌, ◌≤◌, ◌<◌, List, [], ◌∷◌, ◌++◌, refl, sym, ap, subst, ◌∙◌, arith}
use Rattle.std.specs.Prelude.{IsTrue}
use Rattle.priml_io.specs.Words.{value_of}
use Rattle.source_tokens.specs.declared.token.Kind.{Kind}
use Rattle.source_tokens.specs.declared.token.Token.{Token}
use Rattle.source_tokens.specs.declared.token.Stop.{Stop}
use Rattle.source_tokens.specs.declared.token.Stop.TheVariants as stop
use Rattle.source_tokens.specs.Lexemes.{Skips, is_number, IsLexeme, of_digits, IsLongest}
use Rattle.source_tokens.specs.Lexes.{IsDistinct, Spells, opens, open_behind, place, Lexes, done, bad_byte, bad_number, too_deep, next, IsLexed}
use Rattle.source_tokens.specs.Inside.Gaps.{begins}
use Rattle.source_tokens.proofs.Longest.{nil_no_lexeme}
use Rattle.source_tokens.proofs.Skips.{begun}
use Rattle.source_tokens.proofs.Spelled.{spelled, spelled_small, spelled_once, spelled_distinct}

-- two fronts of one text: they are the same, or one is longer
data Fronts (a b r s : List ℕ) : Type 0 where
  same : a ≡ b → r ≡ s → Fronts a b r s
  first_longer : (c : ℕ) (more : List ℕ) → a ≡ b ++ (c ∷ more) → s ≡ (c ∷ more) ++ r → Fronts a b r s
  second_longer : (c : ℕ) (more : List ℕ) → b ≡ a ++ (c ∷ more) → r ≡ (c ∷ more) ++ s → Fronts a b r s

more_front : {a b r s : List ℕ} (x : ℕ) → Fronts a b r s → Fronts (x ∷ a) (x ∷ b) r s
more_front x (same p q) = same (ap (λ l. x ∷ l) p) q
more_front x (first_longer c more p q) = first_longer c more (ap (λ l. x ∷ l) p) q
more_front x (second_longer c more p q) = second_longer c more (ap (λ l. x ∷ l) p) q

fronts : (a b r s : List ℕ) → a ++ r ≡ b ++ s → Fronts a b r s
fronts [] [] r s e = same refl e
fronts [] (c ∷ more) r s e = second_longer c more refl e
fronts (c ∷ more) [] r s e = first_longer c more refl (sym e)
fronts (x ∷ a) (y ∷ b) r s e =
    let head : x ≡ y = cc in
    let tail : a ++ r ≡ b ++ s = cc in
    subst (λ z. Fronts (x ∷ a) (z ∷ b) r s) head (more_front x (fronts a b r s tail))

-- the longest lexeme at a place is one
pub longest_once : (a b r s : List ℕ) → a ++ r ≡ b ++ s → IsLexeme a → IsLexeme b → IsLongest a r → IsLongest b s → (a ≡ b) × (r ≡ s)
longest_once a b r s e is_a is_b longest_a longest_b = by (fronts a b r s e)
  where
    by : Fronts a b r s → (a ≡ b) × (r ≡ s)
    by (same p q) = (p, q)
    by (first_longer c more p q) = absurd (longest_b c more r q (subst IsLexeme p is_a))
    by (second_longer c more p q) = absurd (longest_a c more s q (subst IsLexeme p is_b))

no_lexeme_left : (lexeme rest bs : List ℕ) → bs ≡ [] → bs ≡ lexeme ++ rest → IsLexeme lexeme → ⊥
no_lexeme_left [] rest bs e f is = nil_no_lexeme is
no_lexeme_left (x ∷ lexeme) rest bs e f is = let clash : [] ≡ x ∷ (lexeme ++ rest) = sym e ∙ f in absurd (cc)

moved : {total : ℕ} {more : List Token} {names : List (List ℕ)} {end : Stop} (depth : ℕ) (k l : Kind) (later others : List (List ℕ)) (rest left : List ℕ)
    → k ≡ l → later ≡ others → rest ≡ left → Lexes total (open_behind l depth) others left more names end → Lexes total (open_behind k depth) later rest more names end
moved {total} {more} {names} {end} depth k l later others rest left p q r h =
    subst (λ z. Lexes total (open_behind z depth) later rest more names end) (sym p)
    (subst (λ z. Lexes total (open_behind l depth) z rest more names end) (sym q)
    (subst (λ z. Lexes total (open_behind l depth) others z more names end) (sym r) h))

-- the digits of a number that is too large write no token
no_small : {known names : List (List ℕ)} {kind : Kind} (a b r s bs : List ℕ) → bs ≡ a ++ r → bs ≡ b ++ s → IsLongest a r → IsLongest b s
    → IsTrue (is_number a) → 2 ^ 63 ≤ value_of a → Spells known b kind names → ⊥
no_small {known} {names} {kind} a b r s bs e f longest_a longest_b digits large spells =
    let one = longest_once a b r s (sym e ∙ f) (of_digits digits) (spelled spells) longest_a longest_b in
    spelled_small a (subst (λ z. Spells known z kind names) (sym one.0) spells) digits large

-- two tokens at one place are the same, and what follows them
record SameToken (known names others : List (List ℕ)) (k l : Kind) (r s : List ℕ) : Type 0 where
  kinds : k ≡ l
  later : names ≡ others
  left : r ≡ s

same_token : {known names others : List (List ℕ)} {k l : Kind} (a b r s bs : List ℕ) → IsDistinct known → bs ≡ a ++ r → bs ≡ b ++ s
    → IsLongest a r → IsLongest b s → Spells known a k names → Spells known b l others → SameToken known names others k l r s
same_token {known} {names} {others} {k} {l} a b r s bs d e f longest_a longest_b first second =
    let one = longest_once a b r s (sym e ∙ f) (spelled first) (spelled second) longest_a longest_b in
    let means = spelled_once a d first (subst (λ z. Spells known z l others) (sym one.0) second) in
    record { kinds = means.0; later = means.1; left = one.1 }

too_deep_once : (k l : Kind) (depth : ℕ) → k ≡ l → IsTrue (opens k) → 64 ≤ depth → (IsTrue (opens l) → depth < 64) → ⊥
too_deep_once k l depth e opening deep shallow = let h = shallow (subst (λ z. IsTrue (opens z)) e opening) in omega arith

abbrev token : ℕ → Kind → Token
token at kind = record { at = at; kind = kind }

same_place : (total : ℕ) {bs one other : List ℕ} → Skips bs one → Skips bs other → place total one ≡ place total other
same_place total e f = ap (place total) (sym (begun e) ∙ begun f)

same_end : (total : ℕ) {bs one other : List ℕ} (stop : ℕ → Stop) → Skips bs one → Skips bs other → stop (place total one) ≡ stop (place total other)
same_end total stop e f = ap stop (same_place total e f)

same_tokens : {ts us more last : List Token} {k l : Kind} {at there : ℕ} → at ≡ there → ts ≡ token at k ∷ more → us ≡ token there l ∷ last → k ≡ l → more ≡ last → ts ≡ us
same_tokens places e f p q = e ∙ (λ i. token (places i) (p i) ∷ q i) ∙ sym f

once : {total : ℕ} {depth : ℕ} {known : List (List ℕ)} {bs : List ℕ} {ts us : List Token} {ns ms : List (List ℕ)} {s r : Stop}
    → IsDistinct known → Lexes total depth known bs ts ns s → Lexes total depth known bs us ms r → (ts ≡ us) × (ns ≡ ms) × (s ≡ r)
once d (done e t n s) (done f u m r) = (t ∙ sym u, n ∙ sym m, s ∙ sym r)
once d (done e t n s) (bad_byte b rest f none u m r) = let clash : [] ≡ b ∷ rest = sym (begun e) ∙ begun f in absurd (cc)
once {bs = bs} d (done e t n s) (bad_number lexeme rest f longest digits large u m r) = absurd (no_lexeme_left lexeme rest (begins bs) (begun e) (begun f) (of_digits digits))
once {bs = bs} d (done e t n s) (too_deep lexeme rest kind f longest spells opening deep u r) = absurd (no_lexeme_left lexeme rest (begins bs) (begun e) (begun f) (spelled spells))
once {bs = bs} d (done e t n s) (next lexeme rest kind later more f longest spells shallow u r) = absurd (no_lexeme_left lexeme rest (begins bs) (begun e) (begun f) (spelled spells))
once d (bad_byte b rest e none t n s) (done f u m r) = let clash : [] ≡ b ∷ rest = sym (begun f) ∙ begun e in absurd (cc)
once {total} d (bad_byte b rest e none t n s) (bad_byte c left f never u m r) = (t ∙ sym u, n ∙ sym m, s ∙ same_end total stop.BadByte e f ∙ sym r)
once d (bad_byte b rest e none t n s) (bad_number lexeme left f longest digits large u m r) = absurd (none lexeme left (sym (begun e) ∙ begun f) (of_digits digits))
once d (bad_byte b rest e none t n s) (too_deep lexeme left kind f longest spells opening deep u r) = absurd (none lexeme left (sym (begun e) ∙ begun f) (spelled spells))
once d (bad_byte b rest e none t n s) (next lexeme left kind later more f longest spells shallow u r) = absurd (none lexeme left (sym (begun e) ∙ begun f) (spelled spells))
once {bs = bs} d (bad_number lexeme rest e longest digits large t n s) (done f u m r) = absurd (no_lexeme_left lexeme rest (begins bs) (begun f) (begun e) (of_digits digits))
once d (bad_number lexeme rest e longest digits large t n s) (bad_byte b left f none u m r) = absurd (none lexeme rest (sym (begun f) ∙ begun e) (of_digits digits))
once {total} d (bad_number lexeme rest e longest digits large t n s) (bad_number other left f long again huge u m r) = (t ∙ sym u, n ∙ sym m, s ∙ same_end total stop.BadNumber e f ∙ sym r)
once {bs = bs} d (bad_number lexeme rest e longest digits large t n s) (too_deep other left kind f long spells opening deep u r) =
    absurd (no_small lexeme other rest left (begins bs) (begun e) (begun f) longest long digits large spells)
once {bs = bs} d (bad_number lexeme rest e longest digits large t n s) (next other left kind later more f long spells shallow u r) =
    absurd (no_small lexeme other rest left (begins bs) (begun e) (begun f) longest long digits large spells)
once {bs = bs} d (too_deep lexeme rest kind e longest spells opening deep t s) (done f u m r) = absurd (no_lexeme_left lexeme rest (begins bs) (begun f) (begun e) (spelled spells))
once d (too_deep lexeme rest kind e longest spells opening deep t s) (bad_byte b left f none u m r) = absurd (none lexeme rest (sym (begun f) ∙ begun e) (spelled spells))
once {bs = bs} d (too_deep lexeme rest kind e longest spells opening deep t s) (bad_number other left f long digits large u m r) =
    absurd (no_small other lexeme left rest (begins bs) (begun f) (begun e) long longest digits large spells)
once {total} {bs = bs} d (too_deep lexeme rest kind e longest spells opening deep t s) (too_deep other left sort f long means opened down u r) =
    let one = same_token lexeme other rest left (begins bs) d (begun e) (begun f) longest long spells means in
    (same_tokens (same_place total e f) t u one.kinds refl, one.later, s ∙ same_end total stop.TooDeep e f ∙ sym r)
once {depth = depth} {bs = bs} d (too_deep lexeme rest kind e longest spells opening deep t s) (next other left sort later more f long means shallow u r) =
    let one = same_token lexeme other rest left (begins bs) d (begun e) (begun f) longest long spells means in
    absurd (too_deep_once kind sort depth one.kinds opening deep shallow)
once {bs = bs} d (next lexeme rest kind later more e longest spells shallow t s) (done f u m r) = absurd (no_lexeme_left lexeme rest (begins bs) (begun f) (begun e) (spelled spells))
once d (next lexeme rest kind later more e longest spells shallow t s) (bad_byte b left f none u m r) = absurd (none lexeme rest (sym (begun f) ∙ begun e) (spelled spells))
once {bs = bs} d (next lexeme rest kind later more e longest spells shallow t s) (bad_number other left f long digits large u m r) =
    absurd (no_small other lexeme left rest (begins bs) (begun f) (begun e) long longest digits large spells)
once {depth = depth} {bs = bs} d (next lexeme rest kind later more e longest spells shallow t s) (too_deep other left sort f long means opened down u r) =
    let one = same_token lexeme other rest left (begins bs) d (begun e) (begun f) longest long spells means in
    absurd (too_deep_once sort kind depth (sym one.kinds) opened down shallow)
once {total} {depth} {bs = bs} d (next lexeme rest kind later more e longest spells shallow t s) (next other left sort others last f long means low u r) =
    let one = same_token lexeme other rest left (begins bs) d (begun e) (begun f) longest long spells means in
    let tail = once (spelled_distinct d spells) s (moved depth kind sort later others rest left one.kinds one.later one.left r) in
    (same_tokens (same_place total e f) t u one.kinds tail.0, tail.1, tail.2)

pub no_names : IsDistinct []
no_names j k n at there = absurd (cc)

-- a text has one list of tokens, one list of distinct names and one end
pub lexed_once : (text : List ℕ) (ts us : List Token) (ns ms : List (List ℕ)) (s r : Stop) → IsLexed text ts ns s → IsLexed text us ms r → (ts ≡ us) × (ns ≡ ms) × (s ≡ r)
lexed_once text ts us ns ms s r h g = once no_names h g
