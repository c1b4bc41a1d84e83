-- What a word, a sign or a joint makes of its parts.
use Rattle.std.specs.Prelude.{ℕ, List, ◌∷◌, ◌≡◌, Option, Some}
use Rattle.source_tokens.specs.declared.token.Token.{Token}
use Rattle.source_tokens.specs.declared.token.Kind.{Kind}
use Rattle.source_tokens.specs.declared.token.Sign.TheVariants as s
use Rattle.source_grammar.specs.declared.choice.Mid.{Mid}
use Rattle.source_grammar.specs.declared.choice.Mid.TheVariants as mid
use Rattle.source_grammar.specs.declared.choice.Prefix.{Prefix}
use Rattle.source_grammar.specs.declared.choice.Prefix.TheVariants as prefix
use Rattle.source_grammar.specs.declared.choice.Side.{Side}
use Rattle.source_grammar.specs.declared.choice.Side.TheVariants as side
use Rattle.source_grammar.specs.declared.choice.Joint.{Joint}
use Rattle.source_grammar.specs.declared.choice.Joint.TheVariants as joint
use Rattle.source_grammar.specs.declared.raw.Name.{Name}
use Rattle.source_grammar.specs.RawTree.{RawType, pair, sum, WrittenType, RawTerm, pair_term, first, second, left, right, binary, negated}
use Rattle.source_grammar.specs.Grammar.{sign, IsListed, IsName, IsHead}

abbrev pub mid_type : Mid → RawType → RawType → RawType
mid_type mid.Star x y = pair x y
mid_type mid.Plus x y = sum x y

abbrev pub prefix_term : Prefix → ℕ → RawTerm → RawTerm
prefix_term prefix.First at x = first at x
prefix_term prefix.Second at x = second at x
prefix_term prefix.Negated at x = negated at x

abbrev pub side_term : Side → ℕ → WrittenType → RawTerm → RawTerm
side_term side.Left at t x = left at t x
side_term side.Right at t x = right at t x

abbrev pub joint_term : Joint → ℕ → RawTerm → RawTerm → RawTerm
joint_term joint.Comma at x y = pair_term at x y
joint_term (joint.Operator op) at x y = binary at op x y

-- the next token has this form
abbrev pub IsToken : {F : Type 0} → (Kind → Option F) → List Token → List Token → F → Type 0
IsToken form ts rest f = (t : Token) × (ts ≡ t ∷ rest) × (form t.kind ≡ Some f)

-- a comma, and a form behind it
abbrev pub IsBehindComma : {A : Type 0} → (List Token → List Token → A → Type 0) → List Token → List Token → A → Type 0
IsBehindComma Is ts rest x = (comma : ℕ) × (us : List Token) × (ts ≡ sign comma s.Comma ∷ us) × Is us rest x

-- behind the priority variables of a procedure: the pairs that it is given, and the bracket of its parameters
abbrev pub EndsHead : List Token → List Token → List (Name × Name) → Type 0
EndsHead ts rest gs = (i : ℕ)
    × ((at : ℕ) (us : List Token) (ns : List Name) → IsListed IsName us ts ns → IsHead (sign at s.OpenBracket ∷ us) (sign i s.OpenParen ∷ rest) ns gs)
