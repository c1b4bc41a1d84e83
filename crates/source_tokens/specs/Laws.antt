-- What holds of the tokens of every text.
use Rattle.std.specs.Prelude.{◌≡◌, ℕ, ◌+◌, ◌≤◌, ◌<◌, List, [], ◌∷◌, length, Option, Some, None, ◌&&◌, nat_le, if◌then◌else◌}
use Rattle.source_tokens.specs.declared.token.Kind.{Kind}
use Rattle.source_tokens.specs.declared.token.Kind.TheVariants as k
use Rattle.source_tokens.specs.declared.token.Token.{Token}
use Rattle.source_tokens.specs.declared.token.Stop.{Stop}
use Rattle.source_tokens.specs.declared.token.Stop.TheVariants as stop
use Rattle.source_tokens.specs.Lexes.{IsDistinct, opens, open_behind, IsLexed}

-- the fault of a text lies in it, behind all tokens or at the last
abbrev pub IsEndFrom : ℕ → ℕ → Stop → Type 0
IsEndFrom from total stop.Done = Unit {0}
IsEndFrom from total (stop.BadByte at) = (from ≤ at) × (at < total)
IsEndFrom from total (stop.BadNumber at) = (from ≤ at) × (at < total)
IsEndFrom from total (stop.TooDeep at) = at + 1 ≡ from

-- the places of tokens ascend from an offset on, and lie in a text of `total` bytes; its fault comes behind
abbrev pub AreInOrder : ℕ → ℕ → List Token → Stop → Type 0
AreInOrder from total [] end = IsEndFrom from total end
AreInOrder from total (t ∷ ts) end = (from ≤ t.at) × (t.at < total) × AreInOrder (t.at + 1) total ts end

-- a name has a number below `count`
abbrev pub IsNameBelow : ℕ → Kind → Type 0
IsNameBelow count (k.Name id) = id < count
IsNameBelow count (k.Number n) = Unit {0}
IsNameBelow count (k.Word w) = Unit {0}
IsNameBelow count (k.Sign s) = Unit {0}

abbrev pub AreNamesBelow : ℕ → List Token → Type 0
AreNamesBelow count [] = Unit {0}
AreNamesBelow count (t ∷ ts) = IsNameBelow count t.kind × AreNamesBelow count ts

-- the place of the first bracket that opens while 64 are open, where `depth` are open before these tokens
abbrev pub first_deep : ℕ → List Token → Option ℕ
first_deep depth [] = None
first_deep depth (t ∷ ts) = if opens t.kind && nat_le 64 depth then Some t.at else first_deep (open_behind t.kind depth) ts

-- the place of a bracket that is too deep
abbrev pub deep_place : Stop → Option ℕ
deep_place stop.Done = None
deep_place (stop.BadByte at) = None
deep_place (stop.BadNumber at) = None
deep_place (stop.TooDeep at) = Some at

-- at most 64 brackets are ever open, or 65 by the last token, where `depth` are open before these tokens
abbrev pub AreShallow : ℕ → List Token → Type 0
AreShallow depth [] = depth ≤ 65
AreShallow depth (t ∷ ts) = (depth ≤ 64) × AreShallow (open_behind t.kind depth) ts

-- what holds of the tokens, the names and the end of a text of `total` bytes
pub record AreLawful (total : ℕ) (tokens : List Token) (names : List (List ℕ)) (end : Stop) : Type 0 where
  pub in_order : AreInOrder 0 total tokens end
  pub distinct : IsDistinct names
  pub numbered : AreNamesBelow (length names) tokens
  pub deep : first_deep 0 tokens ≡ deep_place end
  pub shallow : AreShallow 0 tokens

-- the text has tokens, distinct names and an end
pub record HasTokens (text : List ℕ) : Type 0 where
  pub tokens : List Token
  pub names : List (List ℕ)
  pub end : Stop
  pub lexed : IsLexed text tokens names end
