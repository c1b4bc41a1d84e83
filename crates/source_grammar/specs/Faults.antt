-- Why tokens stand for no program.
use Rattle.std.specs.Prelude.{◌≡◌, ℕ, ◌+◌, ◌≤◌, ◌<◌, List, ◌++◌, map, take, length, slice_get}
use Rattle.source_tokens.specs.declared.token.Token.{Token}
use Rattle.source_tokens.specs.declared.token.Kind.{Kind}
use Rattle.source_grammar.specs.declared.program.ParseStop.{ParseStop}
use Rattle.source_grammar.specs.declared.program.ParseStop.TheVariants.{Unexpected, OutOfMemory}
use Rattle.source_grammar.specs.Grammar.{IsProgram}
use Rattle.source_grammar.specs.RawTree.{RawTree}

-- the tokens without their places
abbrev pub kinds : List Token → List Kind
kinds ts = map (λ (t : Token). t.kind) ts

-- Some program begins with tokens of these kinds. Their places may be others, since what comes next has places of its own.
pub record Viable (ks : List Kind) : Type 0 where
  pub tokens : List Token
  pub more : List Token
  pub tree : RawTree
  pub same : kinds tokens ≡ ks
  pub is : IsProgram (tokens ++ more) tree

-- The token at index n is the first with which the text leaves the grammar: a program may begin with the tokens before it, and none with it and
-- them. Where n is the number of tokens, all of them begin a program, and are none.
pub record IsUnexpected (ts : List Token) (n : ℕ) : Type 0 where
  pub within : n ≤ length ts
  pub before : Viable (kinds (take n ts))
  pub here : n < length ts → Viable (kinds (take (n + 1) ts)) → ⊥
  pub none : (p : RawTree) → IsProgram ts p → ⊥

-- what a refusal says: where a token is unexpected, the tokens stand for no program
abbrev pub HasNoTree : List Token → ParseStop → Type 0
HasNoTree ts (Unexpected t) = (p : RawTree) → IsProgram ts p → ⊥
HasNoTree ts OutOfMemory = Unit {0}

-- what the token of a refusal says: it stands at the place where the text leaves the grammar, and there is none at the end
abbrev pub TokenIsAt : List Token → ParseStop → Type 0
TokenIsAt ts (Unexpected t) = (n : ℕ) × IsUnexpected ts n × (slice_get ts n ≡ t)
TokenIsAt ts OutOfMemory = Unit {0}
