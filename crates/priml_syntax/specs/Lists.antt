-- A block's actions as a list.
use Rattle.std.specs.Prelude.{ℕ, List, [], ◌∷◌}
use Rattle.priml_syntax.specs.declared.block.Bind.{Bind}
use Rattle.priml_syntax.specs.Tree.{Body, bind, Act}
use Rattle.priml_syntax.specs.Read.{read_act}

-- the actions in order, and then a body
abbrev pub body_of : List Bind → Body → Body
body_of [] body = body
body_of (b ∷ bs) body = bind b.at (read_act b.action) (body_of bs body)

-- a bound action: its place, and what it does
abbrev pub read_bind : Bind → ℕ × Act
read_bind b = (b.at, read_act b.action)
