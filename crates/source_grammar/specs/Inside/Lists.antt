-- A block's bound actions as a list.
use Rattle.std.specs.Prelude.{List, [], ◌∷◌}
use Rattle.source_grammar.specs.declared.raw.RawBind.{RawBind}
use Rattle.source_grammar.specs.RawTree.{RawBody, bind}
use Rattle.source_grammar.specs.RawRead.{read_action}

-- the bound actions in order, and then the rest of a body
abbrev pub body_of : List RawBind → RawBody → RawBody
body_of [] body = body
body_of (b ∷ bs) body = bind b.name b.at (read_action b.action) (body_of bs body)
