-- A block's bound actions as a list.
use Rattle.std.specs.Prelude.{List, [], ◌∷◌}
use Rattle.source_grammar.specs.declared.raw.RawBind.{RawBind}
use Rattle.source_grammar.specs.RawTree.{RawBody, bind}
use Rattle.source_grammar.specs.RawRead.{read_action}

-- the bound actions in order, and then the rest of a body
abbrev pub raw_body_of : List RawBind → RawBody → RawBody
raw_body_of [] body = body
raw_body_of (b ∷ bs) body = bind b.name b.at (read_action b.action) (raw_body_of bs body)
