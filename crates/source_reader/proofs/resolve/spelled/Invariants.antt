use Rattle.std.proofs.Common.{◌≡◌, map, take, get_or, [], string_bytes}
use Rattle.source_tokens.specs.Names.{name_bytes}
use Rattle.source_reader.proofs.resolve.spelled.Given as goal

abbrev pub invariant-loop-id : goal.invariant-loop-id
invariant-loop-id l = map string_bytes l.all.items ≡ map (λ id. get_or (name_bytes l.names) id []) (take l.id-index l.ids)
