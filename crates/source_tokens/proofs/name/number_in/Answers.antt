use Rattle.std.proofs.Common.{sym}
use Rattle.source_tokens.proofs.Numbered.{old_number, new_number}
use Rattle.source_tokens.proofs.name.number_in.Goals as goal

pub returns-in-Some : goal.returns-in-Some
returns-in-Some c = old_number c.args.names.now.keys c.args.spelling.now c.in-Some.id (sym c.in-Some.ensures.index)

pub returns : goal.returns
returns c =
    rw c.len-id.ensures.len
    (new_number c.args.names.now.keys c.insert.new.self.keys c.in_ok-from_slice.field-0 c.args.spelling.now (sym c.in_default.ensures.found) c.in_ok-from_slice.ensures.items c.in_ok-insert.ensures.keys)
