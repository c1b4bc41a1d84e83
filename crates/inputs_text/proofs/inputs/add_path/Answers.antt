use Rattle.std.proofs.Common.{sym}
use Rattle.inputs_text.proofs.Known.{known_path, new_path}
use Rattle.inputs_text.proofs.inputs.add_path.Goals as goal

pub returns-in-Some : goal.returns-in-Some
returns-in-Some c = known_path c.args.paths.now.keys c.args.path.now c.in-Some.field-0 (sym c.in-Some.ensures.index)

pub returns : goal.returns
returns c =
    new_path c.args.paths.now.keys c.insert.new.self.keys c.in_ok-from_slice.field-0 c.args.path.now (sym c.in_default.ensures.found) c.in_ok-from_slice.ensures.items c.in_ok-insert.ensures.keys
