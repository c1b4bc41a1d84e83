use Rattle.std.proofs.Common.{◌≡◌, ◌++◌, OnOk, sym, subst}
use Rattle.std.specs.String.{string_bytes}
use Rattle.source_maker.proofs.Flat.{flat}
use Rattle.source_maker.proofs.maker.push_main.Goals as goal

pub returns : goal.returns
returns c = subst (λ t. OnOk c.write.result (string_bytes c.write.new.self ≡ string_bytes c.args.text.now ++ t)) (sym (flat c.args.n)) c.write.ensures.bytes
