use Rattle.std.proofs.Common.{Some, ap, arith}
use Rattle.source_reader.proofs.Indexed.{indexed_push}
use Rattle.source_reader.proofs.names.Index.push.Goals as goal

pub invariant_of-self-2 : goal.invariant_of-self-2
invariant_of-self-2 c = record { indexed = indexed_push c.args.self.now.places.items c.args.self.now.ids.items _ c.args.id c.min-place.result c.requires (ap Some (omega (arith, c.len.ensures, c.min-place.ensures))) c.in_ok-push.ensures.items c.args.self.now.indexed }
