use Rattle.std.proofs.Common.{◌∷◌, [], length, ap, arith}
use Rattle.std.proofs.lemmas.List.{length-append}
use Rattle.prompt_checker.proofs.Held.{empty_push}
use Rattle.prompt_checker.proofs.ready.empty_sets.Goals as goal

pub loop-preserved : goal.loop-preserved
loop-preserved c = record {
  long = omega (arith, c.loop.invariant.long, ap length c.in_ok-push.ensures.items, length-append c.loop.sets.items (c.new.result ∷ []));
  empty = empty_push c.loop.sets.items c.push.new.self.items c.new.result c.new.ensures.empty c.in_ok-push.ensures.items c.loop.invariant.empty;
}
