use Rattle.std.proofs.Common.{◌≡◌, map, take, drop}
use Rattle.prompt_planner.proofs.planner.take_first.Given as goal

abbrev pub invariant-loop : goal.invariant-loop
invariant-loop l =
    record {
      taken : l.step.items ≡ map (λ k. k.1) (take l.counter l.fn.ready.keys);
      left : l.ready.keys ≡ drop l.counter l.fn.ready.keys;
    }
