use Rattle.std.proofs.Common.{◌<◌, ◌^◌, length, ap, sym, refl, subst, arith}
use Rattle.core_steps.specs.Steps.{Job}
use Rattle.join_board.specs.Inside.Openings.{IsRooted}
use Rattle.join_board.proofs.Openings.{Rooted, bare, root_next}
use Rattle.join_board.proofs.open.first_shards.Goals as goal

pub loop-k-init : goal.loop-k-init
loop-k-init c = subst (Rooted c.args.about.now 0) (sym c.in_ok-shards.ensures) (bare c.args.about.now 64 refl (subst (λ (j : Job). length j.program.mains < 2 ^ 32) (sym c.requires) (omega arith)))

pub enroll_root-requires-clause-deep : goal.enroll_root-requires-clause-deep
enroll_root-requires-clause-deep c = c.loop-k.invariant.logs.deep

pub loop-k-preserved : goal.loop-k-preserved
loop-k-preserved c = let k = c.loop-k.k in let old = c.loop-k.shards.items in let new = c.enroll_root.new.shards.items in
    root_next c.args.about.now k old new c.loop-k.invariant (subst (λ (j : Job). k < length j.program.mains) (sym c.requires) (let h = c.loop-k-test.true in let e = c.roots-k-end.ensures in omega (arith, h, e)))
    (subst (λ (j : Job). IsRooted j k old new) (sym c.requires) c.in_ok-enroll_root.ensures)

pub returns : goal.returns
returns c = let inv = c.loop-k.invariant in record { logs = inv.logs; rooted = λ j l. inv.rooted j (let k = c.loop-k.k in let h = c.loop-k-test.false in let e = c.roots-k-end.ensures in let all = ap (λ (job : Job). length job.program.mains) c.requires in omega (arith, l, h, e, all)); idle = inv.idle }
