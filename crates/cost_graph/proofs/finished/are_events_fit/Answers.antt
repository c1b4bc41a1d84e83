use Rattle.std.proofs.Common.{◌≡◌, ◌<◌, length, false, true, arith, rules}
use Rattle.std.proofs.lemmas.Bool.{false≢true, both_ways}
use Rattle.cost_graph.specs.Records.{parts_in}
use Rattle.cost_graph.proofs.JobEnds.{event_at, fit_on}
use Rattle.cost_graph.proofs.finished.are_events_fit.Goals as goal

pub returns-then-not-fits : goal.returns-then-not-fits
returns-then-not-fits c =
    let es = c.args.events.now in
    let n = c.loop-n.n in
    let e = c.index-events-n.result in
    let lt : n < length es = omega (arith, c.loop-n-test.true) in
    let unfit : c.fits.result ≡ false = search rules in
    (λ t. absurd (false≢true t), λ h. absurd (both_ways c.fits.result unfit (c.fits.ensures.1 (h.each n e (event_at es n e lt c.index-events-n.is)))))

pub loop-n-preserved : goal.loop-n-preserved
loop-n-preserved c =
    let es = c.args.events.now in
    let n = c.loop-n.n in
    let e = c.index-events-n.result in
    let lt : n < length es = omega (arith, c.loop-n-test.true) in
    let fit : c.fits.result ≡ true = search rules in
    fit_on (parts_in c.args.list.now) es n e lt c.index-events-n.is c.loop-n.invariant (c.fits.ensures.0 fit)
