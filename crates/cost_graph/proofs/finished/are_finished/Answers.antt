use Rattle.std.proofs.Common.{◌≡◌, false, true, refl, sym, subst, arith, rules}
use Rattle.std.proofs.lemmas.Bool.{false≢true, both_ways}
use Rattle.cost_graph.specs.Records.{parts_in, AreFinished}
use Rattle.cost_graph.proofs.Parts.{parts_length}
use Rattle.cost_graph.proofs.JobEnds.{record_few, not_finished, finished_on, all_finished, each_at}
use Rattle.cost_graph.proofs.finished.are_finished.Goals as goal

pub is_part_finished-requires-clause-small : goal.is_part_finished-requires-clause-small
is_part_finished-requires-clause-small c =
    let few : c.are_few.result ≡ true = search rules in
    record_few c.list-list.result.now c.loop-one.one-index c.one-item.result c.loop-one-test.true c.one-item.is (c.are_few.ensures.0 few)

pub returns-then-not-are_roots : goal.returns-then-not-are_roots
returns-then-not-are_roots c =
    let lacks : c.are_roots.result ≡ false = search rules in
    let of_list : AreFinished (parts_in c.args.records.now) → AreFinished (parts_in c.list-list.result.now) = subst (λ l. AreFinished (parts_in l)) (sym c.list-list.ensures.value) in
    (λ e. absurd (false≢true e), λ h. absurd (both_ways c.are_roots.result lacks (c.are_roots.ensures.1 (of_list h).roots)))

pub returns-then-not-branch : goal.returns-then-not-branch
returns-then-not-branch c =
    let rs = c.list-list.result.now in
    let lacks : c.in_ok-is_part_finished.field-0 ≡ false = search rules in (
      λ e. absurd (false≢true e),
      λ h. absurd (not_finished rs c.loop-one.one-index c.one-item.result c.loop-one-test.true c.one-item.is (λ p. both_ways c.in_ok-is_part_finished.field-0 lacks (c.in_ok-is_part_finished.ensures.1 p))
          (subst (λ l. AreFinished (parts_in l)) (sym c.list-list.ensures.value) h)),
    )

pub loop-one-preserved : goal.loop-one-preserved
loop-one-preserved c =
    let here : c.in_ok-is_part_finished.field-0 ≡ true = search rules in
    finished_on c.list-list.result.now c.loop-one.one-index c.one-item.result c.loop-one-test.true c.one-item.is c.loop-one.invariant (c.in_ok-is_part_finished.ensures.0 here)

pub returns : goal.returns
returns c =
    let rs = c.list-list.result.now in
    let few : c.are_few.result ≡ true = search rules in
    let rooted : c.are_roots.result ≡ true = search rules in
    let all = all_finished (parts_in rs) (c.are_few.ensures.0 few) (c.are_roots.ensures.0 rooted) (each_at (parts_in rs) (λ t lt. c.loop-one.invariant t (omega (arith, lt, parts_length rs, c.loop-one-test.false)))) in
    (λ _. subst (λ l. AreFinished (parts_in l)) c.list-list.ensures.value all, λ _. refl)
