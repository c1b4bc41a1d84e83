use Rattle.std.proofs.Common.{◌≡◌, length, take, refl, sym, ap, subst, arith, below_more, ◌∙◌, get_or, string_bytes}
use Rattle.std.proofs.lemmas.List.{take_more, length-map}
use Rattle.priority_order.specs.Order.{AtMost, IsLawful, Closes, AreLanes}
use Rattle.priority_order.specs.Parts.{ArePlaces}
use Rattle.priority_order.proofs.Build.{antisymmetric-none, antisymmetric-more, closes, open_at, unlawful, all_lawful}
use Rattle.priority_order.proofs.Placed.{all_have}
use Rattle.priority_order.proofs.order.Order.build.Goals as goal

pub loop-i-init : goal.loop-i-init
loop-i-init c = record { is = c.in_ok-closure.ensures; anti = antisymmetric-none; none = λ j h. absurd (omega arith) }

pub returns-then-leads-clause-cause : goal.returns-then-leads-clause-cause
returns-then-leads-clause-cause c =
    let ps = c.args.pairs.now in
    let i = c.loop-i.i in
    let so_far : c.loop-i.closure.pairs ≡ take i ps = ap (λ e. e.pairs) c.loop-i.invariant.is in
    let back = subst (λ qs. AtMost qs (get_or ps i (0, 0)).1 (get_or ps i (0, 0)).0) so_far (c.leads.ensures.0 c.if-leads.true) in
    let found = closes ps i (0, 0) c.loop-i-test.true back in
    (c.if-names-gt-MOST_NAMES.false, record { closes = found; first = c.loop-i.invariant.none }, unlawful ps i found)

pub loop-i-preserved : goal.loop-i-preserved
loop-i-preserved c =
    let ps = c.args.pairs.now in
    let i = c.loop-i.i in
    let so_far : c.loop-i.closure.pairs ≡ take i ps = ap (λ e. e.pairs) c.loop-i.invariant.is in
    let size : c.loop-i.closure.size ≡ length c.args.names.now = ap (λ e. e.size) c.loop-i.invariant.is in
    let open_ : AtMost (take i ps) (get_or ps i (0, 0)).1 (get_or ps i (0, 0)).0 → ⊥ =
    λ back. absurd (let t = c.leads.ensures.1 (subst (λ qs. AtMost qs (get_or ps i (0, 0)).1 (get_or ps i (0, 0)).0) (sym so_far) back) in cc (c.if-leads.false)) in
    record {
      is = c.in_ok-insert.ensures.ok ∙ rw (so_far, size, take_more ps i (0, 0) c.loop-i-test.true) refl;
      anti = antisymmetric-more ps i (0, 0) c.loop-i-test.true c.loop-i.invariant.anti open_;
      none = below_more (λ j. Closes ps j → ⊥) i c.loop-i.invariant.none (open_at ps i (0, 0) open_);
    }

pub lanes_of-requires : goal.lanes_of-requires
lanes_of-requires c =
    let a = all_lawful c.args.pairs.now c.loop-i.closure.pairs c.loop-i.i (ap (λ e. e.pairs) c.loop-i.invariant.is) c.loop-i-test.false c.loop-i.auto.i-end c.loop-i.invariant.anti c.loop-i.invariant.none in
    subst IsLawful (sym a.0) a.1

pub places_of-requires : goal.places_of-requires
places_of-requires c =
    let are : AreLanes c.loop-i.closure.pairs c.loop-i.closure.size c.as_slice.result.now = subst (AreLanes c.loop-i.closure.pairs c.loop-i.closure.size) (sym c.as_slice.ensures.value) c.in_ok-lanes.ensures in
    let size : c.loop-i.closure.size ≡ length c.args.names.now = ap (λ e. e.size) c.loop-i.invariant.is in
    record {
      all = λ a l. all_have c.loop-i.closure.pairs c.loop-i.closure.size c.as_slice.result.now are a (omega (arith, are.long));
      few = omega (arith, are.long, size, c.if-names-gt-MOST_NAMES.false);
    }

pub invariant_of-result : goal.invariant_of-result
invariant_of-result c =
    let a = all_lawful c.args.pairs.now c.loop-i.closure.pairs c.loop-i.i (ap (λ e. e.pairs) c.loop-i.invariant.is) c.loop-i-test.false c.loop-i.auto.i-end c.loop-i.invariant.anti c.loop-i.invariant.none in
    let long : length c.args.names.now ≡ length c.in_ok-names.names.items = sym (length-map c.args.names.now string_bytes) ∙ ap length (sym c.in_ok-names.ensures) ∙ length-map c.in_ok-names.names.items string_bytes in
    let size : c.loop-i.closure.size ≡ length c.in_ok-names.names.items = ap (λ e. e.size) c.loop-i.invariant.is ∙ long in
    record {
      size = size;
      few = omega (arith, long, c.if-names-gt-MOST_NAMES.false);
      short = let e = ap length a.0 in omega (arith, c.requires.few);
      lawful = subst IsLawful (sym a.0) a.1;
      by_lane = subst (λ n. AreLanes c.loop-i.closure.pairs n c.in_ok-lanes.lanes.items) size c.in_ok-lanes.ensures;
      by_priority = subst (λ xs. ArePlaces xs c.in_ok-lane_of.lane_of.items) c.as_slice.ensures.value c.in_ok-lane_of.ensures;
    }

pub returns-clause-lawful : goal.returns-clause-lawful
returns-clause-lawful c =
    let a = all_lawful c.args.pairs.now c.loop-i.closure.pairs c.loop-i.i (ap (λ e. e.pairs) c.loop-i.invariant.is) c.loop-i-test.false c.loop-i.auto.i-end c.loop-i.invariant.anti c.loop-i.invariant.none in
    a.1
