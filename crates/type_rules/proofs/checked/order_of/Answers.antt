use Rattle.std.proofs.Common.{◌≡◌, length, map, string_bytes, sym, ap, subst, ◌∙◌}
use Rattle.std.proofs.lemmas.List.{length-map}
use Rattle.priml_syntax.specs.Read.{read_pair, read_program}
use Rattle.priml_syntax.specs.Tree.{Declared, pairs_of}
use Rattle.priority_order.specs.Order.{IsWithin, IsLawful, IsFirstCycle}
use Rattle.priority_order.specs.Fault.{IsCause}
use Rattle.priority_order.specs.declared.order.OrderFault.TheVariants.{Cycle}
use Rattle.type_rules.proofs.Parts.{pairs_within, cycle_stop}
use Rattle.type_rules.proofs.checked.order_of.Goals as goal

pub build-requires-clause-within : goal.build-requires-clause-within
build-requires-clause-within c =
    let p = read_program c.args.program.now in
    let pairs : c.deref-2.result.now ≡ pairs_of p = c.deref-2.ensures.value ∙ c.in_ok-pairs.ensures ∙ ap (λ ds. map (λ (d : Declared). d.pair) (map read_pair ds)) c.as_slice-declared.ensures.value in
    let names : length p.names ≡ length c.deref.result.now = length-map c.args.program.now.names.items string_bytes ∙ ap length (sym c.deref.ensures.value) in
    subst (λ ps. IsWithin (length c.deref.result.now) ps) (sym pairs) (subst (λ n. IsWithin n (pairs_of p)) names (pairs_within (length p.names) p.declared c.requires.pairs))

pub returns-in-Ok : goal.returns-in-Ok
returns-in-Ok c =
    let p = read_program c.args.program.now in
    let pairs : c.deref-2.result.now ≡ pairs_of p = c.deref-2.ensures.value ∙ c.in_ok-pairs.ensures ∙ ap (λ ds. map (λ (d : Declared). d.pair) (map read_pair ds)) c.as_slice-declared.ensures.value in
    (record { names = ap (λ o. o.names) c.in-Ok.ensures.value ∙ ap (map string_bytes) c.deref.ensures.value; pairs = ap (λ o. o.pairs) c.in-Ok.ensures.value ∙ pairs }, subst IsLawful pairs c.in-Ok.ensures.lawful)

pub returns-in-Err-Cycle : goal.returns-in-Err-Cycle
returns-in-Err-Cycle c =
    let p = read_program c.args.program.now in
    let pairs : c.deref-2.result.now ≡ pairs_of p = c.deref-2.ensures.value ∙ c.in_ok-pairs.ensures ∙ ap (λ ds. map (λ (d : Declared). d.pair) (map read_pair ds)) c.as_slice-declared.ensures.value in
    let cause : IsCause (length c.deref.result.now) c.deref-2.result.now (Cycle c.in-Err-Cycle.i) = subst (IsCause (length c.deref.result.now) c.deref-2.result.now) c.in-Err-Cycle.field-0-is c.in-Err-Cycle.ensures.cause in
    cycle_stop p c.as_slice-declared.result.now c.in-Err-Cycle.i _ c.fault.result (ap (map read_pair) (sym c.as_slice-declared.ensures.value)) (subst (λ ps. IsFirstCycle ps c.in-Err-Cycle.i) pairs cause.1) c.fault.ensures
