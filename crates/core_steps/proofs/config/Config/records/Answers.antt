use Rattle.std.proofs.Common.{Some, None, length, map, sym, ◌∙◌, ap, subst}
use Rattle.std.specs.Option.{option_map}
use Rattle.std.specs.declared.vec.Vec.{Vec}
use Rattle.std.specs.declared.alloc.Global.{Global}
use Rattle.priml_syntax.specs.declared.record.Record.{Record}
use Rattle.priml_syntax.specs.Read.{read_record}
use Rattle.core_steps.specs.Configs.{SlotsRise, read_slot, records_from, slots_of}
use Rattle.core_steps.proofs.CheckedLaws.{checked_laws}
use Rattle.core_steps.proofs.DeclaredPrios.{all_declared}
use Rattle.core_steps.proofs.Recorded.{records_in_order, are_records, told_records}
use Rattle.core_steps.proofs.config.Config.records.Goals as goal

pub of-requires : goal.of-requires
of-requires c =
    records_in_order (map read_slot c.deref.result.now) (map read_record c.in-Some.list.items) (subst (λ xs. SlotsRise (map read_slot xs)) (sym c.deref.ensures.value) c.self.invariant.rise)
    (ap (option_map (λ (v : Vec Record Global). map read_record v.items)) (sym c.in-Some.is) ∙ c.in_ok-list.ensures)

pub returns-in-Some-clause-slots : goal.returns-in-Some-clause-slots
returns-in-Some-clause-slots c =
    ap (λ rs. Some (map read_record rs)) c.of.ensures ∙ (ap (option_map (λ (v : Vec Record Global). map read_record v.items)) (sym c.in-Some.is) ∙ (c.in_ok-list.ensures ∙ ap (λ xs. records_from (map read_slot xs)) (c.deref.ensures.value ∙ c.self.view_is)))

pub returns-in-Some-clause-told : goal.returns-in-Some-clause-told
returns-in-Some-clause-told c = λ job is. are_records job (slots_of c.args.self.now) is (Some (map read_record c.of.result)) (returns-in-Some-clause-slots c)

pub returns-in-Some-clause-declared : goal.returns-in-Some-clause-declared
returns-in-Some-clause-declared c = λ job is checked.
    all_declared (length job.program.names) c.of.result ((checked_laws job checked).prios.reached is.threads (map read_record c.of.result) is.reached (told_records job (slots_of c.args.self.now) is (map read_record c.of.result) (returns-in-Some-clause-slots c)))

pub returns-in-Some-clause-graph : goal.returns-in-Some-clause-graph
returns-in-Some-clause-graph c = λ job is checked.
    (checked_laws job checked).graphs.reached is.threads (map read_record c.of.result) is.reached (told_records job (slots_of c.args.self.now) is (map read_record c.of.result) (returns-in-Some-clause-slots c))

pub returns-in-None-clause-slots : goal.returns-in-None-clause-slots
returns-in-None-clause-slots c =
    ap (option_map (λ (v : Vec Record Global). map read_record v.items)) (sym c.in-None.is) ∙ (c.in_ok-list.ensures ∙ ap (λ xs. records_from (map read_slot xs)) (c.deref.ensures.value ∙ c.self.view_is))

pub returns-in-None-clause-told : goal.returns-in-None-clause-told
returns-in-None-clause-told c = λ job is. are_records job (slots_of c.args.self.now) is None (returns-in-None-clause-slots c)
