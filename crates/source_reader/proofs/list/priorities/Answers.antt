use Rattle.std.proofs.Common.{◌+◌, ◌++◌, drop, ap, ◌∙◌}
use Rattle.source_grammar.specs.declared.raw.Name.{Name}
use Rattle.source_reader.specs.Names.{prio_of}
use Rattle.source_reader.specs.Faults.{prios_faults}
use Rattle.source_reader.specs.Inside.Known.{env_in}
use Rattle.source_reader.proofs.Lists.{gives_first, handed_on}
use Rattle.source_reader.proofs.Walk.{next_of, made_next}
use Rattle.source_reader.proofs.list.priorities.Goals as goal

pub returns-in_err-found : goal.returns-in_err-found
returns-in_err-found c =
    let next = next_of c.args.list.now c.loop-name.name-index (record { at = 0; id = 0 }) c.loop-name-test.true in
    handed_on _ _ _ c.in_err-found.field-0.0 _ c.from_residual-in_err-found.ensures.1
    (gives_first _ _ _ c.in_err-found.field-0.0 (c.loop-name.invariant.faults ∙ ap (prios_faults (env_in c.args.names.now)) next) c.in_err-found.ensures)

pub loop-name-preserved : goal.loop-name-preserved
loop-name-preserved c =
    let ns = c.args.list.now in
    let i = c.loop-name.name-index in
    let d : Name = record { at = 0; id = 0 } in
    let env = env_in c.args.names.now in
    let l = c.loop-name-test.true in
    record {
      faults = c.loop-name.invariant.faults ∙ ap (prios_faults env) (next_of ns i d l) ∙ ap (λ v. v ++ prios_faults env (drop (i + 1) ns)) c.in_ok-found.ensures.0;
      made = made_next (λ (n : Name). prio_of env n.id) ns i d c.loop-name.all.items c.push.new.items.items c.in_ok-found.found l c.loop-name.invariant.made c.in_ok-push.ensures c.in_ok-found.ensures.1;
    }
