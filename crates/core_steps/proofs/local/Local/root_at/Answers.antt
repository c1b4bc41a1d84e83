use Rattle.std.proofs.Common.{◌≡◌, map, refl}
use Rattle.priml_syntax.specs.Read.{read_value}
use Rattle.core_steps.specs.declared.frame.Root.TheVariants.{Main}
use Rattle.core_steps.specs.Fields.{LocalFields, fresh, read_frame}
use Rattle.core_steps.specs.Moves.{read_job}
use Rattle.core_steps.proofs.Standing.{root_fields, root_is, root_local}
use Rattle.core_steps.proofs.local.Local.root_at.Goals as goal

pub returns-clause-root : goal.returns-clause-root
returns-clause-root c =
    let l : LocalFields = record {
      path = c.in_ok-path.path;
      prio = c.root_priority.result;
      reads = 0;
      children = 0;
      steps = 0;
      mode = fresh;
      top = record { root = Main c.args.k; turns = c.new.result.items; done = 0; scope = map read_value c.new-2.result.items; prios = c.new-3.result.items };
      below = map read_frame c.new-4.result.items;
    } in
    let is : l ≡ root_fields c.args.k c.root_priority.result = rw (c.in_ok-path.ensures, c.new.ensures.items, c.new-2.ensures.items, c.new-3.ensures.items, c.new-4.ensures.items) refl in
    root_is (read_job c.args.job.now) c.args.k l c.requires c.root_priority.ensures is

pub returns-clause-state : goal.returns-clause-state
returns-clause-state c = root_local (read_job c.args.job.now) c.args.k _ c.requires c.in_ok-path.ensures refl (returns-clause-root c)
