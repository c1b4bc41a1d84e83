use Rattle.std.proofs.Common.{◌≡◌, ◌↔◌, true, map, sym, ◌∙◌, ap, subst}
use Rattle.core_steps.specs.Config.{IsFinished}
use Rattle.core_steps.specs.Configs.{all_end, read_slot, slots_of}
use Rattle.core_steps.proofs.Slots.{finished_where}
use Rattle.core_steps.proofs.config.Config.all_ended.Goals as goal

pub returns-clause-slots : goal.returns-clause-slots
returns-clause-slots c = c.each_ended.ensures ∙ ap (λ xs. all_end (map read_slot xs)) (c.deref.ensures.value ∙ c.self.view_is)

pub returns-clause-threads : goal.returns-clause-threads
returns-clause-threads c = λ job is. subst (λ b. (b ≡ true) ↔ IsFinished is.threads) (sym (returns-clause-slots c)) (finished_where job (slots_of c.args.self.now) is)
