use Rattle.priority_deques.specs.Inside.Rule.{newcomer}
use Rattle.priority_deques.proofs.deque.name.Given as goal

abbrev pub ghosts-name_as : goal.ghosts-name_as
ghosts-name_as a = record { named = newcomer a._job.now a._lane }
