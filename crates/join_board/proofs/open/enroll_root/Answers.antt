use Rattle.core_steps.specs.Moves.{read_job}
use Rattle.join_board.proofs.Openings.{on_ok, rooted_by}
use Rattle.join_board.proofs.open.enroll_root.Goals as goal

pub returns : goal.returns
returns c = on_ok c.enroll.result _ _ (λ _ is. rooted_by (read_job c.args.job.now) c.args.k c.args.shards.now.items c.shard_of-shard.result c.in_ok-path.path c.in_ok-prio.prio c.enroll.new.self c.index_mut.result.now
    c.in_ok-path.ensures c.shard_of-shard.ensures.value c.requires.deep c.shard_of-shard.ensures.small c.index_mut.ensures.value is c.in_ok-prio.ensures) c.enroll.ensures.ok
