use Rattle.std.proofs.Common.{◌+◌, ◌*◌, length}
use Rattle.source_grammar.proofs.ty.+ty.Given as goal

abbrev pub decreases-written : goal.decreases-written
decreases-written l = 1 + 2 * length l.tokens.now

abbrev pub decreases-thread : goal.decreases-thread
decreases-thread l = 2 * length l.tokens.now

abbrev pub decreases-paired : goal.decreases-paired
decreases-paired l = 2 * length l.tokens.now
