use Rattle.std.proofs.Common.{◌+◌, ◌*◌, length}
use Rattle.source_grammar.proofs.expr.+expr.Given as goal

abbrev pub decreases-expr : goal.decreases-expr
decreases-expr l = length l.tokens.now * 4 + 1

abbrev pub decreases-opened : goal.decreases-opened
decreases-opened l = length l.tokens.now * 4

abbrev pub decreases-inside : goal.decreases-inside
decreases-inside l = length l.tokens.now * 4 + 3

abbrev pub decreases-bracketed : goal.decreases-bracketed
decreases-bracketed l = length l.tokens.now * 4 + 2

abbrev pub decreases-behind : goal.decreases-behind
decreases-behind l = length l.tokens.now * 4 + 1

abbrev pub decreases-joined : goal.decreases-joined
decreases-joined l = length l.tokens.now * 4

abbrev pub decreases-applied : goal.decreases-applied
decreases-applied l = length l.tokens.now * 4

abbrev pub decreases-injected : goal.decreases-injected
decreases-injected l = length l.tokens.now * 4
