use Rattle.std.proofs.Common.{length}
use Rattle.source_tokens.specs.Inside.Lexer.{Completes}
use Rattle.source_tokens.proofs.lexer.lex.Given as goal

abbrev pub invariant-loop-lexer : goal.invariant-loop-lexer
invariant-loop-lexer l = Completes l.text l.lexer

abbrev pub decreases-loop-lexer : goal.decreases-loop-lexer
decreases-loop-lexer l = length l.lexer.rest.now
