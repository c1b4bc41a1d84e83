use Rattle.std.proofs.Common.{◌≡◌, ◌∷◌, ◌+◌, ◌*◌, ◌≤◌, length, List}
use Rattle.source_tokens.specs.declared.token.Token.{Token}
use Rattle.source_grammar.specs.Grammar.{IsBody}
use Rattle.source_grammar.specs.RawTree.{RawBody}
use Rattle.source_grammar.specs.Inside.Lists.{body_of}
use Rattle.source_grammar.specs.Inside.Machine.{Symbol, halt, Binds}
use Rattle.source_grammar.proofs.block.+block.Given as goal

abbrev pub decreases-action : goal.decreases-action
decreases-action l = 2 * length l.tokens.now + 1

abbrev pub decreases-bind : goal.decreases-bind
decreases-bind l = 2 * length l.tokens.now

abbrev pub decreases-binds : goal.decreases-binds
decreases-binds l = 2 * length l.tokens.now + 1

abbrev pub decreases-block : goal.decreases-block
decreases-block l = 2 * length l.tokens.now

abbrev pub decreases-boxed_block : goal.decreases-boxed_block
decreases-boxed_block l = 2 * length l.tokens.now + 1

abbrev pub decreases-if_tail : goal.decreases-if_tail
decreases-if_tail l = 2 * length l.tokens.now

abbrev pub decreases-do_block : goal.decreases-do_block
decreases-do_block l = 2 * length l.tokens.now

abbrev pub decreases-spawn : goal.decreases-spawn
decreases-spawn l = 2 * length l.tokens.now

abbrev pub decreases-case_tail : goal.decreases-case_tail
decreases-case_tail l = 2 * length l.tokens.now

abbrev pub decreases-tail : goal.decreases-tail
decreases-tail l = 2 * length l.tokens.now + 1

abbrev pub invariant-binds-binds : goal.invariant-binds-binds
invariant-binds-binds l = record {
  shorter : length l.tokens ≤ length l.fn.tokens;
  made : (rest : List Token) (body : RawBody) → IsBody l.tokens rest body → IsBody l.fn.tokens rest (body_of l.binds.items body);
  moved : (xs : List Symbol) → halt (Binds ∷ xs) l.fn.tokens ≡ halt (Binds ∷ xs) l.tokens;
}

abbrev pub decreases-binds-binds : goal.decreases-binds-binds
decreases-binds-binds l = length l.tokens
