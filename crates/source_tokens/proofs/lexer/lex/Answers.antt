use Rattle.std.proofs.Common.{◌≡◌, [], ap, sym, subst, ◌∙◌}
use Rattle.std.proofs.lemmas.List.{flat_map_more}
use Rattle.source_tokens.specs.Lexes.{IsLexed}
use Rattle.source_tokens.specs.Inside.Lexer.{tokens_of}
use Rattle.source_tokens.specs.Names.{name_bytes}
use Rattle.source_tokens.specs.Runs.{joined}
use Rattle.source_tokens.proofs.Lawful.{lexed_lawful}
use Rattle.source_tokens.proofs.Once.{lexed_once}
use Rattle.source_tokens.proofs.lexer.lex.Goals as goal
use Rattle.source_tokens.proofs.lexer.lex.Goals.{In_ok-push}

-- the tokens, the names and the end are those of the text
cut : (c : In_ok-push) → IsLexed c.args.text.now (joined c.push.new.self.items) (name_bytes c.advance.new.self.names) c.in-Some.stop
cut c =
    let new = c.advance.new.self in
    let all : tokens_of new ≡ joined c.push.new.self.items =
    flat_map_more (λ run. run.items) [] new.runs.items new.run ∙ ap joined (sym c.in_ok-push.ensures.items) in
    subst (λ ts. IsLexed c.args.text.now ts (name_bytes new.names) c.in-Some.stop) all
    (rw c.in-Some.is at (c.in_ok-stop.ensures.leads c.args.text.now c.loop-lexer.invariant))

pub returns-in-Some-clause-cut : goal.returns-in-Some-clause-cut
returns-in-Some-clause-cut c = cut (goal.at.returns-in-Some-clause-cut c).In_ok-push

pub returns-in-Some-clause-only : goal.returns-in-Some-clause-only
returns-in-Some-clause-only c = λ ts ns end h.
    let new = c.advance.new.self in
    lexed_once c.args.text.now ts (joined c.push.new.self.items) ns (name_bytes new.names) end c.in-Some.stop h (cut (goal.at.returns-in-Some-clause-only c).In_ok-push)

pub returns-in-Some-clause-lawful : goal.returns-in-Some-clause-lawful
returns-in-Some-clause-lawful c =
    lexed_lawful c.args.text.now (joined c.push.new.self.items) (name_bytes c.advance.new.self.names) c.in-Some.stop (cut (goal.at.returns-in-Some-clause-lawful c).In_ok-push)

pub loop-lexer-preserved : goal.loop-lexer-preserved
loop-lexer-preserved c = rw c.in_default.is at (c.in_ok-stop.ensures.leads c.args.text.now c.loop-lexer.invariant)
