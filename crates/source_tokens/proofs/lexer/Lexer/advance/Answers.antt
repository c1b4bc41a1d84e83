use Rattle.std.proofs.Common.{◌++◌, length, sym, ap, subst, ◌∙◌, arith}
use Rattle.std.proofs.lemmas.Bool.{eqb-true, eqb-false}
use Rattle.source_tokens.specs.Lexes.{Spells}
use Rattle.source_tokens.specs.Inside.Lexer.{tokens_of}
use Rattle.source_tokens.specs.Runs.{joined}
use Rattle.source_tokens.specs.Names.{name_bytes, IsTooLarge}
use Rattle.source_tokens.proofs.Steps.{stops_done, stops_byte, stops_number, stops_deep, goes_on}
use Rattle.source_tokens.proofs.lexer.Lexer.advance.Goals as goal

pub returns-then-is_empty-clause-leads : goal.returns-then-is_empty-clause-leads
returns-then-is_empty-clause-leads c = λ text leads.
    let old = c.args.self.now in
    stops_done text old.total old.depth (name_bytes old.names) old.rest.now (tokens_of old) leads c.skip-rest.result.now c.skip-rest.ensures.left
    (eqb-true (length c.skip-rest.result.now) 0 (sym c.is_empty.ensures ∙ c.if-is_empty.true))

pub returns-else-is_empty-clause-leads : goal.returns-else-is_empty-clause-leads
returns-else-is_empty-clause-leads c = λ text leads.
    let old = c.args.self.now in
    let some = eqb-false (length c.skip-rest.result.now) 0 (sym c.is_empty.ensures ∙ c.if-is_empty.false) in
    stops_byte text old.total old.depth (name_bytes old.names) old.rest.now (tokens_of old) leads c.skip-rest.result.now c.skip-rest.ensures.left
    (omega arith) c.in_default.ensures.none

pub returns-in_default-2-clause-leads : goal.returns-in_default-2-clause-leads
returns-in_default-2-clause-leads c = λ text leads.
    let old = c.args.self.now in
    let large = rw c.in_default-2.is at c.in_ok-kind.ensures in
    stops_number text old.total old.depth (name_bytes old.names) old.rest.now (tokens_of old) leads c.skip-rest.result.now c.skip-rest.ensures.left
    c.in-Some.len c.in-Some.ensures.longest c.in-Some.form (name_bytes c.kind_of.new.names) c.in-Some.ensures.formed
    (subst (IsTooLarge c.in-Some.form) c.split_at.ensures.front large.0) (ap name_bytes large.1)

pub returns-in_default-open_behind-clause-leads : goal.returns-in_default-open_behind-clause-leads
returns-in_default-open_behind-clause-leads c = λ text leads.
    let old = c.args.self.now in
    let spells = rw c.in-Some-2.is at c.in_ok-kind.ensures in
    stops_deep text old.total old.depth (name_bytes old.names) old.rest.now (tokens_of old) leads c.skip-rest.result.now c.skip-rest.ensures.left
    c.in-Some.len c.in-Some.ensures.longest c.in-Some-2.kind (name_bytes c.kind_of.new.names) (joined c.push.new.runs.items ++ c.push.new.run.items)
    (subst (λ l. Spells (name_bytes old.names) l c.in-Some-2.kind (name_bytes c.kind_of.new.names)) c.split_at.ensures.front spells)
    c.in_ok-push.ensures
    c.in_default-open_behind.ensures.none.0 c.in_default-open_behind.ensures.none.1

pub returns-clause-leads : goal.returns-clause-leads
returns-clause-leads c = λ text leads.
    let old = c.args.self.now in
    let spells = rw c.in-Some-2.is at c.in_ok-kind.ensures in
    let front = subst (λ l. Spells (name_bytes old.names) l c.in-Some-2.kind (name_bytes c.kind_of.new.names)) c.split_at.ensures.front spells in
    goes_on text old.total old.depth (name_bytes old.names) old.rest.now (tokens_of old) leads c.skip-rest.result.now c.skip-rest.ensures.left
    c.in-Some.len c.in-Some.ensures.longest c.in-Some-2.kind (name_bytes c.kind_of.new.names) (joined c.push.new.runs.items ++ c.push.new.run.items) front
    c.in_ok-push.ensures
    c.in-Some-open_behind.depth c.split_at.result.1.now c.in-Some-open_behind.ensures.some c.split_at.ensures.back c.in-Some-open_behind.ensures.shallow
