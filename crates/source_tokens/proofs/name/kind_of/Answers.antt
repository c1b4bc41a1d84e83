use Rattle.std.proofs.Common.{refl, subst}
use Rattle.source_tokens.specs.Lexes.{word, sign}
use Rattle.source_tokens.specs.Inside.Forms.{IsForm}
use Rattle.source_tokens.proofs.Numbered.{named}
use Rattle.source_tokens.proofs.name.kind_of.Goals as goal

pub returns-in-Some : goal.returns-in-Some
returns-in-Some c = word c.in-Some.word c.in-Some.ensures.found refl refl

pub returns-in_ok-number_of-in-None : goal.returns-in_ok-number_of-in-None
returns-in_ok-number_of-in-None c =
    let formed = subst (λ f. IsForm f c.args.lexeme.now) c.in-Word.is c.requires in
    named (record { formed = formed; free = c.in-None.ensures.none }) c.in_ok-number_of-in-None.ensures

pub returns-in-Sign : goal.returns-in-Sign
returns-in-Sign c = sign c.in-Sign.sign (subst (λ f. IsForm f c.args.lexeme.now) c.in-Sign.is c.requires) refl refl
