use Rattle.std.proofs.Common.{◌≡◌, Option, Some, None, get_or, IfNone, sym, subst, ◌∙◌}
use Rattle.std.proofs.lemmas.List.Sums.{prefix_len-le-length}
use Rattle.std.proofs.lemmas.Option.{unwrap_or-slice_get}
use Rattle.std.specs.Prelude.{unwrap_or}
use Rattle.std.proofs.Common.{ap}
use Rattle.source_tokens.specs.Lexemes.{is_part, is_digit, BeginsNone}
use Rattle.source_tokens.specs.Inside.Forms.{IsSignAt}
use Rattle.source_tokens.proofs.Longest.{word_front, word_longest, number_front, number_longest, byte_begins_none}
use Rattle.source_tokens.proofs.form.lexeme.Goals as goal

if_none : {X : Type 0} {P : Type 0} (r : Option X) → P → IfNone r P
if_none None p = p
if_none (Some x) p = tt

pub returns-then-begins_word-clause-within : goal.returns-then-begins_word-clause-within
returns-then-begins_word-clause-within c = rw c.word_len.ensures (prefix_len-le-length is_part c.args.text.now)

pub returns-then-is_digit-clause-within : goal.returns-then-is_digit-clause-within
returns-then-is_digit-clause-within c = rw c.digits_len.ensures (prefix_len-le-length is_digit c.args.text.now)

pub returns-then-begins_word-clause-formed : goal.returns-then-begins_word-clause-formed
returns-then-begins_word-clause-formed c = word_front _ _ _ _ c.in_ok-first.ensures.cases.0 (sym c.begins_word.ensures ∙ c.if-begins_word.true) c.word_len.ensures

pub returns-then-begins_word-clause-longest : goal.returns-then-begins_word-clause-longest
returns-then-begins_word-clause-longest c = word_longest _ _ _ _ c.in_ok-first.ensures.cases.0 (sym c.begins_word.ensures ∙ c.if-begins_word.true) c.word_len.ensures

pub returns-then-is_digit-clause-formed : goal.returns-then-is_digit-clause-formed
returns-then-is_digit-clause-formed c = number_front _ _ _ _ c.in_ok-first.ensures.cases.0 (sym c.is_digit.ensures ∙ c.if-is_digit.true) c.digits_len.ensures

pub returns-then-is_digit-clause-longest : goal.returns-then-is_digit-clause-longest
returns-then-is_digit-clause-longest c = number_longest _ _ _ _ c.in_ok-first.ensures.cases.0 (sym c.is_digit.ensures ∙ c.if-is_digit.true) c.digits_len.ensures

pub returns-in_err-sign-clause-none : goal.returns-in_err-sign-clause-none
returns-in_err-sign-clause-none c =
    let b = c.in_ok-first.first.now in
    let tail = c.in_ok-first.tail.now in
    let second : c.unwrap_or-second.result ≡ get_or tail 0 0 =
    c.unwrap_or-second.ensures ∙ ap (λ o. unwrap_or o 0) (c.copied.ensures ∙ c.first.ensures.value) ∙ unwrap_or-slice_get tail 0 0 in
    let none = byte_begins_none b tail (sym c.begins_word.ensures ∙ c.if-begins_word.false) (sym c.is_digit.ensures ∙ c.if-is_digit.false)
    (λ x h. c.in_err-sign.ensures.none x (subst (λ s. IsSignAt x b s) (sym second) h)) in
    if_none _ (subst BeginsNone (sym c.in_ok-first.ensures.cases.0) none)
