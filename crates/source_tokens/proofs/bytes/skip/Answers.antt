use Rattle.std.proofs.Common.{◌≡◌, length, sym, ◌∙◌, arith}
use Rattle.std.proofs.lemmas.Bool.{eqb-true}
use Rattle.source_tokens.proofs.Gaps.{gap_token, gap_comment}
use Rattle.source_tokens.proofs.bytes.skip.Goals as goal

pub returns-then-is_empty-clause-left : goal.returns-then-is_empty-clause-left
returns-then-is_empty-clause-left c =
    let rest = c.split_at.result.1.now in
    let none : length rest ≡ 0 = eqb-true (length rest) 0 (sym c.is_empty.ensures ∙ c.if-is_empty.true) in
    gap_token c.args.text.now rest c.separators_len.result c.separators_len.ensures.value c.split_at.ensures.back (λ some _. absurd (omega arith))

pub returns-then-rest-ne35-clause-left : goal.returns-then-rest-ne35-clause-left
returns-then-rest-ne35-clause-left c =
    gap_token c.args.text.now c.split_at.result.1.now c.separators_len.result c.separators_len.ensures.value c.split_at.ensures.back (λ _ e. c.if-rest-ne35.true e)

pub returns-clause-left : goal.returns-clause-left
returns-clause-left c =
    gap_comment c.args.text.now c.split_at.result.1.now c.skip_comments.result.now c.separators_len.result c.separators_len.ensures.value c.split_at.ensures.back c.skip_comments.ensures.left
