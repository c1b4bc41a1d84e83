use Rattle.response_report.proofs.Tokens.{are_bounded, response_bound}
use Rattle.response_report.proofs.bound.response_is_bounded.Goals as goal

pub returns : goal.returns
returns c = λ g pairs cores steps t ok lawful lt well prompt. response_bound g pairs cores steps t (are_bounded g pairs cores steps t ok lawful lt well prompt)
