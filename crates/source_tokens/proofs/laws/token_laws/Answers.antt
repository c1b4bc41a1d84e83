use Rattle.source_tokens.proofs.EveryText.{every_text}
use Rattle.source_tokens.proofs.laws.token_laws.Goals as goal

pub returns : goal.returns
returns c = every_text
