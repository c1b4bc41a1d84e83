use Rattle.source_maker.proofs.Source.{made_source}
use Rattle.source_maker.proofs.maker.make.Goals as goal

pub returns-clause-program : goal.returns-clause-program
returns-clause-program c = made_source c.args.n c.requires.few

pub returns-in_err-push_declarations-clause-program : goal.returns-in_err-push_declarations-clause-program
returns-in_err-push_declarations-clause-program c = made_source c.args.n c.requires.few

pub returns-in_err-push_leaf-clause-program : goal.returns-in_err-push_leaf-clause-program
returns-in_err-push_leaf-clause-program c = made_source c.args.n c.requires.few

pub returns-in_err-push_chain-clause-program : goal.returns-in_err-push_chain-clause-program
returns-in_err-push_chain-clause-program c = made_source c.args.n c.requires.few

pub returns-in_err-push_main-clause-program : goal.returns-in_err-push_main-clause-program
returns-in_err-push_main-clause-program c = made_source c.args.n c.requires.few
