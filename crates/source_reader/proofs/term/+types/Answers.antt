use Rattle.std.proofs.Common.{refl, subst}
use Rattle.source_grammar.specs.RawRead.{read_ty}
use Rattle.source_reader.specs.Faults.{type_faults}
use Rattle.source_reader.specs.Inside.Gives.{First}
use Rattle.source_reader.specs.Inside.Known.{env_in}
use Rattle.source_reader.proofs.Lists.{gives_first, handed_on}
use Rattle.source_reader.proofs.term.+types.Goals as goal

pub type_of-returns-in_err-a-in-Pair : goal.type_of-returns-in_err-a-in-Pair
type_of-returns-in_err-a-in-Pair t c =
    let env = env_in c.args.names.now in
    let e = c.in_err-a-in-Pair.field-0.0 in
    let first : First (type_faults env (read_ty c.in-Pair.a.value)) e = subst (λ z. First (type_faults env (read_ty z)) e) c.deref.ensures c.in_err-a-in-Pair.ensures in
    rw c.in-Pair.is (handed_on _ _ _ e _ c.from_residual.ensures.1 (gives_first _ (type_faults env (read_ty c.in-Pair.a.value)) (type_faults env (read_ty c.in-Pair.b.value)) e refl first))

pub type_of-returns-in_err-a-in-Sum : goal.type_of-returns-in_err-a-in-Sum
type_of-returns-in_err-a-in-Sum t c =
    let env = env_in c.args.names.now in
    let e = c.in_err-a-in-Sum.field-0.0 in
    let first : First (type_faults env (read_ty c.in-Sum.a.value)) e = subst (λ z. First (type_faults env (read_ty z)) e) c.deref-in-Sum.ensures c.in_err-a-in-Sum.ensures in
    rw c.in-Sum.is (handed_on _ _ _ e _ c.from_residual-in_err-a-in-Sum.ensures.1 (gives_first _ (type_faults env (read_ty c.in-Sum.a.value)) (type_faults env (read_ty c.in-Sum.b.value)) e refl first))

pub type_of-returns-in_err-own-in-Thread : goal.type_of-returns-in_err-own-in-Thread
type_of-returns-in_err-own-in-Thread t c =
    rw c.in-Thread.is (handed_on _ _ _ c.in_err-own-in-Thread.field-0.0 _ c.from_residual-in_err-own-in-Thread.ensures.1 (gives_first _ _ _ c.in_err-own-in-Thread.field-0.0 refl c.in_err-own-in-Thread.ensures))
