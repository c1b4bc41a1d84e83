use Rattle.std.proofs.Common.{refl}
use Rattle.source_grammar.specs.RawRead.{read_expr, read_written}
use Rattle.source_reader.specs.Faults.{term_faults, written_faults}
use Rattle.source_reader.specs.Inside.Known.{env_in}
use Rattle.source_reader.proofs.Lists.{handed_first}
use Rattle.source_reader.proofs.term.+terms.Goals as goal

pub form_of-returns-in_err-a-in-Pair : goal.form_of-returns-in_err-a-in-Pair
form_of-returns-in_err-a-in-Pair t c =
    rw c.in-Pair.is (handed_first c.deref.ensures _ (λ z. term_faults (env_in c.args.names.now) (read_expr z.first) c.args.scope.now) (term_faults (env_in c.args.names.now) (read_expr c.in-Pair.both.value.second) c.args.scope.now)
    _ _ c.in_err-a-in-Pair.field-0.0 _ refl c.from_residual-in_err-a-in-Pair.ensures.1 c.in_err-a-in-Pair.ensures)

pub form_of-returns-in_err-ty-in-Inl : goal.form_of-returns-in_err-ty-in-Inl
form_of-returns-in_err-ty-in-Inl t c =
    rw c.in-Inl.is (handed_first c.deref-in-Inl.ensures _ (λ z. written_faults (env_in c.args.names.now) (read_written z.sum)) (term_faults (env_in c.args.names.now) (read_expr c.in-Inl.injection.value.value) c.args.scope.now)
    _ _ c.in_err-ty-in-Inl.field-0.0 _ refl c.from_residual-in_err-ty-in-Inl.ensures.1 c.in_err-ty-in-Inl.ensures)

pub form_of-returns-in_err-ty-in-Inr : goal.form_of-returns-in_err-ty-in-Inr
form_of-returns-in_err-ty-in-Inr t c =
    rw c.in-Inr.is (handed_first c.deref-in-Inr.ensures _ (λ z. written_faults (env_in c.args.names.now) (read_written z.sum)) (term_faults (env_in c.args.names.now) (read_expr c.in-Inr.injection.value.value) c.args.scope.now)
    _ _ c.in_err-ty-in-Inr.field-0.0 _ refl c.from_residual-in_err-ty-in-Inr.ensures.1 c.in_err-ty-in-Inr.ensures)

pub form_of-returns-in_err-a-in-Op : goal.form_of-returns-in_err-a-in-Op
form_of-returns-in_err-a-in-Op t c =
    rw c.in-Op.is (handed_first c.deref-in-Op.ensures _ (λ z. term_faults (env_in c.args.names.now) (read_expr z.first) c.args.scope.now) (term_faults (env_in c.args.names.now) (read_expr c.in-Op.both.value.second) c.args.scope.now)
    _ _ c.in_err-a-in-Op.field-0.0 _ refl c.from_residual-in_err-a-in-Op.ensures.1 c.in_err-a-in-Op.ensures)
