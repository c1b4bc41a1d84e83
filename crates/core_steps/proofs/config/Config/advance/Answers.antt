use Rattle.std.proofs.Common.{rules, ◌≡◌, map, sym, ◌∙◌, ap, subst}
use Rattle.std.specs.Prelude.{Ok, Err, IfErr}
use Rattle.core_steps.specs.declared.config.CoreStop.TheVariants.{OutOfMemory}
use Rattle.core_steps.specs.Configs.{Stops, read_slot, slots_of}
use Rattle.core_steps.specs.Inside.Configs.{IsNeedIn, StandsAt, slot_at}
use Rattle.core_steps.specs.Moves.{read_job}
use Rattle.core_steps.proofs.Choices.{no_thread}
use Rattle.core_steps.proofs.config.Config.advance.Goals as goal

pub returns-in_default-clause-cause : goal.returns-in_default-clause-cause
returns-in_default-clause-cause c = λ ts reads.
    no_thread (read_job c.args.job.now) (slots_of c.args.self.now) ts c.args.path.now reads
    (ap (λ xs. slot_at (map read_slot xs) c.args.path.now) (sym (c.deref.ensures.value ∙ c.self.view_is)) ∙ c.place_near.ensures.absent c.in_default.is)

pub returns-in_err-awaited-clause-cause : goal.returns-in_err-awaited-clause-cause
returns-in_err-awaited-clause-cause c =
    let why = c.in_err-awaited.field-0.0 in
    let is : c.from_residual.result ≡ Err why = search rules in
    let stands = subst (λ xs. StandsAt xs c.args.path.now c.in-Some.at) (c.deref.ensures.value ∙ c.self.view_is) c.in-Some.ensures.found in
    subst (λ r. IfErr r (Stops (read_job c.args.job.now) (slots_of c.args.self.now) c.args.path.now)) (sym is) (c.in_err-awaited.ensures c.args.path.now stands)

pub go-requires-clause-told : goal.go-requires-clause-told
go-requires-clause-told c = λ p stands ts reads. subst (λ o. IsNeedIn ts p (Ok o)) c.in-Some-2.is (c.in_ok-awaited.ensures p stands ts reads)

pub returns-in_err-go-in-Some-2-clause-cause : goal.returns-in_err-go-in-Some-2-clause-cause
returns-in_err-go-in-Some-2-clause-cause c =
    let is : c.from_residual-in_err-go-in-Some-2.result ≡ Err OutOfMemory = search rules in
    let stands = subst (λ xs. StandsAt xs c.args.path.now c.in-Some.at) (c.deref.ensures.value ∙ c.self.view_is) c.in-Some.ensures.found in
    subst (λ r. IfErr r (Stops (read_job c.args.job.now) (slots_of c.args.self.now) c.args.path.now)) (sym is)
    (λ ts reads. let u = subst (λ o. IsNeedIn ts c.args.path.now (Ok o)) c.in-Some-2.is (c.in_ok-awaited.ensures c.args.path.now stands ts reads) in (u.0, u.1, u.2))

pub go-requires-in-None-clause-told : goal.go-requires-in-None-clause-told
go-requires-in-None-clause-told c = λ p stands ts reads. subst (λ o. IsNeedIn ts p (Ok o)) c.in-None.is (c.in_ok-awaited.ensures p stands ts reads)

pub returns-in_err-go-in-None-clause-cause : goal.returns-in_err-go-in-None-clause-cause
returns-in_err-go-in-None-clause-cause c =
    let is : c.from_residual-in_err-go-in-None.result ≡ Err OutOfMemory = search rules in
    let stands = subst (λ xs. StandsAt xs c.args.path.now c.in-Some.at) (c.deref.ensures.value ∙ c.self.view_is) c.in-Some.ensures.found in
    subst (λ r. IfErr r (Stops (read_job c.args.job.now) (slots_of c.args.self.now) c.args.path.now)) (sym is)
    (λ ts reads. let u = subst (λ o. IsNeedIn ts c.args.path.now (Ok o)) c.in-None.is (c.in_ok-awaited.ensures c.args.path.now stands ts reads) in (u.0, u.1, u.2))
