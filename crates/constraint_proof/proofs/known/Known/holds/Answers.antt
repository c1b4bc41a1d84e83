use Rattle.std.proofs.Common.{◌≡◌, ◌↔◌, sym, ap, subst, IsTrue}
use Rattle.constraint_proof.specs.Entailed.{Entailed, IsValid}
use Rattle.constraint_proof.specs.Facts.{Facts}
use Rattle.constraint_proof.proofs.Numbers.{numbers_decide, decided}
use Rattle.constraint_proof.proofs.known.Known.holds.Goals as goal

pub returns : goal.returns
returns c =
    let s = c.self.inside in
    let i = c.self.invariant in
    let count : s.count ≡ c.args.self.now.count = ap (λ k. k.count) c.self.view_is in
    subst (λ (k : Facts). IsTrue c.leads.result ↔ Entailed k.pairs k.given c.args.p c.args.q) c.self.view_is
    (decided c.leads.ensures
    (numbers_decide s.count s.pairs.items s.given.items i.pairs_within i.given_valid c.args.p c.args.q
    (subst (λ n. IsValid n c.args.p) (sym count) c.requires.p_valid) (subst (λ n. IsValid n c.args.q) (sym count) c.requires.q_valid)
    s.closure.pairs (ap (λ e. e.pairs) i.is) c.number_of.result c.number_of-2.result c.number_of.ensures c.number_of-2.ensures))
