-- Laws of the order of faults.
use Rattle.std.proofs.Common.{◌≡◌, ℕ, ◌<◌, ◌≤◌, ◌⊎◌, inl, inr, List, [], ◌∷◌, ◌++◌, arith, sym, subst, ◌∙◌}
use Rattle.source_reader.specs.declared.faults.Fault.{Fault}
use Rattle.source_reader.specs.Order.{place, Before, IsBeforeAll, Ascends, Between, Within}
use Rattle.source_reader.specs.Stands.{IsFirst}

pub widen : (a b c d : ℕ) (fs : List Fault) → a ≤ b → c ≤ d → Between b c fs → Between a d fs
widen a b c d [] p q h = tt
widen a b c d (f ∷ fs) p q h = (omega (arith, p, h.0), omega (arith, q, h.1), widen a b c d fs p q h.2)

both_between : (a b : ℕ) (fs gs : List Fault) → Between a b fs → Between a b gs → Between a b (fs ++ gs)
both_between a b [] gs h k = k
both_between a b (f ∷ fs) gs h k = (h.0, h.1, both_between a b fs gs h.2 k)

leads_behind : (f : Fault) (low high : ℕ) (gs : List Fault) → place f < low → Between low high gs → IsBeforeAll f gs
leads_behind f low high [] l h = tt
leads_behind f low high (g ∷ gs) l h = (inl (omega (arith, l, h.0)), leads_behind f low high gs l h.2)

leads_both : (f : Fault) (fs gs : List Fault) → IsBeforeAll f fs → IsBeforeAll f gs → IsBeforeAll f (fs ++ gs)
leads_both f [] gs h k = k
leads_both f (x ∷ xs) gs h k = (h.0, leads_both f xs gs h.1 k)

ascends_both : (a mid b : ℕ) (fs gs : List Fault) → Between a mid fs → Ascends fs → Between mid b gs → Ascends gs → Ascends (fs ++ gs)
ascends_both a mid b [] gs h p k q = q
ascends_both a mid b (f ∷ fs) gs h p k q = (leads_both f fs gs p.0 (leads_behind f mid b gs h.1 k), ascends_both a mid b fs gs h.2 p.1 k q)

-- the faults of a part, and those of the part behind it
pub behind : (a mid b : ℕ) (fs gs : List Fault) → a ≤ mid → mid ≤ b → Within a mid fs → Within mid b gs → Within a b (fs ++ gs)
behind a mid b fs gs l r h k = record {
  between = both_between a b fs gs (widen a a mid b fs (omega arith) r h.between) (widen a mid b b gs l (omega arith) k.between);
  ascends = ascends_both a mid b fs gs h.between h.ascends k.between k.ascends;
}

-- a fault that is not the one that leads stands behind it
led : (f g : Fault) (bs cs : List Fault) → IsBeforeAll f (bs ++ g ∷ cs) → Before f g
led f g [] cs h = h.0
led f g (b ∷ bs) cs h = led f g bs cs h.1

same_or_behind : (f g : Fault) (ps bs cs ds : List Fault) → ps ++ f ∷ bs ≡ cs ++ g ∷ ds → IsBeforeAll f (ps ++ bs) → (f ≡ g) ⊎ Before f g
same_or_behind f g [] bs [] ds e h = inl (cc)
same_or_behind f g [] bs (c ∷ cs) ds e h = let rest : bs ≡ cs ++ g ∷ ds = cc in inr (led f g cs ds (subst (IsBeforeAll f) rest h))
same_or_behind f g (a ∷ ps) bs [] ds e h = let head : a ≡ g = cc in inr (subst (Before f) head h.0)
same_or_behind f g (a ∷ ps) bs (c ∷ cs) ds e h = let rest : ps ++ f ∷ bs ≡ cs ++ g ∷ ds = cc in same_or_behind f g ps bs cs ds rest h.1

-- no fault stands before one that stands before it
one_way : (f g : Fault) → Before f g → Before g f → ⊥
one_way f g (inl l) (inl m) = omega (arith, l, m)
one_way f g (inl l) (inr m) = let e = m.0 in omega (arith, l, e)
one_way f g (inr l) (inl m) = let e = l.0 in omega (arith, e, m)
one_way f g (inr l) (inr m) = let a = l.1 in let b = m.1 in omega (arith, a, b)

-- of some faults one is the first
pub one_first : (f g : Fault) (fs : List Fault) → IsFirst f fs → IsFirst g fs → f ≡ g
one_first f g fs p q = by (same_or_behind f g p.before p.after q.before q.after (sym p.among ∙ q.among) p.leads)
  where
    back : Before f g → (g ≡ f) ⊎ Before g f → f ≡ g
    back before (inl e) = sym e
    back before (inr behind) = absurd (one_way f g before behind)

    by : (f ≡ g) ⊎ Before f g → f ≡ g
    by (inl e) = e
    by (inr before) = back before (same_or_behind g f q.before q.after p.before p.after (sym q.among ∙ p.among) q.leads)
