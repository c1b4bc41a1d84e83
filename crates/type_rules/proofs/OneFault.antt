-- A program has at most one type fault.
use Rattle.std.proofs.Common.{◌≡◌, ℕ, zero, suc, ◌≤◌, List, [], ◌∷◌, ◌++◌, refl, sym, ap, ◌∙◌, subst, arith}
use Rattle.std.specs.List.{All}
use Rattle.priml_syntax.specs.Tree.{Tree}
use Rattle.type_rules.specs.declared.TypeKind.{TypeKind}
use Rattle.type_rules.specs.declared.TypeKind.TheVariants.{Cycle, Arity, Mismatch, NotThread, WrongPriority, Constraint as ConstraintKind, Inversion, Wide}
use Rattle.type_rules.specs.Typing.{Context}
use Rattle.type_rules.specs.Nodes.{Site, NodeFails, HasFault, rank}
use Rattle.type_rules.specs.Typable.{setting_of, Part, a_pair, a_site, a_routine, PartTyped, PartFails, part_place, HasTypeFault}
use Rattle.type_rules.proofs.Unique.{same_scope}
use Rattle.type_rules.proofs.Programs.{part_untyped}

-- a list splits in one way into elements that have P and then one that has not
same_first : {X : Type 0} (P : X → Type 0) (b c : List X) (x y : X) (u v : List X) → b ++ x ∷ u ≡ c ++ y ∷ v → All P b → All P c → (P x → ⊥) → (P y → ⊥) → x ≡ y
same_first P [] [] x y u v e s t n m = cc
same_first P [] (d ∷ c) x y u v e s t n m = absurd (n (subst P (let z : d ≡ x = cc in z) (t zero d (omega arith))))
same_first P (d ∷ b) [] x y u v e s t n m = absurd (m (subst P (let z : d ≡ y = cc in z) (s zero d (omega arith))))
same_first P (d ∷ b) (f ∷ c) x y u v e s t n m = same_first P b c x y u v (let z : b ++ x ∷ u ≡ c ++ y ∷ v = cc in z) (λ k w l. s (suc k) w (omega (arith, l))) (λ k w l. t (suc k) w (omega (arith, l))) n m

-- the kind of a number
kind_of : ℕ → TypeKind
kind_of zero = Cycle
kind_of (suc zero) = Cycle
kind_of (suc (suc zero)) = Arity
kind_of (suc (suc (suc zero))) = Mismatch
kind_of (suc (suc (suc (suc zero)))) = NotThread
kind_of (suc (suc (suc (suc (suc zero))))) = WrongPriority
kind_of (suc (suc (suc (suc (suc (suc zero)))))) = ConstraintKind
kind_of (suc (suc (suc (suc (suc (suc (suc zero))))))) = Inversion
kind_of (suc (suc (suc (suc (suc (suc (suc (suc n)))))))) = Wide

kind_of-rank : (k : TypeKind) → kind_of (rank k) ≡ k
unfolding kind_of
kind_of-rank Cycle = refl
kind_of-rank Arity = refl
kind_of-rank Mismatch = refl
kind_of-rank NotThread = refl
kind_of-rank WrongPriority = refl
kind_of-rank ConstraintKind = refl
kind_of-rank Inversion = refl
kind_of-rank Wide = refl

same_rank : (k l : TypeKind) → rank k ≤ rank l → rank l ≤ rank k → k ≡ l
same_rank k l h i = let e : rank k ≡ rank l = omega (arith, h, i) in sym (kind_of-rank k) ∙ ap kind_of e ∙ kind_of-rank l

same_kind : (s : Context) (n : Site) (k l : TypeKind) → HasFault s n k → HasFault s n l → k ≡ l
same_kind s n k l f g =
    let e : f.scope ≡ g.scope = same_scope s [] n.binders f.scope g.scope f.of_binders g.of_binders in
    same_rank k l (f.least l (subst (λ G. NodeFails s G n.node l) (sym e) g.fails)) (g.least k (subst (λ G. NodeFails s G n.node k) e f.fails))

part_kind : (p : Tree) (q : Part) (k l : TypeKind) → PartFails p q k → PartFails p q l → k ≡ l
part_kind p (a_pair i at) k l f g = f.1 ∙ sym g.1
part_kind p (a_site r n) k l f g = same_kind (setting_of p r) n k l f g
part_kind p (a_routine r) k l f g = f.3 ∙ sym g.3

pub one_fault : (p : Tree) (k l : TypeKind) (a b : ℕ) → HasTypeFault p k a → HasTypeFault p l b → (k ≡ l) × (a ≡ b)
one_fault p k l a b f g =
    let e : f.faulty ≡ g.faulty = same_first (PartTyped p) f.before g.before f.faulty g.faulty f.after g.after (sym f.is ∙ g.is) f.typed g.typed (part_untyped p f.faulty k f.fails) (part_untyped p g.faulty l g.fails) in
    (part_kind p g.faulty k l (subst (λ q. PartFails p q k) e f.fails) g.fails, f.there ∙ ap part_place e ∙ sym g.there)
