-- The first failure of a list that is followed, or preceded, by others.
use Rattle.std.proofs.Common.{ℕ, List, ◌∷◌, ◌++◌, sym, ap, ◌∙◌, append_assoc}
use Rattle.std.specs.List.{All}
use Rattle.std.proofs.lemmas.List.Elements.{All-append}
use Rattle.type_rules.specs.declared.TypeKind.{TypeKind}
use Rattle.type_rules.specs.Nodes.{FirstFailure}

pub first_left : {A : Type 0} {P : A → Type 0} {Q : A → TypeKind → Type 0} {place_of : A → ℕ} (xs ys : List A) (k : TypeKind) (at : ℕ)
    → FirstFailure P Q place_of xs k at → FirstFailure P Q place_of (xs ++ ys) k at
first_left xs ys k at f = record {
  before = f.before;
  faulty = f.faulty;
  after = f.after ++ ys;
  is = ap (λ zs. zs ++ ys) f.is ∙ append_assoc f.before (f.faulty ∷ f.after) ys;
  typed = f.typed;
  fails = f.fails;
  there = f.there;
}

pub first_right : {A : Type 0} {P : A → Type 0} {Q : A → TypeKind → Type 0} {place_of : A → ℕ} (xs ys : List A) (k : TypeKind) (at : ℕ)
    → All P xs → FirstFailure P Q place_of ys k at → FirstFailure P Q place_of (xs ++ ys) k at
first_right {P = P} xs ys k at t f = record {
  before = xs ++ f.before;
  faulty = f.faulty;
  after = f.after;
  is = ap (λ zs. xs ++ zs) f.is ∙ sym (append_assoc xs f.before (f.faulty ∷ f.after));
  typed = All-append P xs f.before t f.typed;
  fails = f.fails;
  there = f.there;
}
