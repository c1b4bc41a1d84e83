-- Turns, by the fields of a block.
use Rattle.std.proofs.Common.{◌≡◌, ℕ, zero, suc, ◌<◌, ◌≤◌, length, get_or, sym, subst, List, [], ◌∷◌, Some, None, refl, ap, ◌∙◌}
use Rattle.std.specs.Prelude.{slice_get}
use Rattle.std.proofs.lemmas.Option.{same_Some, slice_get-get_or, slice_get_past}
use Rattle.std.specs.Option.{option_and_then}
use Rattle.priml_syntax.specs.declared.block.Block.{Block, out-Block}
use Rattle.priml_syntax.specs.declared.block.Bind.{Bind}
use Rattle.priml_syntax.specs.declared.block.TailForm.{TailForm}
use Rattle.priml_syntax.specs.declared.block.TailForm.TheVariants.{Ret, If', Case'}
use Rattle.priml_syntax.specs.Tree.{Body}
use Rattle.priml_syntax.specs.Read.{read_code, read_act, read_tail}
use Rattle.priml_syntax.specs.Lists.{body_of}
use Rattle.priml_syntax.proofs.Blocks.{code_is}
use Rattle.core_steps.specs.Places.{action_at, act_code, first_code, second_code, turned}
use Rattle.core_steps.specs.declared.place.Turn.TheVariants.{Bind as At, First, Second}

action_of : (xs : List Bind) (n : ℕ) (k : Body) (x : Bind) → slice_get xs n ≡ Some x → action_at n (body_of xs k) ≡ Some (read_act x.action)
action_of [] n k x e = cc
action_of (y ∷ xs) zero k x e = ap (λ q. Some (read_act q.action)) (same_Some y x e)
action_of (y ∷ xs) (suc n) k x e = action_of xs n k x e

no_action : (xs : List Bind) (n : ℕ) (k : Body) → slice_get xs n ≡ None → ((m : ℕ) → action_at m k ≡ None) → action_at n (body_of xs k) ≡ None
no_action [] n k e f = f n
no_action (y ∷ xs) zero k e f = cc
no_action (y ∷ xs) (suc n) k e f = no_action xs n k e f

no_action_in_tail : (t : TailForm) (at n : ℕ) → action_at n (read_tail t at) ≡ None
no_action_in_tail (Ret e) at n = refl
no_action_in_tail (If' e p a q b) at n = refl
no_action_in_tail (Case' e p a q b) at n = refl

first_of_body : (xs : List Bind) (k : Body) → first_code (body_of xs k) ≡ first_code k
first_of_body [] k = refl
first_of_body (x ∷ xs) k = first_of_body xs k

second_of_body : (xs : List Bind) (k : Body) → second_code (body_of xs k) ≡ second_code k
second_of_body [] k = refl
second_of_body (x ∷ xs) k = second_of_body xs k

turned_bind : (b : Block) (i : ℕ) (x : Bind) → slice_get (out-Block b).binds.items i ≡ Some x → turned (At i) (read_code b) ≡ act_code (read_act x.action)
turned_bind b i x e = ap (turned (At i)) (code_is b) ∙ ap (option_and_then act_code) (action_of (out-Block b).binds.items i _ x e)

turned_past : (b : Block) (i : ℕ) → slice_get (out-Block b).binds.items i ≡ None → turned (At i) (read_code b) ≡ None
turned_past b i e = ap (turned (At i)) (code_is b) ∙ ap (option_and_then act_code) (no_action (out-Block b).binds.items i _ e (no_action_in_tail (out-Block b).tail.form (out-Block b).tail.at))

pub turned_first : (b : Block) → turned First (read_code b) ≡ first_code (read_tail (out-Block b).tail.form (out-Block b).tail.at)
turned_first b = ap (turned First) (code_is b) ∙ first_of_body (out-Block b).binds.items _

pub turned_second : (b : Block) → turned Second (read_code b) ≡ second_code (read_tail (out-Block b).tail.form (out-Block b).tail.at)
turned_second b = ap (turned Second) (code_is b) ∙ second_of_body (out-Block b).binds.items _

-- the same, as an answer meets them
pub turned_at : (b : Block) (xs : List Bind) (i : ℕ) (x : Bind) → xs ≡ (out-Block b).binds.items → i < length xs → act_code (read_act (get_or xs i x).action) ≡ turned (At i) (read_code b)
turned_at b xs i x e l =
    let z : slice_get (out-Block b).binds.items i ≡ Some (get_or xs i x) = subst (λ ys. slice_get ys i ≡ Some (get_or xs i x)) e (slice_get-get_or xs i x l) in
    sym (turned_bind b i (get_or xs i x) z)

pub turned_none : (b : Block) (xs : List Bind) (i : ℕ) → xs ≡ (out-Block b).binds.items → length xs ≤ i → None ≡ turned (At i) (read_code b)
turned_none b xs i e l = sym (turned_past b i (slice_get_past _ i (subst (λ ys. length ys ≤ i) e l)))

pub ruleset trees = (turned_first, turned_second)
