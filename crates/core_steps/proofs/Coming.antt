-- What comes next in a block, by its actions and its ending.
use Rattle.std.proofs.Common.{◌≡◌, ℕ, zero, suc, ◌<◌, ◌≤◌, List, [], ◌∷◌, length, get_or, Option, Some, None, refl, sym, ap, ◌∙◌, subst, arith}
use Rattle.std.specs.Option.{option_and_then}
use Rattle.priml_syntax.specs.declared.block.Block.{Block, out-Block}
use Rattle.priml_syntax.specs.declared.block.Bind.{Bind}
use Rattle.priml_syntax.specs.declared.block.TailForm.{TailForm}
use Rattle.priml_syntax.specs.declared.block.TailForm.TheVariants.{Ret, If', Case'}
use Rattle.priml_syntax.specs.Tree.{Code, Body, bind, inside, Tree}
use Rattle.priml_syntax.specs.Read.{read_code, read_act, read_tail}
use Rattle.priml_syntax.specs.Lists.{body_of}
use Rattle.priml_syntax.proofs.Blocks.{code_is}
use Rattle.core_steps.specs.declared.frame.Coming.{Coming}
use Rattle.core_steps.specs.Fields.{FrameFields, block_at, body_at}
use Rattle.core_steps.specs.Inside.Locals.{IsComing}
use Rattle.core_steps.specs.Places.{body_from}

action_in : (xs : List Bind) (n : ℕ) (k : Body) (d : Bind) → n < length xs → (c : Body) × (body_from n (body_of xs k) ≡ Some (bind (get_or xs n d).at (read_act (get_or xs n d).action) c))
action_in [] n k d lt = absurd (omega arith)
action_in (x ∷ xs) zero k d lt = (body_of xs k, refl)
action_in (x ∷ xs) (suc n) k d lt = action_in xs n k d (omega (arith, lt))

ending_in : (xs : List Bind) (n : ℕ) (k : Body) → n ≡ length xs → body_from n (body_of xs k) ≡ Some k
ending_in [] zero k e = refl
ending_in [] (suc n) k e = absurd (omega (arith, e))
ending_in (x ∷ xs) zero k e = absurd (omega (arith, e))
ending_in (x ∷ xs) (suc n) k e = ending_in xs n k (omega (arith, e))

past_ending : (t : TailForm) (at n : ℕ) → body_from (suc n) (read_tail t at) ≡ None
past_ending (Ret e) at n = refl
past_ending (If' e p a q b) at n = refl
past_ending (Case' e p a q b) at n = refl

nothing_in : (xs : List Bind) (n : ℕ) (t : TailForm) (at : ℕ) → length xs < n → body_from n (body_of xs (read_tail t at)) ≡ None
nothing_in [] zero t at lt = absurd (omega arith)
nothing_in [] (suc n) t at lt = past_ending t at n
nothing_in (x ∷ xs) zero t at lt = absurd (omega arith)
nothing_in (x ∷ xs) (suc n) t at lt = nothing_in xs n t at (omega (arith, lt))

-- the same, as the search in a block meets them
pub action_comes : (b : Block) (xs : List Bind) (n : ℕ) (d : Bind) → xs ≡ (out-Block b).binds.items → n < length xs → (at : ℕ) × (k : Body) × (body_from n (inside (read_code b)) ≡ Some (bind at (read_act (get_or xs n d).action) k))
action_comes b xs n d e lt =
    let tail = read_tail (out-Block b).tail.form (out-Block b).tail.at in
    let r = action_in xs n tail d lt in
    ((get_or xs n d).at, r.0, ap (λ c. body_from n (inside c)) (code_is b) ∙ ap (λ ys. body_from n (body_of ys tail)) (sym e) ∙ r.1)

pub ending_comes : (b : Block) (xs : List Bind) (n : ℕ) → xs ≡ (out-Block b).binds.items → length xs ≤ n → n ≤ length xs → (at : ℕ) × (body_from n (inside (read_code b)) ≡ Some (read_tail (out-Block b).tail.form at))
ending_comes b xs n e low high =
    let tail = read_tail (out-Block b).tail.form (out-Block b).tail.at in
    ((out-Block b).tail.at, ap (λ c. body_from n (inside c)) (code_is b) ∙ ap (λ ys. body_from n (body_of ys tail)) (sym e) ∙ ending_in xs n tail (omega (arith, low, high)))

pub nothing_comes : (b : Block) (xs : List Bind) (n : ℕ) → xs ≡ (out-Block b).binds.items → length xs < n → body_from n (inside (read_code b)) ≡ None
nothing_comes b xs n e lt =
    ap (λ c. body_from n (inside c)) (code_is b) ∙ ap (λ ys. body_from n (body_of ys (read_tail (out-Block b).tail.form (out-Block b).tail.at))) (sym e) ∙ nothing_in xs n (out-Block b).tail.form (out-Block b).tail.at lt

-- in the frame's block
pub comes_in_frame : (p : Tree) (f : FrameFields) (c : Code) (r : Option Coming) → Some c ≡ block_at p f → IsComing (body_from f.done (inside c)) r → IsComing (body_at p f) r
comes_in_frame p f c r e h = subst (λ b. IsComing b r) (ap (λ o. option_and_then (λ d. body_from f.done (inside d)) o) e) h
