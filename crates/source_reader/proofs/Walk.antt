-- The steps of a walk over a list or a block: what is known of the whole from what is known of its parts.
use Rattle.std.proofs.Common.{◌≡◌, ℕ, ◌+◌, ◌<◌, ◌≤◌, List, [], ◌∷◌, ◌++◌, length, map, take, drop, get_or, add-one, arith, sym, refl, ap, ap₂, subst, ◌∙◌, append_assoc}
use Rattle.std.proofs.lemmas.List.{take-append-le, length-append, take_more, map-append}
use Rattle.std.proofs.Math.Seq.{drop-cons}
use Rattle.priml_syntax.specs.declared.block.Bind.{Bind}
use Rattle.priml_syntax.specs.Tree as tree
use Rattle.priml_syntax.specs.Tree.{Body, Term}
use Rattle.priml_syntax.specs.declared.expr.Expr.{Expr}
use Rattle.priml_syntax.specs.Read.{read_act, read_term}
use Rattle.priml_syntax.specs.Lists.{body_of}
use Rattle.source_grammar.specs.declared.raw.RawBind.{RawBind}
use Rattle.source_grammar.specs.declared.raw.RawBlock.{RawBlock, out-RawBlock}
use Rattle.source_grammar.specs.declared.raw.RawExpr.{RawExpr}
use Rattle.source_grammar.specs.RawTree.{RawTerm}
use Rattle.source_grammar.specs.RawRead.{read_block, read_expr}
use Rattle.source_reader.specs.declared.faults.Fault.{Fault}
use Rattle.source_reader.specs.declared.faults.ResolveStop.{ResolveStop}
use Rattle.source_reader.specs.Names.{Env}
use Rattle.source_reader.specs.Faults.{body_faults, code_faults}
use Rattle.source_reader.specs.Inside.Gives.{First}
use Rattle.source_reader.specs.Inside.Bodies.{raw_body_of}
use Rattle.source_reader.proofs.RawBlocks.{raw_tail_of, opened}

-- a list from its element at i on
pub next_of : {A : Type 0} (xs : List A) (i : ℕ) (d : A) → i < length xs → drop i xs ≡ get_or xs i d ∷ drop (i + 1) xs
next_of xs i d l = rw (add-one) (drop-cons xs i d l)

-- the images of one element more
pub made_next : {A B : Type 0} (f : A → B) (xs : List A) (i : ℕ) (d : A) (old new : List B) (x : B) → i < length xs → old ≡ map f (take i xs) → new ≡ old ++ x ∷ [] → x ≡ f (get_or xs i d) → new ≡ map f (take (i + 1) xs)
made_next f xs i d old new x l p q r = q ∙ ap₂ (λ a b. a ++ b ∷ []) p r ∙ sym (ap (map f) (take_more xs i d l) ∙ map-append f (take i xs) (get_or xs i d ∷ []))

-- expressions from the one at i on
pub next_term : (xs : List RawExpr) (i : ℕ) (d : RawExpr) → i < length xs → d ≡ get_or xs i d → map read_expr (drop i xs) ≡ read_expr d ∷ map read_expr (drop (i + 1) xs)
next_term xs i d l e = ap (map read_expr) (next_of xs i d l) ∙ ap (λ x. read_expr x ∷ map read_expr (drop (i + 1) xs)) (sym e)

-- the readings of one expression more
pub read_next : (f : RawTerm → Term) (xs : List RawExpr) (i : ℕ) (d : RawExpr) (old new : List Expr) (x : Expr) → i < length xs → d ≡ get_or xs i d → map read_term old ≡ map f (map read_expr (take i xs)) → new ≡ old ++ x ∷ [] → read_term x ≡ f (read_expr d)
    → map read_term new ≡ map f (map read_expr (take (i + 1) xs))
read_next f xs i d old new x l e p q r =
    ap (map read_term) q ∙ map-append read_term old (x ∷ []) ∙ ap₂ (λ a b. a ++ b ∷ []) p (r ∙ ap (λ z. f (read_expr z)) e)
    ∙ sym (ap (λ zs. map f (map read_expr zs)) (take_more xs i d l) ∙ ap (map f) (map-append read_expr (take i xs) (get_or xs i d ∷ [])) ∙ map-append f (map read_expr (take i xs)) (read_expr (get_or xs i d) ∷ []))

-- after a part without faults come the faults of the rest
pub passed : (all room act rest : List Fault) → all ≡ room ++ (act ++ rest) → room ++ act ≡ [] → all ≡ rest
passed all room act rest p e = p ∙ sym (append_assoc room act rest) ∙ ap (λ v. v ++ rest) e

pub regrouped : (all room act rest : List Fault) → all ≡ room ++ (act ++ rest) → all ≡ (room ++ act) ++ rest
regrouped all room act rest p = p ∙ sym (append_assoc room act rest)

body_push : (bs : List Bind) (b : Bind) (body : Body) → body_of (bs ++ b ∷ []) body ≡ body_of bs (tree.bind b.at (read_act b.action) body)
body_push [] b body = refl
body_push (x ∷ xs) b body = ap (tree.bind x.at (read_act x.action)) (body_push xs b body)

-- one bound action more
pub made_more : (all rest : Body) (a : tree.Act) (bs more : List Bind) (b : Bind) (at : ℕ) → all ≡ body_of bs (tree.bind at a rest) → more ≡ bs ++ b ∷ [] → b.at ≡ at → read_act b.action ≡ a → all ≡ body_of more rest
made_more all rest a bs more b at p q e f = p ∙ ap₂ (λ i x. body_of bs (tree.bind i x rest)) (sym e) (sym f) ∙ sym (body_push bs b rest) ∙ ap (λ v. body_of v rest) (sym q)

pub kept_push : (old new : List ℕ) (x n : ℕ) → n ≤ length old → new ≡ old ++ x ∷ [] → take n new ≡ take n old
kept_push old new x n h e = ap (take n) e ∙ take-append-le n old (x ∷ []) h

-- a block's first fault is that of its body
pub code_first : (b : RawBlock) (xs : List RawBind) (env : Env) (scope : List ℕ) (e : ResolveStop) → xs ≡ (out-RawBlock b).binds.items → First (body_faults (raw_body_of xs (raw_tail_of b)) env scope) e → First (code_faults (read_block b) env scope) e
code_first b xs env scope e same h = subst (λ c. First (code_faults c env scope) e) (sym (opened b xs same)) h

pub deeper : (old new : List ℕ) (x n : ℕ) → n ≤ length old → new ≡ old ++ x ∷ [] → n ≤ length new
deeper old new x n h e = omega (arith, h, ap length e, length-append old (x ∷ []))
