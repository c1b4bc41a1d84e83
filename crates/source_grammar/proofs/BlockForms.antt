-- The forms of blocks and actions, as a reading function meets them: what was read is known by equations.
use Rattle.std.proofs.Common.{ℕ, List, [], ◌∷◌, ◌++◌, ◌≡◌, map, sym, refl, ap, ◌∙◌}
use mathlib.Core.Former.{Count}
use Rattle.source_tokens.specs.declared.token.Token.{Token}
use Rattle.source_tokens.specs.declared.token.Word.TheVariants as w
use Rattle.source_tokens.specs.declared.token.Sign.TheVariants as s
use Rattle.source_grammar.specs.declared.raw.Name.{Name}
use Rattle.source_grammar.specs.declared.raw.RawExpr.{RawExpr}
use Rattle.source_grammar.specs.declared.raw.RawAction.{RawAction}
use Rattle.source_grammar.specs.declared.raw.RawTail.{RawTail}
use Rattle.source_grammar.specs.declared.raw.RawTailForm.{RawTailForm}
use Rattle.source_grammar.specs.declared.raw.RawBind.{RawBind}
use Rattle.source_grammar.specs.declared.raw.RawBlock.{RawBlock, RawBlock', out-RawBlock, Row_of-RawBind, end_of-RawBind, more_of-RawBind, items-the_row-RawBind, items_shown-the_row-RawBind-0, RawBlock-F, roll-RawBlock, out-roll-RawBlock}
use Rattle.source_grammar.specs.RawTree.{RawTerm, RawCode, block, RawBody, bind, ret_tail, if_tail, case_tail, RawAct, ret, spawn, sync, call, do_block, input, output}
use Rattle.source_grammar.specs.RawRead.{read_expr, read_action, read_block, read_binds, read_tail}
use Rattle.source_grammar.specs.Inside.Lists.{body_of}
use Rattle.source_grammar.specs.Grammar.{sign, word, name, IsListed, IsName, IsExpr, IsPriorities, IsBlock, IsBody, IsAction}
use Rattle.source_grammar.proofs.CommaLists.{listed_map}

-- A block that is made, by its parts.
abbrev pub Level : Type 0
Level = RawBlock-F RawAction RawTailForm RawBind RawBlock RawTail

abbrev level_code : Level → RawCode
level_code r = block r.at (body_of r.binds.items (read_tail r.tail.form r.tail.at))

binds_are : (n : Count) (row : Row_of-RawBind n) (body : RawBody) → read_binds row body ≡ body_of (items-the_row-RawBind n row) body
binds_are n end_of-RawBind body = refl
binds_are n (more_of-RawBind {n = m} name at act rest) body = ap (bind name at (read_action act)) (binds_are m rest body)

pub code_is : (b : RawBlock) → read_block b ≡ level_code (out-RawBlock b)
unfolding out-RawBlock Rattle.source_grammar.specs.declared.raw.RawAction.TheBlock.shown-the_row-RawBind-0 denote.Hole.Carrier.out
code_is (RawBlock' at shape row i tail) = ap (block at) (binds_are _ row (read_tail tail i) ∙ ap (λ xs. body_of xs (read_tail tail i)) (sym (items_shown-the_row-RawBind-0 shape row)))

pub rolled : (r : Level) → read_block (roll-RawBlock r) ≡ level_code r
rolled r = code_is (roll-RawBlock r) ∙ ap level_code (out-roll-RawBlock r)

pub block_made : (old a b c new : List Token) (at close : ℕ) (r : Level) → old ≡ sign at s.OpenBrace ∷ a
    → ((rest : List Token) (body : RawBody) → IsBody b rest body → IsBody a rest (body_of r.binds.items body))
    → IsBody b c (read_tail r.tail.form r.tail.at) → c ≡ sign close s.CloseBrace ∷ new → r.at ≡ at → IsBlock old new (read_block (roll-RawBlock r))
block_made old a b c new at close r p q x z e = rw (rolled r, p, e) (IsBlock.is_block at close (rw z at (q c (read_tail r.tail.form r.tail.at) x)))

body_push : (bs : List RawBind) (b : RawBind) (body : RawBody) → body_of (bs ++ b ∷ []) body ≡ body_of bs (bind b.name b.at (read_action b.action) body)
body_push [] b body = refl
body_push (x ∷ xs) b body = ap (bind x.name x.at (read_action x.action)) (body_push xs b body)

pub more_made : (start now next rest : List Token) (bs more : List RawBind) (b : RawBind) (body : RawBody)
    → ((rest : List Token) (body : RawBody) → IsBody now rest body → IsBody start rest (body_of bs body))
    → more ≡ bs ++ b ∷ []
    → ((rest : List Token) (body : RawBody) → IsBody next rest body → IsBody now rest (body_of (b ∷ []) body))
    → IsBody next rest body → IsBody start rest (body_of more body)
more_made start now next rest bs more b body f e g h = rw (e, body_push bs b body) (f rest _ (g rest body h))

pub bind_made : (old a b c new rest : List Token) (n : Name) (arrow at end : ℕ) (act : RawAct) (body : RawBody) → old ≡ name n ∷ a
    → a ≡ sign arrow s.Arrow ∷ b → IsAction b c at act → c ≡ sign end s.Semicolon ∷ new → IsBody new rest body → IsBody old rest (bind n at act body)
bind_made old a b c new rest n arrow at end act body p q x y h = rw (p, q) (IsBody.is_bind n arrow at end (rw y at x) h)

-- Endings.
pub body_made : (old a new : List Token) (at close : ℕ) (b : RawBody) → old ≡ sign at s.OpenBrace ∷ a → IsBody a (sign close s.CloseBrace ∷ new) b → IsBlock old new (block at b)
body_made old a new at close b p x = rw p (IsBlock.is_block at close x)

pub give_made : (old a new : List Token) (at : ℕ) (e : RawTerm) → old ≡ word at w.Ret ∷ a → IsExpr a new e → IsBody old new (ret_tail at e)
give_made old a new at e p x = rw p (IsBody.is_ret_tail at x)

pub if_tail_made : (o1 o2 o3 o4 o5 new : List Token) (at other : ℕ) (e : RawTerm) (x y u v : RawCode) → o1 ≡ word at w.If ∷ o2 → IsExpr o2 o3 e → IsBlock o3 o4 x
    → o4 ≡ word other w.Else ∷ o5 → IsBlock o5 new y → u ≡ x → v ≡ y → IsBody o1 new (if_tail at e u v)
if_tail_made o1 o2 o3 o4 o5 new at other e x y u v p g h q k i j = rw (p, i, j) (IsBody.is_if_tail at other g (rw q at h) k)

pub case_tail_made : (o1 o2 o3 o4 o5 o6 o7 o8 new : List Token) (at b c : ℕ) (m n : Name) (e : RawTerm) (x y u v : RawCode) → o1 ≡ word at w.Case ∷ o2 → IsExpr o2 o3 e
    → o3 ≡ word b w.Inl ∷ o4 → o4 ≡ name m ∷ o5 → IsBlock o5 o6 x → o6 ≡ word c w.Inr ∷ o7 → o7 ≡ name n ∷ o8 → IsBlock o8 new y → u ≡ x → v ≡ y
    → IsBody o1 new (case_tail at e m u n v)
case_tail_made o1 o2 o3 o4 o5 o6 o7 o8 new at b c m n e x y u v p g q r h f i k d l = rw (p, d, l) (IsBody.is_case_tail at b c m n (rw (q, r) at g) (rw (f, i) at h) k)

-- Actions.
pub ret_made : (old a new : List Token) (at : ℕ) (e : RawTerm) → old ≡ word at w.Ret ∷ a → IsExpr a new e → IsAction old new at (ret e)
ret_made old a new at e p x = rw p (IsAction.is_ret at x)

pub sync_made : (old a new : List Token) (at : ℕ) (h : Name) → old ≡ word at w.Sync ∷ a → a ≡ name h ∷ new → IsAction old new at (sync h)
sync_made old a new at h p x = rw (p, x) (IsAction.is_sync at h)

pub input_made : (old new : List Token) (at : ℕ) → old ≡ word at w.Input ∷ new → IsAction old new at input
input_made old new at p = rw p (IsAction.is_input at)

pub output_made : (old a new : List Token) (at : ℕ) (e : RawTerm) → old ≡ word at w.Output ∷ a → IsExpr a new e → IsAction old new at (output e)
output_made old a new at e p x = rw p (IsAction.is_output at x)

pub spawn_made : (old a b c d new : List Token) (at from close : ℕ) (p : Name) (body : RawCode) → old ≡ word at w.Spawn ∷ a
    → a ≡ sign from s.OpenBracket ∷ b → b ≡ name p ∷ c → c ≡ sign close s.CloseBracket ∷ d → IsBlock d new body → IsAction old new at (spawn p body)
spawn_made old a b c d new at from close p body e f g h x = rw (e, f, g, h) (IsAction.is_spawn at from close p x)

pub run_made : (old a new : List Token) (at : ℕ) (b body : RawCode) → old ≡ word at w.Do ∷ a → IsBlock a new b → body ≡ b → IsAction old new at (do_block body)
run_made old a new at b body e x f = rw (e, f) (IsAction.is_do_block at x)

pub call_found : (o1 o2 o3 o4 o5 new : List Token) (at from close : ℕ) (f : Name) (ps : List Name) (es : List RawTerm) → o1 ≡ word at w.Call ∷ o2 → o2 ≡ name f ∷ o3
    → IsPriorities o3 (sign from s.OpenParen ∷ o4) ps → IsListed IsExpr o4 o5 es → o5 ≡ sign close s.CloseParen ∷ new → IsAction o1 new at (call f ps es)
call_found o1 o2 o3 o4 o5 new at from close f ps es p q g h r = rw (p, q) (IsAction.is_call at from close f g (rw r at h))

pub call_made : (o1 o2 o3 o4 o5 new : List Token) (at from close : ℕ) (f : Name) (ps : List Name) (es : List RawExpr) → o1 ≡ word at w.Call ∷ o2 → o2 ≡ name f ∷ o3
    → IsPriorities o3 (sign from s.OpenParen ∷ o4) ps → IsListed (λ ts rest e. IsExpr ts rest (read_expr e)) o4 o5 es → o5 ≡ sign close s.CloseParen ∷ new
    → IsAction o1 new at (call f ps (map read_expr es))
call_made o1 o2 o3 o4 o5 new at from close f ps es p q g h r = call_found o1 o2 o3 o4 o5 new at from close f ps (map read_expr es) p q g (listed_map read_expr h) r

pub absent_made : (old new : List Token) (at : ℕ) (ps : List Name) → old ≡ sign at s.OpenParen ∷ new → ps ≡ [] → (i : ℕ) × IsPriorities old (sign i s.OpenParen ∷ new) ps
absent_made old new at ps e f = (at, rw (e, f) (IsPriorities.absent at))

pub present_made : (o1 o2 o3 o4 new : List Token) (at close i : ℕ) (ps : List Name) → o1 ≡ sign at s.OpenBracket ∷ o2 → IsListed (λ ts rest n. IsName ts rest n) o2 o3 ps
    → o3 ≡ sign close s.CloseBracket ∷ o4 → o4 ≡ sign i s.OpenParen ∷ new → (j : ℕ) × IsPriorities o1 (sign j s.OpenParen ∷ new) ps
present_made o1 o2 o3 o4 new at close i ps p h q r = (i, rw p (IsPriorities.present at close (rw (q, r) at h)))

pub ruleset forms = (give_made, bind_made, ret_made, sync_made, input_made, output_made, spawn_made, run_made, absent_made)
