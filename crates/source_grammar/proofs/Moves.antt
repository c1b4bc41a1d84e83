-- What the grammar takes, the machine takes.
use Rattle.std.proofs.Common.{ℕ, List, [], ◌∷◌, ◌≡◌, Some, None, true, false, refl, sym, ap, ◌∙◌}
use Rattle.std.proofs.lemmas.Bool.{false_from_ne_true, both_ways}
use Rattle.source_tokens.specs.declared.token.Token.{Token}
use Rattle.source_tokens.specs.declared.token.Kind.{Kind}
use Rattle.source_tokens.specs.declared.token.Kind.TheVariants as k
use Rattle.source_tokens.specs.declared.token.Word.TheVariants as w
use Rattle.source_tokens.specs.declared.token.Sign.{Sign}
use Rattle.source_tokens.specs.declared.token.Sign.TheVariants as s
use Rattle.priml_syntax.specs.declared.expr.Op.{Op}
use Rattle.source_grammar.specs.declared.raw.Name.{Name}
use Rattle.source_grammar.specs.RawTree.{RawType, RawTerm, RawCode, RawBody, RawAct, WrittenType, RawRoutine, RawProcedure, Declaration, RawTree}
use Rattle.source_grammar.specs.Grammar.{token, sign, IsSeparated, IsListed, IsName, IsType, IsWritten, IsOp, IsExpr, IsPriorities, IsBlock, IsBody, IsAction, IsConstraint, IsParameter, IsHead, IsRoutine, IsProcedure, IsDecls, IsMain, IsProgram}
use Rattle.source_grammar.specs.Inside.Next.{is_at, is_end, is_sign}
use Rattle.source_grammar.specs.Inside.Ends.{BeginsOtherwise, name_no_end, expr_no_end, parameter_no_end}
use Rattle.source_grammar.specs.Inside.Machine.{Symbol, End, parens, brackets, variables, halt, AName, AWord, ASign, AtEnd, More, Separated, Listed, Ty, TyMid, Expr, Inside, Behind, Block, Binds, Action, CallOpen, Program, Routine, HeadOpen, Given}
use Rattle.source_grammar.specs.Inside.Machine as m
use Rattle.source_grammar.proofs.Steps.{halt-bracketed, inside-more}
use Rattle.source_grammar.proofs.Taken.{sign_same}
use Rattle.source_grammar.proofs.CommaLists.{halt-separated, listed-end, listed-more, more-end}

-- A sign is not the next one where what ends a list tells them apart.
apart : (x : Sign) (kind : Kind) → (is_end kind ≡ is_end (k.Sign x) → ⊥) → is_sign x kind ≡ false
apart x (k.Sign y) other = false_from_ne_true _ (λ h. other (ap (λ z. is_end (k.Sign z)) (sym (sign_same x y h))))
apart x _ other = refl

-- What ends a list is no comma, and a bracket is what ends a list.
pub end_no_comma : (ts : List Token) → is_at is_end ts ≡ true → is_at (is_sign s.Comma) ts ≡ false
end_no_comma [] h = cc
end_no_comma (t ∷ ts) h = apart s.Comma t.kind (λ e. both_ways _ e h)

pub no_end_no_close : (ts : List Token) → is_at is_end ts ≡ false → is_at (is_sign s.CloseParen) ts ≡ false
no_end_no_close [] h = refl
no_end_no_close (t ∷ ts) h = apart s.CloseParen t.kind (λ e. both_ways _ h e)

-- An item of a list takes what its symbol stands for, and does not begin with what may end a list.
abbrev pub ItemMoves : {A : Type 0} → (List Token → List Token → A → Type 0) → Symbol → Type 0
ItemMoves {A} Is y = (ts rest : List Token) (x : A) → Is ts rest x → (xs : List Symbol) → halt (y ∷ xs) ts ≡ halt xs rest

abbrev pub ItemStarts : {A : Type 0} → (List Token → List Token → A → Type 0) → Type 0
ItemStarts {A} Is = (ts rest : List Token) (x : A) → Is ts rest x → is_at is_end ts ≡ false

comma_on : (y : Symbol) (e : End) (c : ℕ) (zs : List Symbol) (us : List Token) → halt (More y e ∷ zs) (sign c s.Comma ∷ us) ≡ halt (y ∷ More y e ∷ zs) us
unfolding halt
comma_on y e c zs us = refl

separated_moves : {A : Type 0} {Is : List Token → List Token → A → Type 0} (y : Symbol) → ItemMoves Is y → {ts rest : List Token} {xs : List A} → IsSeparated Is ts rest xs
    → (e : End) (zs : List Symbol) → halt (Separated y e ∷ zs) ts ≡ halt (More y e ∷ zs) rest
separated_moves y f (IsSeparated.one h) e zs = halt-separated y e zs _ ∙ f _ _ _ h (More y e ∷ zs)
separated_moves y f (IsSeparated.more c h hs) e zs =
    halt-separated y e zs _ ∙ f _ _ _ h (More y e ∷ zs) ∙ comma_on y e c zs _ ∙ sym (halt-separated y e zs _) ∙ separated_moves y f hs e zs

pub separated_starts : {A : Type 0} {Is : List Token → List Token → A → Type 0} → ItemStarts Is → {ts rest : List Token} {xs : List A} → IsSeparated Is ts rest xs → is_at is_end ts ≡ false
separated_starts f (IsSeparated.one h) = f _ _ _ h
separated_starts f (IsSeparated.more c h hs) = f _ _ _ h

listed_moves : {A : Type 0} {Is : List Token → List Token → A → Type 0} (y : Symbol) → BeginsOtherwise y → ItemMoves Is y → ItemStarts Is
    → {ts rest : List Token} {xs : List A} → IsListed Is ts rest xs → (e : End) (zs : List Symbol) → is_at is_end rest ≡ true → halt (Listed y e ∷ zs) ts ≡ halt (AtEnd e ∷ zs) rest
listed_moves y other f g {rest = rest} IsListed.none e zs h = listed-end y e zs rest other h
listed_moves y other f g {ts = ts} {rest = rest} (IsListed.some hs) e zs h =
    listed-more y e zs ts (separated_starts g hs) ∙ separated_moves y f hs e zs ∙ more-end y e zs rest (end_no_comma rest h)

-- Names, types and expressions.
name_moves : ItemMoves IsName AName
unfolding halt
name_moves _ _ _ (IsName.is_name n) xs = refl

pub name_starts : ItemStarts IsName
name_starts _ _ _ (IsName.is_name n) = refl

type_moves : {ts rest : List Token} {at : ℕ} {t : RawType} → IsType ts rest at t → (xs : List Symbol) → halt (Ty ∷ xs) ts ≡ halt xs rest
unfolding halt
type_moves (IsType.is_unit at) xs = refl
type_moves (IsType.is_bool at) xs = refl
type_moves (IsType.is_int at) xs = refl
type_moves (IsType.is_pair at star close i j x y) xs = type_moves x (TyMid ∷ Ty ∷ ASign s.CloseParen ∷ xs) ∙ type_moves y (ASign s.CloseParen ∷ xs)
type_moves (IsType.is_sum at plus close i j x y) xs = type_moves x (TyMid ∷ Ty ∷ ASign s.CloseParen ∷ xs) ∙ type_moves y (ASign s.CloseParen ∷ xs)
type_moves (IsType.is_thread at a b c close i p x) xs = type_moves x (ASign s.CloseParen ∷ xs)

written_moves : {ts rest : List Token} {t : WrittenType} → IsWritten ts rest t → (xs : List Symbol) → halt (Ty ∷ xs) ts ≡ halt xs rest
written_moves (IsWritten.is_written h) xs = type_moves h xs

pub expr_starts : ItemStarts IsExpr
expr_starts _ _ _ (IsExpr.is_var n) = refl
expr_starts _ _ _ (IsExpr.is_number at n) = refl
expr_starts _ _ _ (IsExpr.is_true at) = refl
expr_starts _ _ _ (IsExpr.is_false at) = refl
expr_starts _ _ _ (IsExpr.is_unit_term at close) = refl
expr_starts _ _ _ (IsExpr.is_inside at close x) = refl
expr_starts _ _ _ (IsExpr.is_pair_term at comma close x y) = refl
expr_starts _ _ _ (IsExpr.is_binary at mid close kind op x o y) = refl
expr_starts _ _ _ (IsExpr.is_first at a close x) = refl
expr_starts _ _ _ (IsExpr.is_second at a close x) = refl
expr_starts _ _ _ (IsExpr.is_negated at a close x) = refl
expr_starts _ _ _ (IsExpr.is_left at a b c close t x) = refl
expr_starts _ _ _ (IsExpr.is_right at a b c close t x) = refl

inside_is : {ts rest : List Token} {x : RawTerm} → IsExpr ts rest x → (xs : List Symbol) → halt (Inside ∷ xs) ts ≡ halt (Expr ∷ Behind ∷ xs) ts
inside_is {ts = ts} h xs = inside-more xs ts (no_end_no_close ts (expr_starts _ _ _ h)) ∙ halt-bracketed xs ts

op_is : {kind : Kind} {op : Op} → IsOp kind op → (at : ℕ) (xs : List Symbol) (ts : List Token) → halt (Behind ∷ xs) (token at kind ∷ ts) ≡ halt (Expr ∷ ASign s.CloseParen ∷ xs) ts
unfolding halt
op_is IsOp.is_add at xs ts = refl
op_is IsOp.is_sub at xs ts = refl
op_is IsOp.is_mul at xs ts = refl
op_is IsOp.is_div at xs ts = refl
op_is IsOp.is_rem at xs ts = refl
op_is IsOp.is_less at xs ts = refl
op_is IsOp.is_at_most at xs ts = refl
op_is IsOp.is_equal at xs ts = refl
op_is IsOp.is_and at xs ts = refl
op_is IsOp.is_or at xs ts = refl

expr_moves : {ts rest : List Token} {x : RawTerm} → IsExpr ts rest x → (xs : List Symbol) → halt (Expr ∷ xs) ts ≡ halt xs rest
unfolding halt
expr_moves (IsExpr.is_var n) xs = refl
expr_moves (IsExpr.is_number at n) xs = refl
expr_moves (IsExpr.is_true at) xs = refl
expr_moves (IsExpr.is_false at) xs = refl
expr_moves (IsExpr.is_unit_term at close) xs = refl
expr_moves (IsExpr.is_inside at close x) xs = inside_is x xs ∙ expr_moves x (Behind ∷ xs)
expr_moves (IsExpr.is_pair_term at comma close x y) xs = inside_is x xs ∙ expr_moves x (Behind ∷ xs) ∙ expr_moves y (ASign s.CloseParen ∷ xs)
expr_moves (IsExpr.is_binary at mid close kind op x o y) xs = inside_is x xs ∙ expr_moves x (Behind ∷ xs) ∙ op_is o mid xs _ ∙ expr_moves y (ASign s.CloseParen ∷ xs)
expr_moves (IsExpr.is_first at a close x) xs = expr_moves x (ASign s.CloseParen ∷ xs)
expr_moves (IsExpr.is_second at a close x) xs = expr_moves x (ASign s.CloseParen ∷ xs)
expr_moves (IsExpr.is_negated at a close x) xs = expr_moves x (ASign s.CloseParen ∷ xs)
expr_moves (IsExpr.is_left at a b c close t x) xs = written_moves t (ASign s.CloseBracket ∷ ASign s.OpenParen ∷ Expr ∷ ASign s.CloseParen ∷ xs) ∙ expr_moves x (ASign s.CloseParen ∷ xs)
expr_moves (IsExpr.is_right at a b c close t x) xs = written_moves t (ASign s.CloseBracket ∷ ASign s.OpenParen ∷ Expr ∷ ASign s.CloseParen ∷ xs) ∙ expr_moves x (ASign s.CloseParen ∷ xs)

-- Blocks and actions.
priorities_move : {ts us : List Token} {from : ℕ} {ps : List Name} → IsPriorities ts (sign from s.OpenParen ∷ us) ps → (xs : List Symbol) → halt (CallOpen ∷ xs) ts ≡ halt xs us
unfolding halt
priorities_move (IsPriorities.absent at) xs = refl
priorities_move (IsPriorities.present at close h) xs = listed_moves AName name_no_end name_moves name_starts h brackets (ASign s.OpenParen ∷ xs) refl

mutual
  unfolding halt

  block_moves : {ts rest : List Token} {b : RawCode} → IsBlock ts rest b → (xs : List Symbol) → halt (Block ∷ xs) ts ≡ halt xs rest
  block_moves (IsBlock.is_block at close b) xs = body_moves b xs

  body_moves : {ts rest : List Token} {close : ℕ} {b : RawBody} → IsBody ts (sign close s.CloseBrace ∷ rest) b → (xs : List Symbol) → halt (Binds ∷ xs) ts ≡ halt xs rest
  body_moves (IsBody.is_ret_tail at e) xs = expr_moves e (ASign s.CloseBrace ∷ xs)
  body_moves (IsBody.is_if_tail at other e x y) xs =
      expr_moves e (Block ∷ AWord w.Else ∷ Block ∷ ASign s.CloseBrace ∷ xs) ∙ block_moves x (AWord w.Else ∷ Block ∷ ASign s.CloseBrace ∷ xs) ∙ block_moves y (ASign s.CloseBrace ∷ xs)
  body_moves (IsBody.is_case_tail at b c m n e x y) xs =
      expr_moves e (AWord w.Inl ∷ AName ∷ Block ∷ AWord w.Inr ∷ AName ∷ Block ∷ ASign s.CloseBrace ∷ xs) ∙ block_moves x (AWord w.Inr ∷ AName ∷ Block ∷ ASign s.CloseBrace ∷ xs)
      ∙ block_moves y (ASign s.CloseBrace ∷ xs)
  body_moves (IsBody.is_bind n arrow at end a b) xs = action_moves a (ASign s.Semicolon ∷ Binds ∷ xs) ∙ body_moves b xs

  action_moves : {ts rest : List Token} {at : ℕ} {a : RawAct} → IsAction ts rest at a → (xs : List Symbol) → halt (Action ∷ xs) ts ≡ halt xs rest
  action_moves (IsAction.is_ret at e) xs = expr_moves e xs
  action_moves (IsAction.is_spawn at from close p b) xs = block_moves b xs
  action_moves (IsAction.is_sync at h) xs = refl
  action_moves (IsAction.is_call at from close f ps es) xs = priorities_move ps (Listed Expr parens ∷ xs) ∙ listed_moves Expr expr_no_end (λ ts rest x h. expr_moves h) expr_starts es parens xs refl
  action_moves (IsAction.is_do_block at b) xs = block_moves b xs
  action_moves (IsAction.is_input at) xs = refl
  action_moves (IsAction.is_output at e) xs = expr_moves e xs

-- Procedures and programs.
given_moves : ItemMoves IsConstraint Given
unfolding halt
given_moves _ _ _ (IsConstraint.is_constraint p q at) xs = refl

parameter_moves : ItemMoves IsParameter m.Parameter
unfolding halt
parameter_moves _ _ _ (IsParameter.is_parameter n colon t) xs = written_moves t xs

pub parameter_starts : ItemStarts IsParameter
parameter_starts _ _ _ (IsParameter.is_parameter n colon t) = refl

head_moves : {ts us : List Token} {from : ℕ} {ns : List Name} {gs : List (Name × Name)} → IsHead ts (sign from s.OpenParen ∷ us) ns gs → (xs : List Symbol) → halt (HeadOpen ∷ xs) ts ≡ halt xs us
unfolding halt
head_moves (IsHead.absent at) xs = refl
head_moves (IsHead.free at close h) xs = listed_moves AName name_no_end name_moves name_starts h variables xs refl
head_moves (IsHead.bound at mid close h g) xs =
    listed_moves AName name_no_end name_moves name_starts h variables xs refl ∙ separated_moves Given given_moves g brackets (ASign s.OpenParen ∷ xs)

routine_moves : {ts rest : List Token} {at : ℕ} {r : RawRoutine} → IsRoutine ts rest at r → (xs : List Symbol) → halt (Routine ∷ xs) ts ≡ halt xs rest
unfolding halt
routine_moves (IsRoutine.is_routine at by colon own t b) xs = written_moves t (Block ∷ xs) ∙ block_moves b xs

procedure_moves : {ts rest : List Token} {f : RawProcedure} → IsProcedure ts rest f → (xs : List Symbol) → halt (Program ∷ xs) ts ≡ halt (Program ∷ xs) rest
unfolding halt
procedure_moves (IsProcedure.is_procedure at from close n h ps r) xs =
    head_moves h (Listed m.Parameter parens ∷ Routine ∷ Program ∷ xs) ∙ listed_moves m.Parameter parameter_no_end parameter_moves parameter_starts ps parens (Routine ∷ Program ∷ xs) refl
    ∙ routine_moves r (Program ∷ xs)

main_moves : {ts rest : List Token} {m : RawRoutine} → IsMain ts rest m → (xs : List Symbol) → halt (Program ∷ xs) ts ≡ halt xs rest
unfolding halt
main_moves (IsMain.is_main at r) xs = routine_moves r xs

decls_move : {ts us : List Token} {ds : List Declaration} → IsDecls ts us ds → (xs : List Symbol) → halt (Program ∷ xs) ts ≡ halt (Program ∷ xs) us
unfolding halt
decls_move IsDecls.no_more xs = refl
decls_move (IsDecls.is_priority at end n d) xs = decls_move d xs
decls_move (IsDecls.is_order at less end m n d) xs = decls_move d xs
decls_move (IsDecls.is_declared f d) xs = procedure_moves f xs ∙ decls_move d xs

pub program_moves : {ts : List Token} {p : RawTree} → IsProgram ts p → halt (Program ∷ []) ts ≡ None
unfolding halt
program_moves (IsProgram.is_program d m) = decls_move d [] ∙ main_moves m []

-- where the machine stops, no program stands
pub no_program : {ts rest : List Token} → halt (Program ∷ []) ts ≡ Some rest → (p : RawTree) → IsProgram ts p → ⊥
no_program e p h = let m = program_moves h in cc
