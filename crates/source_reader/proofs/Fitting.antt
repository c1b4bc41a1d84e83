-- A tree of a text's tokens has the numbers and names of tokens, and its names are spelled in ASCII.
use Rattle.std.proofs.Common.{◌≡◌, ℕ, ◌<◌, ◌^◌, Bool, true, false, ◌&&◌, ◌||◌, List, [], ◌∷◌, length, IsAscii, sym, refl, ap, subst, arith}
use Rattle.std.specs.Prelude.{IsTrue}
use Rattle.std.specs.List.{All, list_all}
use Rattle.std.proofs.lemmas.Bool.Decides.{nat_tests}
use Rattle.std.proofs.lemmas.List.Elements.{All-nil, All-cons, All-append}
use Rattle.std.proofs.lemmas.Str.Ascii.{IsAscii-from_all, IsAscii-nil}
use Rattle.source_tokens.specs.declared.token.Kind.{Kind}
use Rattle.source_tokens.specs.declared.token.Kind.TheVariants as k
use Rattle.source_tokens.specs.declared.token.Token.{Token}
use Rattle.source_tokens.specs.declared.token.Stop.{Stop}
use Rattle.source_tokens.specs.Lexemes.{is_word, is_part, begins_word, is_digit}
use Rattle.source_tokens.specs.Lexes.{Spells, word, sign, number, old_name, new_name, Lexes, done, bad_byte, bad_number, too_deep, next, IsLexed}
use Rattle.source_tokens.specs.Laws.{IsNameBelow, AreNamesBelow}
use Rattle.source_tokens.proofs.Lawful.{lexed_lawful}
use Rattle.source_grammar.specs.declared.raw.Name.{Name}
use Rattle.source_grammar.specs.RawTree.{RawType, RawTerm, RawCode, RawBody, RawAct, WrittenType, Parameter, RawProcedure, Declaration, RawRoutine, RawTree}
use Rattle.source_grammar.specs.Grammar.{IsSeparated, IsListed, IsName, IsType, IsWritten, IsExpr, IsPriorities, IsBlock, IsBody, IsAction, IsConstraint, IsParameter, IsHead, IsRoutine, IsProcedure, IsDecls, IsMain, IsProgram}
use Rattle.source_reader.specs.Inside.Fits.{TermFits, TermsFit, CodeFits, BodyFits, ActFits, DeclsFit, BodiesFit, Fits}

-- a name is one of so many, and a number is below two to the 63
abbrev KindFits : ℕ → Kind → Type 0
KindFits n (k.Name id) = id < n
KindFits n (k.Number v) = v < 2 ^ 63
KindFits n (k.Word w) = Unit {0}
KindFits n (k.Sign s) = Unit {0}

abbrev pub TokensFit : ℕ → List Token → Type 0
TokensFit n [] = Unit {0}
TokensFit n (t ∷ ts) = KindFits n t.kind × TokensFit n ts

kind_fits : {known names : List (List ℕ)} {lexeme : List ℕ} {kind : Kind} (n : ℕ) → Spells known lexeme kind names → IsNameBelow n kind → KindFits n kind
kind_fits n (word w e q s) h = subst (KindFits n) (sym q) tt
kind_fits n (sign x e q s) h = subst (KindFits n) (sym q) tt
kind_fits n (number is small q s) h = subst (KindFits n) (sym q) small
kind_fits n (old_name id name at q s) h = subst (KindFits n) (sym q) (subst (IsNameBelow n) q h)
kind_fits n (new_name name none q s) h = subst (KindFits n) (sym q) (subst (IsNameBelow n) q h)

tokens_fit : {total depth : ℕ} {known : List (List ℕ)} {bs : List ℕ} {ts : List Token} {ns : List (List ℕ)} {end : Stop} (n : ℕ)
    → Lexes total depth known bs ts ns end → AreNamesBelow n ts → TokensFit n ts
tokens_fit n (done e t s r) h = subst (TokensFit n) (sym t) tt
tokens_fit n (bad_byte b rest e none t s r) h = subst (TokensFit n) (sym t) tt
tokens_fit n (bad_number lexeme rest e longest digits large t s r) h = subst (TokensFit n) (sym t) tt
tokens_fit n (too_deep lexeme rest kind e longest spells opening deep t s) h =
    let below = subst (AreNamesBelow n) t h in
    subst (TokensFit n) (sym t) (kind_fits n spells below.0, tt)
tokens_fit n (next lexeme rest kind later more e longest spells shallow t tail) h =
    let below = subst (AreNamesBelow n) t h in
    subst (TokensFit n) (sym t) (kind_fits n spells below.0, tokens_fit n tail below.1)

pub lexed_fits : (text : List ℕ) (ts : List Token) (ns : List (List ℕ)) (end : Stop) → IsLexed text ts ns end → TokensFit (length ns) ts
lexed_fits text ts ns end h = tokens_fit (length ns) h (lexed_lawful text ts ns end h).numbered

-- a name is spelled in ASCII
part_small : (b : ℕ) → is_part b ≡ true → b < 128
part_small b h = grind (arith, nat_tests)

begin_part : (b : ℕ) → begins_word b ≡ true → is_part b ≡ true
begin_part b h = ap (λ x. x || is_digit b) h

both_true : (x y : Bool) → (x && y) ≡ true → (x ≡ true) × (y ≡ true)
both_true true y h = (refl, h)
both_true false y h = absurd (cc)

parts_small : (bs : List ℕ) → list_all is_part bs ≡ true → All (λ b. b < 128) bs
parts_small [] h = All-nil (λ b. b < 128)
parts_small (b ∷ bs) h = let p = both_true (is_part b) (list_all is_part bs) h in All-cons (λ x. x < 128) b bs (part_small b p.0) (parts_small bs p.1)

word_ascii : (bs : List ℕ) → IsTrue (is_word bs) → IsAscii bs
word_ascii [] h = IsAscii-nil
word_ascii (b ∷ bs) h =
    let p = both_true (begins_word b) (list_all is_part bs) h in
    IsAscii-from_all (b ∷ bs) (All-cons (λ x. x < 128) b bs (part_small b (begin_part b p.0)) (parts_small bs p.1))

spelled_ascii : {known names : List (List ℕ)} {lexeme : List ℕ} {kind : Kind} → Spells known lexeme kind names → All IsAscii known → All IsAscii names
spelled_ascii (word w e q s) h = subst (All IsAscii) (sym s) h
spelled_ascii (sign x e q s) h = subst (All IsAscii) (sym s) h
spelled_ascii (number is small q s) h = subst (All IsAscii) (sym s) h
spelled_ascii (old_name id name at q s) h = subst (All IsAscii) (sym s) h
spelled_ascii {known} {lexeme = lexeme} (new_name name none q s) h =
    subst (All IsAscii) (sym s) (All-append IsAscii known (lexeme ∷ []) h (All-cons IsAscii lexeme [] (word_ascii lexeme name.formed) (All-nil IsAscii)))

names_ascii : {total depth : ℕ} {known : List (List ℕ)} {bs : List ℕ} {ts : List Token} {ns : List (List ℕ)} {end : Stop}
    → Lexes total depth known bs ts ns end → All IsAscii known → All IsAscii ns
names_ascii (done e t s r) h = subst (All IsAscii) (sym s) h
names_ascii (bad_byte b rest e none t s r) h = subst (All IsAscii) (sym s) h
names_ascii (bad_number lexeme rest e longest digits large t s r) h = subst (All IsAscii) (sym s) h
names_ascii (too_deep lexeme rest kind e longest spells opening deep t s) h = spelled_ascii spells h
names_ascii (next lexeme rest kind later more e longest spells shallow t tail) h = names_ascii tail (spelled_ascii spells h)

pub lexed_ascii : (text : List ℕ) (ts : List Token) (ns : List (List ℕ)) (end : Stop) → IsLexed text ts ns end → All IsAscii ns
lexed_ascii text ts ns end h = names_ascii h (All-nil IsAscii)

-- each form has the numbers of its tokens
module _ (n : ℕ) where
  -- the tokens behind a form fit, where they all do
  abbrev Leaves : {A : Type 0} → (List Token → List Token → A → Type 0) → Type 0
  Leaves {A} Is = (ts rest : List Token) (x : A) → Is ts rest x → TokensFit n ts → TokensFit n rest

  behind_separated : {A : Type 0} (Is : List Token → List Token → A → Type 0) {ts rest : List Token} {xs : List A} → Leaves Is → IsSeparated Is ts rest xs → TokensFit n ts → TokensFit n rest
  behind_separated Is leaves (IsSeparated.one x) h = leaves _ _ _ x h
  behind_separated Is leaves (IsSeparated.more comma x xs) h = behind_separated Is leaves xs (leaves _ _ _ x h).1

  behind_listed : {A : Type 0} (Is : List Token → List Token → A → Type 0) {ts rest : List Token} {xs : List A} → Leaves Is → IsListed Is ts rest xs → TokensFit n ts → TokensFit n rest
  behind_listed Is leaves IsListed.none h = h
  behind_listed Is leaves (IsListed.some xs) h = behind_separated Is leaves xs h

  behind_name : (ts rest : List Token) (x : Name) → IsName ts rest x → TokensFit n ts → TokensFit n rest
  behind_name ts rest x (IsName.is_name m) h = h.1

  behind_type : {ts rest : List Token} {at : ℕ} {x : RawType} → IsType ts rest at x → TokensFit n ts → TokensFit n rest
  behind_type (IsType.is_unit at) h = h.1
  behind_type (IsType.is_bool at) h = h.1
  behind_type (IsType.is_int at) h = h.1
  behind_type (IsType.is_pair at star close i j x y) h = (behind_type y (behind_type x h.1).1).1
  behind_type (IsType.is_sum at plus close i j x y) h = (behind_type y (behind_type x h.1).1).1
  behind_type (IsType.is_thread at a b c close i p x) h = (behind_type x h.1.1.1.1.1).1

  behind_written : {ts rest : List Token} {w : WrittenType} → IsWritten ts rest w → TokensFit n ts → TokensFit n rest
  behind_written (IsWritten.is_written x) h = behind_type x h

  expr_fits : {ts rest : List Token} {e : RawTerm} → IsExpr ts rest e → TokensFit n ts → TermFits e × TokensFit n rest
  expr_fits (IsExpr.is_var m) h = (tt, h.1)
  expr_fits (IsExpr.is_number at v) h = (h.0, h.1)
  expr_fits (IsExpr.is_true at) h = (tt, h.1)
  expr_fits (IsExpr.is_false at) h = (tt, h.1)
  expr_fits (IsExpr.is_unit_term at close) h = (tt, h.1.1)
  expr_fits (IsExpr.is_inside at close x) h = let a = expr_fits x h.1 in (a.0, a.1.1)
  expr_fits (IsExpr.is_pair_term at comma close x y) h = let a = expr_fits x h.1 in let b = expr_fits y a.1.1 in ((a.0, b.0), b.1.1)
  expr_fits (IsExpr.is_binary at mid close kind op x o y) h = let a = expr_fits x h.1 in let b = expr_fits y a.1.1 in ((a.0, b.0), b.1.1)
  expr_fits (IsExpr.is_first at a close x) h = let p = expr_fits x h.1.1 in (p.0, p.1.1)
  expr_fits (IsExpr.is_second at a close x) h = let p = expr_fits x h.1.1 in (p.0, p.1.1)
  expr_fits (IsExpr.is_negated at a close x) h = let p = expr_fits x h.1.1 in (p.0, p.1.1)
  expr_fits (IsExpr.is_left at a b c close t x) h = let p = expr_fits x (behind_written t h.1.1).1.1 in (p.0, p.1.1)
  expr_fits (IsExpr.is_right at a b c close t x) h = let p = expr_fits x (behind_written t h.1.1).1.1 in (p.0, p.1.1)

  exprs_fit : {ts rest : List Token} {es : List RawTerm} → IsSeparated IsExpr ts rest es → TokensFit n ts → TermsFit es × TokensFit n rest
  exprs_fit (IsSeparated.one x) h = let a = expr_fits x h in ((a.0, tt), a.1)
  exprs_fit (IsSeparated.more comma x xs) h = let a = expr_fits x h in let b = exprs_fit xs a.1.1 in ((a.0, b.0), b.1)

  listed_fit : {ts rest : List Token} {es : List RawTerm} → IsListed IsExpr ts rest es → TokensFit n ts → TermsFit es × TokensFit n rest
  listed_fit IsListed.none h = (tt, h)
  listed_fit (IsListed.some xs) h = exprs_fit xs h

  behind_priorities : {ts rest : List Token} {ns : List Name} → IsPriorities ts rest ns → TokensFit n ts → TokensFit n rest
  behind_priorities (IsPriorities.absent at) h = h
  behind_priorities (IsPriorities.present at close ns) h = (behind_listed IsName behind_name ns h.1).1

  mutual
    block_fits : {ts rest : List Token} {c : RawCode} → IsBlock ts rest c → TokensFit n ts → CodeFits c × TokensFit n rest
    block_fits (IsBlock.is_block at close b) h = let x = body_fits b h.1 in (x.0, x.1.1)

    body_fits : {ts rest : List Token} {b : RawBody} → IsBody ts rest b → TokensFit n ts → BodyFits b × TokensFit n rest
    body_fits (IsBody.is_ret_tail at e) h = expr_fits e h.1
    body_fits (IsBody.is_if_tail at other e x y) h = let p = expr_fits e h.1 in let a = block_fits x p.1 in let b = block_fits y a.1.1 in ((p.0, a.0, b.0), b.1)
    body_fits (IsBody.is_case_tail at i j m o e x y) h = let p = expr_fits e h.1 in let a = block_fits x p.1.1.1 in let b = block_fits y a.1.1.1 in ((p.0, a.0, b.0), b.1)
    body_fits (IsBody.is_bind m arrow at end a b) h = let x = action_fits a h.1.1 in let y = body_fits b x.1.1 in ((x.0, y.0), y.1)

    action_fits : {ts rest : List Token} {at : ℕ} {a : RawAct} → IsAction ts rest at a → TokensFit n ts → ActFits a × TokensFit n rest
    action_fits (IsAction.is_ret at e) h = expr_fits e h.1
    action_fits (IsAction.is_spawn at from close p b) h = block_fits b h.1.1.1.1
    action_fits (IsAction.is_sync at m) h = (tt, h.1.1)
    action_fits (IsAction.is_call at from close f ps es) h = let x = listed_fit es (behind_priorities ps h.1.1).1 in (x.0, x.1.1)
    action_fits (IsAction.is_do_block at b) h = block_fits b h.1
    action_fits (IsAction.is_input at) h = (tt, h.1)
    action_fits (IsAction.is_output at e) h = expr_fits e h.1

  behind_given : (ts rest : List Token) (x : Name × Name) → IsConstraint ts rest x → TokensFit n ts → TokensFit n rest
  behind_given ts rest x (IsConstraint.is_constraint p q at) h = h.1.1.1

  behind_parameter : (ts rest : List Token) (x : Parameter) → IsParameter ts rest x → TokensFit n ts → TokensFit n rest
  behind_parameter ts rest x (IsParameter.is_parameter m colon t) h = behind_written t h.1.1

  behind_head : {ts rest : List Token} {ns : List Name} {gs : List (Name × Name)} → IsHead ts rest ns gs → TokensFit n ts → TokensFit n rest
  behind_head (IsHead.absent at) h = h
  behind_head (IsHead.free at close ns) h = (behind_listed IsName behind_name ns h.1).1
  behind_head (IsHead.bound at mid close ns gs) h = (behind_separated IsConstraint behind_given gs (behind_listed IsName behind_name ns h.1).1).1

  routine_fits : {ts rest : List Token} {at : ℕ} {r : RawRoutine} → IsRoutine ts rest at r → TokensFit n ts → CodeFits r.body × TokensFit n rest
  routine_fits (IsRoutine.is_routine at by colon own t b) h = block_fits b (behind_written t h.1.1.1)

  procedure_fits : {ts rest : List Token} {f : RawProcedure} → IsProcedure ts rest f → TokensFit n ts → (f.name.id < n) × CodeFits f.routine.body × TokensFit n rest
  procedure_fits (IsProcedure.is_procedure at from close m head ps r) h =
      let x = routine_fits r (behind_listed IsParameter behind_parameter ps (behind_head head h.1.1).1).1 in
      (h.1.0, x.0, x.1)

  decls_fit : {ts rest : List Token} {ds : List Declaration} → IsDecls ts rest ds → TokensFit n ts → DeclsFit n ds × BodiesFit ds × TokensFit n rest
  decls_fit IsDecls.no_more h = (tt, tt, h)
  decls_fit (IsDecls.is_priority at end m ds) h = let x = decls_fit ds h.1.1.1 in ((h.1.0, x.0), x.1, x.2)
  decls_fit (IsDecls.is_order at less end m o ds) h = decls_fit ds h.1.1.1.1.1
  decls_fit (IsDecls.is_declared f ds) h = let y = procedure_fits f h in let x = decls_fit ds y.2 in ((y.0, x.0), (y.1, x.1), x.2)

  main_fits : {ts rest : List Token} {m : RawRoutine} → IsMain ts rest m → TokensFit n ts → CodeFits m.body
  main_fits (IsMain.is_main at r) h = (routine_fits r h.1).0

  pub program_fits : {ts : List Token} {p : RawTree} → IsProgram ts p → TokensFit n ts → Fits n p
  program_fits (IsProgram.is_program ds m) h = let x = decls_fit ds h in record { decls = x.0; bodies = x.1; body = main_fits m x.2 }
