-- The forms of procedures and programs, as a reading function meets them: what was read is known by equations.
use Rattle.std.proofs.Common.{ℕ, List, [], ◌∷◌, ◌++◌, ◌≡◌, map, refl, ap}
use Rattle.source_tokens.specs.declared.token.Token.{Token}
use Rattle.source_tokens.specs.declared.token.Word.TheVariants as w
use Rattle.source_tokens.specs.declared.token.Sign.TheVariants as s
use Rattle.source_grammar.specs.declared.raw.Name.{Name}
use Rattle.source_grammar.specs.declared.raw.RawParam.{RawParam}
use Rattle.source_grammar.specs.declared.raw.RawDecl.{RawDecl}
use Rattle.source_grammar.specs.Inside.Joined.{EndsHead}
use Rattle.source_grammar.specs.RawTree.{WrittenType, RawCode, Parameter, RawRoutine, RawProcedure, Declaration, priority, order, procedure, RawTree}
use Rattle.source_grammar.specs.RawRead.{read_param, read_decl}
use Rattle.source_grammar.specs.Grammar.{sign, word, name, IsListed, IsSeparated, IsName, IsConstraint, IsParameter, IsWritten, IsBlock, IsHead, IsRoutine, IsProcedure, IsDecls, IsMain, IsProgram}
use Rattle.source_grammar.proofs.CommaLists.{listed_map}

-- The head of a procedure.
pub absent_made : (old new : List Token) (at : ℕ) (ns : List Name) (gs : List (Name × Name)) → old ≡ sign at s.OpenParen ∷ new → ns ≡ [] → gs ≡ []
    → (i : ℕ) × IsHead old (sign i s.OpenParen ∷ new) ns gs
absent_made old new at ns gs e f g = (at, rw (e, f, g) (IsHead.absent at))

pub variables_made : (old a b new : List Token) (at : ℕ) (ns : List Name) (gs : List (Name × Name)) → old ≡ sign at s.OpenBracket ∷ a
    → IsListed (λ ts rest n. IsName ts rest n) a b ns → EndsHead b new gs → (i : ℕ) × IsHead old (sign i s.OpenParen ∷ new) ns gs
variables_made old a b new at ns gs e h f = (f.0, rw e (f.1 at a ns h))

pub no_given_made : (old a new : List Token) (close i : ℕ) (gs : List (Name × Name)) → old ≡ sign close s.CloseBracket ∷ a → a ≡ sign i s.OpenParen ∷ new → gs ≡ [] → EndsHead old new gs
no_given_made old a new close i gs p q r = (i, λ at ts ns h. rw (r, ← q) (IsHead.free at close (rw p at h)))

pub given_made : (old a b c new : List Token) (mid close i : ℕ) (gs : List (Name × Name)) → old ≡ sign mid s.Semicolon ∷ a → IsSeparated (λ ts rest g. IsConstraint ts rest g) a b gs
    → b ≡ sign close s.CloseBracket ∷ c → c ≡ sign i s.OpenParen ∷ new → EndsHead old new gs
given_made old a b c new mid close i gs p g q r = (i, λ at ts ns h. IsHead.bound at mid close (rw p at h) (rw (q, r) at g))

-- Routines.
pub routine_made : (a b c d e new : List Token) (at by colon : ℕ) (own : Name) (ty : WrittenType) (body : RawCode) → a ≡ word by w.At ∷ b → b ≡ name own ∷ c
    → c ≡ sign colon s.Colon ∷ d → IsWritten d e ty → IsBlock e new body → IsRoutine a new at (record { at = at; own = own; result = ty; body = body })
routine_made a b c d e new at by colon own ty body q r x t y = rw (q, r, x) (IsRoutine.is_routine at by colon own t y)

pub procedure_found : (o1 o2 o3 o4 o5 o6 new : List Token) (at from close : ℕ) (n : Name) (ns : List Name) (gs : List (Name × Name)) (ps : List Parameter) (r : RawRoutine)
    → o1 ≡ word at w.Proc ∷ o2 → o2 ≡ name n ∷ o3 → IsHead o3 (sign from s.OpenParen ∷ o4) ns gs → IsListed IsParameter o4 o5 ps
    → o5 ≡ sign close s.CloseParen ∷ o6 → IsRoutine o6 new at r → IsProcedure o1 new (record { name = n; vars = ns; given = gs; params = ps; routine = r })
procedure_found o1 o2 o3 o4 o5 o6 new at from close n ns gs ps r p q h l c x = rw (p, q) (IsProcedure.is_procedure at from close n h (rw c at l) x)

-- a routine is at its place
routine_again : {ts rest : List Token} {at : ℕ} {r : RawRoutine} → IsRoutine ts rest at r → IsRoutine ts rest at (record { at = at; own = r.own; result = r.result; body = r.body })
routine_again (IsRoutine.is_routine at by colon own t b) = IsRoutine.is_routine at by colon own t b

pub procedure_made : (o1 o2 o3 o4 o5 o6 new : List Token) (at from close : ℕ) (n : Name) (ns : List Name) (gs : List (Name × Name)) (ps : List RawParam) (r : RawRoutine)
    → o1 ≡ word at w.Proc ∷ o2 → o2 ≡ name n ∷ o3 → IsHead o3 (sign from s.OpenParen ∷ o4) ns gs → IsListed (λ ts rest p. IsParameter ts rest (read_param p)) o4 o5 ps
    → o5 ≡ sign close s.CloseParen ∷ o6 → IsRoutine o6 new at r → IsProcedure o1 new (record { name = n; vars = ns; given = gs; params = map read_param ps; routine = record { at = at; own = r.own; result = r.result; body = r.body } })
procedure_made o1 o2 o3 o4 o5 o6 new at from close n ns gs ps r p q h l c x =
    procedure_found o1 o2 o3 o4 o5 o6 new at from close n ns gs (map read_param ps) (record { at = at; own = r.own; result = r.result; body = r.body }) p q h (listed_map read_param l) c (routine_again x)

-- Declarations and the main procedure.
pub priority_made : (old a b new : List Token) (at end : ℕ) (n : Name) → old ≡ word at w.Priority ∷ a → a ≡ name n ∷ b → b ≡ sign end s.Semicolon ∷ new → IsDecls old new (priority n ∷ [])
priority_made old a b new at end n p q r = rw (p, q, r) (IsDecls.is_priority at end n IsDecls.no_more)

pub order_made : (old a b c d new : List Token) (at less end : ℕ) (m n : Name) → old ≡ word at w.Order ∷ a → a ≡ name m ∷ b
    → b ≡ sign less s.Less ∷ c → c ≡ name n ∷ d → d ≡ sign end s.Semicolon ∷ new → IsDecls old new (order at m n ∷ [])
order_made old a b c d new at less end m n p q r x y = rw (p, q, r, x, y) (IsDecls.is_order at less end m n IsDecls.no_more)

pub declared_made : (old new : List Token) (f : RawProcedure) → IsProcedure old new f → IsDecls old new (procedure f ∷ [])
declared_made old new f h = IsDecls.is_declared h IsDecls.no_more

pub decls_join : {old mid new : List Token} {ds es : List Declaration} → IsDecls old mid ds → IsDecls mid new es → IsDecls old new (ds ++ es)
decls_join IsDecls.no_more h = h
decls_join (IsDecls.is_priority at end n d) h = IsDecls.is_priority at end n (decls_join d h)
decls_join (IsDecls.is_order at less end m n d) h = IsDecls.is_order at less end m n (decls_join d h)
decls_join (IsDecls.is_declared f d) h = IsDecls.is_declared f (decls_join d h)

map_push : (ds : List RawDecl) (d : RawDecl) → map read_decl (ds ++ d ∷ []) ≡ map read_decl ds ++ read_decl d ∷ []
map_push [] d = refl
map_push (x ∷ xs) d = ap (λ z. read_decl x ∷ z) (map_push xs d)

pub decls_push : {old mid new : List Token} (ds : List RawDecl) (d : RawDecl) → IsDecls old mid (map read_decl ds) → IsDecls mid new (read_decl d ∷ []) → IsDecls old new (map read_decl (ds ++ d ∷ []))
decls_push ds d g h = rw (map_push ds d) (decls_join g h)

pub main_made : (old a new : List Token) (at : ℕ) (r : RawRoutine) → old ≡ word at w.Main ∷ a → IsRoutine a new at r → IsMain old new r
main_made old a new at r e h = rw e (IsMain.is_main at h)

pub more_declared : {old new : List Token} {d : Declaration} {p : RawTree} → IsDecls old new (d ∷ []) → IsProgram new p → IsProgram old (record { decls = d ∷ p.decls; main = p.main })
more_declared h (IsProgram.is_program ds m) = IsProgram.is_program (decls_join h ds) m

pub program_made : (old mid new : List Token) (ds : List Declaration) (m : RawRoutine) → IsDecls old mid ds → IsMain mid new m → new ≡ [] → IsProgram old (record { decls = ds; main = m })
program_made old mid new ds m d x e = IsProgram.is_program d (rw e at x)

pub ruleset forms = (absent_made, variables_made, no_given_made, given_made, priority_made, declared_made)
