-- Trees whose numbers and names are those of tokens: a number is below two to the 63, and a name is one of the text's.
use Rattle.std.specs.Prelude.{ℕ, ◌<◌, ◌^◌, List, [], ◌∷◌}
use Rattle.source_grammar.specs.RawTree.{RawTerm, var, number, bool_term, unit_term, pair_term, first, second, left, right, binary, negated, RawCode, block, RawBody, bind, ret_tail, if_tail, case_tail, RawAct, ret, spawn, sync, call, do_block, input, output, Declaration, priority, order, procedure, RawTree}

abbrev pub TermFits : RawTerm → Type 0
TermFits (var at id) = Unit {0}
TermFits (number at n) = n < 2 ^ 63
TermFits (bool_term at b) = Unit {0}
TermFits (unit_term at) = Unit {0}
TermFits (pair_term at a b) = TermFits a × TermFits b
TermFits (first at a) = TermFits a
TermFits (second at a) = TermFits a
TermFits (left at w a) = TermFits a
TermFits (right at w a) = TermFits a
TermFits (binary at op a b) = TermFits a × TermFits b
TermFits (negated at a) = TermFits a

abbrev pub TermsFit : List RawTerm → Type 0
TermsFit [] = Unit {0}
TermsFit (e ∷ es) = TermFits e × TermsFit es

abbrev mutual
  pub CodeFits : RawCode → Type 0
  CodeFits (block at b) = BodyFits b

  pub BodyFits : RawBody → Type 0
  BodyFits (bind n at a rest) = ActFits a × BodyFits rest
  BodyFits (ret_tail at e) = TermFits e
  BodyFits (if_tail at e a b) = TermFits e × CodeFits a × CodeFits b
  BodyFits (case_tail at e m a n b) = TermFits e × CodeFits a × CodeFits b

  pub ActFits : RawAct → Type 0
  ActFits (ret e) = TermFits e
  ActFits (spawn p b) = CodeFits b
  ActFits (sync h) = Unit {0}
  ActFits (call f ps es) = TermsFit es
  ActFits (do_block b) = CodeFits b
  ActFits input = Unit {0}
  ActFits (output e) = TermFits e

-- each declared priority and procedure is one of so many names
abbrev pub DeclsFit : ℕ → List Declaration → Type 0
DeclsFit n [] = Unit {0}
DeclsFit n (priority x ∷ ds) = (x.id < n) × DeclsFit n ds
DeclsFit n (order at x y ∷ ds) = DeclsFit n ds
DeclsFit n (procedure f ∷ ds) = (f.name.id < n) × DeclsFit n ds

-- the body of each procedure has numbers of tokens
abbrev pub BodiesFit : List Declaration → Type 0
BodiesFit [] = Unit {0}
BodiesFit (priority x ∷ ds) = BodiesFit ds
BodiesFit (order at x y ∷ ds) = BodiesFit ds
BodiesFit (procedure f ∷ ds) = CodeFits f.routine.body × BodiesFit ds

-- a program over so many distinct names
pub record Fits (n : ℕ) (p : RawTree) : Type 0 where
  pub decls : DeclsFit n p.decls
  pub bodies : BodiesFit p.decls
  pub body : CodeFits p.main.body
