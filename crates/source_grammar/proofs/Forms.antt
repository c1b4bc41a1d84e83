-- The forms, as a reading function meets them: what was read is known by equations.
use Rattle.std.proofs.Common.{ℕ, List, ◌∷◌, ◌≡◌, true, false, Some, refl, ap}
use Rattle.source_tokens.specs.declared.token.Token.{Token}
use Rattle.source_tokens.specs.declared.token.Kind.{Kind}
use Rattle.source_tokens.specs.declared.token.Kind.TheVariants as k
use Rattle.source_tokens.specs.declared.token.Word.TheVariants as w
use Rattle.source_tokens.specs.declared.token.Sign.TheVariants as s
use Rattle.priml_syntax.specs.declared.expr.Op.{Op}
use Rattle.priml_syntax.specs.declared.expr.Op.TheVariants as o
use Rattle.source_grammar.specs.declared.raw.Name.{Name}
use Rattle.source_grammar.specs.declared.choice.Mid.{Mid}
use Rattle.source_grammar.specs.declared.choice.Mid.TheVariants as mid
use Rattle.source_grammar.specs.declared.choice.Prefix.{Prefix}
use Rattle.source_grammar.specs.declared.choice.Prefix.TheVariants as prefix
use Rattle.source_grammar.specs.declared.choice.Side.{Side}
use Rattle.source_grammar.specs.declared.choice.Side.TheVariants as side
use Rattle.source_grammar.specs.declared.choice.Joint.{Joint}
use Rattle.source_grammar.specs.declared.choice.Joint.TheVariants as joint
use Rattle.source_grammar.specs.Inside.Next.{mid_form, joint_form, prefix_word, side_word}
use Rattle.source_grammar.specs.Inside.Joined.{mid_type, prefix_term, side_term, joint_term, IsToken}
use Rattle.source_grammar.specs.RawTree.{RawType, unit, bool, int, thread, WrittenType, RawTerm, var, number, bool_term, unit_term}
use Rattle.source_grammar.specs.Grammar.{token, sign, word, name, IsType, IsWritten, IsOp, IsExpr, IsName, IsConstraint, IsParameter}

of_kind : (t : Token) (kind : Kind) → t.kind ≡ kind → t ≡ token t.at kind
of_kind t kind h = ap (λ x. token t.at x) h

-- Types.
pub unit_made : (old new : List Token) (t : Token) → old ≡ t ∷ new → t.kind ≡ k.Word w.Unit → IsWritten old new (record { at = t.at; ty = unit })
unit_made old new t e h = rw (e, of_kind t (k.Word w.Unit) h) (IsWritten.is_written (IsType.is_unit t.at))

pub bool_made : (old new : List Token) (t : Token) → old ≡ t ∷ new → t.kind ≡ k.Word w.Bool → IsWritten old new (record { at = t.at; ty = bool })
bool_made old new t e h = rw (e, of_kind t (k.Word w.Bool) h) (IsWritten.is_written (IsType.is_bool t.at))

pub int_made : (old new : List Token) (t : Token) → old ≡ t ∷ new → t.kind ≡ k.Word w.Int → IsWritten old new (record { at = t.at; ty = int })
int_made old new t e h = rw (e, of_kind t (k.Word w.Int) h) (IsWritten.is_written (IsType.is_int t.at))

type_of : {ts rest : List Token} {t : WrittenType} → IsWritten ts rest t → IsType ts rest t.at t.ty
type_of (IsWritten.is_written h) = h

pub thread_made : (o1 o2 o3 o4 o5 o6 o7 : List Token) (at a b c d : ℕ) (p : Name) (t : WrittenType) (x : RawType)
    → o1 ≡ word at w.Thread ∷ o2 → o2 ≡ sign a s.OpenBracket ∷ o3 → o3 ≡ name p ∷ o4 → o4 ≡ sign b s.CloseBracket ∷ o5 → o5 ≡ sign c s.OpenParen ∷ o6
    → (new : List Token) → IsWritten o6 o7 t → o7 ≡ sign d s.CloseParen ∷ new → x ≡ t.ty → IsWritten o1 new (record { at = at; ty = thread p x })
thread_made o1 o2 o3 o4 o5 o6 o7 at a b c d p t x e1 e2 e3 e4 e5 new h e6 e7 =
    rw (e1, e2, e3, e4, e5, e7) (IsWritten.is_written (IsType.is_thread at a b c d t.at p (rw e6 at (type_of h))))

star_is : (kind : Kind) → mid_form kind ≡ Some mid.Star → kind ≡ k.Sign s.Star
star_is (k.Sign s.Star) h = refl
star_is (k.Sign s.Plus) h = absurd (cc)
star_is _ h = absurd (cc)

plus_is : (kind : Kind) → mid_form kind ≡ Some mid.Plus → kind ≡ k.Sign s.Plus
plus_is (k.Sign s.Plus) h = refl
plus_is (k.Sign s.Star) h = absurd (cc)
plus_is _ h = absurd (cc)

pair_type : (m : Mid) (at c x y : ℕ) (t : Token) {ts us rest : List Token} {a b : RawType} → mid_form t.kind ≡ Some m → IsType ts (t ∷ us) x a
    → IsType us (sign c s.CloseParen ∷ rest) y b → IsType (sign at s.OpenParen ∷ ts) rest at (mid_type m a b)
pair_type mid.Star at c x y t e g h = IsType.is_pair at t.at c x y (rw (of_kind t (k.Sign s.Star) (star_is t.kind e)) at g) h
pair_type mid.Plus at c x y t e g h = IsType.is_sum at t.at c x y (rw (of_kind t (k.Sign s.Plus) (plus_is t.kind e)) at g) h

pub paired_made : (o1 o2 o3 o4 o5 new : List Token) (at c : ℕ) (m : Mid) (t u : WrittenType) (x : RawType) → o1 ≡ sign at s.OpenParen ∷ o2 → IsWritten o2 o3 t
    → IsToken mid_form o3 o4 m → IsWritten o4 o5 u → o5 ≡ sign c s.CloseParen ∷ new → x ≡ mid_type m t.ty u.ty → IsWritten o1 new (record { at = at; ty = x })
paired_made o1 o2 o3 o4 o5 new at c m t u x e1 g i h e3 e4 =
    rw (e1, e4) (IsWritten.is_written (pair_type m at c t.at u.at i.0 i.2 (rw i.1 at (type_of g)) (rw e3 at (type_of h))))

-- Expressions.
pub var_made : (old new : List Token) (t : Token) (id : ℕ) → old ≡ t ∷ new → t.kind ≡ k.Name id → IsExpr old new (var t.at id)
var_made old new t id e h = rw (e, of_kind t (k.Name id) h) (IsExpr.is_var (record { at = t.at; id = id }))

pub number_made : (old new : List Token) (t : Token) (n : ℕ) → old ≡ t ∷ new → t.kind ≡ k.Number n → IsExpr old new (number t.at n)
number_made old new t n e h = rw (e, of_kind t (k.Number n) h) (IsExpr.is_number t.at n)

pub true_made : (old new : List Token) (t : Token) → old ≡ t ∷ new → t.kind ≡ k.Word w.True → IsExpr old new (bool_term t.at true)
true_made old new t e h = rw (e, of_kind t (k.Word w.True) h) (IsExpr.is_true t.at)

pub false_made : (old new : List Token) (t : Token) → old ≡ t ∷ new → t.kind ≡ k.Word w.False → IsExpr old new (bool_term t.at false)
false_made old new t e h = rw (e, of_kind t (k.Word w.False) h) (IsExpr.is_false t.at)

pub opened_made : (old a new : List Token) (at : ℕ) (x : RawTerm) → old ≡ sign at s.OpenParen ∷ a → IsExpr (sign at s.OpenParen ∷ a) new x → IsExpr old new x
opened_made old a new at x e h = rw e h

pub nothing_made : (old new : List Token) (at close : ℕ) → old ≡ sign close s.CloseParen ∷ new → IsExpr (sign at s.OpenParen ∷ old) new (unit_term at)
nothing_made old new at close e = rw e (IsExpr.is_unit_term at close)

pub closed_made : (ts old new : List Token) (at close : ℕ) (x : RawTerm) → old ≡ sign close s.CloseParen ∷ new → IsExpr ts old x → IsExpr (sign at s.OpenParen ∷ ts) new x
closed_made ts old new at close x e h = IsExpr.is_inside at close (rw e at h)

comma_is : (kind : Kind) → joint_form kind ≡ Some joint.Comma → kind ≡ k.Sign s.Comma
comma_is (k.Sign s.Comma) h = refl
comma_is (k.Word w.And) h = absurd (cc)
comma_is (k.Word w.Or) h = absurd (cc)
comma_is _ h = absurd (cc)

op_is : (kind : Kind) (op : Op) → joint_form kind ≡ Some (joint.Operator op) → IsOp kind op
op_is (k.Sign s.Plus) o.Add h = IsOp.is_add
op_is (k.Sign s.Plus) _ h = absurd (cc)
op_is (k.Sign s.Minus) o.Sub h = IsOp.is_sub
op_is (k.Sign s.Minus) _ h = absurd (cc)
op_is (k.Sign s.Star) o.Mul h = IsOp.is_mul
op_is (k.Sign s.Star) _ h = absurd (cc)
op_is (k.Sign s.Slash) o.Div h = IsOp.is_div
op_is (k.Sign s.Slash) _ h = absurd (cc)
op_is (k.Sign s.Percent) o.Rem h = IsOp.is_rem
op_is (k.Sign s.Percent) _ h = absurd (cc)
op_is (k.Sign s.Less) o.Less h = IsOp.is_less
op_is (k.Sign s.Less) _ h = absurd (cc)
op_is (k.Sign s.AtMost) o.AtMost h = IsOp.is_at_most
op_is (k.Sign s.AtMost) _ h = absurd (cc)
op_is (k.Sign s.Equal) o.Equal h = IsOp.is_equal
op_is (k.Sign s.Equal) _ h = absurd (cc)
op_is (k.Word w.And) o.And h = IsOp.is_and
op_is (k.Word w.And) _ h = absurd (cc)
op_is (k.Word w.Or) o.Or h = IsOp.is_or
op_is (k.Word w.Or) _ h = absurd (cc)
op_is _ op h = absurd (cc)

join_term : (j : Joint) (at c : ℕ) (t : Token) {ts us rest : List Token} {x y : RawTerm} → joint_form t.kind ≡ Some j → IsExpr ts (t ∷ us) x → IsExpr us (sign c s.CloseParen ∷ rest) y
    → IsExpr (sign at s.OpenParen ∷ ts) rest (joint_term j at x y)
join_term joint.Comma at c t e g h = IsExpr.is_pair_term at t.at c (rw (of_kind t (k.Sign s.Comma) (comma_is t.kind e)) at g) h
join_term (joint.Operator op) at c t e g h = IsExpr.is_binary at t.at c t.kind op g (op_is t.kind op e) h

pub joined_made : (ts o1 o2 o3 new : List Token) (at c : ℕ) (j : Joint) (x y z : RawTerm) → IsToken joint_form o1 o2 j → IsExpr o2 o3 y → o3 ≡ sign c s.CloseParen ∷ new
    → z ≡ joint_term j at x y → IsExpr ts o1 x → IsExpr (sign at s.OpenParen ∷ ts) new z
joined_made ts o1 o2 o3 new at c j x y z i g e f h = rw f (join_term j at c i.0 i.2 (rw i.1 at h) (rw e at g))

applied_term : (p : Prefix) (at a c : ℕ) {ts rest : List Token} {x : RawTerm} → IsExpr ts (sign c s.CloseParen ∷ rest) x
    → IsExpr (word at (prefix_word p) ∷ sign a s.OpenParen ∷ ts) rest (prefix_term p at x)
applied_term prefix.First at a c h = IsExpr.is_first at a c h
applied_term prefix.Second at a c h = IsExpr.is_second at a c h
applied_term prefix.Negated at a c h = IsExpr.is_negated at a c h

pub applied_made : (o1 o2 o3 o4 new : List Token) (at a c : ℕ) (p : Prefix) (x z : RawTerm) → o1 ≡ word at (prefix_word p) ∷ o2 → o2 ≡ sign a s.OpenParen ∷ o3
    → IsExpr o3 o4 x → o4 ≡ sign c s.CloseParen ∷ new → z ≡ prefix_term p at x → IsExpr o1 new z
applied_made o1 o2 o3 o4 new at a c p x z e1 e2 h e3 e4 = rw (e1, e2, e4) (applied_term p at a c (rw e3 at h))

injected_term : (d : Side) (at a b c e : ℕ) {ts us rest : List Token} {t : WrittenType} {x : RawTerm} → IsWritten ts (sign b s.CloseBracket ∷ sign c s.OpenParen ∷ us) t
    → IsExpr us (sign e s.CloseParen ∷ rest) x → IsExpr (word at (side_word d) ∷ sign a s.OpenBracket ∷ ts) rest (side_term d at t x)
injected_term side.Left at a b c e t h = IsExpr.is_left at a b c e t h
injected_term side.Right at a b c e t h = IsExpr.is_right at a b c e t h

pub injected_made : (o1 o2 o3 o4 o5 o6 o7 new : List Token) (at a b c e : ℕ) (d : Side) (t : WrittenType) (x z : RawTerm)
    → o1 ≡ word at (side_word d) ∷ o2 → o2 ≡ sign a s.OpenBracket ∷ o3 → IsWritten o3 o4 t → o4 ≡ sign b s.CloseBracket ∷ o5 → o5 ≡ sign c s.OpenParen ∷ o6
    → IsExpr o6 o7 x → o7 ≡ sign e s.CloseParen ∷ new → z ≡ side_term d at t x → IsExpr o1 new z
injected_made o1 o2 o3 o4 o5 o6 o7 new at a b c e d t x z e1 e2 g e3 e4 h e5 e6 =
    rw (e1, e2, e6) (injected_term d at a b c e (rw (e3, e4) at g) (rw e5 at h))

-- Parts of lists.
pub name_made : (old new : List Token) (n : Name) → old ≡ name n ∷ new → IsName old new n
name_made old new n e = rw e (IsName.is_name n)

pub given_made : (old a b new : List Token) (at : ℕ) (p q : Name) → old ≡ name p ∷ a → a ≡ sign at s.AtMost ∷ b → b ≡ name q ∷ new → IsConstraint old new (p, q)
given_made old a b new at p q e f g = rw (e, f, g) (IsConstraint.is_constraint p q at)

pub parameter_made : (old a b new : List Token) (colon : ℕ) (n : Name) (t : WrittenType) → old ≡ name n ∷ a → a ≡ sign colon s.Colon ∷ b → IsWritten b new t
    → IsParameter old new (record { name = n; ty = t })
parameter_made old a b new colon n t e f h = rw (e, f) (IsParameter.is_parameter n colon h)

pub ruleset forms = (given_made, parameter_made, unit_made, bool_made, int_made, var_made, number_made, true_made, false_made, opened_made, nothing_made, closed_made)
