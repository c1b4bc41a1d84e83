-- A text stands for one program at most, has one fault at most, and no fault where it stands for a program.
use Rattle.std.proofs.Common.{◌≡◌, ◌≢◌, ℕ, ◌+◌, ◌≤◌, ◌<◌, List, [], ◌∷◌, ◌++◌, length, take, drop, slice_get, Option, Some, None, append_assoc, refl, sym, ap, subst, ◌∙◌, arith, Result, Ok, Err}
use Rattle.std.specs.Prelude.{IfErr}
use Rattle.std.specs.Result.{IsErrAnd}
use Rattle.std.proofs.lemmas.List.{take-append-drop, take-append-le, length-take-le, take-map}
use Rattle.std.proofs.lemmas.Option.{slice_get_within}
use Rattle.std.proofs.Math.Seq.{take-append_seam, take-length}
use Rattle.priml_syntax.specs.Tree.{Tree}
use Rattle.source_tokens.specs.declared.token.Token.{Token}
use Rattle.source_tokens.specs.declared.token.Stop.{Stop}
use Rattle.source_tokens.specs.declared.token.Stop.TheVariants as stop
use Rattle.source_tokens.specs.Lexes.{IsLexed}
use Rattle.source_tokens.proofs.Once.{lexed_once}
use Rattle.source_grammar.specs.RawTree.{RawTree}
use Rattle.source_grammar.specs.Grammar.{IsProgram}
use Rattle.source_grammar.specs.Faults.{kinds, Viable, IsUnexpected}
use Rattle.source_grammar.proofs.Unique.{program_unique}
use Rattle.source_reader.specs.declared.faults.Fault.{Fault}
use Rattle.source_reader.specs.declared.reader.SourceFault.{SourceFault}
use Rattle.source_reader.specs.declared.reader.SourceFault.TheVariants.{BadByte, BadNumber, Unexpected, UnknownName, TwiceNamed, TooDeep, TooMany, OutOfMemory}
use Rattle.source_reader.specs.Faults.{faults}
use Rattle.source_reader.specs.Resolved.{resolved}
use Rattle.source_reader.specs.Stands.{Stands, IsFirst, as_source, IsFaultOf, bad_byte, bad_number, too_deep, unexpected, cut_off, of_names, IsRefused}
use Rattle.source_reader.specs.Inside.Written.{stop_fault}
use Rattle.source_reader.proofs.Ordered.{one_first}

-- a front of tokens that begin some program begins one
front_viable : (front rest : List Token) → Viable (kinds (front ++ rest)) → Viable (kinds front)
front_viable front rest v =
    let n = length front in
    let whole : take n v.tokens ++ drop n v.tokens ≡ v.tokens = take-append-drop n v.tokens in
    record {
      tokens = take n v.tokens;
      more = drop n v.tokens ++ v.more;
      tree = v.tree;
      same = sym (take-map (λ (t : Token). t.kind) n v.tokens) ∙ ap (take n) v.same ∙ take-map (λ (t : Token). t.kind) n (front ++ rest) ∙ ap kinds (take-append_seam front rest);
      is = subst (λ ts. IsProgram ts v.tree) (append_assoc (take n v.tokens) (drop n v.tokens) v.more) (subst (λ ts. IsProgram (ts ++ v.more) v.tree) (sym whole) v.is);
    }

shorter_viable : (ts : List Token) (k m : ℕ) → k ≤ m → m ≤ length ts → Viable (kinds (take m ts)) → Viable (kinds (take k ts))
shorter_viable ts k m l within v =
    let long = take m ts in
    let fits : k ≤ length long = omega (arith, l, length-take-le m ts within) in
    let same : take k ts ≡ take k long = ap (take k) (sym (take-append-drop m ts)) ∙ take-append-le k long (drop m ts) fits in
    subst (λ us. Viable (kinds us)) (sym same) (front_viable (take k long) (drop k long) (subst (λ us. Viable (kinds us)) (sym (take-append-drop k long)) v))

-- tokens leave the grammar at one place
no_later : (ts : List Token) (m n : ℕ) → IsUnexpected ts m → IsUnexpected ts n → m < n → ⊥
no_later ts m n a b l = let w = b.within in a.here (omega (arith, l, w)) (shorter_viable ts (m + 1) n (omega (arith, l)) w b.before)

one_place : (ts : List Token) (m n : ℕ) → IsUnexpected ts m → IsUnexpected ts n → m ≡ n
one_place ts m n a b = grind (arith, no_later ts m n a b, no_later ts n m b a)

-- and only where not all of them begin some program
not_all : (ts : List Token) (n : ℕ) → n < length ts → IsUnexpected ts n → Viable (kinds ts) → ⊥
not_all ts n l is v = is.here l (shorter_viable ts (n + 1) (length ts) (omega (arith, l)) (omega arith) (subst (λ us. Viable (kinds us)) (sym (take-length ts)) v))

-- why a text of these tokens and this end has the fault
data Why (text : List ℕ) (ts : List Token) (end : Stop) (f : SourceFault) : Type 0 where
  stopped : stop_fault end ≡ Some f → Viable (kinds ts) → Why text ts end f
  left : (n : ℕ) (t : Token) → IsUnexpected ts n → slice_get ts n ≡ Some t → f ≡ Unexpected t.at → Why text ts end f
  cut : end ≡ stop.Done → IsUnexpected ts (length ts) → f ≡ Unexpected (length text) → Why text ts end f
  named : (raw : RawTree) (g : Fault) → end ≡ stop.Done → IsProgram ts raw → IsFirst g (faults raw) → f ≡ as_source g → Why text ts end f

record Found (text : List ℕ) (f : SourceFault) : Type 0 where
  tokens : List Token
  names : List (List ℕ)
  end : Stop
  lexed : IsLexed text tokens names end
  why : Why text tokens end f

found : {text : List ℕ} {f : SourceFault} → IsFaultOf text f → Found text f
found (bad_byte {tokens = ts} {names = ns} at l v) = record { tokens = ts; names = ns; end = stop.BadByte at; lexed = l; why = stopped refl v }
found (bad_number {tokens = ts} {names = ns} at l v) = record { tokens = ts; names = ns; end = stop.BadNumber at; lexed = l; why = stopped refl v }
found (too_deep {tokens = ts} {names = ns} at l v) = record { tokens = ts; names = ns; end = stop.TooDeep at; lexed = l; why = stopped refl v }
found (unexpected {tokens = ts} {names = ns} {end = end} n t l is at) = record { tokens = ts; names = ns; end = end; lexed = l; why = left n t is at refl }
found (cut_off {tokens = ts} {names = ns} l is) = record { tokens = ts; names = ns; end = stop.Done; lexed = l; why = cut refl is refl }
found (of_names {tokens = ts} {names = ns} {raw = raw} f l d is) = record { tokens = ts; names = ns; end = stop.Done; lexed = l; why = named raw f refl d is refl }

-- a text that is read to its end does not stop before it
not_stopped : (end : Stop) (f : SourceFault) → stop_fault end ≡ Some f → end ≡ stop.Done → ⊥
not_stopped end f is done = let clash : ◌≡◌ {A = Option SourceFault} None (Some f) = sym (ap stop_fault done) ∙ is in absurd (cc)

one_token : (ts : List Token) (m n : ℕ) (t u : Token) → m ≡ n → slice_get ts m ≡ Some t → slice_get ts n ≡ Some u → t ≡ u
one_token ts m n t u e a b = let c : slice_get ts m ≡ slice_get ts n = ap (slice_get ts) e in cc

module _ {text : List ℕ} {ts : List Token} {end : Stop} where
  one_reason : {f g : SourceFault} → Why text ts end f → Why text ts end g → f ≡ g
  one_reason (stopped a v) (stopped b w) = cc
  one_reason (stopped a v) (left n t is at e) = absurd (not_all ts n (slice_get_within ts n t at) is v)
  one_reason {f} (stopped a v) (cut done is e) = absurd (not_stopped end f a done)
  one_reason {f} (stopped a v) (named raw h done d is e) = absurd (not_stopped end f a done)
  one_reason (left n t is at e) (stopped a v) = absurd (not_all ts n (slice_get_within ts n t at) is v)
  one_reason (left n t is at e) (left m u other there q) = e ∙ ap (λ (x : Token). Unexpected x.at) (one_token ts n m t u (one_place ts n m is other) at there) ∙ sym q
  one_reason (left n t is at e) (cut done other q) = absurd (no_later ts n (length ts) is other (slice_get_within ts n t at))
  one_reason (left n t is at e) (named raw h done d first q) = absurd (is.none raw d)
  one_reason {g = g} (cut done is e) (stopped a v) = absurd (not_stopped end g a done)
  one_reason (cut done is e) (left m u other there q) = absurd (no_later ts m (length ts) other is (slice_get_within ts m u there))
  one_reason (cut done is e) (cut read other q) = e ∙ sym q
  one_reason (cut done is e) (named raw h read d first q) = absurd (is.none raw d)
  one_reason {g = g} (named raw h done d first e) (stopped a v) = absurd (not_stopped end g a done)
  one_reason (named raw h done d first e) (left m u other there q) = absurd (other.none raw d)
  one_reason (named raw h done d first e) (cut read other q) = absurd (other.none raw d)
  one_reason (named raw h done d first e) (named tree k read c least q) =
      e ∙ ap as_source (one_first h k (faults raw) first (subst (λ r. IsFirst k (faults r)) (program_unique ts tree raw c d) least)) ∙ sym q

-- a text has one fault at most
pub one_fault : (text : List ℕ) (f g : SourceFault) → IsFaultOf text f → IsFaultOf text g → f ≡ g
one_fault text f g is other =
    let a = found is in
    let b = found other in
    let same = lexed_once text b.tokens a.tokens b.names a.names b.end a.end b.lexed a.lexed in
    one_reason a.why (subst (λ ts. Why text ts a.end g) same.0 (subst (λ end. Why text b.tokens end g) same.2 b.why))

-- a program without faults has no first one
none_first : (f : Fault) (fs : List Fault) → fs ≡ [] → IsFirst f fs → ⊥
none_first f fs none is = by is.before (sym none ∙ is.among) where
  by : (bs : List Fault) → ◌≡◌ {A = List Fault} [] (bs ++ f ∷ is.after) → ⊥
  by [] e = absurd (cc)
  by (b ∷ bs) e = absurd (cc)

no_reason : {text : List ℕ} {ts : List Token} {end : Stop} {f : SourceFault} (raw : RawTree) → end ≡ stop.Done → IsProgram ts raw → faults raw ≡ [] → Why text ts end f → ⊥
no_reason {end = end} {f = f} raw done d clean (stopped a v) = not_stopped end f a done
no_reason raw done d clean (left n t is at e) = is.none raw d
no_reason raw done d clean (cut read is e) = is.none raw d
no_reason {ts = ts} raw done d clean (named tree g read c first e) = none_first g (faults raw) clean (subst (λ r. IsFirst g (faults r)) (program_unique ts tree raw c d) first)

-- and none where it stands for a program
pub no_fault : (text : List ℕ) (p : Tree) (f : SourceFault) → Stands text p → IsFaultOf text f → ⊥
no_fault text p f s is =
    let a = found is in
    let same = lexed_once text s.tokens a.tokens s.names a.names stop.Done a.end s.lexed a.lexed in
    no_reason s.raw (sym same.2) (subst (λ ts. IsProgram ts s.raw) same.0 s.derived) s.clean a.why

-- a text stands for one program at most
pub one_program : (text : List ℕ) (p q : Tree) → Stands text p → Stands text q → p ≡ q
one_program text p q a b =
    let same = lexed_once text a.tokens b.tokens a.names b.names stop.Done stop.Done a.lexed b.lexed in
    let raws : a.raw ≡ b.raw = program_unique b.tokens a.raw b.raw (subst (λ ts. IsProgram ts a.raw) same.0 a.derived) b.derived in
    sym a.meant ∙ ap (λ names. resolved names a.raw) same.1 ∙ ap (resolved b.names) raws ∙ b.meant

-- so the fault of a refusal is the only one
refusal_fault : (text : List ℕ) (e : SourceFault) → e ≢ OutOfMemory → IsRefused text e → IsFaultOf text e
refusal_fault text (BadByte at) some h = h.0
refusal_fault text (BadNumber at) some h = h.0
refusal_fault text (Unexpected at) some h = h.0
refusal_fault text (UnknownName at) some h = h.0
refusal_fault text (TwiceNamed at) some h = h.0
refusal_fault text (TooDeep at) some h = h.0
refusal_fault text (TooMany at what) some h = h.0
refusal_fault text OutOfMemory some h = absurd (some refl)

refused_once : (text : List ℕ) (e : SourceFault) → IsRefused text e → e ≢ OutOfMemory → (f : SourceFault) → IsFaultOf text f → f ≡ e
refused_once text e h some f is = one_fault text f e is (refusal_fault text e some h)

pub once_if : {A : Type 0} (text : List ℕ) (result : Result A SourceFault) → IfErr result (IsRefused text) → IfErr result (λ e. e ≢ OutOfMemory → (f : SourceFault) → IsFaultOf text f → f ≡ e)
once_if text (Ok x) h = tt
once_if text (Err e) h = refused_once text e h

-- and the one that a `?` hands on is refused as it was
pub handed : {A : Type 0} (text : List ℕ) (e : SourceFault) (result : Result A SourceFault) → IsErrAnd result (λ y. y ≡ e) → IsRefused text e → IfErr result (IsRefused text)
handed text e (Ok x) is h = absurd is
handed text e (Err y) is h = subst (IsRefused text) (sym is) h
