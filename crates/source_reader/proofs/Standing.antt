-- What a text stands for, by its tree, and what its fault is where it stands for no program.
use Rattle.std.proofs.Common.{◌≡◌, ◌≢◌, ℕ, ◌≤◌, ◌<◌, List, [], ◌∷◌, ◌⊎◌, inl, inr, length, slice_get, get_or, Option, Some, None, append-nil, refl, sym, subst, ◌∙◌, arith}
use Rattle.std.proofs.lemmas.List.{take_all}
use Rattle.std.proofs.lemmas.Option.{slice_get_cases}
use Rattle.priml_syntax.specs.Tree.{Tree}
use Rattle.priml_syntax.specs.Scoped.{IsScoped}
use Rattle.source_tokens.specs.declared.token.Token.{Token}
use Rattle.source_tokens.specs.declared.token.Stop.{Stop}
use Rattle.source_tokens.specs.declared.token.Stop.TheVariants as stop
use Rattle.source_tokens.specs.Lexes.{IsLexed}
use Rattle.source_tokens.proofs.Once.{lexed_once}
use Rattle.source_grammar.specs.RawTree.{RawTree}
use Rattle.source_grammar.specs.Grammar.{IsProgram}
use Rattle.source_grammar.specs.Faults.{kinds, Viable, IsUnexpected}
use Rattle.source_reader.specs.declared.faults.Fault.{Fault}
use Rattle.source_reader.specs.declared.reader.SourceFault.{SourceFault}
use Rattle.source_reader.specs.declared.reader.SourceFault.TheVariants.{BadByte, BadNumber, Unexpected, UnknownName, TwiceNamed, TooDeep, TooMany, OutOfMemory}
use Rattle.source_reader.specs.Faults.{faults}
use Rattle.source_reader.specs.Order.{Ascends}
use Rattle.source_reader.specs.Resolved.{resolved}
use Rattle.source_reader.specs.Stands.{Stands, IsFirst, IsFaultOf, bad_byte, bad_number, too_deep, unexpected, cut_off, of_names, IsRefused}
use Rattle.source_reader.specs.Inside.Written.{IsWrittenAs, IsFirstOf, stop_fault}
use Rattle.source_reader.proofs.Routines.{resolved_scoped}

-- a refusal is a fault of a text that stands for no program
pub refusal : (text : List ℕ) (e : SourceFault) → IsFaultOf text e → ((p : Tree) → Stands text p → ⊥) → IsRefused text e
refusal text (BadByte at) f none = (f, none)
refusal text (BadNumber at) f none = (f, none)
refusal text (Unexpected at) f none = (f, none)
refusal text (UnknownName at) f none = (f, none)
refusal text (TwiceNamed at) f none = (f, none)
refusal text (TooDeep at) f none = (f, none)
refusal text (TooMany at what) f none = (f, none)
refusal text OutOfMemory f none = tt

-- a text whose tokens are those of no program stands for none
pub no_program : (text : List ℕ) (ts : List Token) (ns : List (List ℕ)) (end : Stop) → IsLexed text ts ns end → ((q : RawTree) → IsProgram ts q → ⊥) → (p : Tree) → Stands text p → ⊥
no_program text ts ns end lexed none p s = none s.raw (subst (λ v. IsProgram v s.raw) (lexed_once text s.tokens ts s.names ns stop.Done end s.lexed lexed).0 s.derived)

-- and so does one that stops before its end
pub no_stopped : (text : List ℕ) (ts : List Token) (ns : List (List ℕ)) (end : Stop) → IsLexed text ts ns end → (stop.Done ≡ end → ⊥) → (p : Tree) → Stands text p → ⊥
no_stopped text ts ns end lexed stopped p s = stopped (lexed_once text s.tokens ts s.names ns stop.Done end s.lexed lexed).2

-- the fault at which a text stops, where all tokens before it begin some program
pub stopped_at : (text : List ℕ) (ts : List Token) (ns : List (List ℕ)) (end : Stop) (e : SourceFault) → stop_fault end ≡ Some e → IsLexed text ts ns end → Viable (kinds ts) → IsRefused text e
stopped_at text ts ns stop.Done e is lexed viable = absurd (cc)
stopped_at text ts ns (stop.BadByte at) e is lexed viable =
    let same : BadByte at ≡ e = cc in
    subst (IsRefused text) same (bad_byte at lexed viable, no_stopped text ts ns (stop.BadByte at) lexed (λ q. absurd (cc)))
stopped_at text ts ns (stop.BadNumber at) e is lexed viable =
    let same : BadNumber at ≡ e = cc in
    subst (IsRefused text) same (bad_number at lexed viable, no_stopped text ts ns (stop.BadNumber at) lexed (λ q. absurd (cc)))
stopped_at text ts ns (stop.TooDeep at) e is lexed viable =
    let same : TooDeep at ≡ e = cc in
    subst (IsRefused text) same (too_deep at lexed viable, no_stopped text ts ns (stop.TooDeep at) lexed (λ q. absurd (cc)))

-- the tokens of a program begin one
pub all_viable : (ts : List Token) (q : RawTree) → IsProgram ts q → Viable (kinds ts)
all_viable ts q is = record { tokens = ts; more = []; tree = q; same = refl; is = subst (λ v. IsProgram v q) (sym (append-nil ts)) is }

-- a token with which the text leaves the grammar
pub leaves : (text : List ℕ) (ts : List Token) (ns : List (List ℕ)) (end : Stop) (n : ℕ) (t : Token) → IsLexed text ts ns end → IsUnexpected ts n → slice_get ts n ≡ Some t → IsRefused text (Unexpected t.at)
leaves text ts ns end n t lexed is at = (unexpected n t lexed is at, no_program text ts ns end lexed is.none)

-- no token stands behind them all
pub past : (ts : List Token) (n : ℕ) → slice_get ts n ≡ None → length ts ≤ n
past ts n none = by (slice_get_cases ts n).1 where
  by : ((t : Token) × (n < length ts) × (slice_get ts n ≡ Some t) × (get_or ts n t ≡ t)) ⊎ ((length ts ≤ n) × (slice_get ts n ≡ None)) → length ts ≤ n
  by (inl some) = let clash : ◌≡◌ {A = Option Token} None (Some some.0) = sym none ∙ some.2 in absurd (cc)
  by (inr h) = h.0

-- all tokens begin some program and are none, and the text stops behind them
pub all_before : (ts : List Token) (n : ℕ) → length ts ≤ n → IsUnexpected ts n → Viable (kinds ts)
all_before ts n l is = subst (λ v. Viable (kinds v)) (take_all n ts l) is.before

pub stops_behind : (text : List ℕ) (ts : List Token) (ns : List (List ℕ)) (end : Stop) (n : ℕ) (e : SourceFault) → length ts ≤ n → IsUnexpected ts n → stop_fault end ≡ Some e → IsLexed text ts ns end → IsRefused text e
stops_behind text ts ns end n e l is stops lexed = stopped_at text ts ns end e stops lexed (all_before ts n l is)

-- or ends there
pub ends_behind : (text : List ℕ) (ts : List Token) (ns : List (List ℕ)) (end : Stop) (n : ℕ) → length ts ≤ n → IsUnexpected ts n → stop_fault end ≡ None → IsLexed text ts ns end → IsRefused text (Unexpected (length text))
ends_behind text ts ns stop.Done n l is ends lexed =
    let w = is.within in
    let same : n ≡ length ts = omega (arith, l, w) in
    (cut_off lexed (subst (IsUnexpected ts) same is), no_program text ts ns stop.Done lexed is.none)
ends_behind text ts ns (stop.BadByte at) n l is ends lexed = absurd (cc)
ends_behind text ts ns (stop.BadNumber at) n l is ends lexed = absurd (cc)
ends_behind text ts ns (stop.TooDeep at) n l is ends lexed = absurd (cc)

-- only a text that is read to its end has no fault there
pub is_done : (end : Stop) → stop_fault end ≡ None → end ≡ stop.Done
is_done stop.Done e = refl
is_done (stop.BadByte at) e = absurd (cc)
is_done (stop.BadNumber at) e = absurd (cc)
is_done (stop.TooDeep at) e = absurd (cc)

-- no other tree is written in the text
abbrev pub IsOnly : List ℕ → List (List ℕ) → RawTree → Type 0
IsOnly text names raw = (ns : List (List ℕ)) (q : RawTree) → IsWrittenAs text ns q → (ns ≡ names) × (q ≡ raw)

pub only_tree : (text : List ℕ) (ts : List Token) (ns : List (List ℕ)) (raw : RawTree) → IsLexed text ts ns stop.Done → ((q : RawTree) → IsProgram ts q → q ≡ raw) → IsOnly text ns raw
only_tree text ts ns raw lexed only ms q w =
    let same = lexed_once text w.tokens ts ms ns stop.Done stop.Done w.lexed lexed in
    (same.1, only q (subst (λ v. IsProgram v q) same.0 w.derived))

as_written : (text : List ℕ) (p : Tree) (s : Stands text p) → IsWrittenAs text s.names s.raw
as_written text p s = record { tokens = s.tokens; lexed = s.lexed; derived = s.derived }

-- the program of a tree without faults is in scope
pub scoped_as : (ns : List (List ℕ)) (raw : RawTree) (p : Tree) → faults raw ≡ [] → resolved ns raw ≡ p → IsScoped p
scoped_as ns raw p clean meant = subst IsScoped meant (resolved_scoped ns raw clean)

same_meaning : (ns ms : List (List ℕ)) (raw q : RawTree) → ms ≡ ns → q ≡ raw → resolved ms q ≡ resolved ns raw
same_meaning ns ms raw q a b = rw (a, b) refl

pub only_as : (text : List ℕ) (ns : List (List ℕ)) (raw : RawTree) (p : Tree) → IsOnly text ns raw → resolved ns raw ≡ p → (q : Tree) → Stands text q → q ≡ p
only_as text ns raw p only meant = λ q s. let same = only s.names s.raw (as_written text q s) in sym s.meant ∙ same_meaning ns s.names raw s.raw same.0 same.1 ∙ meant

-- the first fault of names and limits is the fault of the text
names_fault : (text : List ℕ) (ns : List (List ℕ)) (raw : RawTree) (e : SourceFault) → IsWrittenAs text ns raw → IsOnly text ns raw → Ascends (faults raw) → IsFirstOf (faults raw) e → IsRefused text e
names_fault text ns raw e w only up first =
    let f = first.fault in
    let is : IsFirst f (faults raw) = record { before = []; after = first.rest; among = first.among; leads = (subst Ascends first.among up).0 } in
    let none : (p : Tree) → Stands text p → ⊥ = λ p s. let same = only s.names s.raw (as_written text p s) in let c : faults raw ≡ [] = subst (λ q. faults q ≡ []) same.1 s.clean in let d : ◌≡◌ {A = List Fault} [] (f ∷ first.rest) = sym c ∙ first.among in absurd (cc) in
    refusal text e (subst (IsFaultOf text) (sym first.is) (of_names f w.lexed w.derived is)) none

pub refuses : (text : List ℕ) (ns : List (List ℕ)) (raw : RawTree) (e : SourceFault) → IsWrittenAs text ns raw → IsOnly text ns raw → Ascends (faults raw)
    → (e ≢ OutOfMemory → IsFirstOf (faults raw) e) → IsRefused text e
refuses text ns raw (BadByte at) w only up h = names_fault text ns raw (BadByte at) w only up (h (λ q. absurd (cc)))
refuses text ns raw (BadNumber at) w only up h = names_fault text ns raw (BadNumber at) w only up (h (λ q. absurd (cc)))
refuses text ns raw (Unexpected at) w only up h = names_fault text ns raw (Unexpected at) w only up (h (λ q. absurd (cc)))
refuses text ns raw (UnknownName at) w only up h = names_fault text ns raw (UnknownName at) w only up (h (λ q. absurd (cc)))
refuses text ns raw (TwiceNamed at) w only up h = names_fault text ns raw (TwiceNamed at) w only up (h (λ q. absurd (cc)))
refuses text ns raw (TooDeep at) w only up h = names_fault text ns raw (TooDeep at) w only up (h (λ q. absurd (cc)))
refuses text ns raw (TooMany at what) w only up h = names_fault text ns raw (TooMany at what) w only up (h (λ q. absurd (cc)))
refuses text ns raw OutOfMemory w only up h = tt
