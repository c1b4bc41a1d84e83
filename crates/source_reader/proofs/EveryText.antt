-- Every text stands for a program or has a fault: its tokens are decided, then the grammar, then its names.
use Rattle.std.proofs.Common.{◌≡◌, ◌≢◌, ℕ, List, [], ◌∷◌, Option, Some, None, length, slice_get, refl, subst, arith}
use Rattle.source_tokens.specs.declared.token.Token.{Token}
use Rattle.source_tokens.specs.declared.token.Stop.{Stop}
use Rattle.source_tokens.specs.declared.token.Stop.TheVariants as stop
use Rattle.source_tokens.specs.Lexes.{IsLexed}
use Rattle.source_tokens.proofs.Lawful.{lexed_lawful}
use Rattle.source_tokens.proofs.EveryText as tokens
use Rattle.source_grammar.specs.RawTree.{RawTree}
use Rattle.source_grammar.specs.Grammar.{IsProgram}
use Rattle.source_grammar.specs.Faults.{kinds, Viable, IsUnexpected}
use Rattle.source_grammar.specs.Laws as grammar
use Rattle.source_grammar.proofs.EveryList.{every_list}
use Rattle.source_reader.specs.declared.faults.Fault.{Fault}
use Rattle.source_reader.specs.declared.faults.Fault.TheVariants as fault
use Rattle.source_reader.specs.declared.reader.SourceFault.{SourceFault}
use Rattle.source_reader.specs.declared.reader.SourceFault.TheVariants.{BadByte, BadNumber, Unexpected, TooDeep, OutOfMemory}
use Rattle.source_reader.specs.Faults.{faults}
use Rattle.source_reader.specs.Order.{Ascends}
use Rattle.source_reader.specs.Resolved.{resolved}
use Rattle.source_reader.specs.Stands.{as_source, IsFaultOf, bad_byte, bad_number, too_deep, unexpected, cut_off, of_names}
use Rattle.source_reader.specs.Laws.{IsDecided, stands, faulty, SourceLaws}
use Rattle.source_reader.proofs.InOrder.{faults_ascend}
use Rattle.source_reader.proofs.OneFault.{one_fault, no_fault, one_program}
use Rattle.source_reader.proofs.Standing.{all_viable, all_before, past, scoped_as}

module _ (text : List ℕ) (ts : List Token) (ns : List (List ℕ)) where
  -- the tokens of the whole text are those of a program
  of_tree : (raw : RawTree) → IsLexed text ts ns stop.Done → IsProgram ts raw → (fs : List Fault) → faults raw ≡ fs → IsDecided text
  of_tree raw lexed derived [] e = stands (resolved ns raw) (record { tokens = ts; names = ns; raw = raw; lexed = lexed; derived = derived; clean = e; meant = refl })
  of_tree raw lexed derived (f ∷ rest) e =
      let up = faults_ascend ts raw (length text) derived (lexed_lawful text ts ns stop.Done lexed).in_order in
      faulty (as_source f) (of_names f lexed derived (record { before = []; after = rest; among = e; leads = (subst Ascends e up).0 }))

  -- the text stops behind tokens that begin some program
  stopped : (end : Stop) → IsLexed text ts ns end → Viable (kinds ts) → (end ≡ stop.Done → IsDecided text) → IsDecided text
  stopped stop.Done lexed viable done = done refl
  stopped (stop.BadByte at) lexed viable done = faulty (BadByte at) (bad_byte at lexed viable)
  stopped (stop.BadNumber at) lexed viable done = faulty (BadNumber at) (bad_number at lexed viable)
  stopped (stop.TooDeep at) lexed viable done = faulty (TooDeep at) (too_deep at lexed viable)

  -- the tokens leave the grammar at a token, or behind them all
  left : (end : Stop) (n : ℕ) → IsLexed text ts ns end → IsUnexpected ts n → (o : Option Token) → slice_get ts n ≡ o → IsDecided text
  left end n lexed is (Some t) e = faulty (Unexpected t.at) (unexpected n t lexed is e)
  left end n lexed is None e =
      let long = past ts n e in
      let within = is.within in
      let same : n ≡ length ts = omega (arith, long, within) in
      stopped end lexed (all_before ts n long is) (λ d. faulty (Unexpected (length text)) (cut_off (subst (IsLexed text ts ns) d lexed) (subst (IsUnexpected ts) same is)))

  with_tokens : (end : Stop) → IsLexed text ts ns end → grammar.IsDecided ts → IsDecided text
  with_tokens end lexed (grammar.stands raw derived) =
      stopped end lexed (all_viable ts raw derived) (λ d. of_tree raw (subst (IsLexed text ts ns) d lexed) derived (faults raw) refl)
  with_tokens end lexed (grammar.leaves n is) = left end n lexed is (slice_get ts n) refl

pub every_text : (text : List ℕ) → IsDecided text
every_text text = let h = tokens.every_text text in with_tokens text h.tokens h.names h.end h.lexed (every_list h.tokens)

-- want of memory is no fault of a text
in_text : (text : List ℕ) (f : SourceFault) → IsFaultOf text f → f ≢ OutOfMemory
in_text text f (bad_byte at l v) e = absurd (cc)
in_text text f (bad_number at l v) e = absurd (cc)
in_text text f (too_deep at l v) e = absurd (cc)
in_text text f (unexpected n t l is at) e = absurd (cc)
in_text text f (cut_off l is) e = absurd (cc)
in_text text f (of_names (fault.UnknownName at) l d is) e = absurd (cc)
in_text text f (of_names (fault.TwiceNamed at) l d is) e = absurd (cc)
in_text text f (of_names (fault.TooMany at what) l d is) e = absurd (cc)

pub source_laws : (text : List ℕ) → SourceLaws text
source_laws text = record {
  decided = every_text text;
  scoped = λ p s. scoped_as s.names s.raw p s.clean s.meant;
  one_program = one_program text;
  one_fault = one_fault text;
  not_both = no_fault text;
  in_text = in_text text;
}
