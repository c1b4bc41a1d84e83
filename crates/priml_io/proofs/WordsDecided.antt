-- All words are a command, or have a fault.
use Rattle.std.proofs.Common.{◌≡◌, ◌≢◌, ℕ, ◌+◌, ◌<◌, inl, inr, ◌⊎◌, List, [], ◌∷◌, length, Result, Ok, Err, refl, sym, ap, ◌∙◌, arith}
use Rattle.priml_io.specs.declared.words.Command.{Command}
use Rattle.priml_io.specs.declared.words.Command.TheVariants as command
use Rattle.priml_io.specs.declared.words.Name.{Name}
use Rattle.priml_io.specs.declared.words.Name.TheVariants as named
use Rattle.priml_io.specs.declared.words.WordsFault.{WordsFault}
use Rattle.priml_io.specs.declared.words.WordsFault.TheVariants as fault
use Rattle.priml_io.specs.Words.{ReadsWords, IsCommandLine, AreNumbers, HasFault, HasFirstFault, IsNumber, IsDigits, IsWithin, value_of, word_of, word_at, bounds}
use Rattle.priml_io.specs.Laws.{WordsAreRead}
use Rattle.priml_io.proofs.OneCommand.{by_word, found}
use Rattle.priml_io.proofs.Decided.{le_or_not, both_or_not, equal_or_not, same_text_or_not, digits_or_not}

name_or_none : (word : List ℕ) → ((n : Name) × (word ≡ word_of n)) ⊎ ((n : Name) → ¬ (word ≡ word_of n))
name_or_none word =
    elim (same_text_or_not word (word_of (by_word word))) [
      | inl e ↦ inl (by_word word, e)
      | inr un ↦ inr (λ n e. un (e ∙ ap word_of (sym (found n) ∙ ap by_word (sym e))))
    ]

-- the k-th number has its value, or one of the two faults of a number
number_or_fault : (word : List ℕ) (most k : ℕ) → IsNumber word most (value_of word) ⊎ (HasFault word most k (fault.BadNumber k) ⊎ HasFault word most k (fault.OutOfRange k))
number_or_fault word most k = go (digits_or_not word) (both_or_not (le_or_not 1 (value_of word)) (le_or_not (value_of word) most)) where
  go : IsDigits word ⊎ ¬ IsDigits word → IsWithin most (value_of word) ⊎ ¬ IsWithin most (value_of word) → IsNumber word most (value_of word) ⊎ (HasFault word most k (fault.BadNumber k) ⊎ HasFault word most k (fault.OutOfRange k))
  go (inr un) w = inr (inl (refl, un))
  go (inl d) (inl w) = inl (record { digits = d; value = refl; within = w })
  go (inl d) (inr un) = inr (inr (refl, d, un))

-- the values of the words from the k-th on, as many as there are bounds
abbrev values : ℕ → List (List ℕ) → List ℕ → List ℕ
values k words [] = []
values k words (most ∷ bs) = value_of (word_at words k) ∷ values (k + 1) words bs

-- the words from the k-th on are numbers, or one of them has the first fault
data Read (k : ℕ) (words : List (List ℕ)) (bs : List ℕ) : Type 0 where
  numbers : AreNumbers k words bs (values k words bs) → Read k words bs
  bad : (j : ℕ) → HasFirstFault k words bs (fault.BadNumber j) → Read k words bs
  beyond : (j : ℕ) → HasFirstFault k words bs (fault.OutOfRange j) → Read k words bs

read : (k : ℕ) (words : List (List ℕ)) (bs : List ℕ) → Read k words bs
read k words [] = numbers tt
read k words (most ∷ bs) = go (number_or_fault (word_at words k) most k) (read (k + 1) words bs) where
  go : IsNumber (word_at words k) most (value_of (word_at words k)) ⊎ (HasFault (word_at words k) most k (fault.BadNumber k) ⊎ HasFault (word_at words k) most k (fault.OutOfRange k)) → Read (k + 1) words bs → Read k words (most ∷ bs)
  go (inr (inl h)) rest = bad k (inl h)
  go (inr (inr h)) rest = beyond k (inl h)
  go (inl n) (numbers ns) = numbers (n, ns)
  go (inl n) (bad j h) = bad j (inr (n, h))
  go (inl n) (beyond j h) = beyond j (inr (n, h))

module _ (words : List (List ℕ)) where
  value : ℕ → ℕ
  value k = value_of (word_at words k)

  -- a command of each name, with these numbers
  command_of : (n : Name) → IsCommandLine n words → AreNumbers 1 words (bounds n) (values 1 words (bounds n)) → (r : Result Command WordsFault) × ReadsWords words r
  unfolding value
  command_of named.Check line ns = (Ok command.Check, (line, ns))
  command_of named.Serial line ns = (Ok (command.Serial (value 1)), (line, ns))
  command_of named.Report line ns = (Ok (command.Report (value 1) (value 2)), (line, ns))
  command_of named.Run line ns = (Ok (command.Run (value 1) (value 2) (value 3) (value 4)), (line, ns))
  command_of named.Trace line ns = (Ok (command.Trace (value 1) (value 2) (value 3)), (line, ns))
  command_of named.Graph line ns = (Ok (command.Graph (value 1)), (line, ns))
  command_of named.Plan line ns = (Ok (command.Plan (value 1) (value 2)), (line, ns))
  command_of named.Judge line ns = (Ok (command.Judge (value 1) (value 2)), (line, ns))
  command_of named.Sample line ns = (Ok (command.Sample (value 1) (value 2) (value 3) (value 4) (value 5)), (line, ns))

  line_read : (n : Name) → IsCommandLine n words → Read 1 words (bounds n) → (r : Result Command WordsFault) × ReadsWords words r
  line_read n line (numbers ns) = command_of n line ns
  line_read n line (bad j h) = (Err (fault.BadNumber j), (n, line, h))
  line_read n line (beyond j h) = (Err (fault.OutOfRange j), (n, line, h))

  named_read : 0 < length words → (n : Name) → word_at words 0 ≡ word_of n → (length words ≡ 1 + length (bounds n)) ⊎ (length words ≢ 1 + length (bounds n)) → (r : Result Command WordsFault) × ReadsWords words r
  named_read some n is (inl e) = line_read n (is, e) (read 1 words (bounds n))
  named_read some n is (inr un) = (Err fault.WrongCount, (n, some, is, un))

  some_read : 0 < length words → ((n : Name) × (word_at words 0 ≡ word_of n)) ⊎ ((n : Name) → ¬ (word_at words 0 ≡ word_of n)) → (r : Result Command WordsFault) × ReadsWords words r
  some_read some (inl n) = named_read some n.0 n.1 (equal_or_not (length words) (1 + length (bounds n.0)))
  some_read some (inr un) = (Err fault.UnknownCommand, (some, un))

pub all_read : WordsAreRead
all_read words =
    elim (equal_or_not (length words) 0) [
      | inl e ↦ (Err fault.NoCommand, e)
      | inr un ↦ some_read words (omega (arith, un)) (name_or_none (word_at words 0))
    ]
