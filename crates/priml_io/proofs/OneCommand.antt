-- Words are one command at most, have one fault at most, and none where they are a command.
use Rattle.std.proofs.Common.{◌≡◌, ◌≢◌, ℕ, ◌<◌, ◌+◌, ◌==◌, inl, inr, List, [], ◌∷◌, length, Result, Ok, Err, refl, sym, ap, subst, ◌∙◌, arith, if◌then◌else◌}
use Rattle.std.specs.Prelude.{get_or}
use Rattle.priml_io.specs.declared.words.Command.{Command}
use Rattle.priml_io.specs.declared.words.Command.TheVariants as command
use Rattle.priml_io.specs.declared.words.Name.{Name}
use Rattle.priml_io.specs.declared.words.Name.TheVariants as named
use Rattle.priml_io.specs.declared.words.WordsFault.{WordsFault}
use Rattle.priml_io.specs.declared.words.WordsFault.TheVariants as fault
use Rattle.priml_io.specs.Words.{ReadsWords, IsCommandLine, AreNumbers, HasFault, HasFirstFault, IsNumber, value_of, word_of, word_at, name_of, numbers_of, bounds}

-- the name of a command by the first two letters of its word
by_letters : ℕ → ℕ → Name
by_letters a b =
    if a == 99 then named.Check else if a == 116 then named.Trace else if a == 103 then named.Graph else if a == 112 then named.Plan else if a == 106 then named.Judge
    else if a == 115 then (if b == 101 then named.Serial else named.Sample) else (if b == 101 then named.Report else named.Run)

pub by_word : List ℕ → Name
unfolding by_letters
by_word w = by_letters (get_or w 0 0) (get_or w 1 0)

pub found : (n : Name) → by_word (word_of n) ≡ n
unfolding by_word
found named.Check = refl
found named.Serial = refl
found named.Report = refl
found named.Run = refl
found named.Trace = refl
found named.Graph = refl
found named.Plan = refl
found named.Judge = refl
found named.Sample = refl

-- no two commands have one word
one_name : (m n : Name) → word_of m ≡ word_of n → m ≡ n
one_name m n e = sym (found m) ∙ ap by_word e ∙ found n

-- the command of a name and its numbers
built : Name → List ℕ → Command
built named.Check ns = command.Check
built named.Serial ns = command.Serial (get_or ns 0 0)
built named.Report ns = command.Report (get_or ns 0 0) (get_or ns 1 0)
built named.Run ns = command.Run (get_or ns 0 0) (get_or ns 1 0) (get_or ns 2 0) (get_or ns 3 0)
built named.Trace ns = command.Trace (get_or ns 0 0) (get_or ns 1 0) (get_or ns 2 0)
built named.Graph ns = command.Graph (get_or ns 0 0)
built named.Plan ns = command.Plan (get_or ns 0 0) (get_or ns 1 0)
built named.Judge ns = command.Judge (get_or ns 0 0) (get_or ns 1 0)
built named.Sample ns = command.Sample (get_or ns 0 0) (get_or ns 1 0) (get_or ns 2 0) (get_or ns 3 0) (get_or ns 4 0)

rebuilt : (c : Command) → built (name_of c) (numbers_of c) ≡ c
unfolding built
rebuilt command.Check = refl
rebuilt (command.Serial l) = refl
rebuilt (command.Report p l) = refl
rebuilt (command.Run w q p l) = refl
rebuilt (command.Trace w q l) = refl
rebuilt (command.Graph l) = refl
rebuilt (command.Plan p l) = refl
rebuilt (command.Judge p l) = refl
rebuilt (command.Sample n w q p l) = refl

-- words are one list of numbers
one_list : (k : ℕ) (words : List (List ℕ)) (bs ms ns : List ℕ) → AreNumbers k words bs ms → AreNumbers k words bs ns → ms ≡ ns
one_list k words [] [] [] a b = refl
one_list k words [] [] (n ∷ ns) a b = absurd b
one_list k words [] (m ∷ ms) ns a b = absurd a
one_list k words (most ∷ bs) [] ns a b = absurd a
one_list k words (most ∷ bs) (m ∷ ms) [] a b = absurd b
one_list k words (most ∷ bs) (m ∷ ms) (n ∷ ns) a b = let e : m ≡ n = a.0.value ∙ sym b.0.value in let es : ms ≡ ns = one_list (k + 1) words bs ms ns a.1 b.1 in cc

-- numbers within their bounds have no fault
no_fault : (word : List ℕ) (most k n : ℕ) (f : WordsFault) → IsNumber word most n → HasFault word most k f → ⊥
no_fault word most k n (fault.BadNumber j) is h = h.1 is.digits
no_fault word most k n (fault.OutOfRange j) is h = h.2 (rw (← is.value) is.within)
no_fault word most k n fault.NoCommand is h = h
no_fault word most k n fault.UnknownCommand is h = h
no_fault word most k n fault.WrongCount is h = h

no_first : (k : ℕ) (words : List (List ℕ)) (bs ns : List ℕ) (f : WordsFault) → AreNumbers k words bs ns → HasFirstFault k words bs f → ⊥
no_first k words [] ns f a h = h
no_first k words (most ∷ bs) [] f a h = absurd a
no_first k words (most ∷ bs) (n ∷ ns) f a (inl h) = no_fault (word_at words k) most k n f a.0 h
no_first k words (most ∷ bs) (n ∷ ns) f a (inr h) = no_first (k + 1) words bs ns f a.1 h.1

module _ (words : List (List ℕ)) (c : Command) (is : ReadsWords words (Ok c)) where
  same : (n : Name) → word_at words 0 ≡ word_of n → n ≡ name_of c
  same n e = one_name n (name_of c) (sym e ∙ is.0.0)

  bad : (n : Name) (f : WordsFault) → n ≡ name_of c → HasFirstFault 1 words (bounds n) f → ⊥
  bad n f e h = no_first 1 words (bounds (name_of c)) (numbers_of c) f is.1 (rw e at h)

  -- what reading the words gives is this command
  pub only_command : (r : Result Command WordsFault) → ReadsWords words r → r ≡ Ok c
  only_command (Ok d) other =
      let e : name_of d ≡ name_of c = same (name_of d) other.0.0 in
      let ns : numbers_of d ≡ numbers_of c = one_list 1 words (bounds (name_of c)) (numbers_of d) (numbers_of c) (rw e at other.1) is.1 in
      ap Ok (sym (rebuilt d) ∙ ap (λ n. built n (numbers_of d)) e ∙ ap (built (name_of c)) ns ∙ rebuilt c)
  only_command (Err fault.NoCommand) h = absurd (omega (arith, h, is.0.1))
  only_command (Err fault.UnknownCommand) h = absurd (h.1 (name_of c) is.0.0)
  only_command (Err fault.WrongCount) h = absurd (h.3 (is.0.1 ∙ ap (λ n. 1 + length (bounds n)) (sym (same h.0 h.2))))
  only_command (Err (fault.BadNumber k)) h = absurd (bad h.0 (fault.BadNumber k) (same h.0 h.1.0) h.2)
  only_command (Err (fault.OutOfRange k)) h = absurd (bad h.0 (fault.OutOfRange k) (same h.0 h.1.0) h.2)

-- the k-th number's word has one fault at most
one_number_fault : (word : List ℕ) (most k : ℕ) (f g : WordsFault) → HasFault word most k f → HasFault word most k g → f ≡ g
one_number_fault word most k (fault.BadNumber i) (fault.BadNumber j) a b = ap fault.BadNumber (a.0 ∙ sym b.0)
one_number_fault word most k (fault.BadNumber i) (fault.OutOfRange j) a b = absurd (a.1 b.1)
one_number_fault word most k (fault.OutOfRange i) (fault.BadNumber j) a b = absurd (b.1 a.1)
one_number_fault word most k (fault.OutOfRange i) (fault.OutOfRange j) a b = ap fault.OutOfRange (a.0 ∙ sym b.0)
one_number_fault word most k fault.NoCommand g a b = absurd a
one_number_fault word most k fault.UnknownCommand g a b = absurd a
one_number_fault word most k fault.WrongCount g a b = absurd a
one_number_fault word most k (fault.BadNumber i) fault.NoCommand a b = absurd b
one_number_fault word most k (fault.BadNumber i) fault.UnknownCommand a b = absurd b
one_number_fault word most k (fault.BadNumber i) fault.WrongCount a b = absurd b
one_number_fault word most k (fault.OutOfRange i) fault.NoCommand a b = absurd b
one_number_fault word most k (fault.OutOfRange i) fault.UnknownCommand a b = absurd b
one_number_fault word most k (fault.OutOfRange i) fault.WrongCount a b = absurd b

one_first_fault : (k : ℕ) (words : List (List ℕ)) (bs : List ℕ) (f g : WordsFault) → HasFirstFault k words bs f → HasFirstFault k words bs g → f ≡ g
one_first_fault k words [] f g a b = absurd a
one_first_fault k words (most ∷ bs) f g (inl a) (inl b) = one_number_fault (word_at words k) most k f g a b
one_first_fault k words (most ∷ bs) f g (inl a) (inr b) = absurd (no_fault (word_at words k) most k (value_of (word_at words k)) f b.0 a)
one_first_fault k words (most ∷ bs) f g (inr a) (inl b) = absurd (no_fault (word_at words k) most k (value_of (word_at words k)) g a.0 b)
one_first_fault k words (most ∷ bs) f g (inr a) (inr b) = one_first_fault (k + 1) words bs f g a.1 b.1

-- a fault of words is one of their count and their name, or of a number of a command line
data Why (words : List (List ℕ)) (f : WordsFault) : Type 0 where
  empty : length words ≡ 0 → f ≡ fault.NoCommand → Why words f
  unknown : 0 < length words → ((n : Name) → ¬ (word_at words 0 ≡ word_of n)) → f ≡ fault.UnknownCommand → Why words f
  count : (n : Name) → 0 < length words → word_at words 0 ≡ word_of n → length words ≢ 1 + length (bounds n) → f ≡ fault.WrongCount → Why words f
  number : (n : Name) → IsCommandLine n words → HasFirstFault 1 words (bounds n) f → Why words f

why : (words : List (List ℕ)) (f : WordsFault) → ReadsWords words (Err f) → Why words f
why words fault.NoCommand h = empty h refl
why words fault.UnknownCommand h = unknown h.0 h.1 refl
why words fault.WrongCount h = count h.0 h.1 h.2 h.3 refl
why words (fault.BadNumber k) h = number h.0 h.1 h.2
why words (fault.OutOfRange k) h = number h.0 h.1 h.2

module _ (words : List (List ℕ)) (f g : WordsFault) where
  one_called : (m n : Name) → word_at words 0 ≡ word_of m → word_at words 0 ≡ word_of n → m ≡ n
  one_called m n a b = one_name m n (sym a ∙ b)

  one_count : (m n : Name) → m ≡ n → length words ≢ 1 + length (bounds m) → length words ≡ 1 + length (bounds n) → ⊥
  one_count m n e wrong right = wrong (right ∙ ap (λ x. 1 + length (bounds x)) (sym e))

  some_words : (n : Name) → IsCommandLine n words → length words ≡ 0 → ⊥
  some_words n line none = let e = line.1 in omega (arith, e, none)

  one_why : Why words f → Why words g → f ≡ g
  one_why (empty a e) (empty b q) = e ∙ sym q
  one_why (empty a e) (unknown b none q) = absurd (omega (arith, a, b))
  one_why (empty a e) (count n b is wrong q) = absurd (omega (arith, a, b))
  one_why (empty a e) (number n line h) = absurd (some_words n line a)
  one_why (unknown a none e) (empty b q) = absurd (omega (arith, a, b))
  one_why (unknown a none e) (unknown b never q) = e ∙ sym q
  one_why (unknown a none e) (count n b is wrong q) = absurd (none n is)
  one_why (unknown a none e) (number n line h) = absurd (none n line.0)
  one_why (count m a is wrong e) (empty b q) = absurd (omega (arith, a, b))
  one_why (count m a is wrong e) (unknown b none q) = absurd (none m is)
  one_why (count m a is wrong e) (count n b other bad q) = e ∙ sym q
  one_why (count m a is wrong e) (number n line h) = absurd (one_count m n (one_called m n is line.0) wrong line.1)
  one_why (number m line h) (empty b q) = absurd (some_words m line b)
  one_why (number m line h) (unknown b none q) = absurd (none m line.0)
  one_why (number m line h) (count n b is wrong q) = absurd (one_count n m (one_called n m is line.0) wrong line.1)
  one_why (number m line h) (number n other k) =
      one_first_fault 1 words (bounds n) f g (subst (λ x. HasFirstFault 1 words (bounds x) f) (one_called m n line.0 other.0) h) k

-- words have one fault at most
pub one_words_fault : (words : List (List ℕ)) (f g : WordsFault) → ReadsWords words (Err f) → ReadsWords words (Err g) → f ≡ g
one_words_fault words f g a b = one_why words f g (why words f a) (why words g b)

-- reading words gives one result
pub one_reading : (words : List (List ℕ)) (r s : Result Command WordsFault) → ReadsWords words r → ReadsWords words s → r ≡ s
one_reading words r (Ok c) a b = only_command words c b r a
one_reading words (Ok c) (Err g) a b = sym (only_command words c a (Err g) b)
one_reading words (Err f) (Err g) a b = ap Err (one_words_fault words f g a b)
