-- The words of a command line: the table of commands, and what reading a line gives.
use Rattle.std.specs.Prelude.{◌≡◌, ◌≢◌, ℕ, ◌+◌, ◌-◌, ◌*◌, ◌≤◌, ◌<◌, ◌⊎◌, List, [], ◌∷◌, length, fold, All, slice_index_or, codes, Result, Ok, Err}
use Rattle.priml_io.specs.declared.words.Command.{Command}
use Rattle.priml_io.specs.declared.words.Command.TheVariants as command
use Rattle.priml_io.specs.declared.words.Name.{Name}
use Rattle.priml_io.specs.declared.words.Name.TheVariants as named
use Rattle.priml_io.specs.declared.words.WordsFault.{WordsFault}
use Rattle.priml_io.specs.declared.words.WordsFault.TheVariants as fault

-- the greatest values of a step limit, a number of cores, of workers, of steps in a quantum, and of a sample
abbrev pub steps : ℕ
steps = 100000

abbrev pub cores : ℕ
cores = 1024

abbrev pub workers : ℕ
workers = 16

abbrev pub quantum : ℕ
quantum = 1000

abbrev pub samples : ℕ
samples = 5000

-- the commands: the word of each, and the numbers that it takes, each from 1 to this
abbrev pub entry_of : Name → List ℕ × List ℕ
entry_of named.Check = (codes "check", [])
entry_of named.Serial = (codes "serial", steps ∷ [])
entry_of named.Report = (codes "report", cores ∷ steps ∷ [])
entry_of named.Run = (codes "run", workers ∷ quantum ∷ cores ∷ steps ∷ [])
entry_of named.Trace = (codes "trace", workers ∷ quantum ∷ steps ∷ [])
entry_of named.Graph = (codes "graph", steps ∷ [])
entry_of named.Plan = (codes "plan", cores ∷ steps ∷ [])
entry_of named.Judge = (codes "judge", cores ∷ steps ∷ [])
entry_of named.Sample = (codes "sample", samples ∷ workers ∷ quantum ∷ cores ∷ steps ∷ [])

abbrev pub word_of : Name → List ℕ
word_of name = (entry_of name).0

abbrev pub bounds : Name → List ℕ
bounds name = (entry_of name).1

-- which command it is
abbrev pub name_of : Command → Name
name_of command.Check = named.Check
name_of (command.Serial l) = named.Serial
name_of (command.Report p l) = named.Report
name_of (command.Run w q p l) = named.Run
name_of (command.Trace w q l) = named.Trace
name_of (command.Graph l) = named.Graph
name_of (command.Plan p l) = named.Plan
name_of (command.Judge p l) = named.Judge
name_of (command.Sample n w q p l) = named.Sample

-- the command's numbers, in the order of its words
abbrev pub numbers_of : Command → List ℕ
numbers_of command.Check = []
numbers_of (command.Serial l) = l ∷ []
numbers_of (command.Report p l) = p ∷ l ∷ []
numbers_of (command.Run w q p l) = w ∷ q ∷ p ∷ l ∷ []
numbers_of (command.Trace w q l) = w ∷ q ∷ l ∷ []
numbers_of (command.Graph l) = l ∷ []
numbers_of (command.Plan p l) = p ∷ l ∷ []
numbers_of (command.Judge p l) = p ∷ l ∷ []
numbers_of (command.Sample n w q p l) = n ∷ w ∷ q ∷ p ∷ l ∷ []

-- the k-th word, from 0: word 0 is the command's, and word k its k-th number
abbrev pub word_at : List (List ℕ) → ℕ → List ℕ
word_at words k = slice_index_or words k []

-- a byte is a decimal digit
abbrev pub IsDigit : ℕ → Type 0
IsDigit b = (48 ≤ b) × (b ≤ 57)

-- at least one byte, and each is a digit
abbrev pub IsDigits : List ℕ → Type 0
IsDigits word = (0 < length word) × All IsDigit word

-- the value of decimal digits
abbrev pub value_of : List ℕ → ℕ
value_of word = fold (λ v b. 10 * v + (b - 48)) 0 word

-- from 1 to the greatest value
abbrev pub IsWithin : ℕ → ℕ → Type 0
IsWithin most n = (1 ≤ n) × (n ≤ most)

-- a word is this number, from 1 to the greatest value
pub record IsNumber (word : List ℕ) (most n : ℕ) : Type 0 where
  pub digits : IsDigits word
  pub value : n ≡ value_of word
  pub within : IsWithin most n

-- what is wrong with a word that stands for the k-th number
abbrev pub HasFault : List ℕ → ℕ → ℕ → WordsFault → Type 0
HasFault word most k (fault.BadNumber j) = (j ≡ k) × ¬ IsDigits word
HasFault word most k (fault.OutOfRange j) = (j ≡ k) × IsDigits word × ¬ IsWithin most (value_of word)
HasFault word most k fault.NoCommand = ⊥
HasFault word most k fault.UnknownCommand = ⊥
HasFault word most k fault.WrongCount = ⊥

-- the words from the k-th on are these numbers, each within its bound
abbrev pub AreNumbers : ℕ → List (List ℕ) → List ℕ → List ℕ → Type 0
AreNumbers k words [] [] = Unit {0}
AreNumbers k words [] (n ∷ ns) = ⊥
AreNumbers k words (most ∷ bs) [] = ⊥
AreNumbers k words (most ∷ bs) (n ∷ ns) = IsNumber (word_at words k) most n × AreNumbers (k + 1) words bs ns

-- the first word from the k-th on that is no number within its bound, and what is wrong with it
abbrev pub HasFirstFault : ℕ → List (List ℕ) → List ℕ → WordsFault → Type 0
HasFirstFault k words [] f = ⊥
HasFirstFault k words (most ∷ bs) f =
    HasFault (word_at words k) most k f
    ⊎ (IsNumber (word_at words k) most (value_of (word_at words k)) × HasFirstFault (k + 1) words bs f)

-- the words are a name of the table, and as many words after it as it takes numbers
abbrev pub IsCommandLine : Name → List (List ℕ) → Type 0
IsCommandLine name words = (word_at words 0 ≡ word_of name) × (length words ≡ 1 + length (bounds name))

-- what reading a line of words gives
abbrev pub ReadsWords : List (List ℕ) → Result Command WordsFault → Type 0
ReadsWords words (Ok c) = IsCommandLine (name_of c) words × AreNumbers 1 words (bounds (name_of c)) (numbers_of c)
ReadsWords words (Err fault.NoCommand) = length words ≡ 0
ReadsWords words (Err fault.UnknownCommand) = (0 < length words) × ((name : Name) → ¬ (word_at words 0 ≡ word_of name))
ReadsWords words (Err fault.WrongCount) = (name : Name) × (0 < length words) × (word_at words 0 ≡ word_of name) × (length words ≢ 1 + length (bounds name))
ReadsWords words (Err (fault.BadNumber k)) = (name : Name) × IsCommandLine name words × HasFirstFault 1 words (bounds name) (fault.BadNumber k)
ReadsWords words (Err (fault.OutOfRange k)) = (name : Name) × IsCommandLine name words × HasFirstFault 1 words (bounds name) (fault.OutOfRange k)
