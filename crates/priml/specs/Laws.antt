-- What holds of all words and inputs.
use Rattle.std.specs.Prelude.{ℕ, List}
use Rattle.priml.specs.Commands.{Answers}
use Rattle.priml.specs.Headline.{FixText, Same}

-- some status and text are an answer to the words and the input
abbrev pub AreAnswered : List (List ℕ) → List ℕ → Type 0
AreAnswered words input = (status : ℕ) × (text : List ℕ) × Answers words input status text

-- all words have an answer to each input
abbrev pub WordsAreAnswered : Type 0
WordsAreAnswered = (words : List (List ℕ)) (input : List ℕ) → AreAnswered words input

-- and no second one
abbrev pub AnswersAreOne : Type 0
AnswersAreOne =
    (words : List (List ℕ)) (input : List ℕ) (s t : ℕ) (a b : List ℕ) → Answers words input s a → Answers words input t b
    → Same (FixText words) s t a b
