-- The text of a run.
use Rattle.std.specs.Prelude.{ℕ, Bool, true, false, List, [], ◌∷◌, ◌++◌, length, codes, get_or, if◌then◌else◌}
use Rattle.std.specs.List.{flat_map, list_any}
use Rattle.std.specs.Fmt.{decimal, signed_decimal}
use Rattle.priml_syntax.specs.declared.value.FaultKind.{FaultKind}
use Rattle.priml_syntax.specs.declared.value.FaultKind.TheVariants.{Overflow, Zero, Depth}
use Rattle.priml_syntax.specs.declared.event.Event.{Event}
use Rattle.priml_syntax.specs.declared.event.Event.TheVariants.{Wrote}
use Rattle.priml_syntax.specs.Values.{Value', unit_value, bool_value, int_value, pair_value, left_value, right_value, thread_value, Outcome', returned, faulted, Entry}
use Rattle.priml_syntax.specs.Records.{work}
use Rattle.priml_syntax.specs.Text.{path_text}

-- a value
abbrev pub value_text : Value' → List ℕ
value_text unit_value = codes "()"
value_text (bool_value true) = codes "true"
value_text (bool_value false) = codes "false"
value_text (int_value n) = signed_decimal n
value_text (pair_value a b) = codes "(" ++ value_text a ++ codes ", " ++ value_text b ++ codes ")"
value_text (left_value a) = codes "inl(" ++ value_text a ++ codes ")"
value_text (right_value a) = codes "inr(" ++ value_text a ++ codes ")"
value_text (thread_value path prio) = codes "thread(" ++ path_text path ++ codes ")"

-- why a thread ended without a value
abbrev pub fault_text : FaultKind → List ℕ
fault_text Overflow = codes "overflow"
fault_text Zero = codes "zero"
fault_text Depth = codes "depth"

-- how a thread ended
abbrev pub outcome_text : Outcome' → List ℕ
outcome_text (returned v) = codes "value " ++ value_text v
outcome_text (faulted f) = codes "fault " ++ fault_text f

-- the line of a thread: its path, its priority's name, the number of its steps, and how it ended
abbrev pub thread_line : List (List ℕ) → Entry → List ℕ
thread_line names r =
    codes "thread " ++ path_text r.path ++ codes " " ++ get_or names r.prio []
    ++ codes " " ++ decimal (length r.events) ++ codes " " ++ outcome_text r.outcome ++ 10 ∷ []

-- whether the event wrote a number
abbrev pub is_written : Event → Bool
is_written (Wrote n) = true
is_written e = false

-- a number that the event wrote, with a space before it
abbrev pub written_text : Event → List ℕ
written_text (Wrote n) = codes " " ++ signed_decimal n
written_text e = []

-- the line of the numbers that these events wrote, where there is one
abbrev pub out_line : List Event → List ℕ
out_line es = if list_any is_written es then codes "out" ++ flat_map written_text es ++ 10 ∷ [] else []

-- the lines of a record
abbrev pub record_lines : List (List ℕ) → Entry → List ℕ
record_lines names r = thread_line names r ++ out_line r.events

-- the records in their order, and then the number of all steps
abbrev pub run_lines : List (List ℕ) → List Entry → List ℕ
run_lines names rs = flat_map (record_lines names) rs ++ codes "work " ++ decimal (work rs) ++ 10 ∷ []
