-- A worked text: two records, of which the first wrote two numbers.
use Rattle.std.proofs.Common.{◌≡◌, ℕ, pos, negsuc, true, List, [], ◌∷◌, codes, refl, arith}
use Rattle.std.proofs.lemmas.Fmt.{decimal_digit}
use Rattle.priml_syntax.specs.declared.value.FaultKind.TheVariants.{Zero}
use Rattle.priml_syntax.specs.declared.event.Event.TheVariants.{Start, Spawn, Wrote, End}
use Rattle.priml_syntax.specs.Values.{unit_value, bool_value, int_value, pair_value, left_value, right_value, thread_value, returned, faulted, Entry}
use Rattle.serial_meaning.specs.RunText.{run_lines}

abbrev pub names : List (List ℕ)
names = codes "bg" ∷ codes "ui" ∷ []

-- a root that wrote 5 and -1
abbrev pub root : Entry
root =
    record {
      path = 0 ∷ [];
      prio = 1;
      events = Start ∷ Spawn ∷ Wrote (pos 5) ∷ Wrote (negsuc 0) ∷ End ∷ [];
      outcome = returned (pair_value (left_value (pair_value unit_value (int_value (negsuc 0)))) (right_value (pair_value (bool_value true) (thread_value (0 ∷ 0 ∷ []) 0))));
    }

-- a child that divided by zero
abbrev pub child : Entry
child = record { path = 0 ∷ 0 ∷ []; prio = 0; events = Start ∷ End ∷ []; outcome = faulted Zero }

pub two_records : run_lines names (root ∷ child ∷ []) ≡ codes "thread 0 ui 5 value (inl(((), -1)), inr((true, thread(0.0))))\nout 5 -1\nthread 0.0 bg 2 fault zero\nwork 7\n"
two_records = rw (decimal_digit 0 (omega arith), decimal_digit 1 (omega arith), decimal_digit 2 (omega arith), decimal_digit 5 (omega arith), decimal_digit 7 (omega arith)) refl
