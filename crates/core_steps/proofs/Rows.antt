-- The meaning of small programs, row by row.
use Rattle.std.proofs.Common.{◌≡◌, ℕ, List, [], ◌∷◌, length, Some, refl}
use Rattle.std.specs.Prelude.{ℤ, pos, negsuc}
use Rattle.std.specs.Option.{option_and_then}
use Rattle.priml_syntax.specs.Tree.{int, var, number, binary, Code, block, bind, ret_tail, spawn, sync, call, input}
use Rattle.priml_syntax.specs.Values.{unit_value, int_value, left_value, right_value, returned, faulted, Entry}
use Rattle.priml_syntax.specs.declared.value.FaultKind.TheVariants.{Overflow}
use Rattle.priml_syntax.specs.declared.event.Event.TheVariants.{Start, Spawn, Join, Read, End}
use Rattle.priml_syntax.specs.declared.prio.Prio.TheVariants.{Const}
use Rattle.priml_syntax.specs.declared.expr.Op.TheVariants.{Add, Div, Rem}
use Rattle.core_steps.specs.Expressions.{result_of}
use Rattle.core_steps.specs.Steps.{Job}
use Rattle.core_steps.specs.Config.{followed, begin, records_of}
use Rattle.core_steps.specs.Meaning.{Meaning, meaning, Finished, Over}

abbrev one_main : Code → List (List ℕ × List ℤ) → Job
one_main b ins = record { program = record { names = []; declared = []; procs = []; mains = record { at = 0; declares = record { vars = 0; given = []; params = []; own = Const 0; gives = int }; body = b } ∷ [] }; inputs = ins }

-- one thread joined twice
abbrev twice : Code
twice = block 0 (bind 0 (spawn (Const 0) (block 0 (ret_tail 0 (number 0 (pos 3))))) (bind 0 (sync 0) (bind 0 (sync 0) (ret_tail 0 (binary 0 Add (var 0 1) (var 0 2))))))

abbrev twice_records : List Entry
twice_records =
    record { path = 0 ∷ []; prio = 0; events = Start ∷ Spawn ∷ Join (0 ∷ 0 ∷ []) ∷ Join (0 ∷ 0 ∷ []) ∷ End ∷ []; outcome = returned (int_value (pos 6)) } ∷
    record { path = 0 ∷ 0 ∷ []; prio = 0; events = Start ∷ End ∷ []; outcome = returned (int_value (pos 3)) } ∷ []

row_twice : meaning (one_main twice []) 7 ≡ Finished twice_records
row_twice = refl

row_twice_over : meaning (one_main twice []) 6 ≡ Over
row_twice_over = refl

row_twice_choices : option_and_then records_of (followed (one_main twice []) (begin (one_main twice [])) ((0 ∷ []) ∷ (0 ∷ []) ∷ (0 ∷ 0 ∷ []) ∷ (0 ∷ 0 ∷ []) ∷ (0 ∷ []) ∷ (0 ∷ []) ∷ (0 ∷ []) ∷ [])) ≡ Some twice_records
row_twice_choices = refl

-- a fault that is joined: 4 events and 2
abbrev overflows : Code
overflows = block 0 (bind 0 (spawn (Const 0) (block 0 (ret_tail 0 (binary 0 Add (number 0 (pos 9223372036854775807)) (number 0 (pos 1)))))) (bind 0 (sync 0) (ret_tail 0 (var 0 1))))

row_overflow : meaning (one_main overflows []) 6 ≡ Finished (
    record { path = 0 ∷ []; prio = 0; events = Start ∷ Spawn ∷ Join (0 ∷ 0 ∷ []) ∷ End ∷ []; outcome = faulted Overflow } ∷
    record { path = 0 ∷ 0 ∷ []; prio = 0; events = Start ∷ End ∷ []; outcome = faulted Overflow } ∷ [])
row_overflow = refl

-- each thread reads its own list
abbrev reads : Code
reads = block 0 (bind 0 input (bind 0 input (bind 0 (spawn (Const 0) (block 0 (bind 0 input (ret_tail 0 (var 0 2))))) (bind 0 input (ret_tail 0 (var 0 3))))))

row_reads : meaning (one_main reads (((0 ∷ []), pos 5 ∷ pos 6 ∷ []) ∷ ((0 ∷ 0 ∷ []), pos 9 ∷ []) ∷ [])) 100 ≡ Finished (
    record { path = 0 ∷ []; prio = 0; events = Start ∷ Read ∷ Read ∷ Spawn ∷ Read ∷ End ∷ []; outcome = returned (left_value unit_value) } ∷
    record { path = 0 ∷ 0 ∷ []; prio = 0; events = Start ∷ Read ∷ End ∷ []; outcome = returned (right_value (int_value (pos 9))) } ∷ [])
row_reads = refl

least_rem : result_of [] (binary 0 Rem (number 0 (negsuc 9223372036854775807)) (number 0 (negsuc 0))) ≡ Some (faulted Overflow)
least_rem = refl

least_div : result_of [] (binary 0 Div (number 0 (negsuc 9223372036854775807)) (number 0 (negsuc 0))) ≡ Some (faulted Overflow)
least_div = refl

trunc_rem : result_of [] (binary 0 Rem (number 0 (negsuc 6)) (number 0 (pos 2))) ≡ Some (returned (int_value (negsuc 0)))
trunc_rem = refl

-- a spawn in each call, down to the deepest path
abbrev deep : Job
deep = record {
  program = record {
    names = [];
    declared = [];
    procs = record { at = 0; declares = record { vars = 0; given = []; params = int ∷ []; own = Const 0; gives = int }; body = block 0 (bind 0 (spawn (Const 0) (block 0 (bind 0 (call 0 [] (binary 0 Add (var 0 0) (number 0 (pos 1)) ∷ [])) (ret_tail 0 (var 0 1))))) (bind 0 (sync 1) (ret_tail 0 (var 0 2)))) } ∷ [];
    mains = record { at = 0; declares = record { vars = 0; given = []; params = []; own = Const 0; gives = int }; body = block 0 (bind 0 (call 0 [] (number 0 (pos 0) ∷ [])) (ret_tail 0 (var 0 0))) } ∷ [];
  };
  inputs = [];
}

abbrev size_of : Meaning → ℕ
size_of Over = 0
size_of (Finished rs) = length rs

row_deep : size_of (meaning deep 158) ≡ 32
row_deep = refl

row_deep_over : meaning deep 157 ≡ Over
row_deep_over = refl
