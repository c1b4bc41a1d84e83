-- Places in a program: turns from a block into a block within it.
use Rattle.std.specs.Prelude.{ℕ, zero, suc, List, [], ◌∷◌, Option, Some, None}
use Rattle.std.specs.Option.{option_and_then}
use Rattle.priml_syntax.specs.Tree.{Code, block, Body, bind, ret_tail, if_tail, case_tail, Act, ret, spawn, sync, call, do_block, input, output}
use Rattle.core_steps.specs.declared.place.Turn.{Turn}
use Rattle.core_steps.specs.declared.place.Turn.TheVariants.{Bind as At, First, Second}

-- the n-th action of a body
abbrev pub action_at : ℕ → Body → Option Act
action_at n (ret_tail at e) = None
action_at n (if_tail at e a b) = None
action_at n (case_tail at e a b) = None
action_at zero (bind at a k) = Some a
action_at (suc n) (bind at a k) = action_at n k

-- what is left to run from the n-th action on
abbrev pub body_from : ℕ → Body → Option Body
body_from zero b = Some b
body_from (suc n) (bind at a k) = body_from n k
body_from (suc n) (ret_tail at e) = None
body_from (suc n) (if_tail at e a b) = None
body_from (suc n) (case_tail at e a b) = None

abbrev pub act_code : Act → Option Code
act_code (ret e) = None
act_code (spawn p c) = Some c
act_code (sync x) = None
act_code (call f ps es) = None
act_code (do_block c) = Some c
act_code input = None
act_code (output e) = None

abbrev pub first_code : Body → Option Code
first_code (bind at a k) = first_code k
first_code (ret_tail at e) = None
first_code (if_tail at e a b) = Some a
first_code (case_tail at e a b) = Some a

abbrev pub second_code : Body → Option Code
second_code (bind at a k) = second_code k
second_code (ret_tail at e) = None
second_code (if_tail at e a b) = Some b
second_code (case_tail at e a b) = Some b

abbrev pub turned : Turn → Code → Option Code
turned (At i) (block at b) = option_and_then act_code (action_at i b)
turned First (block at b) = first_code b
turned Second (block at b) = second_code b

-- the block at the end of these turns
abbrev pub walk : List Turn → Code → Option Code
walk [] c = Some c
walk (t ∷ ts) c = option_and_then (walk ts) (turned t c)
