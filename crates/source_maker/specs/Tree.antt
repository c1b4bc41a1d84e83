-- The program that the source made of a number stands for. The places behind the first number of the text move with the digits of the number.
use Rattle.std.specs.Prelude.{ℕ, ◌+◌, ◌*◌, pos, [], ◌∷◌, length, codes}
use Rattle.std.specs.Fmt.{decimal}
use Rattle.priml_syntax.specs.declared.prio.Prio.TheVariants.{Const}
use Rattle.priml_syntax.specs.declared.expr.Op.TheVariants.{Add, Sub, Mul, Rem, Less}
use Rattle.priml_syntax.specs.Tree.{int, var, number, binary, Code, block, bind, ret_tail, if_tail, spawn, sync, call, output, Routine, Tree}
use Rattle.core_steps.specs.Steps.{Job}

-- `u <- output (k * k); ret (k % 7)`
abbrev pub leaf_code : Code
leaf_code = block 72 (bind 81 (output (binary 88 Mul (var 89 0) (var 93 0))) (ret_tail 99 (binary 103 Rem (var 104 0) (number 108 (pos 7)))))

-- `x <- call leaf(k); ret x`
abbrev pub call_leaf : Code
call_leaf = block 198 (bind 205 (call 0 [] (var 215 0 ∷ [])) (ret_tail 219 (var 223 1)))

-- the second branch of a chain
abbrev pub chain_rest : Code
chain_rest =
    block 177
    (bind 188 (spawn (Const 0) call_leaf)
    (bind 237 (call 1 [] (binary 248 Sub (var 249 0) (number 253 (pos 1)) ∷ []))
    (bind 267 (sync 1)
    (ret_tail 279 (binary 283 Add (var 284 2) (var 288 3))))))

abbrev pub chain_code : Code
chain_code = block 145 (if_tail 149 (binary 152 Less (var 153 0) (number 157 (pos 1))) (block 160 (ret_tail 162 (number 166 (pos 0)))) chain_rest)

-- `x <- call chain(n); ret x`
abbrev pub call_chain : ℕ → Code
call_chain n = let digits = length (decimal n) in block 333 (bind 340 (call 1 [] (number 351 (pos n) ∷ [])) (ret_tail (digits + 354) (var (digits + 358) 0)))

abbrev pub main_code : ℕ → Code
main_code n =
    let digits = length (decimal n) in
    block 314
    (bind 323 (spawn (Const 0) (call_chain n))
    (bind (digits + 370) (output (number (digits + 377) (pos n)))
    (ret_tail (2 * digits + 381) (number (2 * digits + 385) (pos n)))))

-- a procedure of one number, at the lower priority
abbrev pub procedure : ℕ → Code → Routine
procedure at body = record { at = at; declares = record { vars = 0; given = []; params = int ∷ []; own = Const 0; gives = int }; body = body }

abbrev pub made_tree : ℕ → Tree
made_tree n = record {
  names = codes "bg" ∷ codes "ui" ∷ [];
  declared = record { at = 26; pair = (0, 1) } ∷ [];
  procs = procedure 41 leaf_code ∷ procedure 113 chain_code ∷ [];
  mains = record { at = 297; declares = record { vars = 0; given = []; params = []; own = Const 1; gives = int }; body = main_code n } ∷ [];
}

-- the program without inputs
abbrev pub made_job : ℕ → Job
made_job n = record { program = made_tree n; inputs = [] }
