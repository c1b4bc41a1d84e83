-- The tokens of the text of a number are those of a program.
use Rattle.std.proofs.Common.{ℕ, ◌+◌, ◌*◌, List, [], ◌∷◌, length}
use Rattle.std.specs.Fmt.{decimal}
use Rattle.priml_syntax.specs.declared.expr.Op.TheVariants.{Add, Sub, Mul, Rem, Less}
use Rattle.source_tokens.specs.declared.token.Token.{Token}
use Rattle.source_grammar.specs.declared.raw.Name.{Name}
use Rattle.source_grammar.specs.RawTree.{int, WrittenType, var, number, binary, RawCode, block, bind, ret_tail, if_tail, spawn, sync, call, output, RawRoutine, RawProcedure, priority, order, procedure, RawTree}
use Rattle.source_grammar.specs.Grammar.{IsPriorities, IsHead, IsProcedure, IsMain, IsProgram, one, some, is_int, is_written, is_add, is_sub, is_mul, is_rem, is_less, is_var, is_number, is_binary, is_block, is_ret_tail, is_if_tail, is_bind, is_spawn, is_sync, is_call, is_output, is_parameter, is_routine, is_procedure, no_more, is_priority, is_order, is_declared, is_main, is_program}
use Rattle.source_maker.proofs.Pieces.{tokens}
use Rattle.source_maker.proofs.Sample.{leaf_pieces, chain_pieces}
use Rattle.source_maker.proofs.Lexed.{main_tokens, whole_tokens}

abbrev name : ℕ → ℕ → Name
name at id = record { at = at; id = id }

abbrev int_at : ℕ → WrittenType
int_at at = record { at = at; ty = int }

-- a procedure of one number
abbrev taking_one : Name → Name → ℕ → RawRoutine → RawProcedure
taking_one n parameter at routine = record { name = n; vars = []; given = []; params = record { name = parameter; ty = int_at at } ∷ []; routine = routine }

abbrev leaf_code : RawCode
leaf_code = block 72 (bind (name 76 4) 81 (output (binary 88 Mul (var 89 3) (var 93 3))) (ret_tail 99 (binary 103 Rem (var 104 3) (number 108 7))))

abbrev leaf : RawProcedure
leaf = taking_one (name 46 2) (name 51 3) 55 (record { at = 41; own = name 63 0; result = int_at 68; body = leaf_code })

abbrev call_leaf : RawCode
call_leaf = block 198 (bind (name 200 7) 205 (call (name 210 2) [] (var 215 3 ∷ [])) (ret_tail 219 (var 223 7)))

abbrev chain_rest : RawCode
chain_rest =
    block 177
    (bind (name 183 6) 188 (spawn (name 194 0) call_leaf)
    (bind (name 232 8) 237 (call (name 242 5) [] (binary 248 Sub (var 249 3) (number 253 1) ∷ []))
    (bind (name 262 9) 267 (sync (name 272 6))
    (ret_tail 279 (binary 283 Add (var 284 8) (var 288 9))))))

abbrev chain_code : RawCode
chain_code = block 145 (if_tail 149 (binary 152 Less (var 153 3) (number 157 1)) (block 160 (ret_tail 162 (number 166 0))) chain_rest)

abbrev chain : RawProcedure
chain = taking_one (name 118 5) (name 124 3) 128 (record { at = 113; own = name 136 0; result = int_at 141; body = chain_code })

abbrev call_chain : ℕ → RawCode
call_chain n =
    let digits = length (decimal n) in
    block 333 (bind (name 335 7) 340 (call (name 345 5) [] (number 351 n ∷ [])) (ret_tail (digits + 354) (var (digits + 358) 7)))

abbrev main_code : ℕ → RawCode
main_code n =
    let digits = length (decimal n) in
    block 314
    (bind (name 318 6) 323 (spawn (name 329 0) (call_chain n))
    (bind (name (digits + 365) 4) (digits + 370) (output (number (digits + 377) n))
    (ret_tail (2 * digits + 381) (number (2 * digits + 385) n))))

abbrev main : ℕ → RawRoutine
main n = record { at = 297; own = name 305 1; result = int_at 310; body = main_code n }

abbrev pub made_raw : ℕ → RawTree
made_raw n = record { decls = priority (name 9 0) ∷ priority (name 22 1) ∷ order 26 (name 32 0) (name 37 1) ∷ procedure leaf ∷ procedure chain ∷ []; main = main n }

leaf_derived : (rest : List Token) → IsProcedure (tokens 0 40 leaf_pieces rest) rest leaf
leaf_derived rest =
    is_procedure 41 50 58 (name 46 2) (IsHead.absent 50) (some (one (is_parameter (name 51 3) 53 (is_written (is_int 55)))))
    (is_routine 41 60 66 (name 63 0) (is_written (is_int 68))
    (is_block 72 111
    (is_bind (name 76 4) 78 81 95 (is_output 81 (is_binary 88 91 94 _ Mul (is_var (name 89 3)) is_mul (is_var (name 93 3))))
    (is_ret_tail 99 (is_binary 103 106 109 _ Rem (is_var (name 104 3)) is_rem (is_number 108 7))))))

chain_derived : (rest : List Token) → IsProcedure (tokens 0 112 chain_pieces rest) rest chain
chain_derived rest =
    is_procedure 113 123 131 (name 118 5) (IsHead.absent 123) (some (one (is_parameter (name 124 3) 126 (is_written (is_int 128)))))
    (is_routine 113 133 139 (name 136 0) (is_written (is_int 141))
    (is_block 145 295
    (is_if_tail 149 172 (is_binary 152 155 158 _ Less (is_var (name 153 3)) is_less (is_number 157 1))
    (is_block 160 168 (is_ret_tail 162 (is_number 166 0)))
    (is_block 177 293
    (is_bind (name 183 6) 185 188 226 (is_spawn 188 193 196 (name 194 0)
    (is_block 198 225
    (is_bind (name 200 7) 202 205 217 (is_call 205 214 216 (name 210 2) (IsPriorities.absent 214) (some (one (is_var (name 215 3)))))
    (is_ret_tail 219 (is_var (name 223 7))))))
    (is_bind (name 232 8) 234 237 256 (is_call 237 247 255 (name 242 5) (IsPriorities.absent 247) (some (one (is_binary 248 251 254 _ Sub (is_var (name 249 3)) is_sub (is_number 253 1)))))
    (is_bind (name 262 9) 264 267 273 (is_sync 267 (name 272 6))
    (is_ret_tail 279 (is_binary 283 286 289 _ Add (is_var (name 284 8)) is_add (is_var (name 288 9)))))))))))

main_derived : (n : ℕ) → IsMain (main_tokens n) [] (main n)
main_derived n =
    let digits = length (decimal n) in
    is_main 297
    (is_routine 297 302 308 (name 305 1) (is_written (is_int 310))
    (is_block 314 (3 * digits + 386)
    (is_bind (name 318 6) 320 323 (digits + 361) (is_spawn 323 328 331 (name 329 0)
    (is_block 333 (digits + 360)
    (is_bind (name 335 7) 337 340 (digits + 352) (is_call 340 350 (digits + 351) (name 345 5) (IsPriorities.absent 350) (some (one (is_number 351 n))))
    (is_ret_tail (digits + 354) (is_var (name (digits + 358) 7))))))
    (is_bind (name (digits + 365) 4) (digits + 367) (digits + 370) (2 * digits + 377) (is_output (digits + 370) (is_number (digits + 377) n))
    (is_ret_tail (2 * digits + 381) (is_number (2 * digits + 385) n))))))

pub made_derived : (n : ℕ) → IsProgram (whole_tokens n) (made_raw n)
made_derived n =
    is_program
    (is_priority 0 11 (name 9 0) (is_priority 13 24 (name 22 1) (is_order 26 35 39 (name 32 0) (name 37 1)
    (is_declared (leaf_derived _) (is_declared (chain_derived _) no_more)))))
    (main_derived n)
