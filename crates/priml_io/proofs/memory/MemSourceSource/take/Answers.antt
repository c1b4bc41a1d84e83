use Rattle.std.proofs.Common.{◌≡◌, ◌++◌, ◌+◌, ◌≤◌, ℕ, List, [], length, take, drop, arith, sym, ap, ◌∙◌, length-take, length-drop, length-append}
use Rattle.std.proofs.lemmas.List.{take-append-drop, drop-drop}
use Rattle.std.proofs.lemmas.Grind.{common_steps}
use Rattle.priml_io.proofs.memory.MemSourceSource.take.Goals as goal

prefix : (all now more : List ℕ) (at n : ℕ) → at + n ≤ length all → now ≡ take n (drop at all) → take n (now ++ more) ≡ take n (drop at all)
prefix all now more at n l e = let q : length now ≡ n = rw e (simp (length-take, length-drop) (omega arith)) in grind (arith, common_steps)

given : (all more now : List ℕ) (at n : ℕ) → at + n ≤ length all → now ≡ take n (drop at all) → drop at all ≡ take n (now ++ more) ++ drop (at + n) all
given all more now at n l e = rw (prefix all now more at n l e) (sym (take-append-drop n (drop at all)) ∙ ap (λ v. take n (drop at all) ++ v) (drop-drop n at all))

nothing : (all : List ℕ) (at : ℕ) → length all ≤ at → drop at all ≡ []
nothing all at l = grind (arith, common_steps)

pub returns-clause-bytes : goal.returns-clause-bytes
returns-clause-bytes c =
    let e : c.copy_from_slice.new.self ≡ take c.min-count.result (drop c.self.inside.at c.self.inside.bytes.items) = grind (arith, common_steps) in (
      sym (ap (λ v. v.bytes) c.self.view_is) ∙ given c.self.inside.bytes.items _ _ c.self.inside.at c.min-count.result (omega arith) e,
      λ z l. nothing c.self.inside.bytes.items (c.self.inside.at + c.min-count.result) (let n = length-append c.copy_from_slice.new.self (drop c.min-count.result c.args.buf.now) in let m = length-drop c.min-count.result c.args.buf.now in omega (arith, c.copy_from_slice.ensures.len, length-take c.min-count.result c.args.buf.now)),
    )
