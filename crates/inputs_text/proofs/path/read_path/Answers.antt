use Rattle.std.proofs.Common.{length, ap, arith}
use Rattle.inputs_text.proofs.PathForms.{path-some, path-refused}
use Rattle.inputs_text.proofs.path.read_path.Goals as goal

pub is_path-requires : goal.is_path-requires
is_path-requires c =
    let parts = rw c.in-Some.is at c.in_ok-parts.ensures in
    omega (arith, ap length c.deref.ensures.value, path-some c.args.text.now c.in-Some.parts.items parts)

pub returns-then-not-is_path : goal.returns-then-not-is_path
returns-then-not-is_path c =
    let parts = rw c.in-Some.is at c.in_ok-parts.ensures in
    let refused = rw c.deref.ensures.value at c.if-not-is_path.ensures in
    path-refused c.args.last c.args.text.now c.in-Some.parts.items parts refused

pub of_parts-requires : goal.of_parts-requires
of_parts-requires c =
    let parts = rw c.in-Some.is at c.in_ok-parts.ensures in
    let found = rw c.deref.ensures.value at c.if-not-is_path.ensures in
    record { some = path-some c.args.text.now c.in-Some.parts.items parts; few = found.1 }
