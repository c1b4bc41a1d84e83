-- A raw block's tree by the list of its actions.
use Rattle.std.proofs.Common.{◌≡◌, ℕ, ◌+◌, ◌<◌, ◌≤◌, List, length, drop, get_or, add-one, sym, refl, ap, ◌∙◌}
use Rattle.std.proofs.Math.Seq.{drop-cons}
use Rattle.std.proofs.Math.ListN.{drop_of_length-le}
use mathlib.Core.Former.{Count}
use Rattle.source_grammar.specs.declared.raw.RawBind.{RawBind}
use Rattle.source_grammar.specs.declared.raw.RawBlock.{RawBlock, RawBlock', out-RawBlock, Row_of-RawBind, end_of-RawBind, more_of-RawBind, items-the_row-RawBind, items_shown-the_row-RawBind-0}
use Rattle.source_grammar.specs.RawTree.{RawBody, block, bind}
use Rattle.source_grammar.specs.RawRead.{read_action, read_block, read_binds, read_tail}
use Rattle.source_reader.specs.Inside.Bodies.{raw_body_of}

binds_are : (n : Count) (row : Row_of-RawBind n) (body : RawBody) → read_binds row body ≡ raw_body_of (items-the_row-RawBind n row) body
binds_are n end_of-RawBind body = refl
binds_are n (more_of-RawBind {n = m} name at act rest) body = ap (bind name at (read_action act)) (binds_are m rest body)

code_is : (b : RawBlock) → read_block b ≡ block (out-RawBlock b).at (raw_body_of (out-RawBlock b).binds.items (read_tail (out-RawBlock b).tail.form (out-RawBlock b).tail.at))
unfolding out-RawBlock denote.Hole.Carrier.out
code_is (RawBlock' at shape row i tail) = ap (block at) (binds_are _ row (read_tail tail i) ∙ ap (λ xs. raw_body_of xs (read_tail tail i)) (sym (items_shown-the_row-RawBind-0 shape row)))

abbrev pub raw_tail_of : RawBlock → RawBody
raw_tail_of b = read_tail (out-RawBlock b).tail.form (out-RawBlock b).tail.at

pub opened : (b : RawBlock) (xs : List RawBind) → xs ≡ (out-RawBlock b).binds.items → read_block b ≡ block (out-RawBlock b).at (raw_body_of xs (raw_tail_of b))
opened b xs e = code_is b ∙ ap (λ zs. block (out-RawBlock b).at (raw_body_of zs (raw_tail_of b))) (sym e)

-- the body from the action at i on
pub next_item : (bs : List RawBind) (i : ℕ) (d : RawBind) (tail : RawBody) → i < length bs → d ≡ get_or bs i d → raw_body_of (drop i bs) tail ≡ bind d.name d.at (read_action d.action) (raw_body_of (drop (i + 1) bs) tail)
next_item bs i d tail h e =
    ap (λ xs. raw_body_of xs tail) (drop-cons bs i d h) ∙ ap (λ n. bind (get_or bs i d).name (get_or bs i d).at (read_action (get_or bs i d).action) (raw_body_of (drop n bs) tail)) (sym (add-one i))
    ∙ ap (λ (x : RawBind). bind x.name x.at (read_action x.action) (raw_body_of (drop (i + 1) bs) tail)) (sym e)

pub no_item : (bs : List RawBind) (i : ℕ) (tail : RawBody) → length bs ≤ i → raw_body_of (drop i bs) tail ≡ tail
no_item bs i tail h = ap (λ xs. raw_body_of xs tail) (drop_of_length-le bs h)
