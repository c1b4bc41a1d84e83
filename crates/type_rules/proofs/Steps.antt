-- A body's actions one after another.
use Rattle.std.proofs.Common.{◌≡◌, ℕ, ◌+◌, ◌<◌, ◌≤◌, List, [], ◌∷◌, ◌++◌, length, take, drop, get_or, sym, ap, ◌∙◌, subst, inl, inr, add-one}
use Rattle.std.specs.Prelude.{Result, Ok, Err}
use Rattle.std.proofs.Math.Seq.{drop-cons}
use Rattle.std.proofs.Math.ListN.{drop_of_length-le}
use Rattle.std.proofs.lemmas.List.{map-append, take-append-le, length-append}
use Rattle.priml_syntax.specs.declared.prio.Prio.{Prio}
use Rattle.priml_syntax.specs.declared.block.Bind.{Bind}
use Rattle.type_rules.specs.declared.shared.Shared.{Shared}
use Rattle.type_rules.specs.Shared.{read_shared}
use Rattle.priml_syntax.specs.Tree.{Type', Term, Body, bind, if_tail, Act, Code, block}
use Rattle.priml_syntax.specs.Read.{read_act}
use Rattle.priml_syntax.specs.Lists.{body_of}
use Rattle.priml_syntax.specs.declared.block.Block.{Block, out-Block}
use Rattle.priml_syntax.specs.Read.{read_code, read_tail}
use Rattle.priml_syntax.proofs.Blocks.{code_is}
use Rattle.type_rules.specs.declared.TypeStop.{TypeStop}
use Rattle.type_rules.specs.declared.TypeStop.TheVariants.{Fault, OutOfMemory}
use Rattle.type_rules.specs.Typing.{VarTypes, Context, HasType, CodeHas, ActHas}
use Rattle.type_rules.specs.Inside.Faults.{CodeFaults}
use Rattle.type_rules.specs.Inside.Answers.{CarriesOn, CodeAnswer, CodeStops, BodyAnswer, BodyStops, ActStops, scope_of}

pub starts : (s : Context) (r : Prio) (G : VarTypes) (b : Body) → CarriesOn s r G b G b
starts s r G b = record { typed = λ T h. h; faulty = λ k p h. h }

pub goes_on : (s : Context) (r : Prio) (G H : VarTypes) (at : ℕ) (a : Act) (rest body : Body) (A : Type') → CarriesOn s r G (bind at a rest) H body → ActHas a s G r A → CarriesOn s r (G ++ A ∷ []) rest H body
goes_on s r G H at a rest body A l h = record {
  typed = λ T t. l.typed T (A, h, t);
  faulty = λ k p f. l.faulty k p (inr (inr (A, h, f)));
}

pub stops : (s : Context) (r : Prio) (G H : VarTypes) (at : ℕ) (a : Act) (rest body : Body) (stop : TypeStop) → CarriesOn s r G (bind at a rest) H body → ActStops s G r at a stop → BodyStops s H r body stop
stops s r G H at a rest body (Fault f) l (inl h) = l.faulty f.kind f.at (inl h)
stops s r G H at a rest body (Fault f) l (inr h) = l.faulty f.kind f.at (inr (inl h))
stops s r G H at a rest body OutOfMemory l h = tt

pub ends : (s : Context) (r : Prio) (G H : VarTypes) (rest body : Body) (result : Result Shared TypeStop) → CarriesOn s r G rest H body → BodyAnswer s G r rest result → BodyAnswer s H r body result
ends s r G H rest body (Ok t) l h = l.typed (read_shared t) h
ends s r G H rest body (Err (Fault f)) l h = l.faulty f.kind f.at h
ends s r G H rest body (Err OutOfMemory) l h = tt

-- the body from the action at i on
pub next_body : (bs : List Bind) (i : ℕ) (d : Bind) (tail : Body) → i < length bs → body_of (drop i bs) tail ≡ bind (get_or bs i d).at (read_act (get_or bs i d).action) (body_of (drop (i + 1) bs) tail)
next_body bs i d tail h = ap (λ xs. body_of xs tail) (drop-cons bs i d h) ∙ ap (λ n. bind (get_or bs i d).at (read_act (get_or bs i d).action) (body_of (drop n bs) tail)) (sym (add-one i))

-- a block by the list of its actions
pub opened : (b : Block) (xs : List Bind) → xs ≡ (out-Block b).binds.items → read_code b ≡ block (out-Block b).at (body_of xs (read_tail (out-Block b).tail.form (out-Block b).tail.at))
opened b xs e = code_is b ∙ ap (λ zs. block (out-Block b).at (body_of zs (read_tail (out-Block b).tail.form (out-Block b).tail.at))) (sym e)

code_of : (s : Context) (G : VarTypes) (r : Prio) (at : ℕ) (b : Body) (result : Result Shared TypeStop) → BodyAnswer s G r b result → CodeAnswer s G r (block at b) result
code_of s G r at b (Ok t) h = h
code_of s G r at b (Err (Fault f)) h = h
code_of s G r at b (Err OutOfMemory) h = h

-- an answer on the list of actions and the ending is one on the block
pub answers : (s : Context) (G : VarTypes) (r : Prio) (b : Block) (xs : List Bind) (result : Result Shared TypeStop) → xs ≡ (out-Block b).binds.items → BodyAnswer s G r (body_of xs (read_tail (out-Block b).tail.form (out-Block b).tail.at)) result → CodeAnswer s G r (read_code b) result
answers s G r b xs result e h = subst (λ c. CodeAnswer s G r c result) (sym (opened b xs e)) (code_of s G r (out-Block b).at _ result h)

pub next_item : (bs : List Bind) (i : ℕ) (d : Bind) (tail : Body) → i < length bs → d ≡ get_or bs i d → body_of (drop i bs) tail ≡ bind d.at (read_act d.action) (body_of (drop (i + 1) bs) tail)
next_item bs i d tail h e = next_body bs i d tail h ∙ ap (λ (x : Bind). bind x.at (read_act x.action) (body_of (drop (i + 1) bs) tail)) (sym e)

pub scope_push : (a b c : List Shared) (t : Shared) → c ≡ b ++ t ∷ [] → b ≡ a → scope_of c ≡ scope_of a ++ read_shared t ∷ []
scope_push a b c t e f = ap scope_of (e ∙ ap (λ xs. xs ++ t ∷ []) f) ∙ map-append read_shared a (t ∷ [])

pub kept_push : (a b c : List Shared) (t : Shared) (n : ℕ) → n ≤ length a → c ≡ b ++ t ∷ [] → b ≡ a → take n c ≡ take n a
kept_push a b c t n h e f = ap (take n) (e ∙ ap (λ xs. xs ++ t ∷ []) f) ∙ take-append-le n a (t ∷ []) h

pub long_push : (a b c : List Shared) (t : Shared) → c ≡ b ++ t ∷ [] → b ≡ a → length c ≡ length a + 1
long_push a b c t e f = ap length (e ∙ ap (λ xs. xs ++ t ∷ []) f) ∙ length-append a (t ∷ [])

pub passed : (s : Context) (r : Prio) (G H : VarTypes) (rest body : Body) (stop : TypeStop) → CarriesOn s r G rest H body → BodyStops s G r rest stop → BodyStops s H r body stop
passed s r G H rest body (Fault f) l h = l.faulty f.kind f.at h
passed s r G H rest body OutOfMemory l h = tt

pub drop-all : (bs : List Bind) (i : ℕ) → length bs ≤ i → drop i bs ≡ []
drop-all bs i h = drop_of_length-le bs h

-- past the last of the actions the ending is what is left
pub leads_over : (s : Context) (r : Prio) (G H : VarTypes) (xs : List Bind) (tail body : Body) (i : ℕ) → length xs ≤ i → CarriesOn s r G (body_of (drop i xs) tail) H body → CarriesOn s r G tail H body
leads_over s r G H xs tail body i over l = subst (λ bs. CarriesOn s r G (body_of bs tail) H body) (drop-all xs i over) l

pub second_stops : (s : Context) (G H : VarTypes) (r : Prio) (at : ℕ) (e : Term) (a b : Code) (A B : Type') (stop : TypeStop) → H ≡ G → HasType G e A → CodeHas a s G r B → CodeStops s H r b stop → BodyStops s G r (if_tail at e a b) stop
second_stops s G H r at e a b A B (Fault f) same h k i = inr (inr (inl (A, B, h, k, subst (λ K. CodeFaults b s K r f.kind f.at) same i)))
second_stops s G H r at e a b A B OutOfMemory same h k i = tt
