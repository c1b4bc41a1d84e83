-- What becomes of a frame's state as its fields change.
use Rattle.std.proofs.Common.{◌≡◌, ℕ, zero, suc, ◌+◌, List, [], ◌∷◌, ◌++◌, Option, Some, None, refl, sym, ap, ◌∙◌, arith}
use Rattle.std.specs.Option.{option_and_then, option_map}
use Rattle.std.proofs.lemmas.Option.{same_Some}
use Rattle.std.specs.Prelude.{slice_get}
use Rattle.priml_syntax.specs.Tree.{Code, block, Body, bind, ret_tail, if_tail, case_tail, Act, Routine, Tree, inside}
use Rattle.priml_syntax.specs.Values.{Value'}
use Rattle.core_steps.specs.declared.place.Turn.{Turn}
use Rattle.core_steps.specs.declared.place.Turn.TheVariants.{Bind as At, First, Second}
use Rattle.core_steps.specs.declared.frame.Root.TheVariants.{Procedure}
use Rattle.core_steps.specs.Places.{action_at, body_from, act_code, first_code, second_code, turned, walk}
use Rattle.core_steps.specs.Fields.{FrameFields, routine_at, block_at, body_at, frame_of, frames_of}
use Rattle.core_steps.specs.Steps.{Frame}

one_more : (n : ℕ) → suc n + 1 ≡ suc (n + 1)
one_more n = omega arith

-- the next action of a body, and what is left to run behind it
past_action : (n : ℕ) (b : Body) (at : ℕ) (a : Act) (k : Body) → body_from n b ≡ Some (bind at a k) → body_from (n + 1) b ≡ Some k
past_action zero b at a k e = ap (λ c. option_and_then (body_from 1) c) e
past_action (suc n) (bind q x b) at a k e = rw (one_more n) (past_action n b at a k e)
past_action (suc n) (ret_tail q e) at a k h = absurd (cc)
past_action (suc n) (if_tail q e x y) at a k h = absurd (cc)
past_action (suc n) (case_tail q e x y) at a k h = absurd (cc)

at_action : (n : ℕ) (b : Body) (at : ℕ) (a : Act) (k : Body) → body_from n b ≡ Some (bind at a k) → action_at n b ≡ Some a
at_action zero b at a k e = ap (λ c. option_and_then (action_at 0) c) e
at_action (suc n) (bind q x b) at a k e = at_action n b at a k e
at_action (suc n) (ret_tail q e) at a k h = absurd (cc)
at_action (suc n) (if_tail q e x y) at a k h = absurd (cc)
at_action (suc n) (case_tail q e x y) at a k h = absurd (cc)

-- what is read of the ending alone is the same of the whole body
ending_from : {A : Type 0} (f : Body → A) → ((q : ℕ) (x : Act) (b : Body) → f (bind q x b) ≡ f b) → (n : ℕ) (b c : Body) → body_from n b ≡ Some c → f b ≡ f c
ending_from f past zero b c e = ap f (same_Some b c e)
ending_from f past (suc n) (bind q x b) c e = past q x b ∙ ending_from f past n b c e
ending_from f past (suc n) (ret_tail q e) c h = absurd (cc)
ending_from f past (suc n) (if_tail q e x y) c h = absurd (cc)
ending_from f past (suc n) (case_tail q e x y) c h = absurd (cc)

-- one turn more
walk_more : (ts : List Turn) (t : Turn) (c : Code) → walk (ts ++ t ∷ []) c ≡ option_and_then (turned t) (walk ts c)
walk_more [] t c = go (turned t c)
  where
    go : (o : Option Code) → option_and_then (walk []) o ≡ o
    go None = refl
    go (Some d) = refl
walk_more (u ∷ ts) t c = go (turned u c) (λ d. walk_more ts t d)
  where
    go : (o : Option Code) → ((d : Code) → walk (ts ++ t ∷ []) d ≡ option_and_then (turned t) (walk ts d)) → option_and_then (walk (ts ++ t ∷ [])) o ≡ option_and_then (turned t) (option_and_then (walk ts) o)
    go None f = refl
    go (Some d) f = f d

-- a block one turn further in
block_more : (p : Tree) (f : FrameFields) (t : Turn) (n : ℕ) → block_at p (record f { turns = f.turns ++ t ∷ []; done = n }) ≡ option_and_then (turned t) (block_at p f)
block_more p f t n = go (routine_at p f.root)
  where
    go : (o : Option Routine) → option_and_then (λ (r : Routine). walk (f.turns ++ t ∷ []) r.body) o ≡ option_and_then (turned t) (option_and_then (λ (r : Routine). walk f.turns r.body) o)
    go None = refl
    go (Some r) = walk_more f.turns t r.body

-- the block that a frame with something left to run is in
record InBlock (p : Tree) (f : FrameFields) (c : Body) : Type 0 where
  pub code : Code
  pub block : block_at p f ≡ Some code
  pub rest : body_from f.done (inside code) ≡ Some c

in_block : (p : Tree) (f : FrameFields) (c : Body) → body_at p f ≡ Some c → InBlock p f c
in_block p f c e = go (block_at p f) refl e
  where
    go : (o : Option Code) → block_at p f ≡ o → option_and_then (λ d. body_from f.done (inside d)) o ≡ Some c → InBlock p f c
    go None q h = absurd (cc)
    go (Some d) q h = record { code = d; block = q; rest = h }

-- past the next action, whatever comes into scope
pub body_past : (p : Tree) (f : FrameFields) (at : ℕ) (a : Act) (k : Body) (scope : List Value') → body_at p f ≡ Some (bind at a k) → body_at p (record f { done = f.done + 1; scope = scope }) ≡ Some k
body_past p f at a k scope e =
    let b = in_block p f (bind at a k) e in
    ap (λ o. option_and_then (λ d. body_from (f.done + 1) (inside d)) o) b.block ∙ past_action f.done (inside b.code) at a k b.rest

-- the code that a turn leads to
turn_leads : (p : Tree) (f : FrameFields) (t : Turn) (scope : List Value') (d c : Code) → block_at p f ≡ Some d → turned t d ≡ Some c → body_at p (record f { turns = f.turns ++ t ∷ []; done = 0; scope = scope }) ≡ Some (inside c)
turn_leads p f t scope d c e is =
    ap (λ o. option_and_then (λ x. body_from 0 (inside x)) o) (block_more p f t 0 ∙ ap (option_and_then (turned t)) e ∙ is)

turned_action : (n : ℕ) (d c : Code) (at : ℕ) (a : Act) (k : Body) → body_from n (inside d) ≡ Some (bind at a k) → act_code a ≡ Some c → turned (At n) d ≡ Some c
turned_action n (block q b) c at a k e is = ap (option_and_then act_code) (at_action n b at a k e) ∙ is

turned_first : (n : ℕ) (d c : Code) (b : Body) → body_from n (inside d) ≡ Some b → first_code b ≡ Some c → turned First d ≡ Some c
turned_first n (block q x) c b e is = ending_from first_code (λ _ _ _. refl) n x b e ∙ is

turned_second : (n : ℕ) (d c : Code) (b : Body) → body_from n (inside d) ≡ Some b → second_code b ≡ Some c → turned Second d ≡ Some c
turned_second n (block q x) c b e is = ending_from second_code (λ _ _ _. refl) n x b e ∙ is

-- the block of the next action
pub body_within : (p : Tree) (f : FrameFields) (at : ℕ) (a : Act) (k : Body) (c : Code) → body_at p f ≡ Some (bind at a k) → act_code a ≡ Some c → body_at p (record f { turns = f.turns ++ At f.done ∷ []; done = 0 }) ≡ Some (inside c)
body_within p f at a k c e is =
    let b = in_block p f (bind at a k) e in
    turn_leads p f (At f.done) f.scope b.code c b.block (turned_action f.done b.code c at a k b.rest is)

-- the branches of an ending
pub body_first : (p : Tree) (f : FrameFields) (b : Body) (c : Code) (scope : List Value') → body_at p f ≡ Some b → first_code b ≡ Some c → body_at p (record f { turns = f.turns ++ First ∷ []; done = 0; scope = scope }) ≡ Some (inside c)
body_first p f b c scope e is =
    let h = in_block p f b e in
    turn_leads p f First scope h.code c h.block (turned_first f.done h.code c b h.rest is)

pub body_second : (p : Tree) (f : FrameFields) (b : Body) (c : Code) (scope : List Value') → body_at p f ≡ Some b → second_code b ≡ Some c → body_at p (record f { turns = f.turns ++ Second ∷ []; done = 0; scope = scope }) ≡ Some (inside c)
body_second p f b c scope e is =
    let h = in_block p f b e in
    turn_leads p f Second scope h.code c h.block (turned_second f.done h.code c b h.rest is)

-- the body of a procedure
pub body_called : (p : Tree) (g : ℕ) (r : Routine) (scope : List Value') (prios : List ℕ) → slice_get p.procs g ≡ Some r → body_at p (record { root = Procedure g; turns = []; done = 0; scope = scope; prios = prios }) ≡ Some (inside r.body)
body_called p g r scope prios e = ap (λ o. option_and_then (λ c. body_from 0 (inside c)) (option_and_then (λ (x : Routine). walk [] x.body) o)) e

-- the state of a frame, by what is left to run in it
abbrev pub opened_at : FrameFields → Body → Frame
opened_at f c = record { code = c; scope = f.scope; prios = f.prios }

pub frame_opens : (p : Tree) (f : FrameFields) (c : Body) → body_at p f ≡ Some c → frame_of p f ≡ Some (opened_at f c)
frame_opens p f c e = ap (option_map (opened_at f)) e

-- a state has something left to run, and the fields' scope and priorities
pub frame_is : (p : Tree) (f : FrameFields) (t : Frame) → frame_of p f ≡ Some t → (body_at p f ≡ Some t.code) × (opened_at f t.code ≡ t)
frame_is p f t e = go (body_at p f) e
  where
    go : (o : Option Body) → option_map (opened_at f) o ≡ Some t → (o ≡ Some t.code) × (opened_at f t.code ≡ t)
    go None h = absurd (cc)
    go (Some c) h =
        let same : opened_at f c ≡ t = same_Some (opened_at f c) t h in
        (ap (λ (x : Frame). Some x.code) same, ap (λ (x : Frame). opened_at f x.code) (sym same) ∙ same)

-- one frame more on the stack
pub frames_push : (p : Tree) (fs : List FrameFields) (f : FrameFields) (gs : List Frame) (g : Frame) → frames_of p fs ≡ Some gs → frame_of p f ≡ Some g → frames_of p (fs ++ f ∷ []) ≡ Some (g ∷ gs)
frames_push p [] f gs g e h = ap (λ o. option_and_then (λ (x : Frame). option_map (λ xs. xs ++ x ∷ []) (Some [])) o) h ∙ ap (λ xs. Some (g ∷ xs)) (same_Some [] gs e)
frames_push p (x ∷ fs) f gs g e h = go (frame_of p x) (frames_of p fs) refl e (λ ys q. frames_push p fs f ys g q h)
  where
    go : (o : Option Frame) (r : Option (List Frame)) → frames_of p fs ≡ r → option_and_then (λ y. option_map (λ ys. ys ++ y ∷ []) r) o ≡ Some gs → ((ys : List Frame) → frames_of p fs ≡ Some ys → frames_of p (fs ++ f ∷ []) ≡ Some (g ∷ ys))
        → option_and_then (λ y. option_map (λ ys. ys ++ y ∷ []) (frames_of p (fs ++ f ∷ []))) o ≡ Some (g ∷ gs)
    go None r q k rec = absurd (cc)
    go (Some y) None q k rec = absurd (cc)
    go (Some y) (Some ys) q k rec = ap (option_map (λ zs. zs ++ y ∷ [])) (rec ys q) ∙ ap (λ zs. Some (g ∷ zs)) (same_Some (ys ++ y ∷ []) gs k)

-- the innermost frame of the stack, and the others
pub record Innermost (p : Tree) (fs : List FrameFields) (f : FrameFields) (hs : List Frame) : Type 0 where
  pub frame : Frame
  pub others : List Frame
  pub opens : frame_of p f ≡ Some frame
  pub rest : frames_of p fs ≡ Some others
  pub are : hs ≡ frame ∷ others

pub frames_pop : (p : Tree) (fs : List FrameFields) (f : FrameFields) (hs : List Frame) → frames_of p (fs ++ f ∷ []) ≡ Some hs → Innermost p fs f hs
frames_pop p [] f hs e = go (frame_of p f) refl e
  where
    go : (o : Option Frame) → frame_of p f ≡ o → option_and_then (λ (x : Frame). Some (x ∷ [])) o ≡ Some hs → Innermost p [] f hs
    go None q k = absurd (cc)
    go (Some x) q k = record { frame = x; others = []; opens = q; rest = refl; are = sym (same_Some (x ∷ []) hs k) }
frames_pop p (y ∷ fs) f hs e = go (frame_of p y) (frames_of p (fs ++ f ∷ [])) refl refl e (λ xs q. frames_pop p fs f xs q)
  where
    go : (o : Option Frame) (r : Option (List Frame)) → frame_of p y ≡ o → frames_of p (fs ++ f ∷ []) ≡ r → option_and_then (λ x. option_map (λ xs. xs ++ x ∷ []) r) o ≡ Some hs
        → ((xs : List Frame) → frames_of p (fs ++ f ∷ []) ≡ Some xs → Innermost p fs f xs) → Innermost p (y ∷ fs) f hs
    go None r a b k rec = absurd (cc)
    go (Some x) None a b k rec = absurd (cc)
    go (Some x) (Some xs) a b k rec =
        let i = rec xs b in
        record {
          frame = i.frame;
          others = i.others ++ x ∷ [];
          opens = i.opens;
          rest = ap (λ o. option_and_then (λ z. option_map (λ zs. zs ++ z ∷ []) (frames_of p fs)) o) a ∙ ap (option_map (λ zs. zs ++ x ∷ [])) i.rest;
          are = sym (same_Some (xs ++ x ∷ []) hs k) ∙ ap (λ zs. zs ++ x ∷ []) i.are;
        }
