-- From what the parts of a program answer to what the whole answers.
use Rattle.std.proofs.Common.{◌≡◌, ◌≢◌, ℕ, zero, suc, ◌+◌, ◌<◌, ◌≤◌, List, [], ◌∷◌, ◌++◌, length, map, take, get_or, refl, sym, ap, ap₂, ◌∙◌, subst, arith}
use Rattle.std.specs.Prelude.{Result, Ok, Err}
use Rattle.std.specs.List.{All}
use Rattle.std.proofs.lemmas.List.{map-append, length-map, take_more, take_all}
use Rattle.std.proofs.lemmas.List.Elements.{All-cons, All-map, All-push}
use Rattle.std.proofs.lemmas.Option.{slice_get_within, slice_get-get_or, get_or_from_slice_get}
use Rattle.std.proofs.Math.ListN.{get_or-map}
use Rattle.priml_syntax.specs.declared.program.Proc.{Proc}
use Rattle.type_rules.specs.declared.shared.Shared.{Shared}
use Rattle.priml_syntax.specs.Read.{read_sig, read_proc, read_pair}
use Rattle.priml_syntax.specs.Tree.{Type', Signature, Routine, Declared, Tree, pairs_of}
use Rattle.priml_syntax.specs.Scoped.{RoutineIn}
use Rattle.priority_order.specs.Order.{Pair, IsLawful, Closes, IsFirstCycle, IsWithin}
use Rattle.priority_order.proofs.Build.{unlawful}
use Rattle.constraint_proof.specs.Entailed.{Constraint}
use Rattle.type_rules.specs.declared.TypeKind.TheVariants.{Cycle, Mismatch}
use Rattle.type_rules.specs.declared.TypeStop.{TypeStop}
use Rattle.type_rules.specs.declared.TypeStop.TheVariants.{Fault, OutOfMemory}
use Rattle.type_rules.specs.Typing.{VarTypes, Context, CodeHas}
use Rattle.type_rules.specs.Nodes.{parameter, code_sites}
use Rattle.type_rules.specs.Inside.Answers.{CodeAnswer}
use Rattle.type_rules.specs.Typable.{setting_of, RoutineTyped, Part, a_pair, a_site, a_routine, pair_parts, routine_parts, routines_parts, parts, PartTyped, FirstPartFault}
use Rattle.type_rules.specs.Stops.{PartsStop, IsTypeStop, RoutineAnswer}
use Rattle.type_rules.proofs.Sites.{code_fault}
use Rattle.type_rules.proofs.Firsts.{first_left, first_right}
use Rattle.type_rules.proofs.Programs.{params_extend, sites_typed, routine_typed, routines_typed, pairs_typed, not_typable, from_sites}

module _ (p : Tree) where
  -- a stop within a list of parts is one within a longer list
  pub stop_left : (xs ys : List Part) (stop : TypeStop) → PartsStop p xs stop → PartsStop p (xs ++ ys) stop
  stop_left xs ys (Fault f) h = first_left xs ys f.kind f.at h
  stop_left xs ys OutOfMemory h = tt

  pub stop_right : (xs ys : List Part) (stop : TypeStop) → All (PartTyped p) xs → PartsStop p ys stop → PartsStop p (xs ++ ys) stop
  stop_right xs ys (Fault f) t h = first_right xs ys f.kind f.at t h
  stop_right xs ys OutOfMemory t h = tt

  -- a stop at one of the procedures, where those before it are typed
  pub stop_at : (fs : List Proc) (i : ℕ) (d : Proc) (stop : TypeStop) → i < length fs → d ≡ get_or fs i d → All (RoutineTyped p) (map read_proc (take i fs)) → PartsStop p (routine_parts (read_proc d)) stop → PartsStop p (routines_parts (map read_proc fs)) stop
  stop_at [] i d stop lt e t h = absurd (omega arith)
  stop_at (f ∷ fs) zero d stop lt e t h = stop_left (routine_parts (read_proc f)) (routines_parts (map read_proc fs)) stop (subst (λ (g : Proc). PartsStop p (routine_parts (read_proc g)) stop) e h)
  stop_at (f ∷ fs) (suc i) d stop lt e t h =
      stop_right (routine_parts (read_proc f)) (routines_parts (map read_proc fs)) stop (routine_typed p (read_proc f) (t zero (read_proc f) (omega arith)))
      (stop_at fs i d stop (omega arith) e (λ k x l. t (suc k) x (omega (arith, l))) h)

  whole : (stop : TypeStop) → PartsStop p (parts p) stop → IsTypeStop p stop
  whole (Fault f) h = (h, not_typable p f.kind f.at h)
  whole OutOfMemory h = tt

  -- a stop within the declared pairs, the procedures or the mains is one of the program, where what comes before it is typed
  pub stop_in_pairs : (stop : TypeStop) → PartsStop p (pair_parts 0 p.declared) stop → IsTypeStop p stop
  stop_in_pairs stop h = whole stop (stop_left (pair_parts 0 p.declared) (routines_parts p.procs ++ routines_parts p.mains) stop h)

  order_typed : IsLawful (pairs_of p) → All (PartTyped p) (pair_parts 0 p.declared)
  order_typed law = pairs_typed p (λ i c. unlawful (pairs_of p) i c law) 0 p.declared

  pub stop_in_procs : (stop : TypeStop) → IsLawful (pairs_of p) → PartsStop p (routines_parts p.procs) stop → IsTypeStop p stop
  stop_in_procs stop law h = whole stop (stop_right (pair_parts 0 p.declared) (routines_parts p.procs ++ routines_parts p.mains) stop (order_typed law) (stop_left (routines_parts p.procs) (routines_parts p.mains) stop h))

  pub stop_in_mains : (stop : TypeStop) → IsLawful (pairs_of p) → All (RoutineTyped p) p.procs → PartsStop p (routines_parts p.mains) stop → IsTypeStop p stop
  stop_in_mains stop law t h =
      whole stop (stop_right (pair_parts 0 p.declared) (routines_parts p.procs ++ routines_parts p.mains) stop (order_typed law)
      (stop_right (routines_parts p.procs) (routines_parts p.mains) stop (routines_typed p p.procs t) h))

  -- the first pair that closes a cycle is the first part that fails
  first_cycle : (n : ℕ) (ds : List Declared) (i : ℕ) (d : Declared) → i < length ds → d ≡ get_or ds i d → Closes (pairs_of p) (n + i) → ((j : ℕ) → j < n + i → Closes (pairs_of p) j → ⊥) → FirstPartFault p (pair_parts n ds) Cycle d.at
  first_cycle n [] i d lt e c none = absurd (omega arith)
  first_cycle n (x ∷ ds) zero d lt e c none = record {
    before = [];
    faulty = a_pair n x.at;
    after = pair_parts (suc n) ds;
    is = refl;
    typed = λ k y l. absurd (omega arith);
    fails = (subst (Closes (pairs_of p)) (let z : n + 0 ≡ n = omega arith in z) c, refl);
    there = ap (λ (y : Declared). y.at) e;
  }
  first_cycle n (x ∷ ds) (suc i) d lt e c none =
      let same : n + suc i ≡ suc n + i = omega arith in
      first_right (a_pair n x.at ∷ []) (pair_parts (suc n) ds) Cycle d.at (All-cons (PartTyped p) (a_pair n x.at) [] (none n (omega arith)) (λ k y l. absurd (omega arith)))
      (first_cycle (suc n) ds i d (omega arith) e (subst (Closes (pairs_of p)) same c) (λ j l. none j (omega (arith, same, l))))

  pub cycle_stop : (ds : List (ℕ × ℕ × ℕ)) (i : ℕ) (e : ℕ × ℕ × ℕ) (stop : TypeStop) → p.declared ≡ map read_pair ds → IsFirstCycle (pairs_of p) i → stop ≡ Fault (record { kind = Cycle; at = (get_or ds i e).0 }) → PartsStop p (pair_parts 0 p.declared) stop
  cycle_stop ds i e stop is c s =
      let few : i < length p.declared = omega (arith, slice_get_within (pairs_of p) i c.closes.pair c.closes.is, length-map p.declared (λ (x : Declared). x.pair)) in
      let lt : i < length ds = omega (arith, few, ap length is, length-map ds read_pair) in
      let d = get_or ds i e in
      let found : d ≡ get_or ds i d = sym (get_or_from_slice_get ds i d d (slice_get-get_or ds i e lt)) in
      let there : read_pair d ≡ get_or p.declared i (read_pair d) = ap read_pair found ∙ sym (get_or-map read_pair ds i d) ∙ ap (λ xs. get_or xs i (read_pair d)) (sym is) in
      let zero_more : i ≡ 0 + i = omega arith in
      subst (PartsStop p (pair_parts 0 p.declared)) (sym s) (first_cycle 0 p.declared i (read_pair d) few there (subst (Closes (pairs_of p)) zero_more c.closes) (λ j l. c.first j (omega (arith, l))))

  -- what the check of a body says of a procedure or main
  pub routine_answer : (f : Routine) (s : Context) (G : VarTypes) (result : Result Shared TypeStop) → s ≡ setting_of p f → G ≡ f.declares.params → CodeAnswer s G f.declares.own f.body result → RoutineAnswer p f result
  routine_answer f s G result e g h = cases result (subst (λ x. CodeAnswer x f.declares.params f.declares.own f.body result) e (subst (λ H. CodeAnswer s H f.declares.own f.body result) g h))
    where
      cases : (result : Result Shared TypeStop) → CodeAnswer (setting_of p f) f.declares.params f.declares.own f.body result → RoutineAnswer p f result
      cases (Ok t) h = h
      cases (Err (Fault x)) h = from_sites p f x.kind x.at (code_fault (setting_of p f) f.body f.declares.own (map parameter f.declares.params) f.declares.params x.kind x.at (params_extend (setting_of p f) [] f.declares.params) h)
      cases (Err OutOfMemory) h = tt

  -- a body of another type than the declared one
  pub result_stop : (f : Routine) (T : Type') (stop : TypeStop) → CodeHas f.body (setting_of p f) f.declares.params f.declares.own T → T ≢ f.declares.gives → stop ≡ Fault (record { kind = Mismatch; at = f.at }) → PartsStop p (routine_parts f) stop
  result_stop f T stop h n e = subst (PartsStop p (routine_parts f)) (sym e) here
    where
      here : FirstPartFault p (routine_parts f) Mismatch f.at
      here = record {
        before = map (a_site f) (code_sites f.body f.declares.own (map parameter f.declares.params));
        faulty = a_routine f;
        after = [];
        is = refl;
        typed = sites_typed p f T h;
        fails = (T, h, n, refl);
        there = refl;
      }

  -- one procedure more
  pub typed_more : (fs : List Proc) (i : ℕ) (d : Proc) → i < length fs → d ≡ get_or fs i d → All (RoutineTyped p) (map read_proc (take i fs)) → RoutineTyped p (read_proc d) → All (RoutineTyped p) (map read_proc (take (i + 1) fs))
  typed_more fs i d lt e t h =
      let more : map read_proc (take (i + 1) fs) ≡ map read_proc (take i fs) ++ read_proc d ∷ [] =
      ap (map read_proc) (take_more fs i d lt ∙ ap (λ x. take i fs ++ x ∷ []) (sym e)) ∙ map-append read_proc (take i fs) (d ∷ []) in
      subst (All (RoutineTyped p)) (sym more) (All-push (RoutineTyped p) (map read_proc (take i fs)) (read_proc d) t h)

  pub typed_all : (fs : List Proc) (i : ℕ) → length fs ≤ i → All (RoutineTyped p) (map read_proc (take i fs)) → All (RoutineTyped p) (map read_proc fs)
  typed_all fs i le t = subst (λ gs. All (RoutineTyped p) (map read_proc gs)) (take_all i fs le) t

  pub scoped_at : (fs : List Proc) (i : ℕ) (d : Proc) → i < length fs → d ≡ get_or fs i d → All (RoutineIn p) (map read_proc fs) → RoutineIn p (read_proc d)
  scoped_at fs i d lt e h = subst (RoutineIn p) (get_or-map read_proc fs i d ∙ ap read_proc (sym e)) (h i (read_proc d) (omega (arith, lt, length-map fs read_proc)))

-- the procedures as they are declared
pub signatures : (fs : List Proc) → map read_sig fs ≡ map (λ (g : Routine). g.declares) (map read_proc fs)
signatures [] = refl
signatures (f ∷ fs) = ap (read_sig f ∷◌) (signatures fs)

pub same_setting : (s : Context) (pairs : List Pair) (procs : List Signature) (given : List Constraint) → s.pairs ≡ pairs → s.procs ≡ procs → s.given ≡ given → s ≡ record { pairs = pairs; procs = procs; given = given }
same_setting s pairs procs given a b c = ap₂ (λ xs ys. record { pairs = xs; procs = ys; given = s.given }) a b ∙ ap (λ zs. record { pairs = pairs; procs = procs; given = zs }) c

-- pairs between declared priorities
pub pairs_within : (n : ℕ) (ds : List Declared) → All (λ (d : Declared). (d.pair.0 < n) × (d.pair.1 < n)) ds → IsWithin n (map (λ (d : Declared). d.pair) ds)
pairs_within n ds h = All-map (λ (q : Pair). (q.0 < n) × (q.1 < n)) (λ (d : Declared). d.pair) ds h
