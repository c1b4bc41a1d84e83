-- One step of a task.
use Rattle.std.proofs.Common.{◌≡◌, ℕ, ◌+◌, List, [], ◌∷◌, ◌++◌, length, Bool, false, true≢false, Option, Some, None, refl, sym, ◌∙◌, ap, subst, arith}
use Rattle.std.specs.Prelude.{IfSome, IsSome}
use Rattle.std.specs.Option.{option_map}
use Rattle.std.proofs.lemmas.List.{length_push}
use Rattle.std.proofs.lemmas.Option.{same_Some, none-some}
use Rattle.priml_syntax.specs.declared.event.Event.{Event}
use Rattle.priml_syntax.specs.declared.event.Event.TheVariants.{Join}
use Rattle.priml_syntax.specs.Paths.{child_path}
use Rattle.priml_syntax.specs.Values.{Outcome'}
use Rattle.priml_syntax.specs.Events.{one_end, one_spawn}
use Rattle.core_steps.specs.Determined.{Fed, Trace, next, one_live}
use Rattle.core_steps.specs.Fields.{LocalFields, state_of}
use Rattle.core_steps.specs.Locals.{IsFed, IsLocal, awaited_at, ended_with}
use Rattle.core_steps.specs.Moves.{Goes}
use Rattle.core_steps.specs.Steps.{Job, State, awaits}
use Rattle.core_steps.proofs.StepFacts.{Facts, ChildOf, step_facts}
use Rattle.core_steps.proofs.StepLaws.{state_path}
use Rattle.task_state.specs.Tasks.{TaskFields, OfJob, IsNamed, OnlyLast, Stands, begun, has_ended}
use Rattle.task_state.specs.Turns.{AllGoOn, WasFed}
use Rattle.task_state.specs.Inside.Steps.{IsChildOf, Stepped}
use Rattle.task_state.proofs.Events.{last_push}
use Rattle.task_state.proofs.States.{start_of, mode_outcome, not_over, opens, state_children, state_prio}

named_on : (p q : List ℕ) (es fs : List Event) (n : Option (List ℕ)) → IsNamed p es n → (n ≡ None → ⊥) → q ≡ p → IsNamed q fs n
named_on p q es fs None h some same = absurd (some refl)
named_on p q es fs (Some r) h some same = h ∙ sym same

some_fed : (job : Job) (s : State) (b : List ℕ) (o : Option Outcome') → Fed job s o → awaits s ≡ Some b → IsSome o
some_fed job s b None f e = absurd (none-some b (sym f ∙ e))
some_fed job s b (Some o) f e = refl

-- what the step of a task leaves
module _ (job : Job) (t : TaskFields) (l' : LocalFields) (e : Event) (child : Option LocalFields) (v : Option ℕ) (ds : List Event) (h : OfJob job t) (live : has_ended t ≡ false)
    (some : t.name ≡ None → ⊥) (g : Goes job t.local t.fed e child l') (fed : IsFed job t.local t.fed) (count : l'.steps ≡ t.local.steps + 1) (local : IsLocal job l')
    (born : IfSome child (IsLocal job)) (knows : (s : State) → state_of job.program l' ≡ Some s → awaits s ≡ awaited_at l'.top v) (on : AllGoOn t.pending) (push : ds ≡ t.pending ++ e ∷ []) where
  abbrev after : TaskFields
  after = record { local = l'; pending = ds; fed = None; variable = v; name = t.name; over = t.over }

  facts : Facts g.old (awaits g.old) g.move
  facts = step_facts job g.old t.fed g.move g.steps

  same : h.state ≡ g.old
  same = same_Some h.state g.old (sym (opens job t h (not_over t live).0) ∙ g.opens)

  path : l'.path ≡ t.local.path
  path = sym (state_path job.program l' g.move.next g.next) ∙ (facts.path ∙ state_path job.program t.local g.old g.opens)

  task : OfJob job after
  task =
      record {
        state = g.move.next;
        from = h.from;
        stands = subst (λ (b : Bool). Stands job l' b g.move.next) (sym (not_over t live).0) g.next;
        trace = next t.fed g.move (subst (λ p. Trace job p h.from t.pending g.old) (sym path) (subst (Trace job t.local.path h.from t.pending) same h.trace)) (fed g.old g.opens) g.steps (push ∙ ap (λ x. t.pending ++ x ∷ []) (sym g.event)) refl;
        counted = omega (arith, ap length push, length_push t.pending e, h.counted, count);
        only_last = subst OnlyLast (sym push) (last_push t.pending e on);
        awaits = knows g.move.next g.next;
        fed = tt;
        named = named_on t.local.path l'.path t.pending ds t.name h.named some path;
        rest = λ over. absurd (true≢false (sym over ∙ (not_over t live).0));
      }

  pub joins_fed : (b : List ℕ) → e ≡ Join b → WasFed t b
  joins_fed b q =
      let z : Some b ≡ awaits g.old = rw (g.event ∙ q) at facts.joins in
      (some_fed job g.old b t.fed (fed g.old g.opens) (sym z), sym h.awaits ∙ (ap awaits same ∙ sym z))

  ends : one_live (ended_with l'.mode) + one_end e ≡ 1
  ends = let m = mode_outcome job.program l' g.move.next g.next in omega (arith, ap one_live m, ap one_end g.event, facts.ends)

  child_of : (o : Option LocalFields) (x : Option State) → option_map (state_of job.program) o ≡ option_map Some x → IfSome o (IsLocal job) → IfSome o (λ (c : LocalFields). c.steps ≡ 0) → ChildOf g.old g.move.event x → IsChildOf job after e (option_map begun o)
  child_of None None q l n f = ap one_spawn (sym g.event) ∙ f
  child_of None (Some x) q l n f = absurd (none-some (Some x) q)
  child_of (Some c) None q l n f = absurd (none-some (state_of job.program c) (sym q))
  child_of (Some c) (Some x) q l n f =
      let o : state_of job.program c ≡ Some x = same_Some (state_of job.program c) (Some x) q in (
        sym g.event ∙ f.event,
        record {
          start = start_of job c l n;
          number = g.old.children;
          children = sym (state_children job.program l' g.move.next g.next) ∙ (facts.children ∙ ap (λ z. g.old.children + one_spawn z) f.event);
          path = sym (state_path job.program c x o) ∙ (f.path ∙ ap (λ p. child_path p g.old.children) (state_path job.program t.local g.old g.opens ∙ sym path));
        },
      )

  pub stepped : Stepped job t (option_map begun child) after
  stepped = record {
    event = e;
    pending = push;
    task = task;
    fed = refl;
    over = (not_over t live).0;
    name = some;
    path = path;
    prio = sym (state_prio job.program l' g.move.next g.next) ∙ (facts.prio ∙ state_prio job.program t.local g.old g.opens);
    steps = count;
    joins = joins_fed;
    born = child_of child g.move.child g.born born g.new facts.child;
    ends = ends;
  }
