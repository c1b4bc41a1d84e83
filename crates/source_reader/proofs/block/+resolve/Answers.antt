use Rattle.std.proofs.Common.{◌≡◌, ◌+◌, ◌++◌, [], ◌∷◌, length, drop, refl, sym, ap, subst, ◌∙◌, arith}
use Rattle.std.proofs.lemmas.List.{take_all}
use Rattle.priml_syntax.specs.Tree as tree
use Rattle.priml_syntax.specs.Lists.{body_of}
use Rattle.priml_syntax.specs.Read.{read_code}
use Rattle.source_grammar.specs.declared.raw.RawBlock.{out-RawBlock}
use Rattle.source_grammar.specs.RawRead.{read_action, read_block, read_expr}
use Rattle.source_reader.specs.declared.faults.What.TheVariants.{Scope}
use Rattle.source_reader.specs.Faults.{term_faults, scope_faults, body_faults, act_faults, code_faults, room_faults}
use Rattle.source_reader.specs.Resolved.{body_meant, act_meant, code_meant}
use Rattle.source_reader.specs.Inside.Fits.{BodyFits, CodeFits}
use Rattle.source_reader.specs.Inside.Gives.{First}
use Rattle.source_reader.specs.Inside.Known.{env_in}
use Rattle.source_reader.specs.Inside.Bodies.{raw_body_of}
use Rattle.source_reader.proofs.RawBlocks.{raw_tail_of, opened, next_item, no_item}
use Rattle.source_reader.proofs.Lists.{gives_first, handed_on, handed_first, handed_second, full}
use Rattle.source_reader.proofs.Walk.{passed, regrouped, made_more, kept_push, code_first, deeper}
use Rattle.source_reader.proofs.block.+resolve.Goals as goal

pub block_of-loop-bind-init : goal.block_of-loop-bind-init
block_of-loop-bind-init t c =
    let b = c.args.raw.now in
    let xs = c.deref-bind-items.result.now in
    record {
      room = c.requires.room;
      deep = omega (arith, c.len-outer.ensures);
      kept = take_all c.len-outer.result c.args.scope.now.items (omega (arith, c.len-outer.ensures));
      fits = subst CodeFits (opened b xs c.deref-bind-items.ensures.value) c.requires.fits;
      faults = refl;
      made = ap (λ v. body_of v (body_meant (raw_body_of xs (raw_tail_of b)) (env_in c.args.names.now) c.args.scope.now.items)) (sym c.in_ok-binds.ensures.items);
    }

pub block_of-returns-in_err-action-clause-gives : goal.block_of-returns-in_err-action-clause-gives
block_of-returns-in_err-action-clause-gives t c =
    let b = c.args.raw.now in
    let xs = c.deref-bind-items.result.now in
    let d = c.bind-item.result in
    let env = env_in c.args.names.now in
    let now = c.loop-bind.scope.items in
    let room = room_faults d.name.at (length now) 32 Scope in
    let act = act_faults (read_action d.action) env now in
    let more = body_faults (raw_body_of (drop (c.loop-bind.bind-index + 1) xs) (raw_tail_of b)) env (now ++ d.name.id ∷ []) in
    let all = body_faults (raw_body_of xs (raw_tail_of b)) env c.args.scope.now.items in
    let step : all ≡ room ++ (act ++ more) = c.loop-bind.invariant.faults ∙ ap (λ x. body_faults x env now) (next_item xs c.loop-bind.bind-index d (raw_tail_of b) c.loop-bind-test.true c.bind-item.is) in
    let e = c.in_err-action.field-0.0 in
    handed_on (code_faults (read_block b) env c.args.scope.now.items) (code_meant (read_block b) (env_in c.args.names.now) c.args.scope.now.items) read_code e _ c.from_residual-in_err-action.ensures.1
    (code_first b xs env c.args.scope.now.items e c.deref-bind-items.ensures.value (gives_first all (room ++ act) more e (regrouped all room act more step) c.in_err-action.ensures.gives))

pub block_of-loop-bind-preserved : goal.block_of-loop-bind-preserved
block_of-loop-bind-preserved t c =
    let b = c.args.raw.now in
    let xs = c.deref-bind-items.result.now in
    let d = c.bind-item.result in
    let i = c.loop-bind.bind-index in
    let env = env_in c.args.names.now in
    let now = c.loop-bind.scope.items in
    let new = c.bound.new.scope.items in
    let rest = raw_body_of (drop (i + 1) xs) (raw_tail_of b) in
    let room = room_faults d.name.at (length now) 32 Scope in
    let act = act_faults (read_action d.action) env now in
    let more = body_faults rest env (now ++ d.name.id ∷ []) in
    let all = body_faults (raw_body_of xs (raw_tail_of b)) env c.args.scope.now.items in
    let all_made = body_meant (raw_body_of xs (raw_tail_of b)) env c.args.scope.now.items in
    let next = next_item xs i d (raw_tail_of b) c.loop-bind-test.true c.bind-item.is in
    let step : all ≡ room ++ (act ++ more) = c.loop-bind.invariant.faults ∙ ap (λ x. body_faults x env now) next in
    let made_step : all_made ≡ body_of c.loop-bind.binds.items (tree.bind d.at (act_meant (read_action d.action) env now) (body_meant rest env (now ++ d.name.id ∷ []))) = c.loop-bind.invariant.made ∙ ap (λ x. body_of c.loop-bind.binds.items (body_meant x env now)) next in
    let fits = subst BodyFits next c.loop-bind.invariant.fits in
    let s : new ≡ now ++ d.name.id ∷ [] = c.in_ok-action.ensures.scope in
    record {
      room = c.in_ok-action.ensures.room;
      deep = deeper now new d.name.id c.len-outer.result c.loop-bind.invariant.deep s;
      kept = kept_push now new d.name.id c.len-outer.result c.loop-bind.invariant.deep s ∙ c.loop-bind.invariant.kept;
      fits = fits.1;
      faults = subst (λ z. all ≡ body_faults rest env z) (sym s) (passed all room act more step c.in_ok-action.ensures.gives.0);
      made = subst (λ z. all_made ≡ body_of c.push.new.items.items (body_meant rest env z)) (sym s)
          (made_more all_made (body_meant rest env (now ++ d.name.id ∷ [])) (act_meant (read_action d.action) env now) c.loop-bind.binds.items c.push.new.items.items (record { at = d.at; action = c.in_ok-action.action }) d.at made_step c.in_ok-push.ensures refl c.in_ok-action.ensures.gives.1);
    }

pub block_of-returns-in_err-tail-clause-gives : goal.block_of-returns-in_err-tail-clause-gives
block_of-returns-in_err-tail-clause-gives t c =
    let b = c.args.raw.now in
    let xs = c.deref-bind-items.result.now in
    let env = env_in c.args.names.now in
    let now = c.loop-bind.scope.items in
    let tail = raw_tail_of b in
    let all = body_faults (raw_body_of xs tail) env c.args.scope.now.items in
    let e = c.in_err-tail.field-0.0 in
    let step : all ≡ body_faults tail env now = c.loop-bind.invariant.faults ∙ ap (λ x. body_faults x env now) (no_item xs c.loop-bind.bind-index tail c.loop-bind-test.false) in
    let first : First (body_faults tail env now) e = c.in_err-tail.ensures.gives in
    handed_on (code_faults (read_block b) env c.args.scope.now.items) (code_meant (read_block b) (env_in c.args.names.now) c.args.scope.now.items) read_code e _ c.from_residual-in_err-tail.ensures.1
    (code_first b xs env c.args.scope.now.items e c.deref-bind-items.ensures.value (subst (λ fs. First fs e) (sym step) first))

pub block_of-returns-clause-gives : goal.block_of-returns-clause-gives
block_of-returns-clause-gives t c =
    let b = c.args.raw.now in
    let xs = c.deref-bind-items.result.now in
    let env = env_in c.args.names.now in
    let now = c.loop-bind.scope.items in
    let old = c.args.scope.now.items in
    let tail = raw_tail_of b in
    let over = no_item xs c.loop-bind.bind-index tail c.loop-bind-test.false in
    let last = c.in_ok-tail.ensures.gives in
    let same = opened b xs c.deref-bind-items.ensures.value in (
      ap (λ x. code_faults x env old) same ∙ c.loop-bind.invariant.faults ∙ ap (λ x. body_faults x env now) over ∙ last.0,
      c.of.ensures ∙ ap (λ x. tree.block (out-RawBlock b).at (body_of c.loop-bind.binds.items x)) (last.1 ∙ sym (ap (λ x. body_meant x env now) over))
          ∙ ap (tree.block (out-RawBlock b).at) (sym c.loop-bind.invariant.made) ∙ sym (ap (λ x. code_meant x env old) same),
    )

pub bound-returns-then-len-ge-MOST_IN_SCOPE-clause-gives : goal.bound-returns-then-len-ge-MOST_IN_SCOPE-clause-gives
bound-returns-then-len-ge-MOST_IN_SCOPE-clause-gives t c =
    full c.args.raw.now.name.at (length c.args.scope.now.items) 32 Scope (act_faults (read_action c.args.raw.now.action) (env_in c.args.names.now) c.args.scope.now.items) (omega (arith, c.len.ensures, c.if-len-ge-MOST_IN_SCOPE.true))

pub branch-returns-then-outer-ge-MOST_IN_SCOPE-clause-gives : goal.branch-returns-then-outer-ge-MOST_IN_SCOPE-clause-gives
branch-returns-then-outer-ge-MOST_IN_SCOPE-clause-gives t c =
    full c.args.inside.now.at (length c.args.scope.now.items) 32 Scope (code_faults (read_block c.args.raw.now) (env_in c.args.names.now) (c.args.scope.now.items ++ c.args.inside.now.id ∷ [])) (omega (arith, c.len-outer.ensures, c.if-outer-ge-MOST_IN_SCOPE.true))

pub action_of-returns-in_err-own-in-Spawn-clause-gives : goal.action_of-returns-in_err-own-in-Spawn-clause-gives
action_of-returns-in_err-own-in-Spawn-clause-gives t c =
    rw c.in-Spawn.is (handed_on _ _ _ c.in_err-own-in-Spawn.field-0.0 _ c.from_residual-in_err-own-in-Spawn.ensures.1 (gives_first _ _ _ c.in_err-own-in-Spawn.field-0.0 refl c.in_err-own-in-Spawn.ensures))

pub form_of-returns-in_err-e-in-If-clause-gives : goal.form_of-returns-in_err-e-in-If-clause-gives
form_of-returns-in_err-e-in-If-clause-gives t c =
    rw c.in-If.is (handed_first c.deref-in-If.ensures.value _ (term_faults (env_in c.args.names.now) (read_expr c.in-If.e)) (code_faults (read_block c.in-If.a.value) (env_in c.args.names.now) c.args.scope.now.items ++ code_faults (read_block c.in-If.b.value) (env_in c.args.names.now) c.args.scope.now.items)
    _ _ c.in_err-e-in-If.field-0.0 _ refl c.from_residual-in_err-e-in-If.ensures.1 c.in_err-e-in-If.ensures)

pub form_of-returns-in_err-a-in-If-clause-gives : goal.form_of-returns-in_err-a-in-If-clause-gives
form_of-returns-in_err-a-in-If-clause-gives t c =
    let none = subst (λ z. term_faults (env_in c.args.names.now) (read_expr c.in-If.e) z ≡ []) c.deref-in-If.ensures.value c.in_ok-e-in-If.ensures.0 in
    rw c.in-If.is (handed_second c.deref-in-If-2.ensures _ (term_faults (env_in c.args.names.now) (read_expr c.in-If.e) c.args.scope.now.items) (λ z. code_faults (read_block z) (env_in c.args.names.now) c.args.scope.now.items) (code_faults (read_block c.in-If.b.value) (env_in c.args.names.now) c.args.scope.now.items)
    _ _ c.in_err-a-in-If.field-0.0 _ refl none c.from_residual-in_err-a-in-If.ensures.1 c.in_err-a-in-If.ensures.gives)

pub form_of-returns-in_err-e-in-Case-clause-gives : goal.form_of-returns-in_err-e-in-Case-clause-gives
form_of-returns-in_err-e-in-Case-clause-gives t c =
    rw c.in-Case.is (handed_first c.deref-in-Case.ensures.value _ (term_faults (env_in c.args.names.now) (read_expr c.in-Case.e)) ((scope_faults c.in-Case.m c.args.scope.now.items ++ code_faults (read_block c.in-Case.a.value) (env_in c.args.names.now) (c.args.scope.now.items ++ c.in-Case.m.id ∷ [])) ++ (scope_faults c.in-Case.n c.args.scope.now.items ++ code_faults (read_block c.in-Case.b.value) (env_in c.args.names.now) (c.args.scope.now.items ++ c.in-Case.n.id ∷ [])))
    _ _ c.in_err-e-in-Case.field-0.0 _ refl c.from_residual-in_err-e-in-Case.ensures.1 c.in_err-e-in-Case.ensures)

pub form_of-returns-in_err-a-in-Case-clause-gives : goal.form_of-returns-in_err-a-in-Case-clause-gives
form_of-returns-in_err-a-in-Case-clause-gives t c =
    let none = subst (λ z. term_faults (env_in c.args.names.now) (read_expr c.in-Case.e) z ≡ []) c.deref-in-Case.ensures.value c.in_ok-e-in-Case.ensures.0 in
    rw c.in-Case.is (handed_second c.deref-in-Case-2.ensures _ (term_faults (env_in c.args.names.now) (read_expr c.in-Case.e) c.args.scope.now.items) (λ z. scope_faults c.in-Case.m c.args.scope.now.items ++ code_faults (read_block z) (env_in c.args.names.now) (c.args.scope.now.items ++ c.in-Case.m.id ∷ [])) (scope_faults c.in-Case.n c.args.scope.now.items ++ code_faults (read_block c.in-Case.b.value) (env_in c.args.names.now) (c.args.scope.now.items ++ c.in-Case.n.id ∷ []))
    _ _ c.in_err-a-in-Case.field-0.0 _ refl none c.from_residual-in_err-a-in-Case.ensures.1 c.in_err-a-in-Case.ensures.gives)
