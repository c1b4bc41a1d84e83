use Rattle.std.proofs.Common.{◌≡◌, List, refl, length, map, sym, ap, subst, ◌∙◌, inl, inr}
use Rattle.std.proofs.lemmas.List.{length-map}
use Rattle.std.specs.List.{All, Contains}
use Rattle.constraint_proof.specs.Entailed.{Constraint, Entailed}
use Rattle.priml_syntax.specs.Read.{read_type, read_term}
use Rattle.type_rules.specs.Shared.{read_shared}
use Rattle.type_rules.specs.Typing.{subst_type, subst_prio}
use Rattle.priml_syntax.specs.Read.{read_sig}
use Rattle.type_rules.specs.Inside.Answers.{setting, scope_of}
use Rattle.type_rules.proofs.Arguments.{sig_at, stop_arity, stop_mismatch, stop_wrong, stop_constraint, call_fits}
use Rattle.type_rules.proofs.Handed.{failed}
use Rattle.type_rules.proofs.call.type_of_call.Goals as goal

-- the readings are as many as each other where what was compared is
as_long : {X Y A B : Type 0} (f : X → A) (g : Y → B) (xs : List X) {ys zs : List Y} → length xs ≡ length zs → zs ≡ ys → length (map f xs) ≡ length (map g ys)
as_long f g xs {ys} e same = length-map xs f ∙ e ∙ ap length same ∙ sym (length-map ys g)

-- and they are equal where those of what was compared are
as_read : {X Y A B : Type 0} (f : X → B) (g : Y → A) (h : A → B) {xs us : List X} {ys zs : List Y} → us ≡ xs → map f us ≡ map h (map g zs) → zs ≡ ys → map f xs ≡ map h (map g ys)
as_read f g h same fit long = sym (ap (map f) same) ∙ fit ∙ ap (λ v. map h (map g v)) long

pub returns-then-ps-sig : goal.returns-then-ps-sig
returns-then-ps-sig c =
    let sig = c.index-procs-f.result in
    stop_arity (setting c.args.known.now c.args.procs.now) (scope_of c.args.scope.now) c.args.r (read_sig sig) c.args.ps.now (map read_term c.args.es.now) c.args.f c.args.at
    (sig_at c.args.procs.now c.args.f sig c.requires.known_call c.index-procs-f.is) (map read_shared c.in_ok-types.types.items) c.in_ok-types.ensures
    (inl c.if-ps-sig.true) c.fault.result c.fault.ensures

pub returns-then-not-same_prio : goal.returns-then-not-same_prio
returns-then-not-same_prio c =
    let is = sig_at c.args.procs.now c.args.f c.index-procs-f.result c.requires.known_call c.index-procs-f.is in
    let long = as_long read_term read_type c.args.es.now c.if-es-params.false c.as_slice-params.ensures.value in
    let fit = as_read read_shared read_type (subst_type c.args.ps.now) c.as_slice.ensures.value (c.are_instances.ensures.0 c.if-not-are_instances.false) c.as_slice-params.ensures.value in
    stop_wrong (setting c.args.known.now c.args.procs.now) (scope_of c.args.scope.now) c.args.r (read_sig c.index-procs-f.result) c.args.ps.now (map read_term c.args.es.now) c.args.f c.args.at is (map read_shared c.in_ok-types.types.items) c.in_ok-types.ensures c.if-ps-sig.false long fit
    (λ e. failed c.same_prio.result c.if-not-same_prio.true c.same_prio.ensures.1 (c.subst_prio.ensures ∙ e))
    c.fault-then-not-same_prio.result c.fault-then-not-same_prio.ensures

pub returns-then-not-are_instances : goal.returns-then-not-are_instances
returns-then-not-are_instances c =
    let is = sig_at c.args.procs.now c.args.f c.index-procs-f.result c.requires.known_call c.index-procs-f.is in
    let long = as_long read_term read_type c.args.es.now c.if-es-params.false c.as_slice-params.ensures.value in
    stop_mismatch (setting c.args.known.now c.args.procs.now) (scope_of c.args.scope.now) c.args.r (read_sig c.index-procs-f.result) c.args.ps.now (map read_term c.args.es.now) c.args.f c.args.at is (map read_shared c.in_ok-types.types.items) c.in_ok-types.ensures c.if-ps-sig.false long
    (λ e. failed c.are_instances.result c.if-not-are_instances.true c.are_instances.ensures.1
    (ap (map read_shared) c.as_slice.ensures.value ∙ e ∙ sym (ap (λ xs. map (subst_type c.args.ps.now) (map read_type xs)) c.as_slice-params.ensures.value)))
    c.fault-then-not-are_instances.result c.fault-then-not-are_instances.ensures

pub returns-then-not-all_hold : goal.returns-then-not-all_hold
returns-then-not-all_hold c =
    let is = sig_at c.args.procs.now c.args.f c.index-procs-f.result c.requires.known_call c.index-procs-f.is in
    let long = as_long read_term read_type c.args.es.now c.if-es-params.false c.as_slice-params.ensures.value in
    let fit = as_read read_shared read_type (subst_type c.args.ps.now) c.as_slice.ensures.value (c.are_instances.ensures.0 c.if-not-are_instances.false) c.as_slice-params.ensures.value in
    let own = sym c.subst_prio.ensures ∙ c.same_prio.ensures.0 c.if-not-same_prio.false in
    let w = c.if-not-all_hold.ensures in
    stop_constraint (setting c.args.known.now c.args.procs.now) (scope_of c.args.scope.now) c.args.r (read_sig c.index-procs-f.result) c.args.ps.now (map read_term c.args.es.now) c.args.f c.args.at is (map read_shared c.in_ok-types.types.items) c.in_ok-types.ensures c.if-ps-sig.false long fit own
    w.0 (subst (λ xs. Contains xs w.0) c.as_slice-2.ensures.value w.1) w.2
    c.fault-then-not-all_hold.result c.fault-then-not-all_hold.ensures

pub returns : goal.returns
returns c =
    let is = sig_at c.args.procs.now c.args.f c.index-procs-f.result c.requires.known_call c.index-procs-f.is in
    let long = as_long read_term read_type c.args.es.now c.if-es-params.false c.as_slice-params.ensures.value in
    let fit = as_read read_shared read_type (subst_type c.args.ps.now) c.as_slice.ensures.value (c.are_instances.ensures.0 c.if-not-are_instances.false) c.as_slice-params.ensures.value in
    let own = sym c.subst_prio.ensures ∙ c.same_prio.ensures.0 c.if-not-same_prio.false in
    let k = c.args.known.now in
    call_fits (setting c.args.known.now c.args.procs.now) (scope_of c.args.scope.now) c.args.r (read_sig c.index-procs-f.result) c.args.ps.now (map read_term c.args.es.now) c.args.f c.args.at is (map read_shared c.in_ok-types.types.items) c.in_ok-types.ensures c.if-ps-sig.false long fit own
    (subst (λ xs. All (λ (d : Constraint). Entailed k.pairs k.given (subst_prio c.args.ps.now d.0) (subst_prio c.args.ps.now d.1)) xs) c.as_slice-2.ensures.value c.if-not-all_hold.ensures) _ refl

pub returns-then-es-params : goal.returns-then-es-params
returns-then-es-params c =
    let sig = c.index-procs-f.result in
    stop_arity (setting c.args.known.now c.args.procs.now) (scope_of c.args.scope.now) c.args.r (read_sig sig) c.args.ps.now (map read_term c.args.es.now) c.args.f c.args.at
    (sig_at c.args.procs.now c.args.f sig c.requires.known_call c.index-procs-f.is) (map read_shared c.in_ok-types.types.items) c.in_ok-types.ensures
    (inr (λ e. c.if-es-params.true (sym (length-map c.args.es.now read_term) ∙ e ∙ length-map sig.params.items read_type ∙ ap length (sym c.as_slice-params.ensures.value)))) c.fault-then-es-params.result c.fault-then-es-params.ensures
