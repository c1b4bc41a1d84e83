-- All words have an answer to each input: each layer makes something or has a fault.
use Rattle.std.proofs.Common.{◌≡◌, ℕ, ◌*◌, ◌≤◌, ◌<◌, List, [], ◌++◌, length, Result, Ok, Err, inl, inr, refl, subst, arith}
use Rattle.std.specs.Prelude.{◌⊎◌, ◌^◌}
use Rattle.std.specs.List.{All}
use Rattle.std.proofs.lemmas.Bool.{cases_lt}
use Rattle.priml_syntax.specs.Tree.{Tree, pairs_of}
use Rattle.priml_syntax.specs.Values.{Entry}
use Rattle.priml_io.proofs.CutDecided.{all_cut}
use Rattle.priml_io.proofs.Decided.{le_or_not}
use Rattle.priml_io.proofs.WordsDecided as words
use Rattle.priml_io.specs.Lines.{lines}
use Rattle.priml_io.specs.Sections.{Sections}
use Rattle.priml_io.specs.Words.{ReadsWords}
use Rattle.priml_io.specs.declared.words.Command.{Command}
use Rattle.priml_io.specs.declared.words.Command.TheVariants.{Check, Serial, Report, Run, Trace, Graph, Plan, Judge, Sample}
use Rattle.priml_io.specs.declared.words.WordsFault.{WordsFault}
use Rattle.inputs_text.proofs.LinesDecided as inputs
use Rattle.source_reader.specs.Laws.{IsDecided, stands, faulty}
use Rattle.source_maker.specs.Text.{made_text}
use Rattle.source_maker.specs.Tree.{made_tree}
use Rattle.source_maker.proofs.Source.{made_source}
use Rattle.source_reader.proofs.OneFault.{one_program}
use Rattle.source_reader.proofs.EveryText.{every_text, source_laws}
use Rattle.type_rules.specs.Stops.{IsOrderOf}
use Rattle.type_rules.specs.Typable.{Typable, HasTypeFault}
use Rattle.type_rules.specs.declared.TypeKind.{TypeKind}
use Rattle.type_rules.proofs.TypesDecided.{each_decided}
use Rattle.core_steps.specs.Meaning.{Meaning, meaning, Finished, Over}
use Rattle.core_steps.specs.Steps.{Job}
use Rattle.priority_order.specs.Order.{Names}
use Rattle.cost_graph.specs.Graph.{CostGraph, most_looks, thread_total, vertex_total, IsVertexBelow}
use Rattle.cost_graph.specs.Records.{parts_of, IsGraphOf}
use Rattle.cost_graph.specs.Text.{graph_lines}
use Rattle.prompt_checker.specs.Schedule.{IsPrompt}
use Rattle.prompt_checker.specs.Text.{schedule_text}
use Rattle.prompt_checker.specs.Verdict.{IsVerdict}
use Rattle.prompt_checker.specs.declared.schedule.Verdict.{Verdict}
use Rattle.prompt_checker.specs.declared.schedule.Verdict.TheVariants as verdict
use Rattle.prompt_checker.proofs.LinesDecided as schedules
use Rattle.prompt_checker.proofs.ReadLines.{steps-below}
use Rattle.prompt_checker.proofs.VerdictDecided.{all_judged}
use Rattle.prompt_planner.proofs.CanonicalPrompt.{canonical_prompt}
use Rattle.prompt_planner.proofs.SomePlan.{canonical_some}
use Rattle.response_report.proofs.SomeRows.{rows_some}
use Rattle.priml.specs.Chain.{Answer}
use Rattle.priml.specs.Commands.{WithProgram, WithRecords, WithGraph, Reports, Planned, Judged, Sampled, Of}
use Rattle.priml.specs.Headline.{Are}
use Rattle.priml.specs.Laws.{WordsAreAnswered}
use Rattle.priml.specs.Layers as the
use Rattle.priml.specs.Inside.Prefixes.{IsChecked, IsRecorded, IsGraphed, IsSound}
use Rattle.priml.specs.Runs.{job_with}
use Rattle.priml.specs.Texts.{ok_text, run_text, report_text, summary_text}
use Rattle.priml.proofs.Layered.{Decides, IsSome, layer_decides}
use Rattle.priml.proofs.CutLines.{some_cut_lines}
use Rattle.priml.proofs.Replied.{in_range}
use Rattle.priml.proofs.Sound.{run_graph, sound_run, has_graph, sound}

command_decides : (ws : List (List ℕ)) → Decides (the.command ws)
command_decides ws = go (words.all_read ws) where
  go : (r : Result Command WordsFault) × ReadsWords ws r → Decides (the.command ws)
  go (Ok c, h) = inl (c, h)
  go (Err f, h) = inr (f, h)

long_or_short : (c : Command) (input : List ℕ) → the.ReadsInput c → Decides (the.short c input)
long_or_short c input needs = elim (le_or_not (length input) the.input_limit) [ inl h ↦ inl (tt, λ _. h) | inr n ↦ inr (tt, (needs, (omega (arith, n)))) ]

short_decides : (c : Command) (input : List ℕ) → Decides (the.short c input)
short_decides Check input = long_or_short Check input tt
short_decides (Serial l) input = long_or_short (Serial l) input tt
short_decides (Report c l) input = long_or_short (Report c l) input tt
short_decides (Run w q c l) input = long_or_short (Run w q c l) input tt
short_decides (Trace w q l) input = long_or_short (Trace w q l) input tt
short_decides (Graph l) input = long_or_short (Graph l) input tt
short_decides (Plan c l) input = long_or_short (Plan c l) input tt
short_decides (Judge c l) input = long_or_short (Judge c l) input tt
short_decides (Sample n w q c l) input = inl (tt, λ reads. absurd reads)

source_decides : (text : List ℕ) → Decides (the.source text)
source_decides text = go (every_text text) where
  go : IsDecided text → Decides (the.source text)
  go (stands p h) = inl (p, h)
  go (faulty f h) = inr (f, h)

typed_decides : (text : List ℕ) (p : Tree) → (the.source text).makes p → Decides (the.typed p)
typed_decides text p is = go (each_decided p ((source_laws text).scoped p is)) where
  go : Typable p ⊎ ((k : TypeKind) × (at : ℕ) × HasTypeFault p k at) → Decides (the.typed p)
  go (inl t) = inl (tt, t)
  go (inr f) = inr (record { kind = f.0; at = f.1 }, f.2)

run_decides : (job : Job) (most : ℕ) → Decides (the.run job most)
run_decides job most = go (meaning job most) refl where
  go : (m : Meaning) → meaning job most ≡ m → Decides (the.run job most)
  go Over e = inr (tt, e)
  go (Finished rs) e = inl (rs, e)

small_decides : (g : CostGraph) → Decides (the.small g)
small_decides g = elim (cases_lt most_looks (thread_total g * vertex_total g)) [ inl large ↦ inr (tt, large) | inr small ↦ inl (tt, small) ]

prompt_decides : (pairs : List (ℕ × ℕ)) (g : CostGraph) (cores : ℕ) (steps : List (List ℕ)) → All (λ step. All (λ v. v < vertex_total g) step) steps → Decides (the.prompt pairs g cores steps)
prompt_decides pairs g cores steps within = go (all_judged g pairs cores steps within) where
  go : (v : Verdict) × IsVerdict g (IsVertexBelow g pairs) cores steps v → Decides (the.prompt pairs g cores steps)
  go (verdict.Prompt, h) = inl (tt, h)
  go (verdict.Flaw f, h) = inr (f, h)

-- the layers to a typable program
program_decides : (input : List ℕ) (rest : Sections → Tree → Answer) → ((s : Sections) (p : Tree) → IsChecked input s p → IsSome (rest s p)) → IsSome (WithProgram input rest)
program_decides input rest next =
    layer_decides _ _ (all_cut input) λ s cut.
    layer_decides _ _ (source_decides s.program) λ p is.
    layer_decides _ _ (typed_decides s.program p is) λ _ typed.
    next s p (record { cut = cut; stands = is; typable = typed })

-- the layers to the records of a run
records_decide : (most : ℕ) (input : List ℕ) (rest : Sections → Tree → List Entry → Answer) → ((s : Sections) (p : Tree) (rs : List Entry) → IsRecorded most input s p rs → IsSome (rest s p rs))
    → IsSome (WithRecords most input rest)
records_decide most input rest next =
    program_decides input _ λ s p is.
    layer_decides _ _ (inputs.all_read (lines s.inputs)) λ i read.
    layer_decides _ _ (run_decides (job_with p i) most) λ rs ran.
    next s p rs (record { checked = is; reads = i; read = read; ran = ran })

-- the layers to a cost graph
graph_decides : (most : ℕ) → most < 2 ^ 32 → (input : List ℕ) (rest : Sections → Tree → List Entry → CostGraph → Answer)
    → ((s : Sections) (p : Tree) (rs : List Entry) (g : CostGraph) → IsGraphed most input s p rs g → IsSome (rest s p rs g)) → IsSome (WithGraph most input rest)
graph_decides most few input rest next =
    records_decide most input _ λ s p rs is.
    layer_decides _ _ (inl (has_graph most input s p rs is few)) λ g made.
    next s p rs g (record { recorded = is; made = made })

-- the layers behind a cost graph
module _ (rs : List Entry) (g : CostGraph) (made : IsGraphOf (parts_of rs) g) (p : Tree) (typable : Typable p) (sound : (o : Names) → IsOrderOf p o → IsSound g o) (cores : ℕ) where
  fit : IsSound g (record { names = p.names; pairs = pairs_of p })
  fit = sound (record { names = p.names; pairs = pairs_of p }) (record { names = refl; pairs = refl })

  plan_decides : 1 ≤ cores → Decides (the.plan (pairs_of p) (length p.names) g cores)
  plan_decides one =
      let steps = canonical_some g (pairs_of p) (length p.names) cores made.kept typable.lawful fit.priorities one in
      inl (steps.0, (steps.1, canonical_prompt g (pairs_of p) (length p.names) cores steps.0 made.kept fit.acyclic steps.1))

  rows_decide : (steps : List (List ℕ)) → IsPrompt g (IsVertexBelow g (pairs_of p)) cores steps → Decides (the.rows (pairs_of p) g cores steps)
  rows_decide steps prompt = inl (rows_some g (pairs_of p) cores steps made.kept typable.lawful fit.well_formed prompt)

  reports_decide : (steps : List (List ℕ)) → IsPrompt g (IsVertexBelow g (pairs_of p)) cores steps → IsSome (Reports p rs g cores steps)
  reports_decide steps prompt =
      layer_decides _ _ (small_decides g) λ _ _.
      layer_decides _ _ (rows_decide steps prompt) λ found _.
      (0, report_text p rs g cores steps found, (refl, refl))

module _ (most : ℕ) (input : List ℕ) (s : Sections) (p : Tree) (rs : List Entry) (g : CostGraph) (is : IsGraphed most input s p rs g) (cores : ℕ) where
  graph_plans : 1 ≤ cores → Decides (the.plan (pairs_of p) (length p.names) g cores)
  graph_plans = plan_decides rs g is.made p is.recorded.checked.typable (sound most input s p rs is.recorded g is.made) cores

  graph_reports : (steps : List (List ℕ)) → IsPrompt g (IsVertexBelow g (pairs_of p)) cores steps → IsSome (Reports p rs g cores steps)
  graph_reports = reports_decide rs g is.made p is.recorded.checked.typable (sound most input s p rs is.recorded g is.made) cores

plan_answered : (cores most : ℕ) (input : List ℕ) → 1 ≤ cores → most < 2 ^ 32 → IsSome (Of (Plan cores most) input)
plan_answered cores most input one few =
    graph_decides most few input _ λ s p rs g is.
    layer_decides _ _ (graph_plans most input s p rs g is cores one) λ steps _.
    (0, schedule_text g steps, (refl, refl))

planned_answered : (cores most : ℕ) (input : List ℕ) → 1 ≤ cores → most < 2 ^ 32 → IsSome (Planned cores most input)
planned_answered cores most input one few =
    graph_decides most few input _ λ s p rs g is.
    layer_decides _ _ (graph_plans most input s p rs g is cores one) λ steps made.
    graph_reports most input s p rs g is cores steps made.1

judged_answered : (cores most : ℕ) (input : List ℕ) → most < 2 ^ 32 → IsSome (Judged cores most input)
judged_answered cores most input few =
    graph_decides most few input _ λ s p rs g is.
    layer_decides _ _ (schedules.all_read g (lines s.schedule)) λ steps read.
    layer_decides _ _ (prompt_decides (pairs_of p) g cores steps (steps-below g is.made.kept (lines s.schedule) steps read)) λ _ prompt.
    graph_reports most input s p rs g is cores steps prompt

trace_answered : (w q l : ℕ) (input : List ℕ) → 1 ≤ w → 1 ≤ q → IsSome (Of (Trace w q l) input)
trace_answered w q l input worker step =
    records_decide l input _ λ s p rs _.
    let cuts = some_cut_lines w q worker step rs in
    (0, run_text p rs ++ cuts.0, (refl, (cuts.0, cuts.1, refl)))

sampled_answered : (n c l : ℕ) → n ≤ 5000 → 1 ≤ c → l < 2 ^ 32 → IsSome (Sampled n c l)
sampled_answered n c l few one most = let source = made_source n few in
    layer_decides _ _ (inl (made_tree n, source.stands)) λ p stands.
    let typable : Typable p = subst Typable (one_program (made_text n) (made_tree n) p source.stands stands) source.typable in
    layer_decides _ _ (run_decides (job_with p []) l) λ rs ran.
    layer_decides _ _ (inl (run_graph (made_text n) p [] stands typable l rs ran most)) λ g made.
    layer_decides _ _ (plan_decides rs g made p typable (sound_run (made_text n) p [] stands typable l rs ran g made) c one) λ steps _.
    (0, summary_text n rs steps, (refl, refl))

of_decides : (words : List (List ℕ)) (c : Command) (input : List ℕ) → Are words c → IsSome (Of c input)
of_decides words Check input right = program_decides input _ λ s p _. (0, ok_text, (refl, refl))
of_decides words (Serial l) input right = records_decide l input _ λ s p rs _. (0, run_text p rs, (refl, refl))
of_decides words (Graph l) input right = graph_decides l (in_range words (Graph l) right) input _ λ s p rs g _. (0, graph_lines g p.names, (refl, refl))
of_decides words (Plan c l) input right = let n = in_range words (Plan c l) right in plan_answered c l input n.0 n.1
of_decides words (Report c l) input right = let n = in_range words (Report c l) right in planned_answered c l input n.0 n.2
of_decides words (Judge c l) input right = let n = in_range words (Judge c l) right in judged_answered c l input n.2
of_decides words (Run w q c l) input right = let n = in_range words (Run w q c l) right in planned_answered c l input n.0 n.2.3
of_decides words (Trace w q l) input right = let n = in_range words (Trace w q l) right in trace_answered w q l input n.0 n.2
of_decides words (Sample n w q c l) input right = let m = in_range words (Sample n w q c l) right in sampled_answered n c l m.1 m.2 m.3.3

pub words_answered : WordsAreAnswered
words_answered ws input =
    layer_decides _ _ (command_decides ws) λ c reads.
    layer_decides _ _ (short_decides c input) λ _ _.
    of_decides ws c input reads
