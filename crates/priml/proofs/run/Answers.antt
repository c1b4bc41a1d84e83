use Rattle.std.proofs.Common.{rules, ◌≡◌, Result, Ok, Err, IfErr, subst, sym}
use Rattle.std.specs.Process.{exit_status}
use Rattle.priml.specs.Lines.{memory_line}
use Rattle.priml.specs.Inside.Reply.{Wrote}
use Rattle.priml.specs.Streams.{sink_run}
use Rattle.priml.proofs.run.Goals as goal
use Rattle.priml.proofs.run.Goals.{in-Ok, in-Err, in-Err-2}

if_ok : {T E : Type 0} (P : E → Type 0) (r : Result T E) (t : T) → r ≡ Ok t → IfErr r P
if_ok {T} {E} P r t is = subst (λ (x : Result T E). IfErr x P) (sym is) tt

if_err : {T E : Type 0} (P : E → Type 0) (r : Result T E) (e : E) → r ≡ Err e → P e → IfErr r P
if_err {T} {E} P r e is holds = subst (λ (x : Result T E). IfErr x P) (sym is) holds

pub returns-clause-memory : goal.returns-clause-memory
returns-clause-memory g c =
    elim c.match-words.branch [
      | in-Ok w ↦ if_ok _ c.args.words _ w.in-Ok.is
      | in-Err w ↦
          let status : w.no_memory-status.result ≡ exit_status c.from.result = search rules in
          if_err _ c.args.words _ w.in-Err.is (λ k.
          subst (λ s. Wrote (sink_run (g.K.Sink.written c.args.sink.now) (g.K.Sink.written s) (g.K.Sink.faults c.args.sink.now) (g.K.Sink.faults s)) 10 memory_line (exit_status c.from.result))
          (sym w.sink-is) (subst (Wrote _ 10 memory_line) status w.no_memory-status.ensures))
      | in-Err-2 w ↦ if_err _ c.args.words _ w.in-Err.is (λ k. search rules)
    ]
