-- The lines of cuts.
use Rattle.std.specs.Prelude.{ℕ, List, [], ◌∷◌, ◌++◌, codes}
use Rattle.std.specs.Fmt.{decimal}
use Rattle.std.specs.List.{flat_map}
use Rattle.priml_syntax.specs.Text.{path_text}
use Rattle.trace_book.specs.declared.segment.Cut.{Cut}
use Rattle.trace_book.specs.Log.{Log}

-- the line of a cut of the thread of this path
abbrev pub cut_line : List ℕ → Cut → List ℕ
cut_line p c =
    codes "cut " ++ path_text p ++ codes " from " ++ decimal c.from ++ codes " steps " ++ decimal c.steps ++ codes " worker " ++ decimal c.worker ++ 10 ∷ []

-- the lines of a thread's cuts
abbrev pub log_lines : Log → List ℕ
log_lines l = flat_map (cut_line l.path) l.cuts
