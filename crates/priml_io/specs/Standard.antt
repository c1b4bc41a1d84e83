-- What a source and a sink over a reader and a writer of std hold.
use Rattle.std.specs.Prelude.{ℕ}
use Rattle.priml_io.specs.declared.standard.StdSource.{StdSource}
use Rattle.priml_io.specs.declared.standard.StdSink.{StdSink}

-- the reader of a source
abbrev pub reader_of : {R : Type 0} → StdSource R → R
reader_of s = s.reader

-- how many faults a source had
abbrev pub read_faults : {R : Type 0} → StdSource R → ℕ
read_faults s = s.faults

-- the writer of a sink
abbrev pub writer_of : {W : Type 0} → StdSink W → W
writer_of s = s.writer

-- how many faults a sink had
abbrev pub write_faults : {W : Type 0} → StdSink W → ℕ
write_faults s = s.faults
