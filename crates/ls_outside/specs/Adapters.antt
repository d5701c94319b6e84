-- What the adapters pass on of the bytes that a reader or writer of std knows.
use Rattle.std.specs.Prelude.{ℕ, List, take}
use Rattle.std.specs.declared.option.Option.{Option}
use Rattle.std.specs.Io.KnownBytes.{Appends, Consumes, IsAtEnd, Keeps}
use Rattle.ls_outside.specs.declared.adapters.StdSource.{StdSource}
use Rattle.ls_outside.specs.declared.adapters.StdSink.{StdSink}
use Rattle.ls_outside.specs.declared.adapters.StdFiles.{StdFiles}
use Rattle.ls_outside.specs.declared.source.Got.{Got}
use Rattle.ls_outside.specs.declared.source.Got.TheVariants as got
use Rattle.ls_outside.specs.declared.sink.Put.{Put}
use Rattle.ls_outside.specs.declared.sink.Put.TheVariants as put

abbrev pub reader_of : {R : Type 0} → StdSource R → R
reader_of source = source.reader

abbrev pub std_source_faults : {R : Type 0} → StdSource R → ℕ
std_source_faults source = source.failed

abbrev pub std_source_reads : {R : Type 0} → StdSource R → List (List ℕ)
std_source_reads source = source.reads.pieces

abbrev pub writer_of : {W : Type 0} → StdSink W → W
writer_of sink = sink.writer

abbrev pub std_sink_faults : {W : Type 0} → StdSink W → ℕ
std_sink_faults sink = sink.failed

abbrev pub std_sink_writes : {W : Type 0} → StdSink W → List (List ℕ)
std_sink_writes sink = sink.writes.pieces

abbrev pub std_files_asked : {R A B : Type 0} → StdFiles R A B → List (List ℕ)
std_files_asked files = files.asked.pieces

abbrev pub std_files_reads : {R A B : Type 0} → StdFiles R A B → List (List ℕ)
std_files_reads files = files.reads.pieces

abbrev pub std_files_faults : {R A B : Type 0} → StdFiles R A B → ℕ
std_files_faults files = files.failed

-- a read passes on the next bytes of the reader, and its end
abbrev pub GotPasses : Option (List ℕ) → Option (List ℕ) → Got → List ℕ → Type 0
GotPasses old new (got.Some n) buffer = Consumes old new (take n buffer)
GotPasses old new got.End buffer = Keeps old new × IsAtEnd new
GotPasses old new got.Failed buffer = Keeps old new

-- a write passes its bytes on to the writer; where the flush fails, the writer may hold a front of them
abbrev pub PutPasses : Option (List ℕ) → Option (List ℕ) → Put → List ℕ → Type 0
PutPasses old new (put.Some n) bytes = Appends old new (take n bytes)
PutPasses old new put.Failed bytes = (n : ℕ) × Appends old new (take n bytes)
