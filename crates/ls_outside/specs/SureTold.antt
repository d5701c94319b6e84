-- What the objects in memory that never fail tell.
use Rattle.std.specs.Prelude.{ℕ, List, Some}
use Rattle.std.specs.declared.option.Option.{Option}
use Rattle.ls_outside.specs.FilesInMemory.{content_or_empty}
use Rattle.ls_outside.specs.Left.{pieces_left}
use Rattle.ls_outside.specs.Sources.{bytes_of}
use Rattle.ls_outside.specs.declared.sure.SureSource.{SureSource}
use Rattle.ls_outside.specs.declared.sure.SureSink.{SureSink}
use Rattle.ls_outside.specs.declared.sure.SureFiles.{SureFiles}

abbrev pub sure_left : SureSource → Option (List (List ℕ))
sure_left source = Some (pieces_left source.pieces)

abbrev pub sure_reads : SureSource → List (List ℕ)
sure_reads source = source.reads.pieces

abbrev pub sure_taken : SureSink → Option (List ℕ)
sure_taken sink = Some (bytes_of sink.taken.pieces)

abbrev pub sure_writes : SureSink → List (List ℕ)
sure_writes sink = sink.taken.pieces

abbrev pub sure_held : SureFiles → Option (List ℕ → Option (List ℕ))
sure_held files = Some (content_or_empty files.contents)

abbrev pub sure_asked : SureFiles → List (List ℕ)
sure_asked files = files.asked.pieces

abbrev pub sure_files_reads : SureFiles → List (List ℕ)
sure_files_reads files = files.reads.pieces
