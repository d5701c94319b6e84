use Rattle.std.proofs.Common.{take}
use Rattle.ls_base.specs.Limits.{max_text}
use Rattle.file_fetching.specs.FilesSeen.{files_seen}
use Rattle.file_fetching.specs.Fetching.{FetchesAll, bytes_in}
use Rattle.file_fetching.proofs.fetching.fetch_texts.Given as goal

-- those of the names so far were fetched
abbrev pub invariant-loop-name : goal.invariant-loop-name
invariant-loop-name g l =
    FetchesAll (files_seen (g.F.Files.held l.fn.files) (g.F.Files.asked l.fn.files) (g.F.Files.reads l.fn.files) (g.F.Files.faults l.fn.files))
    (files_seen (g.F.Files.held l.files) (g.F.Files.asked l.files) (g.F.Files.reads l.files) (g.F.Files.faults l.files)) (take l.name-index l.names) max_text (bytes_in l.contents)
