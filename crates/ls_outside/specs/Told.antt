-- What the objects in memory tell, and when they fail.
use Rattle.std.specs.Prelude.{◌≡◌, ◌⊎◌, ℕ, ◌-◌, min, List, length, Some, None}
use Rattle.std.specs.declared.option.Option.{Option}
use Rattle.ls_outside.specs.Left.{pieces_left}
use Rattle.ls_outside.specs.Plans.{IsNextToFail}
use Rattle.ls_outside.specs.FilesInMemory.{content_of}
use Rattle.ls_outside.specs.declared.plan.Plan.{Plan}
use Rattle.ls_outside.specs.declared.sink.Put.{Put}
use Rattle.ls_outside.specs.declared.sink.Put.TheVariants as put
use Rattle.ls_outside.specs.declared.files.Fetch.{Fetch}
use Rattle.ls_outside.specs.declared.files.Fetch.TheVariants as fetch
use Rattle.ls_outside.specs.declared.memory.MemSource.{MemSource}
use Rattle.ls_outside.specs.declared.memory.MemSink.{MemSink}
use Rattle.ls_outside.specs.declared.memory.MemFiles.{MemFiles}

abbrev pub source_left : MemSource → Option (List (List ℕ))
source_left source = Some (pieces_left source.pieces)

abbrev pub source_reads : MemSource → List (List ℕ)
source_reads source = source.reads.pieces

abbrev pub source_plan : MemSource → Plan
source_plan source = source.plan

abbrev pub source_faults : MemSource → ℕ
source_faults source = source.failed

abbrev pub sink_taken : MemSink → Option (List ℕ)
sink_taken sink = Some sink.taken.items

abbrev pub sink_writes : MemSink → List (List ℕ)
sink_writes sink = sink.writes.pieces

-- how many bytes a sink still has room for
abbrev pub sink_room : MemSink → ℕ
sink_room sink = sink.room

-- how many bytes a sink takes at most in one write
abbrev pub sink_most : MemSink → ℕ
sink_most sink = sink.most

abbrev pub sink_plan : MemSink → Plan
sink_plan sink = sink.plan

abbrev pub sink_faults : MemSink → ℕ
sink_faults sink = sink.failed

-- how many of these bytes a sink can take
abbrev pub takeable : MemSink → List ℕ → ℕ
takeable sink bytes = min (min (length bytes) (sink_most sink)) (sink_room sink)

-- a write takes as many bytes as it can, and fails exactly where it is to fail or can take none
abbrev pub SinkAnswers : MemSink → List ℕ → Put → Type 0
SinkAnswers sink bytes (put.Some n) = (¬ IsNextToFail (sink_plan sink)) × (n ≡ takeable sink bytes)
SinkAnswers sink bytes put.Failed = IsNextToFail (sink_plan sink) ⊎ (takeable sink bytes ≡ 0)

-- the room that a write leaves
abbrev pub room_after : MemSink → Put → ℕ
room_after sink (put.Some n) = sink_room sink - n
room_after sink put.Failed = sink_room sink

abbrev pub files_held : MemFiles → Option (List ℕ → Option (List ℕ))
files_held files = Some (content_of files.contents)

abbrev pub files_asked : MemFiles → List (List ℕ)
files_asked files = files.asked.pieces

abbrev pub files_reads : MemFiles → List (List ℕ)
files_reads files = files.reads.pieces

abbrev pub files_plan : MemFiles → Plan
files_plan files = files.plan

abbrev pub files_faults : MemFiles → ℕ
files_faults files = files.failed

-- a fetch fails exactly where it is to fail or the name isn't held, unless memory runs out
abbrev pub FilesAnswer : MemFiles → List ℕ → Fetch → Type 0
FilesAnswer files name (fetch.Bytes content) = ¬ IsNextToFail (files_plan files)
FilesAnswer files name fetch.Long = ¬ IsNextToFail (files_plan files)
FilesAnswer files name fetch.Failed = IsNextToFail (files_plan files) ⊎ (content_of files.contents name ≡ None)
FilesAnswer files name fetch.Memory = Unit {0}
