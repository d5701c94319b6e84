use Rattle.std.proofs.Common.{◌≡◌, List, drop}
use Rattle.scheme_model.specs.Diagnostics.{bytes_of}
use Rattle.scheme_model.specs.Program.{UnitResult}
use Rattle.program_answers.specs.Named.{names_in_heads, stands}
use Rattle.read_documents.specs.Places.{ArePlaces, spans_of}
use Rattle.read_documents.specs.Readings.{Read}
use Rattle.scheme_model.specs.Sites.{first_where}
use Rattle.program_answers.proofs.sites.first_name.Given as goal

-- none of those gone through has one
abbrev pub invariant-loop-head : goal.invariant-loop-head
invariant-loop-head l = (rs : List Read) (us : List UnitResult) → ArePlaces l.places rs us →
    first_where (λ o. stands l.standing l.offset (bytes_of (spans_of rs) us o).span) (names_in_heads l.document l.places.heads.now)
    ≡ first_where (λ o. stands l.standing l.offset (bytes_of (spans_of rs) us o).span) (names_in_heads l.document (drop l.head-index l.places.heads.now))
