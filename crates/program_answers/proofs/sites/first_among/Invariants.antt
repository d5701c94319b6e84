use Rattle.std.proofs.Common.{◌≡◌, List, drop}
use Rattle.scheme_model.specs.Diagnostics.{bytes_of}
use Rattle.scheme_model.specs.Program.{UnitResult}
use Rattle.program_answers.specs.Named.{stands}
use Rattle.read_documents.specs.Places.{ArePlaces, spans_of}
use Rattle.read_documents.specs.Readings.{Read}
use Rattle.scheme_model.specs.Sites.{first_where}
use Rattle.program_answers.proofs.sites.first_among.Given as goal

-- none of those gone through stands so
abbrev pub invariant-loop-name : goal.invariant-loop-name
invariant-loop-name l = (rs : List Read) (us : List UnitResult) → ArePlaces l.places rs us →
    first_where (λ o. stands l.standing l.offset (bytes_of (spans_of rs) us o).span) l.names ≡ first_where (λ o. stands l.standing l.offset (bytes_of (spans_of rs) us o).span) (drop l.name-index l.names)
