-- The numbers of programs, counted on.
use Rattle.std.specs.Prelude.{◌≡◌, ℕ, ◌+◌, List, [], ◌∷◌, min}
use Rattle.scheme_model.specs.Includes.{Document, data_of, document_at, has_program, max_units, program_number, unit_count}
use Rattle.text_parts.specs.declared.programs.ProgramPlace.{ProgramPlace}

-- the units of documents
abbrev pub units_in : List Document → ℕ
units_in [] = 0
units_in (d ∷ ds) = unit_count (data_of d) + units_in ds

-- the number of a document's program, or of the first unit that is too many, and whether the document has a program
pub record IsProgramPlace (ds : List Document) (n : ℕ) (p : ProgramPlace) : Type 0 where
  pub number : p.number ≡ min (program_number ds n) max_units
  pub there : p.there ≡ has_program (data_of (document_at ds n))
