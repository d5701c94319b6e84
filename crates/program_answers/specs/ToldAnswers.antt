-- Answers at positions of an encoding (LSP 3.17, Location, DocumentHighlight), about open documents that are read so.
use Rattle.std.specs.Prelude.{ℕ, zero, suc, pos, ◌-◌, ◌==◌, List, [], ◌∷◌, map, take, drop, Bool, false, Option, Some, None, if◌then◌else◌}
use Rattle.std.specs.Option.{option_map}
use Rattle.std.specs.Str.{bytes_eq}
use Rattle.ls_base.specs.Positions.{offset_of}
use Rattle.ls_base.specs.declared.encoding.Encoding.{Encoding}
use Rattle.ls_base.specs.declared.places.Pos.{Pos}
use Rattle.ls_base.specs.declared.places.Place as told_place
use Rattle.ls_base.specs.declared.answers.Answer as told
use Rattle.ls_base.specs.declared.answers.Answer.TheVariants as answers
use Rattle.ls_base.specs.declared.answers.Arrow as told_arrow
use Rattle.ls_base.specs.declared.answers.Highlight as told_highlight
use Rattle.ls_base.specs.declared.answers.Query as told_query
use Rattle.ls_base.specs.declared.answers.Query.TheVariants as queries
use Rattle.scheme_model.specs.declared.Occ.{Occ}
use Rattle.scheme_model.specs.Diagnostics.{Bytes}
use Rattle.scheme_model.specs.Program.{units_of}
use Rattle.scheme_model.specs.Session.{Query, Definition, References, Highlights, Prepare, Arrows}
use Rattle.document_store.specs.Texts.{Document}
use Rattle.scheme_model.specs.Answers.{Answer, Nothing, Places, Lit, Prepared, Drawn, Facts, facts_of, answer_in, no_answer}
use Rattle.read_documents.specs.Listed.{range_of}
use Rattle.read_documents.specs.Places.{spans_of}
use Rattle.read_documents.specs.Readings.{Read, documents_in, program_in}
use Rattle.scheme_model.specs.Sites.{name_at}

-- ---- documents

-- the document at a place, and one without a name or a text where there is none
abbrev pub document_at : List (List ℕ × Document) → ℕ → List ℕ × Document
document_at [] n = ([], (pos 0, []))
document_at (d ∷ ds) zero = d
document_at (d ∷ ds) (suc n) = document_at ds n

abbrev pub text_of : List (List ℕ × Document) → ℕ → List ℕ
text_of ds n = (document_at ds n).1.1

-- the place of a document among the others
abbrev pub number_of : List (List ℕ × Document) → List ℕ → Option ℕ
number_of [] uri = None
number_of (d ∷ ds) uri = if bytes_eq d.0 uri then Some 0 else option_map suc (number_of ds uri)

-- ---- bytes as they are told

abbrev pub place_told : Encoding → List (List ℕ × Document) → Bytes → told_place.Place
place_told encoding ds b = record { uri = (document_at ds b.document).0; range = range_of encoding (text_of ds b.document) b.span.start b.span.end }

-- a token as it is written
abbrev pub written_at : List (List ℕ × Document) → Bytes → List ℕ
written_at ds b = take (b.span.end - b.span.start) (drop b.span.start (text_of ds b.document))

-- an identifier between bars begins with one (R7RS 7.1.1)
abbrev pub begins_with_bar : List ℕ → Bool
begins_with_bar [] = false
begins_with_bar (c ∷ cs) = c == 124

abbrev pub has_bars : List (List ℕ × Document) → Bytes → Bool
has_bars ds b = begins_with_bar (drop b.span.start (text_of ds b.document))

abbrev pub highlight_told : Encoding → List (List ℕ × Document) → Bytes × ℕ → told_highlight.Highlight
highlight_told encoding ds l = record { range = range_of encoding (text_of ds l.0.document) l.0.span.start l.0.span.end; kind = l.1 }

-- an arrow has its use's token
abbrev pub arrow_told : Encoding → List (List ℕ × Document) → Bytes × Bytes → told_arrow.Arrow
arrow_told encoding ds a = record { from = place_told encoding ds a.0; to = place_told encoding ds a.1; name = written_at ds a.1 }

abbrev pub answer_told : Encoding → List (List ℕ × Document) → Answer → told.Answer
answer_told encoding ds Nothing = answers.Nothing
answer_told encoding ds (Places bs) = answers.Places (map (place_told encoding ds) bs)
answer_told encoding ds (Lit ls) = answers.Highlights (map (highlight_told encoding ds) ls)
answer_told encoding ds (Prepared b) = answers.Prepared (range_of encoding (text_of ds b.document) b.span.start b.span.end) (written_at ds b)
answer_told encoding ds (Drawn xs) = answers.Arrows (map (arrow_told encoding ds) xs)

-- ---- questions

abbrev pub query_of : told_query.Query → Query
query_of queries.Definition = Definition
query_of (queries.References declaration) = References declaration
query_of queries.Highlights = Highlights
query_of queries.Prepare = Prepare
query_of queries.Arrows = Arrows

-- the answer to a query at a position of a document; one that isn't open has no occurrence
abbrev pub answer_by : Encoding → List (List ℕ × Document) → List Read → Option ℕ → Pos → Query → Answer
answer_by encoding ds rs None position query = no_answer query
answer_by encoding ds rs (Some n) position query =
    answer_in (spans_of rs) (units_of (documents_in rs)) (program_in rs) n (offset_of encoding (text_of ds n) position) query

abbrev pub answer_of : Encoding → List (List ℕ × Document) → List Read → (uri : List ℕ) → Pos → Query → told.Answer
answer_of encoding ds rs uri position query = answer_told encoding ds (answer_by encoding ds rs (number_of ds uri) position query)

-- ---- identifiers

-- what answers take of the program of documents that are read so
abbrev pub facts_in : List Read → Facts
facts_in rs = facts_of (spans_of rs) (units_of (documents_in rs)) (program_in rs)

-- the identifier at a position of a document, where there is one
abbrev pub name_by : Encoding → List (List ℕ × Document) → List Read → Option ℕ → Pos → Option Occ
name_by encoding ds rs None position = None
name_by encoding ds rs (Some n) position = name_at (spans_of rs) (program_in rs).units n (offset_of encoding (text_of ds n) position)

abbrev pub name_there : Encoding → List (List ℕ × Document) → List Read → (uri : List ℕ) → Pos → Option Occ
name_there encoding ds rs uri position = name_by encoding ds rs (number_of ds uri) position
