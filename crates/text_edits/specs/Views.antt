-- What the edits and identifiers of the code stand for.
use Rattle.std.specs.Prelude.{ℕ, zero, suc, ◌+◌, ◌≤◌, nat_lt, List, [], ◌∷◌, map, Option, Some, None, if◌then◌else◌}
use Rattle.std.specs.Ordering.{nat_cmp, ordering_then}
use Rattle.std.specs.declared.cmp.Ordering.{Ordering}
use Rattle.std.specs.Str.{IsCharBoundary}
use Rattle.ls_base.specs.Limits.{max_text}
use Rattle.ls_base.specs.Positions.{position_of}
use Rattle.ls_base.specs.declared.answers.TextEdit.{TextEdit}
use Rattle.ls_base.specs.declared.encoding.Encoding.{Encoding}
use Rattle.ls_base.specs.declared.places.Range.{Range}
use Rattle.ls_base.specs.declared.places.Span as code_span
use Rattle.scheme_model.specs.declared.Occ.{Occ}
use Rattle.scheme_model.specs.Diagnostics.{Span}
use Rattle.text_edits.specs.Edits.{Edit}
use Rattle.text_edits.specs.Members.{Identifier}
use Rattle.text_edits.specs.declared.edits.Edit as code

-- ---- occurrences

abbrev pub occ_cmp : Occ → Occ → Ordering
occ_cmp o p = ordering_then (nat_cmp o.unit p.unit) (ordering_then (nat_cmp o.form p.form) (nat_cmp o.token p.token))

-- a number at a place, and 0 where there is none
abbrev pub first_at : List ℕ → ℕ → ℕ
first_at [] n = 0
first_at (x ∷ xs) zero = x
first_at (x ∷ xs) (suc n) = first_at xs n

-- an identifier of a unit, by the numbers of the first tokens of its forms
abbrev pub identifier_by : List ℕ → Occ → Identifier
identifier_by firsts o = record { occ = o; token = first_at firsts o.form + o.token }

-- ---- edits

abbrev pub span_seen : code_span.Span → Span
span_seen s = record { start = s.start; end = s.end }

abbrev pub edit_of : code.Edit → Edit
edit_of e = record { start = e.span.start; end = e.span.end; text = e.text }

-- from a place on the edits are for bytes of the text one behind another, which begin and end between characters
abbrev pub AreCuts : List ℕ → ℕ → List Edit → Type 0
AreCuts text at [] = IsCharBoundary text at
AreCuts text at (e ∷ es) = IsCharBoundary text at × (at ≤ e.start) × (e.start ≤ e.end) × IsCharBoundary text e.start × AreCuts text e.end es

pub record CanEdit (text : List ℕ) (es : List code.Edit) : Type 0 where
  pub cuts : AreCuts text 0 (map edit_of es)

-- a length with more bytes, unless that is more than a text may have
abbrev pub grown : ℕ → ℕ → Option ℕ
grown n more = if nat_lt max_text (n + more) then None else Some (n + more)

-- ---- positions

abbrev pub range_at : Encoding → List ℕ → (start end : ℕ) → Range
range_at encoding text start end = record { start = position_of encoding text start; end = position_of encoding text end }

abbrev pub edit_told : Encoding → List ℕ → Edit → TextEdit
edit_told encoding text e = record { range = range_at encoding text e.start e.end; new_text = e.text }
