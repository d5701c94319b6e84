-- What a refused rename says (LSP 3.17, ResponseError): its number, and what it is about, at positions of an encoding in the texts as they
-- were.
use Rattle.std.specs.Prelude.{ℕ, List, ◌++◌, Option, Some, None, codes}
use Rattle.std.specs.Fmt.{decimal}
use Rattle.ls_base.specs.Positions.{position_of}
use Rattle.ls_base.specs.declared.encoding.Encoding.{Encoding}
use Rattle.ls_base.specs.declared.places.Pos.{Pos}
use Rattle.scheme_model.specs.declared.Occ.{Occ}
use Rattle.scheme_model.specs.Diagnostics.{Bytes}
use Rattle.document_store.specs.Texts.{Document}
use Rattle.program_answers.specs.ToldAnswers.{document_at, text_of}
use Rattle.program_answers.specs.Placed.{form_bytes}
use Rattle.rename_model.specs.Difference.{Kind, IsCaptured, IsShadowed, IsQuoted, IsTemplate, IsExport, IsStructure, IsBroken, Side, AtBinder, OfStandard, OfUnbound, OfSymbol, OfNothing, Difference}
use Rattle.rename_conditions.specs.Opened.{Opened, place_of, spans_read}
use Rattle.rename_conditions.specs.Renames.{Refusal, NotBound, IsStandard, BadName, Unreadable, PrefixLost, PrefixClash, BrokenUnit, TooLong, Differs}

-- `URI:LINE:CHARACTER` of the start of bytes
abbrev pub start_text : (uri : List ℕ) → Pos → List ℕ
start_text uri p = uri ++ (codes ":" ++ decimal p.line) ++ (codes ":" ++ decimal p.character)

abbrev pub place_text : Encoding → List (List ℕ × Document) → Bytes → List ℕ
place_text encoding ds b = start_text (document_at ds b.document).0 (position_of encoding (text_of ds b.document) b.span.start)

-- ---- differences

abbrev pub kind_text : Kind → List ℕ
kind_text IsCaptured = codes "captured"
kind_text IsShadowed = codes "shadowed"
kind_text IsQuoted = codes "quoted"
kind_text IsTemplate = codes "template"
kind_text IsExport = codes "export"
kind_text IsStructure = codes "structure"
kind_text IsBroken = codes "broken"

-- a side, where a binder is told by where it stands
abbrev pub side_text : (Occ → List ℕ) → Side → List ℕ
side_text place (AtBinder o) = place o
side_text place (OfStandard s) = codes "standard " ++ s
side_text place (OfUnbound s) = codes "unbound " ++ s
side_text place (OfSymbol s) = s
side_text place OfNothing = codes "nothing"

-- without an occurrence a difference is told at its form
abbrev pub difference_bytes : Opened → (unit form : ℕ) → Option Occ → Bytes
difference_bytes w unit form (Some o) = place_of w o
difference_bytes w unit form None = form_bytes (spans_read w) w.program.units unit form

abbrev pub difference_text : Encoding → List (List ℕ × Document) → Opened → Difference → List ℕ
difference_text encoding ds w d =
    let side = side_text (λ o. place_text encoding ds (place_of w o)) in
    kind_text d.kind ++ (codes " " ++ place_text encoding ds (difference_bytes w d.unit d.form d.occ)) ++ (codes " from " ++ side d.before) ++ (codes " to " ++ side d.after)

-- ---- refusals

abbrev pub refusal_text : Encoding → List (List ℕ × Document) → Opened → Refusal → List ℕ
refusal_text encoding ds w NotBound = codes "refused 1 not bound"
refusal_text encoding ds w (IsStandard name) = codes "refused 2 standard " ++ name
refusal_text encoding ds w BadName = codes "refused 3 bad name"
refusal_text encoding ds w (Unreadable n) = codes "refused 4 unreadable " ++ (document_at ds n).0
refusal_text encoding ds w (PrefixLost prefix) = codes "refused 5 prefix lost " ++ prefix
refusal_text encoding ds w (PrefixClash b) = codes "refused 6 prefix clash " ++ place_text encoding ds b
refusal_text encoding ds w (BrokenUnit b code) = codes "refused 7 broken " ++ place_text encoding ds b ++ (codes " " ++ decimal code)
refusal_text encoding ds w (TooLong n) = codes "refused 8 text too long " ++ (document_at ds n).0
refusal_text encoding ds w (Differs d) = codes "refused 9 " ++ difference_text encoding ds w d
