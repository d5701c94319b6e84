-- Renames in the notation of rows, which tell of a place where it starts.
use Rattle.std.specs.Prelude.{ℕ, suc, ◌+◌, ◌-◌, List, [], ◌∷◌, ◌++◌, map, length, Bool, false, Option, Some, None, Result, Ok, Err, if◌then◌else◌}
use Rattle.std.specs.Str.{bytes_eq}
use Rattle.scheme_model.specs.declared.Occ.{Occ}
use Rattle.scheme_model.specs.Diagnostics.{Bytes, Span, or_start, span_at}
use Rattle.scheme_model.specs.Sites as sites
use Rattle.rename_model.specs.Difference as d
use Rattle.rename_model.specs.Difference.{Kind, Side, Difference}
use Rattle.text_edits.specs.Edits.{Edit, edited}
use Rattle.text_edits.specs.Members.{identifiers_of, members_of, name_at, name_of, prefix_of, stem_of}
use Rattle.text_edits.specs.NewNames.{begins_with_bar, edit_if, edits_of}
use Rattle.text_edits.specs.Renamed.{Now, datum_now}
use Rattle.rename_conditions.specs.Readers.{Reading, Reader, spans_in}
use Rattle.rename_conditions.specs.Opened.{Opened, DocEdits, opened, place_of}
use Rattle.rename_conditions.specs.Renames as r
use Rattle.rename_conditions.specs.Renames.{Refusal, rename_in}

-- one side of a difference
pub data End : Type 0 where
  Binder : (document start : ℕ) → End
  Standard : List ℕ → End
  Unbound : List ℕ → End
  Symbol : List ℕ → End
  Nothing : End

pub data Told : Type 0 where
  Edits : List DocEdits → Told
  NotBound : Told
  OfStandard : List ℕ → Told
  BadName : Told
  Unreadable : (document : ℕ) → Told
  PrefixLost : List ℕ → Told
  PrefixClash : (document start : ℕ) → Told
  BrokenUnit : (document start code : ℕ) → Told
  TooLong : (document : ℕ) → Told
  Differs : Kind → (document start : ℕ) → (before after : End) → Told

abbrev end_of : (Occ → Bytes) → Side → End
end_of place (d.AtBinder o) = Binder (place o).document (place o).span.start
end_of place (d.OfStandard s) = Standard s
end_of place (d.OfUnbound s) = Unbound s
end_of place (d.OfSymbol s) = Symbol s
end_of place d.OfNothing = Nothing

-- without an occurrence a difference is told at its form
abbrev difference_told : (Occ → Bytes) → Difference → Told
difference_told place x =
    let b = place (or_start x.unit x.form x.occ) in Differs x.kind b.document b.span.start (end_of place x.before) (end_of place x.after)

abbrev refusal_told : (Occ → Bytes) → Refusal → Told
refusal_told place r.NotBound = NotBound
refusal_told place (r.IsStandard s) = OfStandard s
refusal_told place r.BadName = BadName
refusal_told place (r.Unreadable n) = Unreadable n
refusal_told place (r.PrefixLost s) = PrefixLost s
refusal_told place (r.PrefixClash b) = PrefixClash b.document b.span.start
refusal_told place (r.BrokenUnit b code) = BrokenUnit b.document b.span.start code
refusal_told place (r.TooLong n) = TooLong n
refusal_told place (r.Differs x) = difference_told place x

abbrev told : (Occ → Bytes) → Result (List DocEdits) Refusal → Told
told place (Ok es) = Edits es
told place (Err e) = refusal_told place e

-- ---- edited texts as they read: the same data with the new names

-- the bytes of the tokens from a number on, behind a place of the old text and one of the new
abbrev spans_now : (ℕ → Option (List ℕ)) → List ℕ → ℕ → (old now : ℕ) → List Span → List Span
spans_now new text n old now [] = []
spans_now new text n old now (s ∷ ss) =
    let start = now + (s.start - old) in
    let end = by_edit start s (edit_if text s (new n)) in record { start = start; end = end } ∷ spans_now new text (suc n) s.end end ss
  where
    by_edit : ℕ → Span → List Edit → ℕ
    by_edit start s [] = start + (s.end - s.start)
    by_edit start s (e ∷ es) = start + length e.text

abbrev has_bars : List ℕ → List Span → (ℕ → Option (List ℕ)) → ℕ → Bool
has_bars text spans new n = by_edit (edit_if text (span_at spans n) (new n))
  where
    by_edit : List Edit → Bool
    by_edit [] = false
    by_edit (e ∷ es) = begins_with_bar e.text

abbrev reading_now : List ℕ → Reading → (ℕ → Option (List ℕ)) → Reading
reading_now text r new =
    let spans = spans_now new text 0 0 0 r.spans in
    let now : Now = record { start = λ n. (span_at spans n).start; end = λ n. (span_at spans n).end; new = new; bars = has_bars text r.spans new } in
    record { items = map (datum_now now) r.items; spans = spans }

abbrev read_now : Opened → Occ → List ℕ → ℕ → List (List ℕ) → List (Option Reading) → List (List ℕ × Reading)
read_now w o stem n [] rs = []
read_now w o stem n (text ∷ texts) [] = []
read_now w o stem n (text ∷ texts) (None ∷ rs) = read_now w o stem (suc n) texts rs
read_now w o stem n (text ∷ texts) (Some r ∷ rs) =
    let new = name_at (name_of (members_of w.links stem o)) (identifiers_of n w.program.units) in
    (edited (edits_of new text r.spans) text, reading_now text r new) ∷ read_now w o stem (suc n) texts rs

abbrev by_stem : Opened → Occ → Option (List ℕ) → List (List ℕ × Reading)
by_stem w o None = []
by_stem w o (Some stem) = read_now w o stem 0 w.texts w.readings

abbrev edited_readings : Opened → Option Occ → Option (List ℕ) → List (List ℕ × Reading)
edited_readings w None symbol = []
edited_readings w (Some o) None = []
edited_readings w (Some o) (Some s) = by_stem w o (stem_of (prefix_of w.links o) s)

-- ---- rows

abbrev read_among : List (List ℕ × Reading) → List ℕ → Option Reading
read_among [] text = None
read_among (p ∷ ps) text = if bytes_eq p.0 text then Some p.1 else read_among ps text

abbrev reader : List (List ℕ × Reading) → Option (List ℕ) → Reader
reader readings symbol = record { read = read_among readings; symbol = λ name. symbol; meant = λ uris document string. None }

-- a rename to a name that is this symbol, where texts read so
abbrev pub rename_rows : List (List ℕ × Reading) → Option (List ℕ) → List (List ℕ) → (document offset : ℕ) → List ℕ → Told
rename_rows readings symbol texts document offset new =
    let w = opened (reader readings symbol) [] texts in
    let at = name_in w.readings w document offset in
    told (place_of w) (rename_in (reader (readings ++ edited_readings w at symbol) symbol) w at new)
  where
    name_in : List (Option Reading) → Opened → ℕ → ℕ → Option Occ
    name_in rs w document offset = sites.name_at (map spans_in rs) w.program.units document offset
