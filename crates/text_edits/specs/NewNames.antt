-- The edits of a document by which some of its identifiers get new names (R7RS 7.1.1).
use Rattle.std.specs.Prelude.{◌≡◌, ℕ, suc, ◌==◌, List, [], ◌∷◌, ◌++◌, drop, Bool, ◌||◌, true, false, codes, Option, Some, None}
use Rattle.std.specs.List.{flat_map}
use Rattle.std.specs.Str.{bytes_eq, chars, encode_utf8_all}
use Rattle.scheme_model.specs.Data.{Datum}
use Rattle.scheme_model.specs.Diagnostics.{Span}
use Rattle.scheme_model.specs.Kinds.{Token}
use Rattle.scheme_model.specs.Program.{is_in}
use Rattle.scheme_model.specs.Sites.{name_tokens}
use Rattle.scheme_tokens.specs.Mirror.Spelled.{spelled}
use Rattle.text_edits.specs.Edits.{Edit}

-- a name as it is written, in bytes: between bars where these are asked for, or where it needs them
abbrev pub written : (name : List ℕ) → (bars : Bool) → List ℕ
written name bars = encode_utf8_all (spelled (chars name) bars)

abbrev pub begins_with_bar : List ℕ → Bool
begins_with_bar [] = false
begins_with_bar (b ∷ bs) = b == 124

-- a token with a new name is written anew, between bars where it stands in bars
abbrev pub edit_if : (text : List ℕ) → Span → Option (List ℕ) → List Edit
edit_if text s None = []
edit_if text s (Some name) = record { start = s.start; end = s.end; text = written name (begins_with_bar (drop s.start text)) } ∷ []

-- the tokens from a number on, by their bytes, with the new names of those that get one
abbrev pub edits_from : (new : ℕ → Option (List ℕ)) → (text : List ℕ) → (number : ℕ) → List Span → List Edit
edits_from new text number [] = []
edits_from new text number (s ∷ ss) = edit_if text s (new number) ++ edits_from new text (suc number) ss

-- the edits of a text, whose tokens have these bytes
abbrev pub edits_of : (new : ℕ → Option (List ℕ)) → (text : List ℕ) → List Span → List Edit
edits_of new text spans = edits_from new text 0 spans

abbrev pub span_of : Token → Span
span_of t = record { start = t.start; end = t.end }

-- only identifiers of the data get new names
abbrev pub NamesIdentifiers : (ℕ → Option (List ℕ)) → List Datum → Type 0
NamesIdentifiers new ds = (number : ℕ) (name : List ℕ) → new number ≡ Some name → is_in number (flat_map name_tokens ds) ≡ true

-- ---- new names

-- symbols that no identifier gets: the empty one, an ellipsis and an underscore
abbrev pub is_reserved : List ℕ → Bool
is_reserved s = bytes_eq s [] || (bytes_eq s (codes "...") || bytes_eq s (codes "_"))
