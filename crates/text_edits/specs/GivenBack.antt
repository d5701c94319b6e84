-- Identifiers that get their old names back (R7RS 7.1.1).
use Rattle.std.specs.Prelude.{◌≡◌, ℕ, List, drop, slice_get, Option, Some, None}
use Rattle.std.specs.List.{slice_range}
use Rattle.scheme_model.specs.Diagnostics.{Span}
use Rattle.scheme_model.specs.Kinds.{Token}
use Rattle.text_edits.specs.NewNames.{begins_with_bar, span_of, written}

-- a token that got a new name gets one again; written between bars where the new name is, that is the token as it was
abbrev pub GetsBack : (text : List ℕ) → Span → (new back : Option (List ℕ)) → Type 0
GetsBack text s None None = Unit {0}
GetsBack text s None (Some old) = ⊥
GetsBack text s (Some name) None = ⊥
GetsBack text s (Some name) (Some old) = written old (begins_with_bar (written name (begins_with_bar (drop s.start text)))) ≡ slice_range text s.start s.end

-- each token of a text does, by its number
abbrev pub GetBack : (text : List ℕ) → List Token → (new back : ℕ → Option (List ℕ)) → Type 0
GetBack text ts new back = (n : ℕ) (t : Token) → slice_get ts n ≡ Some t → GetsBack text (span_of t) (new n) (back n)
