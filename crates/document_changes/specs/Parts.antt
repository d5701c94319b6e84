-- Which open documents are parts of others, and which of them a string means (R7RS 4.1.7, 5.6.1).
use Rattle.std.specs.Prelude.{ℕ, suc, List, [], ◌∷◌, slice_get, Bool, false, Option, Some, None}
use Rattle.std.specs.Option.{option_map}
use Rattle.scheme_model.specs.Includes.{Document, Naming, naming, is_part}
use Rattle.included_documents.specs.Meant.{meant, uri_at}

-- ---- parts

-- whether each document from a place on is a part
abbrev pub parts_from : Naming → ℕ → List Document → List Bool
parts_from all n [] = []
parts_from all n (d ∷ ds) = is_part all n ∷ parts_from all (suc n) ds

abbrev pub parts_in : List Document → List Bool
parts_in ds = parts_from (naming ds) 0 ds

abbrev pub mark_in : Option Bool → Bool
mark_in None = false
mark_in (Some b) = b

-- the mark at a place, where there is one
abbrev pub mark_at : List Bool → Option ℕ → Bool
mark_at bs None = false
mark_at bs (Some n) = mark_in (slice_get bs n)

-- a document that is open is a part
abbrev pub is_part_at : List Document → Option ℕ → Bool
is_part_at ds None = false
is_part_at ds (Some n) = is_part (naming ds) n

-- ---- strings

-- the uri of the document that a string means in the document at a place, among documents with these uris
abbrev pub meant_by : (uris : List (List ℕ)) → Option ℕ → (string : List ℕ) → Option (List ℕ)
meant_by uris None string = None
meant_by uris (Some n) string = option_map (uri_at uris) (meant uris n string)
