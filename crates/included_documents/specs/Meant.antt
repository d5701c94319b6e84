-- Which document a string means in another (URL Standard, sections 4.4 and 4.5): it is read against the other's URL. Where a document is
-- called by something that is no URL, as a file by its name, the string is joined to it as a path.
use Rattle.std.specs.Prelude.{ℕ, zero, suc, ◌==◌, List, [], ◌∷◌, ◌++◌, Bool, false, Option, Some, None, Ok, Err, if◌then◌else◌}
use Rattle.std.specs.List.{list_any}
use Rattle.std.specs.Str.{bytes_eq}
use Rattle.url.specs.Parts.{Parts, serialize}
use Rattle.url.specs.Parser.{Parsed, parse_url}

-- ---- URLs

-- the text of a URL, where there is one
abbrev pub text_of : Parsed Parts → Option (List ℕ)
text_of (Ok url) = Some (serialize url)
text_of (Err e) = None

-- whether a document is at a URL with this text
abbrev pub is_at : List ℕ → List ℕ → Bool
is_at text uri = is_text (text_of (parse_url None uri))
  where
    is_text : Option (List ℕ) → Bool
    is_text None = false
    is_text (Some other) = bytes_eq text other

-- ---- paths

abbrev pub slash : ℕ
slash = 47

-- what stands up to and with the last slash
abbrev pub folder : List ℕ → List ℕ
folder [] = []
folder (b ∷ bs) = if list_any (λ c. c == slash) (b ∷ bs) then b ∷ folder bs else []

-- a path that begins with a slash stands for itself, any other is one from this document's folder
abbrev pub path_from : (uri path : List ℕ) → List ℕ
path_from uri [] = folder uri
path_from uri (b ∷ bs) = if b == slash then b ∷ bs else folder uri ++ (b ∷ bs)

-- ---- documents

-- the place of the first for which a test holds
abbrev pub first_place : (List ℕ → Bool) → ℕ → List (List ℕ) → Option ℕ
first_place test n [] = None
first_place test n (uri ∷ uris) = if test uri then Some n else first_place test (suc n) uris

abbrev pub at_text : List (List ℕ) → Option (List ℕ) → Option ℕ
at_text uris None = None
at_text uris (Some text) = first_place (is_at text) 0 uris

-- a string against the document's URL, or as a path
abbrev pub by_base : List (List ℕ) → (uri string : List ℕ) → Parsed Parts → Option ℕ
by_base uris uri string (Ok base) = at_text uris (text_of (parse_url (Some base) string))
by_base uris uri string (Err e) = first_place (bytes_eq (path_from uri string)) 0 uris

-- the place of the document that a string means in the document with a uri, among documents with these uris
abbrev pub meant_in : List (List ℕ) → (uri string : List ℕ) → Option ℕ
meant_in uris uri string = by_base uris uri string (parse_url None uri)

-- the uri at a place
abbrev pub uri_at : List (List ℕ) → ℕ → List ℕ
uri_at [] n = []
uri_at (uri ∷ uris) zero = uri
uri_at (uri ∷ uris) (suc n) = uri_at uris n

-- what strings mean among documents with these uris, each document by its place
abbrev pub meant : List (List ℕ) → (document : ℕ) → (string : List ℕ) → Option ℕ
meant uris n string = meant_in uris (uri_at uris n) string
