-- How uris are kept that are read once.
use Rattle.std.specs.Prelude.{◌≡◌, ℕ, List, map, Bool, false, All, Option, Some, None, Ok, Err, if◌then◌else◌}
use Rattle.std.specs.Str.{bytes_eq}
use Rattle.std.specs.declared.string.String.{String}
use Rattle.std.specs.declared.alloc.Global.{Global}
use Rattle.std.specs.BTreeMap.{BTreeMap, get_by_text}
use Rattle.url.specs.Parts.{Parts, serialize}
use Rattle.url.specs.Parser.{Parsed, parse_url}
use Rattle.included_documents.specs.declared.named.Named.{Named}
use Rattle.included_documents.specs.Meant.{first_place, is_at}

-- the URL that was read, where there is one
abbrev pub url_of : Parsed Parts → Option Parts
url_of (Ok url) = Some url
url_of (Err e) = None

-- a URL has this text
abbrev pub is_url : List ℕ → Option Parts → Bool
is_url text None = false
is_url text (Some url) = bytes_eq text (serialize url)

abbrev pub place_if : Bool → ℕ → Option ℕ
place_if b n = if b then Some n else None

-- a document has the URL that its uri is
abbrev pub IsRead : Named → Type 0
IsRead d = d.url ≡ url_of (parse_url None d.uri)

abbrev pub uris_in : List Named → List (List ℕ)
uris_in ds = map (λ (d : Named). d.uri) ds

-- documents have the URLs that their uris are, and these maps have the place of the first with each text
pub record AreRead (ds : List Named) (urls uris : BTreeMap (String Global) ℕ) : Type 0 where
  pub read : All IsRead ds
  pub by_url : (s : List ℕ) → get_by_text urls s ≡ first_place (is_at s) 0 (uris_in ds)
  pub by_uri : (s : List ℕ) → get_by_text uris s ≡ first_place (bytes_eq s) 0 (uris_in ds)
