-- The encoding in which positions count (LSP 3.17, PositionEncodingKind): the first that the client states and the
-- server knows, or else UTF-16.
use Rattle.std.specs.Prelude.{ℕ, List, Option, Some, None, option_map, option_and_then, unwrap_or, if◌then◌else◌, codes}
use Rattle.std.specs.Str.{bytes_eq}
use Rattle.serde_json.specs.Data.{Data, Items, no_items, item}
use Rattle.serde_json.specs.Find.{get, as_str, as_array}
use Rattle.ls_base.specs.declared.encoding.Encoding.{Encoding}
use Rattle.ls_base.specs.declared.encoding.Encoding.TheVariants.{Utf8, Utf16, Utf32}

abbrev pub encoding_name : Encoding → List ℕ
encoding_name Utf8 = codes "utf-8"
encoding_name Utf16 = codes "utf-16"
encoding_name Utf32 = codes "utf-32"

-- the encoding of a name
abbrev pub encoding_named : List ℕ → Option Encoding
encoding_named name =
    if bytes_eq name (encoding_name Utf8) then Some Utf8
    else if bytes_eq name (encoding_name Utf16) then Some Utf16
    else if bytes_eq name (encoding_name Utf32) then Some Utf32
    else None

-- the encoding that a member of a list names
abbrev pub encoding_in : Data → Option Encoding
encoding_in d = option_and_then encoding_named (as_str d)

-- the first encoding that a list names
abbrev pub first_encoding : Items → Encoding
first_encoding no_items = Utf16
first_encoding (item d ds) = unwrap_or (encoding_in d) (first_encoding ds)

-- the list of the encodings that a client states (GeneralClientCapabilities)
abbrev pub stated_encodings : Data → Option Items
stated_encodings message =
    let params = get (codes "params") message in
    let capabilities = option_and_then (get (codes "capabilities")) params in
    let general = option_and_then (get (codes "general")) capabilities in
    option_and_then as_array (option_and_then (get (codes "positionEncodings")) general)

-- the encoding that is agreed
abbrev pub agreed_encoding : Data → Encoding
agreed_encoding message = unwrap_or (option_map first_encoding (stated_encodings message)) Utf16
