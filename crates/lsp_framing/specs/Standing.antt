-- Where a deframer stands in a stream: what it read of the frame that isn't whole.
use Rattle.std.specs.Prelude.{◌≡◌, ℕ, ◌<◌, ◌≤◌, true, List, [], ◌∷◌, ◌++◌, Option, Some, None, length}
use Rattle.std.specs.List.{list_all}
use Rattle.ls_base.specs.Frames.{Field, IsName, IsLengthName, IsOther, IsSized, IsHeader, Tell, fields_text, is_blank, number, max_header}
use Rattle.lsp_framing.specs.Machine.{letter, part, peel}
use Rattle.lsp_framing.specs.declared.header.HeaderState.{HeaderState}
use Rattle.lsp_framing.specs.declared.header.HeaderState.TheVariants.{Line, Name, Value, BeforeDigits, Digits, AfterDigits, LineFeed, LastLineFeed}
use Rattle.lsp_framing.specs.declared.header.State.{State}
use Rattle.lsp_framing.specs.declared.header.State.TheVariants.{Header, Body}
use Rattle.lsp_framing.specs.declared.partial.Partial.{Partial}

-- how much of the length's name is spelled after these bytes
abbrev pub spelled_by : List ℕ → Option ℕ → Option ℕ
spelled_by [] spelled = spelled
spelled_by (byte ∷ bytes) spelled = spelled_by bytes (letter spelled byte)

-- the bytes before a body that bring the machine to a place
abbrev pub Reads : HeaderState → List ℕ → Type 0
Reads (Line told) bytes = (fs : List Field) × Tell fs told × (bytes ≡ fields_text fs [])
Reads (Name told spelled) bytes =
    (fs : List Field) × (name : List ℕ) × Tell fs told × IsName name × (spelled ≡ spelled_by name (Some 0)) × (bytes ≡ fields_text fs name)
Reads (Value told) bytes =
    (fs : List Field) × (name : List ℕ) × (value : List ℕ) × Tell fs told × IsOther name value × (bytes ≡ fields_text fs (name ++ (58 ∷ value)))
Reads BeforeDigits bytes =
    (fs : List Field) × (name : List ℕ) × (left : List ℕ) × Tell fs None × IsLengthName name × (list_all is_blank left ≡ true)
    × (bytes ≡ fields_text fs (name ++ (58 ∷ left)))
Reads (Digits size) bytes =
    (fs : List Field) × (name : List ℕ) × (left : List ℕ) × (digits : List ℕ) × Tell fs None × IsSized name left digits [] × (size ≡ number digits)
    × (bytes ≡ fields_text fs (name ++ (58 ∷ (left ++ digits))))
Reads (AfterDigits size) bytes =
    (fs : List Field) × (name : List ℕ) × (left : List ℕ) × (digits : List ℕ) × (right : List ℕ) × Tell fs None × IsSized name left digits right
    × (size ≡ number digits) × (bytes ≡ fields_text fs (name ++ (58 ∷ (left ++ (digits ++ right)))))
Reads (LineFeed told) bytes = (fs : List Field) × Tell fs told × (bytes ++ 10 ∷ [] ≡ fields_text fs [])
Reads (LastLineFeed size) bytes = IsHeader (bytes ++ 10 ∷ []) size

-- the bytes of a frame stop at a place before its body
pub record InHeader (place : HeaderState) (header body : List ℕ) : Type 0 where
  pub reads : Reads place header
  pub peels : peel header (Line None) ≡ part place
  pub short : length header ≤ max_header
  pub none : body ≡ []

-- the bytes of a frame whose body may be whole
abbrev pub OpenIn : State → List ℕ → List ℕ → Type 0
OpenIn (Header place) header body = InHeader place header body
OpenIn (Body size) header body = IsHeader header size × (length header ≤ max_header) × (length body ≤ size)

-- the bytes of a frame that isn't whole
abbrev pub StandsIn : State → List ℕ → List ℕ → Type 0
StandsIn (Header place) header body = InHeader place header body
StandsIn (Body size) header body = IsHeader header size × (length header ≤ max_header) × (length body < size)

abbrev pub Open : Partial → Type 0
Open p = OpenIn p.state p.header.items p.body.items

abbrev pub Stands : Partial → Type 0
Stands p = StandsIn p.state p.header.items p.body.items

-- the bytes that are kept of a frame
abbrev pub kept_bytes : Partial → List ℕ
kept_bytes p = p.header.items ++ p.body.items
