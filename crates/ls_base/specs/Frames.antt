-- Frames (LSP 3.17, base protocol): which bytes are a frame, which bytes begin a stream of frames, and what a stream
-- holds: the bodies of its whole frames, and then a rest or a fault. Offsets and lengths count bytes.
use Rattle.std.specs.Prelude.{◌≡◌, ℕ, ◌+◌, ◌-◌, ◌*◌, ◌<◌, ◌≤◌, min, ◌==◌, ◌&&◌, ◌||◌, not, Bool, true, List, [], ◌∷◌, ◌++◌, Option, Some, None, length, drop, map, fold, ◌⊎◌, codes}
use Rattle.std.specs.List.{list_all, AllByRecursion}
use Rattle.std.specs.Char.{is_ascii_graphic, is_ascii_digit}
use Rattle.std.specs.Str.{str_to_ascii_lowercase}
use Rattle.std.specs.Fmt.{decimal}

-- the most bytes before a body
abbrev pub max_header : ℕ
max_header = 4096

-- the most bytes of a body
abbrev pub max_body : ℕ
max_body = 8388608

-- a visible character other than the colon
abbrev pub is_name_byte : ℕ → Bool
is_name_byte c = is_ascii_graphic c && not (c == 58)

-- no carriage return and no line feed
abbrev pub is_value_byte : ℕ → Bool
is_value_byte c = not (c == 13) && not (c == 10)

-- a space or a tab
abbrev pub is_blank : ℕ → Bool
is_blank c = c == 32 || c == 9

-- a number with one more decimal digit
abbrev pub with_digit : ℕ → ℕ → ℕ
with_digit n digit = n * 10 + (digit - 48)

-- the number that decimal digits write
abbrev pub number : List ℕ → ℕ
number digits = fold with_digit 0 digits

-- the name of a field
abbrev pub IsName : List ℕ → Type 0
IsName name = (0 < length name) × (list_all is_name_byte name ≡ true)

-- the name of the field that tells the length of the body, in letters of either case
abbrev pub IsLengthName : List ℕ → Type 0
IsLengthName name = IsName name × (str_to_ascii_lowercase name ≡ codes "content-length")

-- a field: a name and a value, or the name, blanks, digits and blanks of one that tells the length of the body
pub data Field : Type 0 where
  other : List ℕ → List ℕ → Field
  sized : List ℕ → List ℕ → List ℕ → List ℕ → Field

-- a field as it is written, with a colon and a line end, and what follows it
abbrev pub field_text : Field → List ℕ → List ℕ
field_text (other name value) after = name ++ (58 ∷ (value ++ (13 ∷ 10 ∷ after)))
field_text (sized name left digits right) after = name ++ (58 ∷ (left ++ (digits ++ (right ++ (13 ∷ 10 ∷ after)))))

-- fields as they are written, and what follows them
abbrev pub fields_text : List Field → List ℕ → List ℕ
fields_text [] after = after
fields_text (f ∷ fs) after = field_text f (fields_text fs after)

-- a field that is passed over
abbrev pub IsOther : List ℕ → List ℕ → Type 0
IsOther name value = IsName name × ¬ IsLengthName name × (list_all is_value_byte value ≡ true)

-- a field that tells a length within the limit
abbrev pub IsSized : List ℕ → List ℕ → List ℕ → List ℕ → Type 0
IsSized name left digits right =
    IsLengthName name × (list_all is_blank left ≡ true) × (0 < length digits) × (list_all is_ascii_digit digits ≡ true)
    × (list_all is_blank right ≡ true) × (number digits ≤ max_body)

-- fields tell this length, or none; no two of them tell one
abbrev pub Tell : List Field → Option ℕ → Type 0
Tell [] told = told ≡ None
Tell (other name value ∷ fs) told = IsOther name value × Tell fs told
Tell (sized name left digits right ∷ fs) told = IsSized name left digits right × Tell fs None × (told ≡ Some (number digits))

-- a header part with the empty line that ends it, before a body of this length
abbrev pub IsHeader : List ℕ → ℕ → Type 0
IsHeader bytes size = (fs : List Field) × Tell fs (Some size) × (bytes ≡ fields_text fs (13 ∷ 10 ∷ []))

-- what stands before a body, and the body
pub record Frame : Type 0 where
  pub header : List ℕ
  pub body : List ℕ

-- a frame whose header part may have any length
abbrev pub IsAnyFrame : Frame → Type 0
IsAnyFrame f = IsHeader f.header (length f.body)

-- a frame within the limits
abbrev pub IsFrame : Frame → Type 0
IsFrame f = IsAnyFrame f × (length f.header ≤ max_header)

-- these bytes are a frame with this body, within the limits
abbrev pub IsFrameOf : List ℕ → List ℕ → Type 0
IsFrameOf bytes body = (header : List ℕ) × IsFrame (record { header = header; body = body }) × (bytes ≡ header ++ body)

-- the bytes of frames, and what follows them
abbrev pub stream : List Frame → List ℕ → List ℕ
stream [] after = after
stream (f ∷ fs) after = f.header ++ (f.body ++ stream fs after)

-- the bodies of frames
abbrev pub bodies_of : List Frame → List (List ℕ)
bodies_of fs = map (λ f. f.body) fs

-- bytes with which these frames begin hold no more than the limit before any of their bodies
abbrev pub WithinLimit : List Frame → List ℕ → Type 0
WithinLimit [] bytes = Unit {0}
WithinLimit (f ∷ fs) bytes =
    (min (length bytes) (length f.header) ≤ max_header) × WithinLimit fs (drop (length f.header + length f.body) bytes)

-- bytes are good so far: a stream of frames may begin with them
pub record IsGood (bytes : List ℕ) : Type 0 where
  pub frames : List Frame
  pub more : List ℕ
  pub each : AllByRecursion IsAnyFrame frames
  pub begins : bytes ++ more ≡ stream frames []
  pub limit : WithinLimit frames bytes

-- these are the whole frames that the bytes begin with, as many as there are, and this follows them
pub record IsWhole (bytes : List ℕ) (frames : List Frame) (after : List ℕ) : Type 0 where
  pub each : AllByRecursion IsFrame frames
  pub begins : bytes ≡ stream frames after
  pub longest : (others : List Frame) (more : List ℕ) → AllByRecursion IsFrame others → bytes ≡ stream others more → length others ≤ length frames

-- what may be wrong with a byte
pub data Fault : Type 0 where
  bad_header : Fault
  no_length : Fault
  bad_length : Fault
  long_header : Fault
  long_body : Fault

-- the number of a fault
abbrev pub fault_number : Fault → ℕ
fault_number bad_header = 1
fault_number no_length = 2
fault_number bad_length = 3
fault_number long_header = 4
fault_number long_body = 5

-- a part of a frame ends in the value of its length, of which this has come; such a value ends at a carriage return
pub record InLength (part value : List ℕ) : Type 0 where
  pub fields : List Field
  pub name : List ℕ
  pub untold : Tell fields None
  pub named : IsLengthName name
  pub unended : list_all (λ c. not (c == 13)) value ≡ true
  pub text : part ≡ fields_text fields (name ++ (58 ∷ value))

-- after a part of a frame comes the digit with which the number of its length passes the limit
pub record PassesLimit (part : List ℕ) (digit : ℕ) : Type 0 where
  pub left : List ℕ
  pub digits : List ℕ
  pub inside : InLength part (left ++ digits)
  pub blank : list_all is_blank left ≡ true
  pub decimal : list_all is_ascii_digit (digits ++ digit ∷ []) ≡ true
  pub within : number digits ≤ max_body
  pub passes : max_body < number (digits ++ digit ∷ [])

-- the fault of a byte that is wrong after a part of a frame may be this
abbrev pub Fits : Fault → List ℕ → ℕ → Type 0
Fits long_header part byte = length part ≡ max_header
Fits no_length part byte = (byte ≡ 13) × (fs : List Field) × Tell fs None × (part ≡ fields_text fs [])
Fits bad_length part byte = ((value : List ℕ) × InLength part value) × ¬ PassesLimit part byte
Fits long_body part byte = PassesLimit part byte
Fits bad_header part byte = Unit {0}

-- the first of these that fits is this
abbrev pub FirstFit : List Fault → List ℕ → ℕ → Fault → Type 0
FirstFit [] part byte kind = ⊥
FirstFit (x ∷ xs) part byte kind = (Fits x part byte × (kind ≡ x)) ⊎ (¬ Fits x part byte × FirstFit xs part byte kind)

-- the order in which faults are tried
abbrev pub fault_order : List Fault
fault_order = long_header ∷ no_length ∷ bad_length ∷ long_body ∷ bad_header ∷ []

-- after these whole frames the bytes have this fault, at the end of their longest front that is good so far
pub record IsFault (bytes : List ℕ) (frames : List Frame) (kind : Fault) (offset : ℕ) : Type 0 where
  pub part : List ℕ
  pub byte : ℕ
  pub after : List ℕ
  pub whole : IsWhole bytes frames (part ++ (byte ∷ after))
  pub place : offset ≡ length (stream frames part)
  pub good : IsGood (stream frames part)
  pub longest : (front more : List ℕ) → bytes ≡ front ++ more → IsGood front → length front ≤ offset
  pub kind_is : FirstFit fault_order part byte kind

-- what follows the whole frames of a stream: a rest, or a fault and its offset
pub data End : Type 0 where
  rest : List ℕ → End
  fault : Fault → ℕ → End

-- the bytes hold these bodies, and then end so
abbrev pub IsFrames : List ℕ → List (List ℕ) → End → Type 0
IsFrames bytes bodies (rest kept) = (fs : List Frame) × (bodies ≡ bodies_of fs) × IsWhole bytes fs kept × IsGood bytes
IsFrames bytes bodies (fault kind offset) = (fs : List Frame) × (bodies ≡ bodies_of fs) × IsFault bytes fs kind offset

-- the frame that is written round a body
abbrev pub frame_text : List ℕ → List ℕ
frame_text body = codes "Content-Length: " ++ (decimal (length body) ++ (13 ∷ 10 ∷ 13 ∷ 10 ∷ body))
