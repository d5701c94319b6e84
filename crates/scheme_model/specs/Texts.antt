-- The texts of the open documents, and what a document event makes of them (LSP 3.17, text synchronisation). Which
-- offset a position of a text has in an encoding is given.
use Rattle.std.specs.Prelude.{ℕ, ℤ, Bool, false, ◌||◌, ◌&&◌, ◌==◌, not, nat_lt, nat_le, if◌then◌else◌, List, [], ◌∷◌, ◌++◌, length, take, drop, Option, Some, None, Result, Ok, Err}
use Rattle.std.specs.Option.{option_map}
use Rattle.std.specs.Ordering.{nat_cmp}
use Rattle.std.specs.Cmp.Lexicographic.{slice_cmp}
use Rattle.std.specs.FinMap.{FinMap, get, contains_key, insert, remove, len}

-- what positions count: bytes of UTF-8, units of UTF-16, or characters (LSP 3.17, PositionEncodingKind)
pub data Encoding : Type 0 where
  Utf8 : Encoding
  Utf16 : Encoding
  Utf32 : Encoding

-- a line and the units before a place in it (LSP 3.17, Position)
pub record Position : Type 0 where
  pub line : ℕ
  pub character : ℕ

-- from one position up to another (LSP 3.17, Range)
pub record Range : Type 0 where
  pub start : Position
  pub end : Position

-- new text for a range, or for all of a document
pub record Change : Type 0 where
  pub range : Option Range
  pub text : List ℕ

-- the offset of a position in a text, in bytes, by the encoding
abbrev pub Offsets : Type 0
Offsets = Encoding → List ℕ → Position → ℕ

-- a document: its version, and its text as UTF-8 bytes
abbrev pub Document : Type 0
Document = ℤ × List ℕ

-- the open documents by their uris, in byte order
abbrev pub Texts : Type 0
Texts = FinMap (slice_cmp nat_cmp) Document

abbrev pub is_open : Texts → List ℕ → Bool
is_open texts uri = contains_key texts uri

abbrev pub text_at : Texts → List ℕ → Option (List ℕ)
text_at texts uri = option_map (λ d. d.1) (get texts uri)

-- an event: a document is opened with a version and a text, is changed to a version by changes, or is closed
pub data Event : Type 0 where
  Added : List ℕ → ℤ → List ℕ → Event
  Changed : List ℕ → ℤ → List Change → Event
  Closed : List ℕ → Event

-- why an event is refused
pub data Refusal : Type 0 where
  NotOpen : Refusal
  BadRange : Refusal
  TooLong : Refusal
  TooMany : Refusal

-- a position stands before another: line first, and then character
abbrev pub is_before : Position → Position → Bool
is_before p q = nat_lt p.line q.line || (p.line == q.line && nat_lt p.character q.character)

-- the end of a range stands before its start
abbrev pub is_backward : Option Range → Bool
is_backward None = false
is_backward (Some range) = is_before range.end range.start

-- new text for the bytes of a range, or for all of a text
abbrev pub replaced : Offsets → Encoding → List ℕ → Option Range → List ℕ → List ℕ
replaced offset encoding text None new = new
replaced offset encoding text (Some range) new =
    take (offset encoding text range.start) text ++ new ++ drop (offset encoding text range.end) text

-- the most bytes of a text, and the most documents
abbrev pub max_text : ℕ
max_text = 1048576

abbrev pub max_documents : ℕ
max_documents = 64

abbrev pub is_long : List ℕ → Bool
is_long text = nat_lt max_text (length text)

-- a text that isn't too long
abbrev pub within_limit : List ℕ → Result (List ℕ) Refusal
within_limit text = if is_long text then Err TooLong else Ok text

-- a text after one change, or why the change is refused
abbrev pub edited : Offsets → Encoding → List ℕ → Change → Result (List ℕ) Refusal
edited offset encoding text change =
    if is_backward change.range then Err BadRange else within_limit (replaced offset encoding text change.range change.text)

infixl 10 ◌>>=◌
-- the first refusal, or what comes of the text
abbrev pub ◌>>=◌ : Result (List ℕ) Refusal → (List ℕ → Result (List ℕ) Refusal) → Result (List ℕ) Refusal
(Ok text) >>= next = next text
(Err refusal) >>= next = Err refusal

-- a text after changes, each applied to what the one before left, or the first refusal
abbrev pub edits : Offsets → Encoding → List Change → List ℕ → Result (List ℕ) Refusal
edits offset encoding [] text = Ok text
edits offset encoding (change ∷ changes) text = edited offset encoding text change >>= edits offset encoding changes

-- what a refused change leaves: a document whose text would be too long is gone
abbrev pub left_by : Refusal → Texts → List ℕ → Texts
left_by NotOpen texts uri = texts
left_by BadRange texts uri = texts
left_by TooLong texts uri = remove texts uri
left_by TooMany texts uri = texts

-- what the edits of an open document leave, and their refusal
abbrev pub changed_to : Texts → List ℕ → ℤ → Result (List ℕ) Refusal → Texts × Option Refusal
changed_to texts uri version (Ok text) = (insert texts uri (version, text), None)
changed_to texts uri version (Err refusal) = (left_by refusal texts uri, Some refusal)

-- what changes leave of a document that is open or isn't
abbrev pub changed : Offsets → Encoding → Texts → List ℕ → ℤ → List Change → Option (List ℕ) → Texts × Option Refusal
changed offset encoding texts uri version changes None = (texts, Some NotOpen)
changed offset encoding texts uri version changes (Some text) = changed_to texts uri version (edits offset encoding changes text)

-- what is left where a document is opened, or one that is open gets a new version and text
abbrev pub added : Texts → List ℕ → ℤ → List ℕ → Texts × Option Refusal
added texts uri version text =
    if not (is_open texts uri) && nat_le max_documents (len texts) then (texts, Some TooMany)
    else if is_long text then (texts, Some TooLong)
    else (insert texts uri (version, text), None)

-- what is left where a document is closed
abbrev pub closed : Texts → List ℕ → Texts × Option Refusal
closed texts uri = if is_open texts uri then (remove texts uri, None) else (texts, Some NotOpen)

-- what an event leaves, and its refusal where it is refused
abbrev pub after : Offsets → Encoding → Texts → Event → Texts × Option Refusal
after offset encoding texts (Added uri version text) = added texts uri version text
after offset encoding texts (Changed uri version changes) = changed offset encoding texts uri version changes (text_at texts uri)
after offset encoding texts (Closed uri) = closed texts uri
