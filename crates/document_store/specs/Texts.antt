-- The texts of the open documents, and what a document event makes of them (LSP 3.17, text synchronisation). The
-- positions of changes count in an encoding.
use Rattle.std.specs.Prelude.{ℕ, ℤ, Bool, false, ◌||◌, ◌&&◌, ◌==◌, not, nat_lt, if◌then◌else◌, List, [], ◌∷◌, ◌++◌, length, take, drop, Option, Some, None, Result, Ok, Err}
use Rattle.std.specs.Option.{option_map}
use Rattle.std.specs.Ordering.{nat_cmp}
use Rattle.std.specs.Cmp.Lexicographic.{slice_cmp}
use Rattle.std.specs.FinMap.{FinMap, get, contains_key, insert, remove, len}
use Rattle.ls_base.specs.declared.encoding.Encoding.{Encoding}
use Rattle.ls_base.specs.declared.places.Pos.{Pos}
use Rattle.ls_base.specs.declared.places.Range.{Range}
use Rattle.ls_base.specs.declared.answers.Change.{Change}
use Rattle.ls_base.specs.Limits.{max_documents, max_text}
use Rattle.ls_base.specs.Positions.{offset_of}

-- a document: its version, and its text as UTF-8 bytes
abbrev pub Document : Type 0
Document = ℤ × List ℕ

-- the open documents by their uris, in byte order
abbrev pub Texts : Type 0
Texts = FinMap (slice_cmp nat_cmp) Document

abbrev pub is_open : Texts → List ℕ → Bool
is_open texts uri = contains_key texts uri

-- a document may be added: it is open already, or fewer than the most are
abbrev pub has_room : Texts → List ℕ → Bool
has_room texts uri = is_open texts uri || nat_lt (len texts) max_documents

abbrev pub version_at : Texts → List ℕ → Option ℤ
version_at texts uri = option_map (λ d. d.0) (get texts uri)

abbrev pub text_at : Texts → List ℕ → Option (List ℕ)
text_at texts uri = option_map (λ d. d.1) (get texts uri)

-- an event: a document is opened with a version and a text, is changed to a version by changes, or is closed
pub data Event : Type 0 where
  Added : List ℕ → ℤ → List ℕ → Event
  Changed : List ℕ → ℤ → List Change → Event
  Closed : List ℕ → Event

-- why an event is refused
pub data Refusal : Type 0 where
  NotOpen : Refusal
  BadRange : Refusal
  TooLong : Refusal
  TooMany : Refusal

-- a position stands before another: line first, and then character
abbrev pub is_before : Pos → Pos → Bool
is_before p q = nat_lt p.line q.line || (p.line == q.line && nat_lt p.character q.character)

-- the end of a range stands before its start
abbrev pub is_backward : Option Range → Bool
is_backward None = false
is_backward (Some range) = is_before range.end range.start

-- new text for the bytes of a range, or for all of a text
abbrev pub replaced : Encoding → List ℕ → Option Range → List ℕ → List ℕ
replaced encoding text None new = new
replaced encoding text (Some range) new =
    take (offset_of encoding text range.start) text ++ new ++ drop (offset_of encoding text range.end) text

abbrev pub is_long : List ℕ → Bool
is_long text = nat_lt max_text (length text)

-- a text that isn't too long
abbrev pub within_limit : List ℕ → Result (List ℕ) Refusal
within_limit text = if is_long text then Err TooLong else Ok text

-- a text after one change, or why the change is refused
abbrev pub edited : Encoding → List ℕ → Change → Result (List ℕ) Refusal
edited encoding text change =
    if is_backward change.range then Err BadRange else within_limit (replaced encoding text change.range change.text)

infixl 10 ◌>>=◌
-- the first refusal, or what comes of the text
abbrev pub ◌>>=◌ : Result (List ℕ) Refusal → (List ℕ → Result (List ℕ) Refusal) → Result (List ℕ) Refusal
(Ok text) >>= next = next text
(Err refusal) >>= next = Err refusal

-- a text after changes, each applied to what the one before left, or the first refusal
abbrev pub edits : Encoding → List Change → List ℕ → Result (List ℕ) Refusal
edits encoding [] text = Ok text
edits encoding (change ∷ changes) text = edited encoding text change >>= edits encoding changes

-- what a refused change leaves: a document whose text would be too long is gone
abbrev pub left_by : Refusal → Texts → List ℕ → Texts
left_by NotOpen texts uri = texts
left_by BadRange texts uri = texts
left_by TooLong texts uri = remove texts uri
left_by TooMany texts uri = texts

-- what the edits of an open document leave, and their refusal
abbrev pub changed_to : Texts → List ℕ → ℤ → Result (List ℕ) Refusal → Texts × Option Refusal
changed_to texts uri version (Ok text) = (insert texts uri (version, text), None)
changed_to texts uri version (Err refusal) = (left_by refusal texts uri, Some refusal)

-- what changes leave of a document that is open or isn't
abbrev pub changed : Encoding → Texts → List ℕ → ℤ → List Change → Option (List ℕ) → Texts × Option Refusal
changed encoding texts uri version changes None = (texts, Some NotOpen)
changed encoding texts uri version changes (Some text) = changed_to texts uri version (edits encoding changes text)

-- what is left where a document is opened, or one that is open gets a new version and text
abbrev pub added : Texts → List ℕ → ℤ → List ℕ → Texts × Option Refusal
added texts uri version text =
    if not (has_room texts uri) then (texts, Some TooMany)
    else if is_long text then (texts, Some TooLong)
    else (insert texts uri (version, text), None)

-- what is left where a document is closed
abbrev pub closed : Texts → List ℕ → Texts × Option Refusal
closed texts uri = if is_open texts uri then (remove texts uri, None) else (texts, Some NotOpen)

-- what an event leaves, and its refusal where it is refused
abbrev pub after : Encoding → Texts → Event → Texts × Option Refusal
after encoding texts (Added uri version text) = added texts uri version text
after encoding texts (Changed uri version changes) = changed encoding texts uri version changes (text_at texts uri)
after encoding texts (Closed uri) = closed texts uri
