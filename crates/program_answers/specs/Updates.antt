-- The lists of documents, and which of them are published after an event (LSP 3.17, publishDiagnostics).
use Rattle.std.specs.Prelude.{◌≡◌, ◌≢◌, ◌⊎◌, ℕ, List, [], map, slice_get, String, string_bytes, Some, Bool, true, false, if◌then◌else◌}
use Rattle.std.specs.Str.{bytes_eq}
use Rattle.std.specs.BTreeMap.{BTreeMap, get_by_text}
use Rattle.std.specs.List.Sorted.{IsStrictlySortedBy}
use Rattle.std.specs.FinMap.{FinMap, entries, get, keys}
use Rattle.std.specs.Ordering.{nat_cmp}
use Rattle.std.specs.Cmp.Lexicographic.{slice_cmp}
use Rattle.ls_base.specs.declared.encoding.Encoding.{Encoding}
use Rattle.ls_base.specs.declared.answers.Diagnostic as told
use Rattle.document_store.specs.Texts.{Texts, is_open, version_at}
use Rattle.program_answers.specs.declared.publications.Published.{Published}
use Rattle.read_documents.specs.Readings.{Read, AreReadAs}
use Rattle.read_documents.specs.Listed.{lists_of}
use Rattle.program_answers.specs.Listings.{or_none}

-- diagnostics of documents by their uris, and what a document has, of which one that isn't open has none
abbrev pub entries_shown : {Y : Type 0} → BTreeMap (String Y) (List told.Diagnostic) → List (List ℕ × List told.Diagnostic)
entries_shown m = map (λ e. (string_bytes e.0, e.1)) m.entries

abbrev pub list_at : {Y : Type 0} → BTreeMap (String Y) (List told.Diagnostic) → List ℕ → List told.Diagnostic
list_at m uri = or_none (get_by_text m uri)

-- the lists are those of texts that are read so
abbrev pub AreListsOf : Encoding → Texts → List Read → List (List ℕ × List told.Diagnostic) → Type 0
AreListsOf encoding texts rs lists = lists ≡ map (λ l. (l.uri, l.list)) (lists_of encoding (entries texts) rs)

-- there is a list for each of texts, by its uri
abbrev pub AreKeyed : Texts → List (List ℕ × List told.Diagnostic) → Type 0
AreKeyed texts lists = map (λ l. l.0) lists ≡ keys texts

-- a list is to be published: it is that of the event's document, or it isn't as it was
abbrev pub IsNews : List ℕ → (before now : List ℕ → List told.Diagnostic) → List ℕ → Type 0
IsNews changed before now uri = (uri ≡ changed) ⊎ (now uri ≢ before uri)

-- what isn't open, and isn't the event's document, is as it was
abbrev pub OthersStay : List ℕ → Texts → (before now : List ℕ → List told.Diagnostic) → Type 0
OthersStay changed texts before now = (uri : List ℕ) → is_open texts uri ≡ false → uri ≢ changed → now uri ≡ before uri

-- one that is published: it is news, with its diagnostics by now, and with its version where it is open
pub record IsPublished (changed : List ℕ) (texts : Texts) (before now : List ℕ → List told.Diagnostic) (p : Published) : Type 0 where
  pub news : IsNews changed before now p.uri
  pub version_is : p.version ≡ version_at texts p.uri
  pub list_is : p.list ≡ now p.uri

-- what is published: all that is news, by uri in byte order
pub record ArePublished (changed : List ℕ) (texts : Texts) (before now : List ℕ → List told.Diagnostic) (ps : List Published) : Type 0 where
  pub in_order : IsStrictlySortedBy (slice_cmp nat_cmp) (map (λ p. p.uri) ps)
  pub each : (n : ℕ) (p : Published) → slice_get ps n ≡ Some p → IsPublished changed texts before now p
  pub all : (uri : List ℕ) → IsNews changed before now uri → (n : ℕ) × (p : Published) × (slice_get ps n ≡ Some p) × (p.uri ≡ uri)

-- a map has one more that is published, at its uri
abbrev pub Puts : {Y : Type 0} → BTreeMap (String Y) Published → BTreeMap (String Y) Published → Published → Type 0
Puts old new p = (uri : List ℕ) → get_by_text new uri ≡ (if bytes_eq p.uri uri then Some p else get_by_text old uri)

-- ---- by the texts

-- the diagnostics of documents by their uris
abbrev pub Lists : Type 0
Lists = FinMap (slice_cmp nat_cmp) (List told.Diagnostic)

-- those of a document, of which one that isn't open has none
abbrev pub listed_in : Lists → List ℕ → List told.Diagnostic
listed_in lists uri = or_none (get lists uri)

-- the lists are those of the texts, each document read
abbrev pub AreListsOfTexts : Encoding → Texts → Lists → Type 0
AreListsOfTexts encoding texts lists = (rs : List Read) × AreReadAs (entries texts) rs × AreListsOf encoding texts rs (entries lists)

-- after an event about a document these lists are news of the texts, by the texts before it
pub record IsNewsOf (encoding : Encoding) (before after : Texts) (changed : List ℕ) (ps : List Published) : Type 0 where
  pub old : Lists
  pub new : Lists
  pub were : AreListsOfTexts encoding before old
  pub are : AreListsOfTexts encoding after new
  pub published : ArePublished changed after (listed_in old) (listed_in new) ps

-- after an event that was refused and left the texts nothing is published, and after any other what is news
abbrev pub Publishes : (left : Bool) → Encoding → (before after : Texts) → (changed : List ℕ) → List Published → Type 0
Publishes true encoding before after changed ps = ps ≡ []
Publishes false encoding before after changed ps = IsNewsOf encoding before after changed ps
