-- What units are read by: the texts of documents, and which of these can be included.
use Rattle.std.proofs.Common.{◌≡◌, ℕ, zero, suc, ◌+◌, ◌<◌, ◌≤◌, Bool, true, false, List, [], ◌∷◌, map, length, get_or, slice_get, Option, Some, None, refl, sym, ap, ◌∙◌, subst, inl, inr, ◌⊎◌, arith}
use Rattle.std.specs.Prelude.{not, nat_lt, min, ◌&&◌, ◌||◌}
use Rattle.std.specs.Prelude.{String}
use Rattle.std.specs.declared.alloc.Global.{Global}
use Rattle.std.specs.BTreeSet.{BTreeSet, contains_text}
use Rattle.std.specs.Option.{is_some}
use Rattle.std.proofs.lemmas.Bool.{cases_lt, ltb-true}
use Rattle.std.proofs.lemmas.List.{length-map}
use Rattle.std.proofs.lemmas.Option.{slice_get_within, slice_get-get_or}
use Rattle.scheme_model.specs.Included.{Sources}
use Rattle.scheme_model.specs.IncludedUnits.{max_tokens, sources_within}
use Rattle.scheme_model.specs.Includes as model
use Rattle.scheme_model.specs.Includes.{document_at, is_among, is_usable, is_part, naming, usable, has_program, max_units, program_number}
use Rattle.scheme_model.specs.Program.{known_in}
use Rattle.scheme_model.specs.Requirements.{Known}
use Rattle.scheme_tokens.specs.LibraryNames.{library_text}
use Rattle.datum_reader.specs.Views.{data_of}
use Rattle.known_libraries.specs.PartsRead.{Knows}
use Rattle.nesting_laws.proofs.Depth.{usable_told, usable_there}
use Rattle.included_forms.specs.Built.{IsText, AreUsable, IsUsable}
use Rattle.included_forms.specs.Tables.{Mean}
use Rattle.included_forms.specs.declared.tables.Text.{Text}
use Rattle.included_documents.specs.Meant.{meant}
use Rattle.text_parts.specs.Documents.{documents_from, documents_in}
use Rattle.text_parts.specs.Parts.{IsTextPart}
use Rattle.text_parts.specs.Places.{Each}
use Rattle.text_parts.specs.declared.parts.TextPart.{TextPart}
use Rattle.text_parts.specs.declared.texts.TextRead.{TextRead}
use Rattle.read_documents.specs.DataRead.{items_in, AreReadIn, AreOpened, DocumentsRead}
use Rattle.document_units.specs.Listing.{sources_of, AreAt, CanReadAll, IsReader}
use Rattle.read_documents.specs.declared.documents.Document.{Document}
use Rattle.document_units.specs.declared.included.Reader.{Reader}
use Rattle.document_units.proofs.ViewedDocuments.{alike_at, alike_length, HaveItems, items_at, viewed_items, opened_viewed, documents_read}

-- ---- what each document is to the others

-- what holds at each place holds of what stands there
pub each_got : {X : Type 0} (P : ℕ → X → Type 0) (xs : List X) → Each P xs → (n : ℕ) (x : X) → slice_get xs n ≡ Some x → P n x
each_got P xs h n x at =
    let low : n < length xs = slice_get_within xs n x at in
    let same : Some (get_or xs n x) ≡ Some x = sym (slice_get-get_or xs n x low) ∙ at in
    let is : get_or xs n x ≡ x = cc in
    subst (P n) is (h n x low)

pub all_at : (o : Sources) (cs : List Document) (ps : List TextPart) → HaveItems o.documents cs → Each (IsTextPart o.documents) ps → AreAt o cs ps
all_at o cs ps have parts n c p here at = record { here = items_at o.documents cs have n c here; part = each_got (IsTextPart o.documents) ps parts n p at }

-- ---- which can be included

map_same : {X : Type 0} (xs : List X) → map (λ (x : X). x) xs ≡ xs
map_same [] = refl
map_same (x ∷ xs) = ap (λ ys. x ∷ ys) (map_same xs)

-- by a mark for each document
pub usable_by : (o : Sources) (ps : List TextPart) (bs : List Bool) → o.usable ≡ usable (naming o.documents) o.documents → length ps ≡ length o.documents →
    ((n : ℕ) (p : TextPart) → slice_get ps n ≡ Some p → p.is_usable ≡ is_among o.usable n) → bs ≡ map (λ (p : TextPart). p.is_usable) ps → AreUsable o.usable bs
usable_by o ps bs is many told marks m = go (slice_get bs m) refl
  where
    size : length bs ≡ length o.documents
    size = ap length marks ∙ length-map ps (λ (p : TextPart). p.is_usable) ∙ many

    behind : (b : Bool) → is_among o.usable m ≡ b → length bs ≤ m → b ≡ false
    behind false e le = refl
    behind true e le = let low : m < length o.documents = usable_there o.documents m (sym (ap (λ ns. is_among ns m) is) ∙ e) in absurd (omega (arith, size))

    no_mark : slice_get bs m ≡ None → length bs ≤ m
    no_mark at = go (cases_lt m (length bs))
      where
        go : (m < length bs) ⊎ (length bs ≤ m) → length bs ≤ m
        go (inl lt) = let there = slice_get-get_or bs m false lt in absurd cc
        go (inr le) = le

    go : (r : Option Bool) → slice_get bs m ≡ r → IsUsable o.usable m r
    go None at = behind (is_among o.usable m) refl (no_mark at)
    go (Some b) at =
        let low : m < length bs = slice_get_within bs m b at in
        let p = alike_at (λ (b : Bool). b) (λ (p : TextPart). p.is_usable) bs ps (map_same bs ∙ marks) m b at in
        sym (told m p.0 p.1) ∙ sym p.2

-- ---- the texts

-- a text that can be included, and has a program, has its number
few_by : (ds : List model.Document) (n : ℕ) → is_among (usable (naming ds) ds) n ≡ true → has_program (model.data_of (document_at ds n)) ≡ true → program_number ds n < max_units
few_by ds n can has =
    let there : n < length ds = usable_there ds n can in
    let all : is_usable (naming ds) ds n ≡ true = sym (usable_told ds n there) ∙ can in
    go (is_part (naming ds) n) (is_some (document_at ds n).read) (has_program (model.data_of (document_at ds n))) has (nat_lt (program_number ds n) max_units) refl all
  where
    go : (a b h : Bool) → h ≡ true → (c : Bool) → nat_lt (program_number ds n) max_units ≡ c → (a && (b && (not h || c))) ≡ true → program_number ds n < max_units
    go false b h is c e k = absurd cc
    go true false h is c e k = absurd cc
    go true true false is c e k = absurd cc
    go true true true is false e k = absurd cc
    go true true true is true e k = ltb-true (program_number ds n) max_units e

pub texts_are : (o : Sources) (cs : List Document) (ps : List TextPart) (xs : List Text) → o.usable ≡ usable (naming o.documents) o.documents → HaveItems o.documents cs → Each (IsTextPart o.documents) ps →
    map (λ (t : Text). data_of t.«data».now) xs ≡ map (λ (c : Document). data_of (items_in c)) cs → map (λ (t : Text). t.unit) xs ≡ map (λ (p : TextPart). p.program) ps → (n : ℕ) (x : Text) → slice_get xs n ≡ Some x → is_among o.usable n ≡ true → IsText o n x
texts_are o cs ps xs is have parts texts units n x at can =
    let c = alike_at (λ (t : Text). data_of t.«data».now) (λ (c : Document). data_of (items_in c)) xs cs texts n x at in
    let p = alike_at (λ (t : Text). t.unit) (λ (p : TextPart). p.program) xs ps units n x at in
    record {
      «data» = c.2 ∙ sym (items_at o.documents cs have n c.0 c.1);
      unit = λ has.
          let low : program_number o.documents n < max_units = few_by o.documents n (sym (ap (λ ns. is_among ns n) is) ∙ can) has in
          let told : p.0.program ≡ min (program_number o.documents n) max_units = (each_got (IsTextPart o.documents) ps parts n p.0 p.1).program in
          let number : x.unit ≡ p.0.program = p.2 in
          omega arith;
    }

-- ---- the documents that texts are

meant_from : (uris : List (List ℕ)) (n : ℕ) (vs : List TextRead) (m : ℕ) (s : List ℕ) → m < length vs → (document_at (documents_from uris n vs) m).meant s ≡ meant uris (n + m) s
meant_from uris n [] m s lt = absurd (omega arith)
meant_from uris n (v ∷ vs) zero s lt = let same : n ≡ n + 0 = omega arith in ap (λ k. meant uris k s) same
meant_from uris n (v ∷ vs) (suc m) s lt = let same : suc n + m ≡ n + suc m = omega arith in meant_from uris (suc n) vs m s (omega arith) ∙ ap (λ k. meant uris k s) same

as_many : (uris : List (List ℕ)) (n : ℕ) (vs : List TextRead) → length (documents_from uris n vs) ≡ length vs
as_many uris n [] = refl
as_many uris n (v ∷ vs) = ap suc (as_many uris (suc n) vs)

-- strings mean others by the uris
pub texts_mean : (o : Sources) (uris : List (List ℕ)) (vs : List TextRead) → o.documents ≡ documents_in uris vs → length uris ≡ length vs → Mean o uris
texts_mean o uris vs is many n s lt =
    let same : 0 + n ≡ n = omega arith in
    ap (λ (ds : List model.Document). (document_at ds n).meant s) is ∙ meant_from uris 0 vs n s (omega arith) ∙ ap (λ k. meant uris k s) same

-- ---- what units are read by

module _ (names : BTreeSet (String Global)) (uris : List (List ℕ)) (vs : List TextRead) (cs : List Document) (ps : List TextPart) (called : uris ≡ map (λ (c : Document). c.uri) cs)
    (texts : map (λ (v : TextRead). data_of v.«data».now) vs ≡ map (λ (c : Document). data_of (items_in c)) cs) (reads : map (λ (v : TextRead). v.reads) vs ≡ map (λ (c : Document). not (is_some c.fault)) cs)
    (many : length ps ≡ length vs) (parts : Each (IsTextPart (documents_in uris vs)) ps) (read : AreReadIn cs) where
  abbrev ds : List model.Document
  ds = documents_in uris vs

  -- the texts by the libraries that there are
  abbrev pub sources : Known → Sources
  sources known = sources_within max_tokens (naming ds) known ds

  have : HaveItems ds cs
  have = viewed_items uris 0 vs cs texts reads

  pub parts_at : (known : Known) → AreAt (sources known) cs ps
  parts_at known = all_at (sources known) cs ps have parts

  as_many_texts : length vs ≡ length cs
  as_many_texts = alike_length (λ (v : TextRead). v.reads) (λ (c : Document). not (is_some c.fault)) vs cs reads

  pub as_many_uris : length uris ≡ length cs
  as_many_uris = ap length called ∙ length-map cs (λ (c : Document). c.uri)

  pub as_many_documents : length ds ≡ length cs
  as_many_documents = as_many uris 0 vs ∙ as_many_texts

  -- a reader that is made of these
  module _ (xs : List Text) (told : map (λ (t : Text). data_of t.«data».now) xs ≡ map (λ (c : Document). data_of (items_in c)) cs) (units : map (λ (t : Text). t.unit) xs ≡ map (λ (p : TextPart). p.program) ps) (reader : Reader)
      (by : (o : Sources) → o.limit ≡ max_tokens → o.usable ≡ usable (naming o.documents) o.documents → Knows names o.known → Mean o uris → DocumentsRead o.documents → ((n : ℕ) (x : Text) → slice_get xs n ≡ Some x → is_among o.usable n ≡ true → IsText o n x) →
      length ps ≡ length o.documents → ((n : ℕ) (p : TextPart) → slice_get ps n ≡ Some p → p.is_usable ≡ is_among o.usable n) → IsReader o reader)
      (same : reader.documents.uris.now ≡ uris) where
    reads_by : (known : Known) → Knows names known → IsReader (sources known) reader
    reads_by known knows =
        by (sources known) refl refl knows (texts_mean (sources known) uris vs refl (as_many_uris ∙ sym as_many_texts)) (documents_read ds cs have read) (texts_are (sources known) cs ps xs refl have parts told units)
        (many ∙ sym (as_many uris 0 vs)) (λ n p at. (each_got (IsTextPart ds) ps parts n p at).usable)

    pub can_read_all : CanReadAll reader cs ps
    can_read_all =
        let known : Known = λ n. contains_text names (library_text n) in
        record { sources = sources known; reader = reads_by known (λ n proper. refl); at = parts_at known; many = ap length same ∙ as_many_uris }

    -- by the documents that are opened
    module _ (opened : List model.Document) (are : AreOpened opened cs) where
      opened_are : ds ≡ opened
      opened_are = opened_viewed uris vs opened cs called texts reads are

      pub reads_opened : Knows names (known_in opened) → IsReader (sources_of opened) reader
      reads_opened knows = subst (λ (es : List model.Document). IsReader (sources_within max_tokens (naming es) (known_in opened) es) reader) opened_are (reads_by (known_in opened) knows)

      pub parts_opened : AreAt (sources_of opened) cs ps
      parts_opened = subst (λ (es : List model.Document). AreAt (sources_within max_tokens (naming es) (known_in opened) es) cs ps) opened_are (parts_at (known_in opened))

      pub as_many_opened : length opened ≡ length cs
      as_many_opened = ap length (sym opened_are) ∙ as_many_documents
