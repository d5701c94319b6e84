-- Documents that are opened, as the texts of which it is asked what they name: they are the same documents of the definition.
use Rattle.std.proofs.Common.{◌≡◌, ℕ, zero, suc, ◌+◌, ◌<◌, ◌≤◌, Bool, true, false, cond, List, [], ◌∷◌, map, length, get_or, slice_get, Option, Some, None, refl, sym, ap, ◌∙◌, subst, arith}
use Rattle.std.specs.Prelude.{not}
use Rattle.std.specs.Option.{is_some}
use Rattle.std.proofs.lemmas.List.{length-map}
use Rattle.scheme_model.specs.Data.{Datum}
use Rattle.scheme_model.specs.Includes as model
use Rattle.scheme_model.specs.Includes.{document_at, no_document, or_none}
use Rattle.datum_reader.specs.Views.{data_of}
use Rattle.included_documents.specs.Meant.{meant}
use Rattle.text_parts.specs.Documents.{document_of, documents_from, documents_in}
use Rattle.text_parts.specs.declared.texts.TextRead.{TextRead}
use Rattle.read_documents.specs.DataRead.{DataWereRead, AreReadIn, HaveData, AreOpened, items_in, data_at, AllRead, DocumentsRead}
use Rattle.read_documents.specs.declared.documents.Document.{Document}
use Rattle.document_units.proofs.ReadForms.{all_read}

-- ---- items of lists that are alike

-- where two lists are alike, an item of one has one of the other
pub alike_at : {X Y A : Type 0} (f : X → A) (g : Y → A) (xs : List X) (ys : List Y) → map f xs ≡ map g ys → (n : ℕ) (x : X) → slice_get xs n ≡ Some x → (y : Y) × (slice_get ys n ≡ Some y) × (f x ≡ g y)
alike_at f g [] ys h n x at = absurd cc
alike_at f g (z ∷ xs) [] h n x at = absurd cc
alike_at f g (z ∷ xs) (y ∷ ys) h zero x at =
    let same : z ≡ x = cc in
    let both : f z ≡ g y = cc in
    (y, refl, ap f (sym same) ∙ both)
alike_at f g (z ∷ xs) (y ∷ ys) h (suc n) x at =
    let rest : map f xs ≡ map g ys = cc in
    alike_at f g xs ys rest n x at

pub alike_length : {X Y A : Type 0} (f : X → A) (g : Y → A) (xs : List X) (ys : List Y) → map f xs ≡ map g ys → length xs ≡ length ys
alike_length f g xs ys h = sym (length-map xs f) ∙ ap length h ∙ length-map ys g

-- the document at a place
pub document_got : (ds : List model.Document) (n : ℕ) (d : model.Document) → slice_get ds n ≡ Some d → document_at ds n ≡ d
document_got [] n d at = absurd cc
document_got (e ∷ ds) zero d at = cc
document_got (e ∷ ds) (suc n) d at = document_got ds n d at

pub document_or : (ds : List model.Document) (n : ℕ) (d : model.Document) → n < length ds → document_at ds n ≡ get_or ds n d
document_or [] n d lt = absurd (omega arith)
document_or (e ∷ ds) zero d lt = refl
document_or (e ∷ ds) (suc n) d lt = document_or ds n d (omega arith)

no_document_at : (ds : List model.Document) (n : ℕ) → length ds ≤ n → document_at ds n ≡ no_document
no_document_at [] n le = refl
no_document_at (e ∷ ds) zero le = absurd (omega arith)
no_document_at (e ∷ ds) (suc n) le = no_document_at ds n (omega arith)

-- ---- texts as documents

-- what a text has that reads, or not
viewed_read : (o : Option (List Datum)) (b : Bool) (es : List Datum) → or_none o ≡ es → is_some o ≡ b → o ≡ cond b (Some es) None
viewed_read None true es h k = absurd cc
viewed_read None false es h k = refl
viewed_read (Some ds) true es h k = ap Some h
viewed_read (Some ds) false es h k = absurd cc

-- documents with the data of texts, which read as these, and whose strings mean the same
pub viewed : (uris : List (List ℕ)) (n : ℕ) (ds : List model.Document) (vs : List TextRead) → map model.data_of ds ≡ map (λ (v : TextRead). data_of v.«data».now) vs → map (λ (d : model.Document). is_some d.read) ds ≡ map (λ (v : TextRead). v.reads) vs →
    ((k : ℕ) → k < length ds → (s : List ℕ) → (document_at ds k).meant s ≡ meant uris (n + k) s) → documents_from uris n vs ≡ ds
viewed uris n [] [] h r means = refl
viewed uris n [] (v ∷ vs) h r means = absurd cc
viewed uris n (d ∷ ds) [] h r means = absurd cc
viewed uris n (d ∷ ds) (v ∷ vs) h r means =
    let here : model.data_of d ≡ data_of v.«data».now = cc in
    let reads : is_some d.read ≡ v.reads = cc in
    let behind : map model.data_of ds ≡ map (λ (v : TextRead). data_of v.«data».now) vs = cc in
    let reading : map (λ (d : model.Document). is_some d.read) ds ≡ map (λ (v : TextRead). v.reads) vs = cc in
    let first : n + 0 ≡ n = omega arith in
    let is_read = viewed_read d.read v.reads (data_of v.«data».now) here reads in
    let one : document_of uris n v ≡ d = (λ j. record { read = sym is_read j; meant = λ s. sym (means 0 (omega arith) s ∙ ap (λ k. meant uris k s) first) j }) in
    (λ j. one j ∷ viewed uris (suc n) ds vs behind reading (λ k lt s. means (suc k) (omega arith) s ∙ ap (λ m. meant uris m s) (moved k)) j)
  where
    moved : (k : ℕ) → n + suc k ≡ suc n + k
    moved k = omega arith

-- ---- data of documents that read

-- the data of documents, none of one that doesn't read
abbrev pub HaveItems : List model.Document → List Document → Type 0
HaveItems ds cs = map model.data_of ds ≡ map (λ (c : Document). data_of (items_in c)) cs

-- a document has the data that it reads
one_opened : (d : model.Document) (c : Document) → model.data_of d ≡ data_of c.items → is_some d.read ≡ not (is_some c.fault) → model.data_of d ≡ data_of (items_in c)
one_opened d c have reads = go (is_some c.fault) d.read reads have
  where
    go : (b : Bool) (o : Option (List Datum)) → is_some o ≡ not b → or_none o ≡ data_of c.items → or_none o ≡ data_of (cond b [] c.items)
    go true None h k = refl
    go true (Some ds) h k = absurd cc
    go false o h k = k

pub opened_items : (ds : List model.Document) (cs : List Document) → HaveData ds cs → map (λ (d : model.Document). is_some d.read) ds ≡ map (λ (c : Document). not (is_some c.fault)) cs → HaveItems ds cs
opened_items [] [] h r = refl
opened_items [] (c ∷ cs) h r = absurd cc
opened_items (d ∷ ds) [] h r = absurd cc
opened_items (d ∷ ds) (c ∷ cs) h r =
    let here : model.data_of d ≡ data_of c.items = cc in
    let reads : is_some d.read ≡ not (is_some c.fault) = cc in
    let behind : HaveData ds cs = cc in
    let reading : map (λ (d : model.Document). is_some d.read) ds ≡ map (λ (c : Document). not (is_some c.fault)) cs = cc in
    (λ j. one_opened d c here reads j ∷ opened_items ds cs behind reading j)

one_viewed : (uris : List (List ℕ)) (n : ℕ) (v : TextRead) (c : Document) → data_of v.«data».now ≡ data_of (items_in c) → v.reads ≡ not (is_some c.fault) → model.data_of (document_of uris n v) ≡ data_of (items_in c)
one_viewed uris n v c have reads = go v.reads (is_some c.fault) reads have
  where
    go : (b f : Bool) → b ≡ not f → data_of v.«data».now ≡ data_of (cond f [] c.items) → or_none (cond b (Some (data_of v.«data».now)) None) ≡ data_of (cond f [] c.items)
    go true true h k = absurd cc
    go true false h k = k
    go false true h k = refl
    go false false h k = absurd cc

pub viewed_items : (uris : List (List ℕ)) (n : ℕ) (vs : List TextRead) (cs : List Document) → map (λ (v : TextRead). data_of v.«data».now) vs ≡ map (λ (c : Document). data_of (items_in c)) cs → map (λ (v : TextRead). v.reads) vs ≡ map (λ (c : Document). not (is_some c.fault)) cs →
    HaveItems (documents_from uris n vs) cs
viewed_items uris n [] [] h r = refl
viewed_items uris n [] (c ∷ cs) h r = absurd cc
viewed_items uris n (v ∷ vs) [] h r = absurd cc
viewed_items uris n (v ∷ vs) (c ∷ cs) h r =
    let here : data_of v.«data».now ≡ data_of (items_in c) = cc in
    let reads : v.reads ≡ not (is_some c.fault) = cc in
    let behind : map (λ (v : TextRead). data_of v.«data».now) vs ≡ map (λ (c : Document). data_of (items_in c)) cs = cc in
    let reading : map (λ (v : TextRead). v.reads) vs ≡ map (λ (c : Document). not (is_some c.fault)) cs = cc in
    (λ j. one_viewed uris n v c here reads j ∷ viewed_items uris (suc n) vs cs behind reading j)

-- documents that are opened are those that the texts are
pub opened_viewed : (uris : List (List ℕ)) (vs : List TextRead) (ds : List model.Document) (cs : List Document) → uris ≡ map (λ (c : Document). c.uri) cs → map (λ (v : TextRead). data_of v.«data».now) vs ≡ map (λ (c : Document). data_of (items_in c)) cs →
    map (λ (v : TextRead). v.reads) vs ≡ map (λ (c : Document). not (is_some c.fault)) cs → AreOpened ds cs → documents_in uris vs ≡ ds
opened_viewed uris vs ds cs called have reads are =
    viewed uris 0 ds vs (opened_items ds cs are.have are.read ∙ sym have) (are.read ∙ sym reads) (λ k lt s.
    are.means k (let many = alike_length model.data_of (λ (c : Document). data_of c.items) ds cs are.have in omega arith) s ∙ ap (λ us. meant us k s) (sym called) ∙ ap (λ m. meant uris m s) (from_none k))
  where
    from_none : (k : ℕ) → k ≡ 0 + k
    from_none k = omega arith

-- ---- data at places

pub items_at : (ds : List model.Document) (cs : List Document) → HaveItems ds cs → (n : ℕ) (c : Document) → slice_get cs n ≡ Some c → data_at ds n ≡ data_of (items_in c)
items_at ds cs have n c at =
    let d = alike_at (λ (c : Document). data_of (items_in c)) model.data_of cs ds (sym have) n c at in
    ap model.data_of (document_got ds n d.0 d.1) ∙ sym d.2

pub items_read : (c : Document) → DataWereRead c.items → DataWereRead (items_in c)
items_read c h = go (is_some c.fault)
  where
    go : (b : Bool) → DataWereRead (cond b [] c.items)
    go true = λ n d at. absurd cc
    go false = h

-- what was read of each document
pub documents_read : (ds : List model.Document) (cs : List Document) → HaveItems ds cs → AreReadIn cs → DocumentsRead ds
documents_read [] cs have read n = tt
documents_read (d ∷ ds) [] have read n = absurd cc
documents_read (d ∷ ds) (c ∷ cs) have read zero =
    let here : model.data_of d ≡ data_of (items_in c) = cc in
    subst AllRead (sym here) (all_read (items_in c) (items_read c (read zero c refl)))
documents_read (d ∷ ds) (c ∷ cs) have read (suc n) =
    let behind : HaveItems ds cs = cc in
    documents_read ds cs behind (λ m e at. read (suc m) e at) n
