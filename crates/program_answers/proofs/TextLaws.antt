-- The texts of the documents that are read, and places in them.
use Rattle.std.proofs.Common.{◌≡◌, ◌<◌, ℕ, zero, suc, List, [], ◌∷◌, length, slice_get, Option, Some, None, IfSome, refl, sym, ap, ◌∙◌, subst, nat_cmp}
use Rattle.std.proofs.lemmas.List.{nil_from_length}
use Rattle.std.specs.Cmp.Lexicographic.{slice_cmp}
use Rattle.std.specs.Option.{option_map}
use Rattle.std.specs.FinMap.{entries, empty, get, len-entries, len-empty}
use Rattle.ls_base.specs.Positions.{position_of}
use Rattle.ls_base.specs.declared.encoding.Encoding.{Encoding}
use Rattle.ls_base.specs.declared.places.Place as told
use Rattle.ls_base.specs.declared.places.Range.{Range}
use Rattle.text_positions.specs.Lines.{AreLinesOf}
use Rattle.document_store.specs.Texts.{Document, Texts, text_at}
use Rattle.read_documents.specs.declared.documents.Document as code
use Rattle.read_documents.specs.declared.findings.At.{At}
use Rattle.read_documents.specs.Readings.{Read, AreReadAs, IsDocument, AreDocuments}
use Rattle.read_documents.specs.Listed.{range_of}
use Rattle.program_answers.specs.Placed.{IsPlace}
use Rattle.read_documents.specs.declared.heads.Head.{Head}
use Rattle.read_documents.specs.Belongs.{Belongs, AreErrorsIn, AreUnitsIn}
use Rattle.read_documents.specs.Places.{AreHeadsIn, bytes_at}
use Rattle.read_documents.proofs.Nths.{get_nth}

pub document_at : (ds : List (List ℕ × Document)) (cs : List code.Document) → AreDocuments ds cs → (n : ℕ) (c : code.Document) → slice_get cs n ≡ Some c →
    (d : List ℕ × Document) × (slice_get ds n ≡ Some d) × IsDocument d c
document_at [] [] are n c at = cc
document_at [] (b ∷ cs) are n c at = absurd are
document_at (d ∷ ds) [] are n c at = absurd are
document_at (d ∷ ds) (b ∷ cs) are zero c at = let same : b ≡ c = cc in (d, refl, subst (λ (x : code.Document). IsDocument d x) same are.0)
document_at (d ∷ ds) (b ∷ cs) are (suc n) c at = document_at ds cs are.1 n c at

pub as_many : (ds : List (List ℕ × Document)) (cs : List code.Document) → AreDocuments ds cs → length cs ≡ length ds
as_many [] [] are = refl
as_many [] (b ∷ cs) are = absurd are
as_many (d ∷ ds) [] are = absurd are
as_many (d ∷ ds) (b ∷ cs) are = ap suc (as_many ds cs are.1)

pub in_store : (texts : Texts) (n : ℕ) (d : List ℕ × Document) (uri : List ℕ) → slice_get (entries texts) n ≡ Some d → uri ≡ d.0 → text_at texts uri ≡ Some d.1.1
in_store texts n d uri at is = ap (λ u. option_map (λ (x : Document). x.1) (get texts u)) is ∙ ap (option_map (λ (x : Document). x.1)) (get_nth texts n d.0 d.1 at)

-- the lines of a document are those of its text in the store
pub lines_in : (texts : Texts) (cs : List code.Document) → AreDocuments (entries texts) cs → (n : ℕ) (c : code.Document) → slice_get cs n ≡ Some c →
    (text : List ℕ) → ((t : List ℕ) → text_at texts c.uri ≡ Some t → text ≡ t) → AreLinesOf c.lines text
lines_in texts cs are n c at text is =
    let q = document_at (entries texts) cs are n c at in
    subst (λ t. AreLinesOf c.lines t) (sym (is q.0.1.1 (in_store texts n q.0 c.uri q.1 q.2.uri))) q.2.lines

pub place_is : (texts : Texts) (cs : List code.Document) → AreDocuments (entries texts) cs → (at : At) (c : code.Document) → slice_get cs at.document ≡ Some c →
    (encoding : Encoding) (text : List ℕ) → ((t : List ℕ) → text_at texts c.uri ≡ Some t → text ≡ t) →
    (p : told.Place) → p.uri ≡ c.uri → p.range ≡ range_of encoding text at.span.start at.span.end → IsPlace encoding (entries texts) (bytes_at at) p
place_is texts cs are at c there encoding text is p uri range =
    let q = document_at (entries texts) cs are at.document c there in
    let same : text ≡ q.0.1.1 = is q.0.1.1 (in_store texts at.document q.0 c.uri q.1 q.2.uri) in
    (q.0, q.1, uri ∙ q.2.uri, ap (λ (r : Range). r.start) range ∙ ap (λ t. position_of encoding t at.span.start) same, ap (λ (r : Range). r.end) range ∙ ap (λ t. position_of encoding t at.span.end) same)

nothing_read : (rs : List Read) → AreReadAs [] rs → rs ≡ []
nothing_read [] h = refl
nothing_read (r ∷ rs) h = absurd h

none_in : AreUnitsIn [] [] [] []
none_in = record { tokens = refl; heads = tt; errors = record { count = refl; each = λ n e r at there. absurd cc } }

none_belong : (texts : Texts) → entries texts ≡ [] → (cs : List code.Document) (hs : List Head) (es : List (Option (At × ℕ))) → cs ≡ [] → hs ≡ [] → es ≡ [] → Belongs texts cs hs es
none_belong texts none cs hs es a b c = record {
  documents = subst (λ (xs : List code.Document). AreDocuments (entries texts) xs) (sym a) (subst (λ (ds : List (List ℕ × Document)). AreDocuments ds []) (sym none) tt);
  heads = subst (λ (xs : List Head). AreHeadsIn (length cs) xs) (sym b) (λ n h at. absurd cc);
  errors = subst (λ (xs : List (Option (At × ℕ))). AreErrorsIn (length cs) xs) (sym c) (λ n p code at. absurd cc);
  units = λ rs are.
      let no_reads : rs ≡ [] = nothing_read rs (subst (λ (ds : List (List ℕ × Document)). AreReadAs ds rs) none are) in
      subst (λ (xs : List Read). AreUnitsIn xs cs hs es) (sym no_reads) (subst (λ (xs : List code.Document). AreUnitsIn [] xs hs es) (sym a)
      (subst (λ (xs : List Head). AreUnitsIn [] [] xs es) (sym b) (subst (λ (xs : List (Option (At × ℕ))). AreUnitsIn [] [] [] xs) (sym c) none_in)));
}

-- nothing belongs to no documents
pub belongs_empty : (texts : Texts) (cs : List code.Document) (hs : List Head) (es : List (Option (At × ℕ))) → texts ≡ empty → cs ≡ [] → hs ≡ [] → es ≡ [] → Belongs texts cs hs es
belongs_empty texts cs hs es is = none_belong texts (ap (λ (t : Texts). entries t) is ∙ nil_from_length (entries (empty {X = Document} {R = slice_cmp nat_cmp})) (sym (len-entries (empty {X = Document} {R = slice_cmp nat_cmp})) ∙ len-empty (slice_cmp nat_cmp) Document)) cs hs es

-- an error stands in a document, where there is one
pub error_within : (count : ℕ) (es : List (Option (At × ℕ))) → AreErrorsIn count es → (n : ℕ) (e : Option (At × ℕ)) → slice_get es n ≡ Some e → IfSome e (λ p. p.0.document < count)
error_within count es are n None at = tt
error_within count es are n (Some p) at = are n p.0 p.1 at
