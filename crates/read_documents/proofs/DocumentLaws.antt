-- Documents as they are read, one by one, and the bytes of their tokens.
use Rattle.std.proofs.Common.{◌≡◌, ℕ, zero, suc, ◌≤◌, slice_get, List, [], ◌∷◌, ◌++◌, map, length, take, Option, Some, None, ◌⊎◌, inl, inr, refl, sym, ap, ◌∙◌, subst}
use Rattle.std.specs.Option.{option_map}
use Rattle.ls_base.specs.declared.places.Span as code_span
use Rattle.document_store.specs.Texts.{Document}
use Rattle.scheme_tokens.specs.Lexical as told
use Rattle.scheme_tokens.specs.Lexical.{IsSpelled}
use Rattle.scheme_tokens.specs.Faults as faulty
use Rattle.scheme_tokens.specs.Stopping as stopping
use Rattle.scheme_model.specs.Kinds.{Token}
use Rattle.scheme_model.specs.Diagnostics.{Span}
use Rattle.datum_reader.specs.Texts.{TextReads, token_seen, stop_seen}
use Rattle.datum_reader.specs.Views.{bytes_seen, bytes_of}
use Rattle.datum_reader.specs.declared.datum.Datum as code_datum
use Rattle.syntax_tree.proofs.Places.{push_cases}
use Rattle.read_documents.specs.DataRead.{AreReadIn, DataWereRead}
use Rattle.read_documents.specs.declared.documents.Document as code
use Rattle.read_documents.specs.Readings.{span_of, span_seen, IsDocument, AreDocuments, AddsDocument}
use Rattle.read_documents.proofs.Nths.{take_all}

-- the tokens of a text that ends without a fault are told as they are spelled
spelled_if : (us : List told.Token) (fin : Option faulty.FaultAt) (text : List ℕ) → stopping.IsRead us fin text → None ≡ option_map stop_seen fin → IsSpelled us text
spelled_if us None text read is = read
spelled_if us (Some f) text read is = cc

pub spelled : (text : List ℕ) (ts : List Token) → TextReads text ts None → (us : List told.Token) × IsSpelled us text × (ts ≡ map token_seen us)
spelled text ts (us, fin, read, same, end) = (us, spelled_if us fin text read end, same)

abbrev as_span : ℕ × ℕ → Span
as_span p = record { start = p.0; end = p.1 }

seen_so : (spans : List code_span.Span) → map as_span (map bytes_seen spans) ≡ map span_seen spans
seen_so [] = refl
seen_so (s ∷ ss) = ap (λ (rest : List Span). span_seen s ∷ rest) (seen_so ss)

told_so : (ts : List Token) → map as_span (map bytes_of ts) ≡ map span_of ts
told_so [] = refl
told_so (t ∷ ts) = ap (λ (rest : List Span). span_of t ∷ rest) (told_so ts)

-- the bytes of the tokens that are told
pub spans_told : (spans : List code_span.Span) (ts : List Token) → map bytes_seen spans ≡ map bytes_of ts → map span_seen spans ≡ map span_of ts
spans_told spans ts h = sym (seen_so spans) ∙ ap (map as_span) h ∙ told_so ts

take_nth : {X : Type 0} (xs : List X) (n : ℕ) (x : X) → slice_get xs n ≡ Some x → take (suc n) xs ≡ take n xs ++ x ∷ []
take_nth [] n x is = cc
take_nth (y ∷ xs) zero x is = let same : y ≡ x = cc in ap (λ v. v ∷ []) same
take_nth (y ∷ xs) (suc n) x is = ap (λ ys. y ∷ ys) (take_nth xs n x is)

take_none : {X : Type 0} (xs : List X) (n : ℕ) → slice_get xs n ≡ None → take (suc n) xs ≡ take n xs
take_none [] zero is = refl
take_none [] (suc n) is = refl
take_none (x ∷ xs) zero is = cc
take_none (x ∷ xs) (suc n) is = ap (λ ys. x ∷ ys) (take_none xs n is)

one_behind : (ds : List (List ℕ × Document)) (cs : List code.Document) (d : List ℕ × Document) (c : code.Document) → AreDocuments ds cs → IsDocument d c → AreDocuments (ds ++ d ∷ []) (cs ++ c ∷ [])
one_behind [] [] d c h is = (is, tt)
one_behind [] (b ∷ cs) d c h is = absurd h
one_behind (e ∷ ds) [] d c h is = absurd h
one_behind (e ∷ ds) (b ∷ cs) d c h is = (h.0, one_behind ds cs d c h.1 is)

pub added_more : (ds : List (List ℕ × Document)) (old new : List code.Document) (n : ℕ) (o : Option (List ℕ × Document)) → AreDocuments (take n ds) old → slice_get ds n ≡ o → AddsDocument old new o → AreDocuments (take (suc n) ds) new
added_more ds old new n None h is same = rw (take_none ds n is) (subst (λ cs. AreDocuments (take n ds) cs) (sym same) h)
added_more ds old new n (Some d) h is added =
    rw (take_nth ds n d is) (subst (λ cs. AreDocuments (take n ds ++ d ∷ []) cs) (sym added.1) (one_behind (take n ds) old d added.0 h added.2))

pub added_all : (ds : List (List ℕ × Document)) (cs : List code.Document) (n : ℕ) → AreDocuments (take n ds) cs → length ds ≤ n → AreDocuments ds cs
added_all ds cs n h few = subst (λ es. AreDocuments es cs) (take_all ds n few) h

pub document_added : (old new : List code.Document) (o : Option (List ℕ × Document)) (d : List ℕ × Document) → AddsDocument old new (Some d) → o ≡ Some d → AddsDocument old new o
document_added old new o d added is = subst (λ q. AddsDocument old new q) (sym is) added

pub none_added : (old new : List code.Document) (o : Option (List ℕ × Document)) → new ≡ old → o ≡ None → AddsDocument old new o
none_added old new o same is = subst (λ q. AddsDocument old new q) (sym is) same

pub none_read : (cs : List code.Document) → cs ≡ [] → AreReadIn cs
none_read cs is = subst (λ (ds : List code.Document). AreReadIn ds) (sym is) (λ n c at. absurd cc)

pub read_more : (cs ds : List code.Document) (c : code.Document) → ds ≡ cs ++ c ∷ [] → AreReadIn cs → DataWereRead c.items → AreReadIn ds
read_more cs ds c is all read = subst (λ (es : List code.Document). AreReadIn es) (sym is) (λ n d at. go n d (push_cases cs c n d at))
  where
    go : (n : ℕ) (d : code.Document) → (slice_get cs n ≡ Some d) ⊎ ((n ≡ length cs) × (d ≡ c)) → DataWereRead d.items
    go n d (inl k) = all n d k
    go n d (inr k) = subst (λ (e : code.Document). DataWereRead e.items) (sym k.1) read

pub no_data : (ds : List code_datum.Datum) → ds ≡ [] → DataWereRead ds
no_data ds is = subst (λ (es : List code_datum.Datum). DataWereRead es) (sym is) (λ n d at. absurd cc)
