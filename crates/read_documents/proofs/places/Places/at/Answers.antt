-- The unit's document is there, and the token is found by its form's first one.
use Rattle.std.proofs.Common.{◌≡◌, ◌<◌, ◌+◌, ℕ, sym, ap, ◌∙◌, arith, length, slice_get, Some, refl, map}
use Rattle.std.proofs.lemmas.Option.{slice_get_read}
use Rattle.scheme_model.specs.Diagnostics.{Span, Bytes, document_of, span_at}
use Rattle.read_documents.specs.Readings.{span_seen}
use Rattle.read_documents.specs.Places.{CanPlace, bytes_at, number_at, unit_at}
use Rattle.read_documents.specs.declared.documents.Document.{Document}
use Rattle.read_documents.proofs.Nths.{get_some, get_none}
use Rattle.read_documents.proofs.PlaceLaws.{at_is, at_no_unit}
use Rattle.read_documents.proofs.places.Places.at.Goals as goal
use Rattle.read_documents.proofs.places.Places.at.Goals.{In-Some}

head : (c : In-Some) → slice_get c.args.self.now.heads.now c.args.occ.unit ≡ Some c.in-Some.head.now
head c = get_some c.args.self.now.heads.now c.args.occ.unit c.in-Some.head.now (sym c.in-Some.ensures.lookup.0) c.in-Some.ensures.lookup.1

inside : (c : In-Some) → c.in-Some.head.now.document < length c.args.self.now.documents.now
inside c = c.requires c.args.occ.unit c.in-Some.head.now (head c)

pub returns-in_default-clause-exact : goal.returns-in_default-clause-exact
returns-in_default-clause-exact c = λ rs us are.
    ap bytes_at c.nowhere.ensures ∙ at_no_unit c.args.self.now rs us are c.args.occ (get_none c.args.self.now.heads.now c.args.occ.unit (sym c.in_default.ensures.lookup.0))

-- there are documents, so the home's unit has one
document : (c : In-Some) → (n : ℕ) → (CanPlace c.args.self.now → 0 < length c.args.self.now.documents.now → n < length c.args.self.now.documents.now) → n < length c.args.self.now.documents.now
document c n h = let below = inside c in h c.requires (omega (arith, below))

pub bounds-self-document : goal.bounds-self-document
bounds-self-document c = document (goal.at.bounds-self-document c).In-Some c.document_of-document.result c.document_of-document.ensures.inside

pub offset_bounds-self-document : goal.offset_bounds-self-document
offset_bounds-self-document c =
    let below : c.document_of-document.result < length c.args.self.now.documents.now = document (goal.at.offset_bounds-self-document c).In-Some c.document_of-document.result c.document_of-document.ensures.inside in
    omega arith

pub returns-clause-inside : goal.returns-clause-inside
returns-clause-inside c = λ some. c.document_of-document.ensures.inside c.requires some

pub returns-clause-exact : goal.returns-clause-exact
returns-clause-exact c = λ rs us are.
    let h = c.in-Some.head.now in
    let n = c.document_of-document.result in
    let d = c.index-self-document.result in
    let first : c.first_of-first.result ≡ number_at h.firsts.items c.args.occ.form = c.first_of-first.ensures ∙ ap (λ xs. number_at xs c.args.occ.form) c.as_slice.ensures.value in
    let home : n ≡ document_of us (unit_at h.homes.items c.args.occ.form c.args.occ.unit) =
    c.document_of-document.ensures.exact rs us are ∙ ap (document_of us) (c.unit_at-unit.ensures ∙ ap (λ xs. unit_at xs c.args.occ.form c.args.occ.unit) c.as_slice-2.ensures.value) in
    let span : ◌≡◌ {A = Span} (span_seen c.span_at.result) (span_at (map span_seen d.spans.items) (number_at h.firsts.items c.args.occ.form + c.args.occ.token)) =
    c.span_at.ensures ∙ (λ i. span_at (map span_seen (c.as_slice-spans.ensures.value i)) (first i + c.args.occ.token))
    ∙ ap (λ (e : Document). span_at (map span_seen e.spans.items) (number_at h.firsts.items c.args.occ.form + c.args.occ.token)) (sym c.index-self-document.is) in
    let whole : ◌≡◌ {A = Bytes} (record { document = n; span = span_seen c.span_at.result }) (record { document = n; span = span_at (map span_seen d.spans.items) (number_at h.firsts.items c.args.occ.form + c.args.occ.token) }) =
    λ i. record { document = n; span = span i } in
    whole ∙ at_is c.args.self.now rs us are c.args.occ h n d (head (goal.at.returns-clause-exact c).In-Some) home
    (slice_get_read c.args.self.now.documents.now (length c.args.self.now.documents.now) n d refl (document (goal.at.returns-clause-exact c).In-Some n c.document_of-document.ensures.inside) c.index-self-document.is)
