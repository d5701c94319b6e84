-- Units, forms and tokens by their places, as the code keeps them.
use Rattle.std.proofs.Common.{◌≡◌, ◌+◌, ℕ, zero, suc, List, [], ◌∷◌, map, length, slice_get, Option, true, false, cond, nat_lt, Some, None, refl, sym, ap, ◌∙◌, subst, arith, eq-eqb, ne_eqb}
use Rattle.std.proofs.lemmas.List.{length-map}
use Rattle.scheme_model.specs.declared.Occ.{Occ}
use Rattle.scheme_model.specs.Data.{place_of}
use Rattle.scheme_model.specs.Declarations.{UnitForm, unit_or}
use Rattle.scheme_model.specs.Program.{UnitResult, result_at}
use Rattle.scheme_model.specs.Diagnostics.{Span, Bytes, document_if, document_of, home_unit, bytes_of, in_unit, span_at, spans_at, unit_start, first_token, or_start}
use Rattle.ls_base.specs.declared.places.Span as code_span
use Rattle.read_documents.specs.Readings.{Read, span_seen}
use Rattle.read_documents.specs.declared.documents.Document as code_document
use Rattle.read_documents.specs.declared.heads.Head.{Head}
use Rattle.read_documents.specs.declared.places.Places as code
use Rattle.read_documents.specs.Places.{spans_of, start_of, number_at, unit_at, form_or_start, IsHead, AreHeads, ArePlaces}

module _ (rs : List Read) where
  -- the unit with a number is the one at that place
  found : (k : ℕ) (hs : List Head) (us : List UnitResult) → AreHeads rs k hs us → (n m : ℕ) (h : Head) → m ≡ k + n → slice_get hs n ≡ Some h →
      (r : UnitResult) × (result_at us m ≡ Some r) × IsHead rs m h r
  found k [] us is n m h at get = cc
  found k (g ∷ hs) [] is n m h at get = absurd is
  found k (g ∷ hs) (r ∷ us) is zero m h at get =
      let here : k ≡ m = omega arith in
      let same : g ≡ h = cc in
      (r, ap (λ b. cond b (Some r) (result_at us m)) (eq-eqb r.unit.number m (is.0.number ∙ here)), subst (λ x. IsHead rs x h r) here (subst (λ x. IsHead rs k x r) same is.0))
  found k (g ∷ hs) (r ∷ us) is (suc n) m h at get =
      let number : r.unit.number ≡ k = is.0.number in
      let other : r.unit.number ≡ m → ⊥ = λ e. omega arith in
      let next : m ≡ suc k + n = omega arith in
      let q = found (suc k) hs us is.1 n m h next get in
      (q.0, ap (λ b. cond b (Some r) (result_at us m)) (ne_eqb r.unit.number m other) ∙ q.1, q.2)

  missing : (k : ℕ) (hs : List Head) (us : List UnitResult) → AreHeads rs k hs us → (n m : ℕ) → m ≡ k + n → slice_get hs n ≡ None → result_at us m ≡ None
  missing k [] [] is n m at get = refl
  missing k [] (r ∷ us) is n m at get = absurd is
  missing k (g ∷ hs) [] is n m at get = absurd is
  missing k (g ∷ hs) (r ∷ us) is zero m at get = cc
  missing k (g ∷ hs) (r ∷ us) is (suc n) m at get =
      let number : r.unit.number ≡ k = is.0.number in
      let other : r.unit.number ≡ m → ⊥ = λ e. omega arith in
      let next : m ≡ suc k + n = omega arith in
      ap (λ b. cond b (Some r) (result_at us m)) (ne_eqb r.unit.number m other) ∙ missing (suc k) hs us is.1 n m next get

firsts_are : (fs : List UnitForm) (n : ℕ) → number_at (map (λ f. (place_of f.datum).first) fs) n ≡ first_token fs n
firsts_are [] n = refl
firsts_are (f ∷ fs) zero = refl
firsts_are (f ∷ fs) (suc n) = firsts_are fs n

homes_are : (unit : ℕ) (fs : List UnitForm) (n : ℕ) → unit_at (map (λ f. unit_or unit f.home) fs) n unit ≡ home_unit unit fs n
homes_are unit [] n = refl
homes_are unit (f ∷ fs) zero = refl
homes_are unit (f ∷ fs) (suc n) = homes_are unit fs n

spans_there : (ds : List code_document.Document) (n : ℕ) (d : code_document.Document) → slice_get ds n ≡ Some d → spans_at (map (λ (x : code_document.Document). map span_seen x.spans.items) ds) n ≡ map span_seen d.spans.items
spans_there [] n d is = cc
spans_there (x ∷ ds) zero d is = let same : x ≡ d = cc in ap (λ (y : code_document.Document). map span_seen y.spans.items) same
spans_there (x ∷ ds) (suc n) d is = spans_there ds n d is

-- the number at a place and the span at a place, by what stands there
pub number_there : (xs : List ℕ) (n x : ℕ) → slice_get xs n ≡ Some x → x ≡ number_at xs n
number_there [] n x is = cc
number_there (y ∷ xs) zero x is = cc
number_there (y ∷ xs) (suc n) x is = number_there xs n x is

pub no_number : (xs : List ℕ) (n : ℕ) → slice_get xs n ≡ None → 0 ≡ number_at xs n
no_number [] n is = refl
no_number (y ∷ xs) zero is = cc
no_number (y ∷ xs) (suc n) is = no_number xs n is

pub unit_there : (xs : List ℕ) (n x unit : ℕ) → slice_get xs n ≡ Some x → x ≡ unit_at xs n unit
unit_there [] n x unit is = cc
unit_there (y ∷ xs) zero x unit is = cc
unit_there (y ∷ xs) (suc n) x unit is = unit_there xs n x unit is

pub no_unit_there : (xs : List ℕ) (n unit : ℕ) → slice_get xs n ≡ None → unit ≡ unit_at xs n unit
no_unit_there [] n unit is = refl
no_unit_there (y ∷ xs) zero unit is = cc
no_unit_there (y ∷ xs) (suc n) unit is = no_unit_there xs n unit is

-- the document of a unit's start is the unit's
pub start_document : (spans : List (List Span)) (o : Option UnitResult) → (start_of spans o).document ≡ document_if o
start_document spans None = refl
start_document spans (Some r) = refl

pub span_there : (ss : List code_span.Span) (n : ℕ) (s : code_span.Span) → slice_get ss n ≡ Some s → span_seen s ≡ span_at (map span_seen ss) n
span_there [] n s is = cc
span_there (t ∷ ss) zero s is = let same : t ≡ s = cc in ap span_seen (sym same)
span_there (t ∷ ss) (suc n) s is = span_there ss n s is

pub no_span : (ss : List code_span.Span) (n : ℕ) → slice_get ss n ≡ None → ◌≡◌ {A = Span} (record { start = 0; end = 0 }) (span_at (map span_seen ss) n)
no_span [] n is = refl
no_span (t ∷ ss) zero is = cc
no_span (t ∷ ss) (suc n) is = no_span ss n is

module _ (p : code.Places) (rs : List Read) (us : List UnitResult) (are : ArePlaces p rs us) where
  -- the document of a unit
  pub document_is : (n : ℕ) (h : Head) → slice_get p.heads.now n ≡ Some h → h.document ≡ document_of us n
  document_is n h at = let q = found rs 0 p.heads.now us are.heads n n h (omega arith) at in q.2.document ∙ ap document_if (sym q.1)

  pub no_document : (n : ℕ) → slice_get p.heads.now n ≡ None → 0 ≡ document_of us n
  no_document n at = ap document_if (sym (missing rs 0 p.heads.now us are.heads n n (omega arith) at))

  -- an occurrence of a unit that there is, in the document of the unit where its form's text is at home
  pub at_is : (o : Occ) (h : Head) (n : ℕ) (d : code_document.Document) → slice_get p.heads.now o.unit ≡ Some h → n ≡ document_of us (unit_at h.homes.items o.form o.unit) → slice_get p.documents.now n ≡ Some d →
      ◌≡◌ {A = Bytes} (record { document = n; span = span_at (map span_seen d.spans.items) (number_at h.firsts.items o.form + o.token) }) (bytes_of (spans_of rs) us o)
  at_is o h n d at is there =
      let q = found rs 0 p.heads.now us are.heads o.unit o.unit h (omega arith) at in
      let r : UnitResult = q.0 in
      let home : unit_at h.homes.items o.form o.unit ≡ home_unit o.unit r.unit.forms o.form = ap (λ xs. unit_at xs o.form o.unit) q.2.homes ∙ homes_are o.unit r.unit.forms o.form in
      let e1 : n ≡ document_of us (home_unit o.unit r.unit.forms o.form) = is ∙ ap (document_of us) home in
      let e2 : map span_seen d.spans.items ≡ spans_at (spans_of rs) (document_of us (home_unit o.unit r.unit.forms o.form)) =
      sym (spans_there p.documents.now n d there) ∙ ap (λ ss. spans_at ss n) are.spans ∙ ap (spans_at (spans_of rs)) e1 in
      let e3 : number_at h.firsts.items o.form ≡ first_token r.unit.forms o.form = ap (λ xs. number_at xs o.form) q.2.firsts ∙ firsts_are r.unit.forms o.form in
      let e : ◌≡◌ {A = Bytes} (record { document = n; span = span_at (map span_seen d.spans.items) (number_at h.firsts.items o.form + o.token) }) (in_unit (spans_of rs) us (Some r) o) =
      λ i. record { document = e1 i; span = span_at (e2 i) (e3 i + o.token) } in
      e ∙ ap (λ x. in_unit (spans_of rs) us x o) (sym q.1)

  pub at_no_unit : (o : Occ) → slice_get p.heads.now o.unit ≡ None → ◌≡◌ {A = Bytes} (record { document = 0; span = record { start = 0; end = 0 } }) (bytes_of (spans_of rs) us o)
  at_no_unit o at = ap (λ x. in_unit (spans_of rs) us x o) (sym (missing rs 0 p.heads.now us are.heads o.unit o.unit (omega arith) at))

  -- a unit that there is begins with its first token
  pub start_is : (n : ℕ) (h : Head) → slice_get p.heads.now n ≡ Some h → ◌≡◌ {A = Bytes} (record { document = h.document; span = span_seen h.span }) (start_of (spans_of rs) (result_at us n))
  start_is n h at =
      let q = found rs 0 p.heads.now us are.heads n n h (omega arith) at in
      let r : UnitResult = q.0 in
      let e : ◌≡◌ {A = Bytes} (record { document = h.document; span = span_seen h.span }) (unit_start (spans_of rs) r.unit) = λ i. record { document = q.2.document i; span = q.2.span i } in
      e ∙ ap (start_of (spans_of rs)) (sym q.1)

  pub start_no_unit : (n : ℕ) → slice_get p.heads.now n ≡ None → ◌≡◌ {A = Bytes} (record { document = 0; span = record { start = 0; end = 0 } }) (start_of (spans_of rs) (result_at us n))
  start_no_unit n at = ap (start_of (spans_of rs)) (sym (missing rs 0 p.heads.now us are.heads n n (omega arith) at))

  pub form_no_unit : (n form : ℕ) → slice_get p.heads.now n ≡ None → ◌≡◌ {A = Bytes} (record { document = 0; span = record { start = 0; end = 0 } }) (form_or_start (spans_of rs) us (result_at us n) n form)
  form_no_unit n form at = ap (λ x. form_or_start (spans_of rs) us x n form) (sym (missing rs 0 p.heads.now us are.heads n n (omega arith) at))

  -- a form that there is, and one that there isn't
  pub form_is : (b : Bytes) (n form : ℕ) (h : Head) → slice_get p.heads.now n ≡ Some h → nat_lt form (length h.firsts.items) ≡ true → b ≡ bytes_of (spans_of rs) us (or_start n form None) →
      b ≡ form_or_start (spans_of rs) us (result_at us n) n form
  form_is b n form h at less is =
      let q = found rs 0 p.heads.now us are.heads n n h (omega arith) at in
      let r : UnitResult = q.0 in
      let e : nat_lt form (length r.unit.forms) ≡ true = ap (nat_lt form) (sym (ap length q.2.firsts ∙ length-map r.unit.forms (λ f. (place_of f.datum).first))) ∙ less in
      is ∙ ap (λ t. cond t (bytes_of (spans_of rs) us (or_start n form None)) (start_of (spans_of rs) (Some r))) (sym e) ∙ ap (λ x. form_or_start (spans_of rs) us x n form) (sym q.1)

  pub form_isnt : (b : Bytes) (n form : ℕ) (h : Head) → slice_get p.heads.now n ≡ Some h → nat_lt form (length h.firsts.items) ≡ false → b ≡ start_of (spans_of rs) (result_at us n) →
      b ≡ form_or_start (spans_of rs) us (result_at us n) n form
  form_isnt b n form h at less is =
      let q = found rs 0 p.heads.now us are.heads n n h (omega arith) at in
      let r : UnitResult = q.0 in
      let e : nat_lt form (length r.unit.forms) ≡ false = ap (nat_lt form) (sym (ap length q.2.firsts ∙ length-map r.unit.forms (λ f. (place_of f.datum).first))) ∙ less in
      is ∙ ap (start_of (spans_of rs)) q.1 ∙ ap (λ t. cond t (bytes_of (spans_of rs) us (or_start n form None)) (start_of (spans_of rs) (Some r))) (sym e) ∙ ap (λ x. form_or_start (spans_of rs) us x n form) (sym q.1)
