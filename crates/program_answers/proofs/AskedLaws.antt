-- Answers about an occurrence, by what the index has: their occurrences, and the lists that these decide.
use Rattle.std.proofs.Common.{◌≡◌, ◌↔◌, inl, Contains, eq-eqb, eqb-true, arith, ℕ, ◌+◌, ◌<◌, List, [], ◌∷◌, ◌++◌, map, filter, take, length, get_or, Bool, true, false, Some, None, refl, sym, ap, ◌∙◌, subst}
use Rattle.std.specs.Prelude.{if◌then◌else◌, ◌==◌, ◌&&◌}
use Rattle.std.specs.List.{flat_map}
use Rattle.ls_base.specs.declared.answers.Answer.TheVariants as answers
use Rattle.ls_base.specs.declared.answers.Query as told_query
use Rattle.ls_base.specs.declared.answers.Query.TheVariants as queries
use Rattle.ls_base.specs.declared.encoding.Encoding.{Encoding}
use Rattle.ls_base.specs.declared.places.Range.{Range}
use Rattle.document_store.specs.Texts.{Document}
use Rattle.scheme_model.specs.declared.Occ.{Occ}
use Rattle.scheme_model.specs.Entries.{is_below}
use Rattle.scheme_model.specs.Spelling.{class_of, standard_origins, is_joined}
use Rattle.arrow_index.specs.Classes.{AreStandard}
use Rattle.std.specs.Cmp.Lexicographic.{slice_cmp}
use Rattle.std.specs.Ordering.{nat_cmp}
use Rattle.read_documents.specs.Listed.{range_of}
use Rattle.program_answers.specs.ToldAnswers.{answer_told, query_of, text_of, written_at}
use Rattle.program_answers.specs.declared.bytes.Bytes as code_bytes
use Rattle.program_answers.specs.declared.bytes.Lit as code_lit
use Rattle.scheme_model.specs.Diagnostics.{Bytes}
use Rattle.scheme_model.specs.ProgramArrows.{Arrow, uses_at}
use Rattle.scheme_model.specs.Session.{Query, Definition, References, Highlights, Prepare, Arrows}
use Rattle.program_leaves.specs.Pairs.{as_arrow, AreArrows, AreOccs}
use Rattle.program_leaves.specs.Members.{IsIn}
use Rattle.program_leaves.specs.declared.pairs.Pair.{Pair}
use Rattle.arrow_index.proofs.BinderLaws.{from_filter}
use Rattle.program_leaves.proofs.Growing.{flat_next}
use Rattle.program_leaves.proofs.MemberLaws.{in_from, contains_from, in_map, from_map}
use Rattle.scheme_model.specs.Answers.{Nothing, Prepared, Facts, answer_about, answer_at, binders_for, bytes_before, drawn_before, drawn_in, is_bound, is_in, kind_of, lit_before, lit_in, no_answer, ordered_by, places_for, uses_for}
use Rattle.program_answers.specs.BytesKept.{bytes_seen, has_end, lit_seen, pair_bytes}
use Rattle.program_answers.proofs.BytesLaws.{bytes_cmp, bytes_order, drawn_order, lit_order, pair_cmp, text_order}
use Rattle.program_answers.proofs.ListedLaws.{HaveSame, passed_more, passed_over, same_listed, same_twice, same_both, same_turned, same_map, same_flat, same_filter, occs_same}
use Rattle.program_answers.proofs.OrderedLaws.{from_ordered, in_order, same_ordered}

-- ---- occurrences

pub uses_more : (arrows : List Arrow) (bs : List Occ) (i : ℕ) (d : Occ) (old new found : List Occ) → i < length bs → HaveSame old (flat_map (uses_at arrows) (take i bs)) → AreOccs found (uses_at arrows (get_or bs i d)) → new ≡ old ++ found →
    HaveSame new (flat_map (uses_at arrows) (take (i + 1) bs))
uses_more arrows bs i d old new found lt was are is =
    let f = uses_at arrows in
    let b = get_or bs i d in
    subst (HaveSame new) (sym (flat_next f bs i d lt))
    (same_twice new (old ++ found) (flat_map f (take i bs) ++ f b) (same_listed new (old ++ found) is) (same_both old (flat_map f (take i bs)) found (f b) was (occs_same found (f b) are)))

pub occs_law : (f : Facts) (o : Occ) (declaration : Bool) (binders uses occs : List Occ) → AreOccs binders (binders_for f o) → HaveSame uses (flat_map (uses_at f.arrows) binders) → occs ≡ uses ++ (if declaration then binders else []) →
    HaveSame occs ((if declaration then binders_for f o else []) ++ uses_for f o)
occs_law f o declaration binders uses occs are used is =
    let bs = binders_for f o in
    let same = occs_same binders bs are in
    let all = same_twice uses (flat_map (uses_at f.arrows) binders) (uses_for f o) used (same_flat (uses_at f.arrows) binders bs same) in
    let some = chosen declaration same in
    let mine = if declaration then binders else [] in
    let theirs = if declaration then bs else [] in
    same_twice occs (uses ++ mine) (theirs ++ uses_for f o) (same_listed occs (uses ++ mine) is)
    (same_twice (uses ++ mine) (mine ++ uses) (theirs ++ uses_for f o) (same_turned uses mine) (same_both mine theirs uses (uses_for f o) some all))
  where
    chosen : (c : Bool) → HaveSame binders (binders_for f o) → HaveSame (if c then binders else []) (if c then binders_for f o else [])
    chosen true h = h
    chosen false h = same_listed [] [] refl

-- ---- what they decide

pub places_same : (f : Facts) (xs ys : List Occ) → HaveSame xs ys → places_for f xs ≡ places_for f ys
places_same f xs ys h = same_ordered bytes_cmp bytes_before bytes_order (map f.bytes xs) (map f.bytes ys) (same_map f.bytes xs ys h)

pub lit_same : (f : Facts) (document : ℕ) (xs ys : List Occ) → HaveSame xs ys → lit_in f document xs ≡ lit_in f document ys
lit_same f document xs ys h =
    let q : Occ → Bool = λ (o : Occ). is_in document (f.bytes o) in
    let g : Occ → Bytes × ℕ = λ (o : Occ). (f.bytes o, kind_of f o) in
    same_ordered (pair_cmp bytes_cmp nat_cmp) lit_before lit_order (map g (filter q xs)) (map g (filter q ys)) (same_map g (filter q xs) (filter q ys) (same_filter q xs ys h))

arrows_same : (bytes : Occ → Bytes) (ps : List Pair) (arrows : List Arrow) → AreArrows ps arrows → HaveSame (map (pair_bytes bytes) ps) (map (λ (a : Arrow). (bytes a.binder, bytes a.target)) arrows)
arrows_same bytes ps arrows h d = (
  λ i. let r = from_map (pair_bytes bytes) d ps i in
      subst (λ (w : Bytes × Bytes). IsIn w (map (λ (a : Arrow). (bytes a.binder, bytes a.target)) arrows)) r.2
      (in_map (λ (a : Arrow). (bytes a.binder, bytes a.target)) (as_arrow r.0) arrows (in_from (as_arrow r.0) arrows ((h.same r.0).0 (contains_from r.0 ps r.1)))),
  λ i. let r = from_map (λ (a : Arrow). (bytes a.binder, bytes a.target)) d arrows i in
      let p : Pair = record { binder = r.0.binder; target = r.0.target } in
      subst (λ (w : Bytes × Bytes). IsIn w (map (pair_bytes bytes) ps)) r.2 (in_map (pair_bytes bytes) p ps (in_from p ps ((h.same p).1 (contains_from r.0 arrows r.1)))),
)

pub drawn_law : (f : Facts) (document : ℕ) (ps : List Pair) → AreArrows ps f.arrows → ordered_by drawn_before (filter (has_end document) (map (pair_bytes f.bytes) ps)) ≡ drawn_in f document
drawn_law f document ps h =
    let theirs = map (λ (a : Arrow). (f.bytes a.binder, f.bytes a.target)) f.arrows in
    let mine = map (pair_bytes f.bytes) ps in
    same_ordered (pair_cmp bytes_cmp bytes_cmp) drawn_before drawn_order (filter (has_end document) mine) (filter (has_end document) theirs) (same_filter (has_end document) mine theirs (arrows_same f.bytes ps f.arrows h))

-- each use of an arrow is an occurrence
pub drawn_tokens : (bytes : Occ → Bytes) (document : ℕ) (ps : List Pair) (d : Bytes × Bytes) → IsIn d (ordered_by drawn_before (filter (has_end document) (map (pair_bytes bytes) ps))) → (o : Occ) × (d.1 ≡ bytes o)
drawn_tokens bytes document ps d i =
    let k = from_ordered (pair_cmp bytes_cmp bytes_cmp) drawn_before drawn_order d (filter (has_end document) (map (pair_bytes bytes) ps)) i in
    let r = from_map (pair_bytes bytes) d ps (from_filter (has_end document) d (map (pair_bytes bytes) ps) k).0 in
    (r.0.target, ap (λ (w : Bytes × Bytes). w.1) (sym r.2))

-- ---- answers where an occurrence stands, and where none does

pub about_one : (f : Facts) (document : ℕ) (o : Occ) (query : Query) → answer_at f document (Some o) query ≡ answer_about f document o query
about_one f document o Definition = refl
about_one f document o (References declaration) = refl
about_one f document o Highlights = refl
about_one f document o Prepare = refl
about_one f document o Arrows = refl

pub beside_none : (f : Facts) (document : ℕ) (query : told_query.Query) → (query ≡ queries.Arrows → ⊥) → answer_at f document None (query_of query) ≡ no_answer (query_of query)
beside_none f document queries.Definition h = refl
beside_none f document (queries.References declaration) h = refl
beside_none f document queries.Highlights h = refl
beside_none f document queries.Prepare h = refl
beside_none f document queries.Arrows h = absurd (h refl)

-- ---- lit bytes, one by one

same_number : (a b : ℕ) → (a ≡ b → ⊥) → (a == b) ≡ false
same_number a b h = by_test (a == b) refl
  where
    by_test : (t : Bool) → (a == b) ≡ t → t ≡ false
    by_test true e = absurd (h (eqb-true a b e))
    by_test false e = refl

module _ (f : Facts) (document : ℕ) (occs : List Occ) (i : ℕ) (d : Occ) (old : List code_lit.Lit) (bytes : code_bytes.Bytes) where
  abbrev stands_here : Occ → Bool
  stands_here o = is_in document (f.bytes o)

  abbrev with_kind : Occ → Bytes × ℕ
  with_kind o = (f.bytes o, kind_of f o)

  pub lit_more : (new : List code_lit.Lit) (kind : ℕ) → i < length occs → map lit_seen old ≡ map with_kind (filter stands_here (take i occs)) → new ≡ old ++ record { bytes = bytes; kind = kind } ∷ [] → bytes_seen bytes ≡ f.bytes (get_or occs i d) →
      kind ≡ kind_of f (get_or occs i d) → bytes.document ≡ document → map lit_seen new ≡ map with_kind (filter stands_here (take (i + 1) occs))
  lit_more new kind lt was is e k h =
      passed_more lit_seen with_kind stands_here occs i d old new (record { bytes = bytes; kind = kind }) lt was is (λ j. (e j, k j)) (ap (λ (b : Bytes). b.document == document) (sym e) ∙ eq-eqb bytes.document document h)

  pub lit_over : i < length occs → map lit_seen old ≡ map with_kind (filter stands_here (take i occs)) → bytes_seen bytes ≡ f.bytes (get_or occs i d) → (bytes.document ≡ document → ⊥) → map lit_seen old ≡ map with_kind (filter stands_here (take (i + 1) occs))
  lit_over lt was e h = passed_over with_kind stands_here occs i d (map lit_seen old) lt was (ap (λ (b : Bytes). b.document == document) (sym e) ∙ same_number bytes.document document h)

-- ---- a name that can be renamed

none_both : {X : Type 0} (xs ys : List X) → ((x : X) → Contains xs x ↔ Contains ys x) → (length xs == 0) ≡ (length ys == 0)
none_both [] [] h = refl
none_both [] (y ∷ ys) h = absurd (in_from y [] ((h y).1 (contains_from y (y ∷ ys) (inl refl))))
none_both (x ∷ xs) [] h = absurd (in_from x [] ((h x).0 (contains_from x (x ∷ xs) (inl refl))))
none_both (x ∷ xs) (y ∷ ys) h = same_number (length (x ∷ xs)) 0 (λ e. omega (arith, e)) ∙ sym (same_number (length (y ∷ ys)) 0 (λ e. omega (arith, e)))

pub bound_law : (f : Facts) (o : Occ) (names : List (List ℕ)) → is_joined f.links o ≡ true → AreStandard names f.links o → (length names == 0) ≡ is_bound f o
bound_law f o names h are = none_both names (standard_origins f.links (class_of f.links o)) are.same ∙ ap (λ (b : Bool). b && (length (standard_origins f.links (class_of f.links o)) == 0)) (sym h)

pub unbound_law : (f : Facts) (o : Occ) → is_joined f.links o ≡ false → false ≡ is_bound f o
unbound_law f o h = ap (λ (b : Bool). b && (length (standard_origins f.links (class_of f.links o)) == 0)) (sym h)

pub prepared_law : (encoding : Encoding) (ds : List (List ℕ × Document)) (f : Facts) (o : Occ) (range : Range) (text : List ℕ) (b : Bytes) → is_bound f o ≡ true → b ≡ f.bytes o → range ≡ range_of encoding (text_of ds b.document) b.span.start b.span.end → text ≡ written_at ds b →
    answers.Prepared range text ≡ answer_told encoding ds (if is_bound f o then Prepared (f.bytes o) else Nothing)
prepared_law encoding ds f o range text b h e r t =
    (λ j. answers.Prepared (r j) (t j)) ∙ ap (λ (x : Bytes). answer_told encoding ds (Prepared x)) e ∙ ap (λ (c : Bool). answer_told encoding ds (if c then Prepared (f.bytes o) else Nothing)) (sym h)

pub unprepared_law : (encoding : Encoding) (ds : List (List ℕ × Document)) (f : Facts) (o : Occ) → is_bound f o ≡ false → answers.Nothing ≡ answer_told encoding ds (if is_bound f o then Prepared (f.bytes o) else Nothing)
unprepared_law encoding ds f o h = ap (λ (c : Bool). answer_told encoding ds (if c then Prepared (f.bytes o) else Nothing)) (sym h)

-- ---- standard names in order

same_map_itself : {A : Type 0} (xs : List A) → map (λ (x : A). x) xs ≡ xs
same_map_itself [] = refl
same_map_itself (x ∷ xs) = ap (λ ys. x ∷ ys) (same_map_itself xs)

pub names_law : (f : Facts) (o : Occ) (names : List (List ℕ)) → AreStandard names f.links o → names ≡ ordered_by is_below (standard_origins f.links (class_of f.links o))
names_law f o names are =
    let origins = standard_origins f.links (class_of f.links o) in
    sym (same_map_itself names) ∙ in_order (slice_cmp nat_cmp) is_below text_order (λ (s : List ℕ). s) names origins (are.sorted, are.same) ∙ ap (ordered_by is_below) (same_map_itself origins)
