-- The edits of each document, as a map of texts.
use Rattle.std.proofs.Common.{◌≡◌, ℕ, List, [], ◌∷◌, ◌++◌, Bool, true, false, Ordering, Less, Equal, Greater, String, Global, string_bytes, string_cmp, nat_cmp, codes, refl, sym, ap, ◌∙◌, subst, append_assoc}
use Rattle.std.proofs.lemmas.Cmp.{nat_list_cmp_total}
use Rattle.std.specs.BTreeMap.{insert_entry}
use Rattle.std.specs.Cmp.Lexicographic.{slice_cmp}
use Rattle.std.specs.List.{AllByRecursion}
use Rattle.std.specs.List.Sorted.{IsStrictlySortedBy}
use Rattle.std.specs.Map.{keys_of}
use Rattle.std.specs.Ordering.{match_ordering, ordering_reverse}
use Rattle.json.specs.Print.{quoted}
use Rattle.serde_json.specs.Data.{Data, string, object, Members, no_members, member, put}
use Rattle.serde_json.specs.Written.{comma_if, compact_text, members_text}
use Rattle.ls_base.specs.declared.answers.DocEdits.{DocEdits}
use Rattle.ls_base.specs.declared.answers.TextEdit.{TextEdit}
use Rattle.lsp_messages.specs.Replies.{list_json, text_edit_json, with_documents}
use Rattle.lsp_messages.specs.Written.{IsReadable, Writes, HoldTexts}
use Rattle.lsp_messages.proofs.Readable.{AreMembersReadable, no_more, and_member, IsReadable-object}

abbrev pub Entry : Type 0
Entry = String Global × String Global

-- ---- an insert

by_order : (o : Ordering) (a b c : List Entry) (x y z : Members) → HoldTexts a x → HoldTexts b y → HoldTexts c z → HoldTexts (match_ordering o a b c) (match_ordering o x y z)
by_order Less a b c x y z p q r = p
by_order Equal a b c x y z p q r = q
by_order Greater a b c x y z p q r = r

pub HoldTexts-put : (es : List Entry) (ms : Members) (k v : String Global) (d : Data) → HoldTexts es ms → string_bytes v ≡ compact_text d → IsReadable d → HoldTexts (insert_entry string_cmp es k v) (put (string_bytes k) d ms)
HoldTexts-put [] no_members k v d h text readable = (refl, text, readable, tt)
HoldTexts-put [] (member l e ms) k v d h text readable = absurd h
HoldTexts-put (e ∷ es) no_members k v d h text readable = absurd h
HoldTexts-put (e ∷ es) (member l f ms) k v d h text readable =
    let later = HoldTexts-put es ms k v d h.3 text readable in
    let key : string_cmp k e.0 ≡ slice_cmp nat_cmp (string_bytes k) l = ap (λ s. slice_cmp nat_cmp (string_bytes k) s) h.0 in
    subst (λ o. HoldTexts (match_ordering (string_cmp k e.0) ((k, v) ∷ e ∷ es) ((e.0, v) ∷ es) (e ∷ insert_entry string_cmp es k v)) (match_ordering o (member (string_bytes k) d (member l f ms)) (member l d ms) (member l f (put (string_bytes k) d ms)))) key
    (by_order (string_cmp k e.0) _ _ _ _ _ _ (refl, text, readable, h) (h.0, text, readable, h.3) (h.0, h.1, h.2, later))

-- ---- the keys are in order

abbrev join : Members → Members → Members
join no_members ms = ms
join (member k d ds) ms = member k d (join ds ms)

join_none : (ds : Members) → join ds no_members ≡ ds
join_none no_members = refl
join_none (member k d ds) = ap (member k d) (join_none ds)

join_more : (ds : Members) (k : List ℕ) (d : Data) (ms : Members) → join (join ds (member k d no_members)) ms ≡ join ds (member k d ms)
join_more no_members k d ms = refl
join_more (member l e ds) k d ms = ap (member l e) (join_more ds k d ms)

below_middle : (first : Entry) (es : List Entry) (e : Entry) (more : List Entry) → AllByRecursion (λ y. string_cmp first.0 y ≡ Less) (keys_of (es ++ e ∷ more)) → string_cmp first.0 e.0 ≡ Less
below_middle first [] e more h = h.0
below_middle first (x ∷ es) e more h = below_middle first es e more h.1

put_last : (done : List Entry) (ds : Members) (e : Entry) (k : List ℕ) (d : Data) (more : List Entry) → HoldTexts done ds → string_bytes e.0 ≡ k → IsStrictlySortedBy string_cmp (keys_of (done ++ e ∷ more))
    → put k d ds ≡ join ds (member k d no_members)
unfolding IsStrictlySortedBy
put_last [] no_members e k d more h is sorted = refl
put_last [] (member l f ds) e k d more h is sorted = absurd h
put_last (first ∷ done) no_members e k d more h is sorted = absurd h
put_last (first ∷ done) (member l f ds) e k d more h is sorted =
    let above : slice_cmp nat_cmp (string_bytes e.0) (string_bytes first.0) ≡ Greater =
    nat_list_cmp_total.antisymm (string_bytes e.0) (string_bytes first.0) ∙ ap ordering_reverse (below_middle first done e more sorted.0) in
    let named : slice_cmp nat_cmp k l ≡ Greater = ap (λ s. slice_cmp nat_cmp s l) (sym is) ∙ ap (λ s. slice_cmp nat_cmp (string_bytes e.0) s) (sym h.0) ∙ above in
    rw named (ap (member l f) (put_last done ds e k d more h.3 is sorted.1))

HoldTexts-more : (done : List Entry) (ds : Members) (e : Entry) (k : List ℕ) (d : Data) → HoldTexts done ds → string_bytes e.0 ≡ k → string_bytes e.1 ≡ compact_text d → IsReadable d → HoldTexts (done ++ e ∷ []) (join ds (member k d no_members))
HoldTexts-more [] no_members e k d h is text readable = (is, text, readable, tt)
HoldTexts-more [] (member l f ds) e k d h is text readable = absurd h
HoldTexts-more (first ∷ done) no_members e k d h is text readable = absurd h
HoldTexts-more (first ∷ done) (member l f ds) e k d h is text readable = (h.0, h.1, h.2, HoldTexts-more done ds e k d h.3 is text readable)

in_order : (es done : List Entry) (ms ds : Members) → HoldTexts done ds → HoldTexts es ms → IsStrictlySortedBy string_cmp (keys_of (done ++ es)) → AreMembersReadable ds ms (join ds ms)
in_order [] done no_members ds h g sorted = subst (AreMembersReadable ds no_members) (sym (join_none ds)) (no_more ds)
in_order [] done (member k d ms) ds h g sorted = absurd g
in_order (e ∷ es) done no_members ds h g sorted = absurd g
in_order (e ∷ es) done (member k d ms) ds h g sorted =
    let after = in_order es (done ++ e ∷ []) ms (join ds (member k d no_members)) (HoldTexts-more done ds e k d h g.0 g.1 g.2) g.3 (subst (λ xs. IsStrictlySortedBy string_cmp (keys_of xs)) (sym (append_assoc done (e ∷ []) es)) sorted) in
    let placed = subst (λ found. AreMembersReadable found ms (join (join ds (member k d no_members)) ms)) (sym (put_last done ds e k d es h g.0 sorted)) after in
    and_member k d ds ms (join ds (member k d ms)) g.2 (subst (AreMembersReadable (put k d ds) ms) (join_more ds k d ms) placed)

-- the object of a map's members is readable
pub IsReadable-documents : (es : List Entry) (ms : Members) → HoldTexts es ms → IsStrictlySortedBy string_cmp (keys_of es) → IsReadable (object ms)
IsReadable-documents es ms h sorted = IsReadable-object ms (in_order es [] ms no_members tt h sorted)

-- ---- the members' text

regroup : (old c q v m : List ℕ) → ((((old ++ c) ++ q) ++ 58 ∷ []) ++ v) ++ m ≡ old ++ (c ++ (q ++ 58 ∷ (v ++ m)))
regroup old c q v m = simp append_assoc

pub members_step : (e : Entry) (left it : List Entry) (ms : Members) (later : Bool) (old t1 t2 t3 new whole : List ℕ) → it ≡ e ∷ left → HoldTexts it ms
    → t1 ≡ old ++ comma_if later → Writes (string (string_bytes e.0)) t1 t2 → t3 ≡ t2 ++ 58 ∷ [] → new ≡ t3 ++ string_bytes e.1 → old ++ members_text later ms ≡ whole
    → (rest : Members) × HoldTexts left rest × (new ++ members_text true rest ≡ whole)
members_step e left it no_members later old t1 t2 t3 new whole is h e1 named e3 e4 text = absurd (subst (λ es. HoldTexts es no_members) is h)
members_step e left it (member k d ms) later old t1 t2 t3 new whole is h e1 named e3 e4 text =
    let held = subst (λ es. HoldTexts es (member k d ms)) is h in
    let q = quoted (string_bytes e.0) in
    let to2 : t2 ≡ (old ++ comma_if later) ++ q = named.appended ∙ ap (λ s. s ++ q) e1 in
    let all = e4 ∙ ap (λ s. s ++ string_bytes e.1) (e3 ∙ ap (λ s. s ++ 58 ∷ []) to2) in (
      ms,
      held.3,
      ap (λ s. s ++ members_text true ms) all ∙ regroup old (comma_if later) q (string_bytes e.1) (members_text true ms)
          ∙ ap (λ s. old ++ (comma_if later ++ (quoted s ++ 58 ∷ (string_bytes e.1 ++ members_text true ms)))) held.0
          ∙ ap (λ s. old ++ (comma_if later ++ (quoted k ++ 58 ∷ (s ++ members_text true ms)))) held.1 ∙ text,
    )

pub members_end : (it : List Entry) (ms : Members) (later : Bool) (last new whole : List ℕ) → it ≡ [] → HoldTexts it ms → new ≡ last ++ 125 ∷ [] → last ++ members_text later ms ≡ whole → new ≡ whole
members_end it no_members later last new whole is h end text = end ∙ text
members_end it (member k d ms) later last new whole is h end text = absurd (subst (λ es. HoldTexts es (member k d ms)) is h)

pub Writes-changes : (ms : Members) (p t0 t1 t2 t3 : List ℕ) → t1 ≡ t0 ++ p → t2 ≡ t1 ++ members_text false ms → t3 ≡ t2 ++ 125 ∷ [] → IsReadable (object ms)
    → compact_text (object (member (codes "changes") (object ms) no_members)) ≡ p ++ (members_text false ms ++ 125 ∷ []) → Writes (object (member (codes "changes") (object ms) no_members)) t0 t3
Writes-changes ms p t0 t1 t2 t3 e1 e2 e3 readable same = record {
  appended = e3 ∙ ap (λ s. s ++ 125 ∷ []) (e2 ∙ ap (λ s. s ++ members_text false ms) e1) ∙ append_assoc (t0 ++ p) (members_text false ms) (125 ∷ []) ∙ append_assoc t0 p _ ∙ ap (λ s. t0 ++ s) (sym same);
  readable = IsReadable-object _ (and_member _ _ _ _ _ readable (no_more _));
}

-- ---- one more document

pub documents_step : (d : DocEdits) (left rest all : List DocEdits) (es now : List Entry) (found : Members) (uri list : String Global) (edits : List TextEdit)
    → left ≡ d ∷ rest → string_bytes uri ≡ d.uri → edits ≡ d.edits → string_bytes list ≡ compact_text (list_json text_edit_json edits) → IsReadable (list_json text_edit_json edits)
    → now ≡ insert_entry string_cmp es uri list → HoldTexts es found → with_documents found left ≡ with_documents no_members all → IsStrictlySortedBy string_cmp (keys_of now)
    → (x : Members) × HoldTexts now x × (with_documents x rest ≡ with_documents no_members all) × IsStrictlySortedBy string_cmp (keys_of now)
documents_step d left rest all es now found uri list edits here named same text readable is held whole sorted =
    let more : HoldTexts now (put (string_bytes uri) (list_json text_edit_json edits) found) = subst (λ xs. HoldTexts xs (put (string_bytes uri) (list_json text_edit_json edits) found)) (sym is) (HoldTexts-put es found uri list (list_json text_edit_json edits) held text readable) in
    let under : put (string_bytes uri) (list_json text_edit_json edits) found ≡ put d.uri (list_json text_edit_json d.edits) found = ap (λ k. put k (list_json text_edit_json edits) found) named ∙ ap (λ xs. put d.uri (list_json text_edit_json xs) found) same in
    (put d.uri (list_json text_edit_json d.edits) found, subst (HoldTexts now) under more, ap (with_documents found) (sym here) ∙ whole, sorted)
