-- A text alone, opened where no document was open.
use Rattle.std.proofs.Common.{◌≡◌, ◌≢◌, ◌≤◌, ◌+◌, inl, inr, ℕ, pos, List, [], ◌∷◌, length, map, append-nil, Bool, true, false, cond, ◌||◌, nat_lt, Option, Some, None, is_some, is_eq, true≢false, Less, refl, sym, ap, ◌∙◌, subst, arith, nat_cmp}
use Rattle.std.specs.Cmp.Lexicographic.{slice_cmp, nat_list_cmp_total}
use Rattle.std.specs.FinMap.{empty, entries, find, insert, len, put, entries-insert, get-entries, len-empty, len-entries}
use Rattle.std.specs.List.{slice_get}
use Rattle.std.specs.List.Sorted.{IsStrictlySortedBy}
use Rattle.std.specs.Option.{option_map}
use Rattle.std.specs.Str.{IsUtf8}
use Rattle.std.specs.Ordering.{eq_by_cmp}
use Rattle.std.proofs.lemmas.Bool.Decides.{nat_tests}
use Rattle.ls_base.specs.Limits.{max_documents, max_text}
use Rattle.ls_base.specs.declared.answers.Answer.{Answer}
use Rattle.ls_base.specs.declared.answers.Answer.TheVariants as answers
use Rattle.ls_base.specs.declared.answers.Arrow as drawn
use Rattle.ls_base.specs.declared.answers.Diagnostic as told
use Rattle.ls_base.specs.declared.encoding.Encoding.{Encoding}
use Rattle.ls_base.specs.declared.encoding.Encoding.TheVariants.{Utf16}
use Rattle.ls_base.specs.declared.places.Pos.{Pos}
use Rattle.scheme_model.specs.Session.{Arrows}
use Rattle.document_store.specs.Texts.{Added, Document, Refusal, Texts, after, has_room, is_long, is_open}
use Rattle.document_changes.specs.Events.{leaves}
use Rattle.read_documents.specs.Listed.{found_of, lists_of, of_stop, told_in}
use Rattle.program_answers.specs.Listings.{or_none}
use Rattle.read_documents.specs.Readings.{Read, Reads, Stops, AreReadAs, first_unread, uses_in}
use Rattle.workspace_state.specs.State as workspace
use Rattle.program_answers.specs.ToldAnswers.{answer_of}
use Rattle.program_answers.specs.Updates.{AreListsOfTexts, ArePublished, IsNewsOf, IsPublished, Lists, Publishes, listed_in}
use Rattle.program_answers.specs.declared.publications.Published.{Published}
use Rattle.program_answers.proofs.PublishedMaps.{is_tied, ties_are}
use Rattle.program_answers.proofs.TextLists.{one_row, some_row}
use Rattle.text_arrows.specs.Alone.{ArePublishedAlone, HoldsAlone, IsDrawn}
use Rattle.command_lines.specs.Diagnostics.{diagnostic_line, diagnostic_lines}
use Rattle.text_arrows.specs.Printed.{AreLines, IsReadAlone, IsStopLine, alone, arrows_alone, input_name, lines_of, published_lines}

-- ---- the texts

no_items : (ds : List (List ℕ × Document)) → length ds ≡ 0 → ds ≡ []
no_items [] h = refl
no_items (d ∷ ds) h = cc

no_entries : (t : Texts) → t ≡ empty → entries t ≡ []
no_entries t none = no_items (entries t) (sym (len-entries t) ∙ ap (λ (u : Texts). len u) none ∙ len-empty (slice_cmp nat_cmp) Document)

or_right : (b c : Bool) → c ≡ true → (b || c) ≡ true
or_right true c h = refl
or_right false c h = h

room_alone : (t : Texts) → t ≡ empty → has_room t input_name ≡ true
room_alone t none =
    or_right (is_open t input_name) (nat_lt (len t) max_documents)
    (ap (λ (u : Texts). nat_lt (len u) max_documents) none ∙ ap (λ (n : ℕ). nat_lt n max_documents) (len-empty (slice_cmp nat_cmp) Document))

not_long : (text : List ℕ) → length text ≤ max_text → is_long text ≡ false
not_long text short = grind (arith, nat_tests)

added_alone : (e : Encoding) (t : Texts) (text : List ℕ) → t ≡ empty → length text ≤ max_text → after e t (Added input_name (pos 0) text) ≡ (insert t input_name (pos 0, text), None)
added_alone e t text none short = rw (room_alone t none, not_long text short) refl

entries_alone : (t : Texts) (text : List ℕ) → t ≡ empty → entries (insert t input_name (pos 0, text)) ≡ alone text
entries_alone t text none =
    entries-insert nat_list_cmp_total t input_name (pos 0, text) ∙ ap (λ (ds : List (List ℕ × Document)). put (slice_cmp nat_cmp) input_name (pos 0, text) ds) (no_entries t none)

-- ---- the lists

abbrev Rows : Type 0
Rows = List (List ℕ × List told.Diagnostic)

abbrev diagnostics_alone : List ℕ → Read → List told.Diagnostic
diagnostics_alone text r = map (told_in Utf16 text) (found_of (r ∷ []) 0 r)

abbrev rows_of : List Read → List (List ℕ × Document) → Rows
rows_of rs ds = map (λ l. (l.uri, l.list)) (lists_of Utf16 ds rs)

none_were : (t : Texts) (old : Lists) → t ≡ empty → AreListsOfTexts Utf16 t old → entries old ≡ []
none_were t old none h = h.2 ∙ ap (rows_of h.0) (no_entries t none)

one_is : (t : Texts) (new : Lists) (text : List ℕ) (r : Read) → entries t ≡ alone text → IsReadAlone text r → AreListsOfTexts Utf16 t new → entries new ≡ (input_name, diagnostics_alone text r) ∷ []
one_is t new text r is read h =
    let rows = one_row (alone text) h.0 (r ∷ []) (subst (λ (ds : List (List ℕ × Document)). AreReadAs ds h.0) is h.1) (read.0, tt, read.1) in
    h.2 ∙ ap (rows_of h.0) is ∙ ap (λ (rs : List Read). rows_of rs (alone text)) rows

listed_by : (lists : Lists) (rows : Rows) (uri : List ℕ) → entries lists ≡ rows → listed_in lists uri ≡ or_none (find (slice_cmp nat_cmp) uri rows)
listed_by lists rows uri is = ap or_none (get-entries lists uri ∙ ap (λ (es : Rows). find (slice_cmp nat_cmp) uri es) is)

-- ---- what is published

none_at : (n : ℕ) (p : Published) → slice_get [] n ≡ Some p → ⊥
none_at n p h = cc

not_less : (uri other : List ℕ) → uri ≡ other → slice_cmp nat_cmp uri other ≡ Less → ⊥
not_less uri other same less = true≢false (sym (is_tied uri other same) ∙ ap is_eq less)

first_less : (uri other : List ℕ) (uris : List (List ℕ)) → IsStrictlySortedBy (slice_cmp nat_cmp) (uri ∷ other ∷ uris) → slice_cmp nat_cmp uri other ≡ Less
unfolding IsStrictlySortedBy
first_less uri other uris h = h.0.0

module _ (texts : Texts) (before now : List ℕ → List told.Diagnostic) (others : (uri : List ℕ) → now uri ≢ before uri → uri ≡ input_name) where
  at_input : (p : Published) → IsPublished input_name texts before now p → p.uri ≡ input_name
  at_input p h = elim h.news [ inl same ↦ same | inr differs ↦ others p.uri differs ]

  one_published : (ps : List Published) → ArePublished input_name texts before now ps → (p : Published) × (ps ≡ p ∷ []) × (p.uri ≡ input_name) × (p.list ≡ now input_name)
  one_published [] h = let there = h.all input_name (inl refl) in absurd (none_at there.0 there.1 there.2)
  one_published (p ∷ []) h =
      let is = h.each 0 p refl in
      let same = at_input p is in
      (p, refl, same, is.list_is ∙ ap now same)
  one_published (p ∷ q ∷ ps) h =
      absurd (not_less p.uri q.uri (at_input p (h.each 0 p refl) ∙ sym (at_input q (h.each 1 q refl))) (first_less p.uri q.uri (map (λ x. x.uri) ps) h.in_order))

-- what isn't at the uri is as it was
differs_at : (uri : List ℕ) (l : List told.Diagnostic) (b : Bool) → eq_by_cmp (slice_cmp nat_cmp) uri input_name ≡ b → or_none (cond b (Some l) None) ≢ [] → uri ≡ input_name
differs_at uri l true tie differs = ties_are uri input_name tie
differs_at uri l false tie differs = absurd (differs refl)

published_alone : (t u : Texts) (text : List ℕ) (r : Read) (ps : List Published) → t ≡ empty → entries u ≡ alone text → IsReadAlone text r → IsNewsOf Utf16 t u input_name ps → ArePublishedAlone text r ps
published_alone t u text r ps none is read news =
    let was : (uri : List ℕ) → listed_in news.old uri ≡ [] = λ uri. listed_by news.old [] uri (none_were t news.old none news.were) in
    let now : (uri : List ℕ) → listed_in news.new uri ≡ or_none (cond (eq_by_cmp (slice_cmp nat_cmp) uri input_name) (Some (diagnostics_alone text r)) None) =
    λ uri. listed_by news.new ((input_name, diagnostics_alone text r) ∷ []) uri (one_is u news.new text r is read news.are) in
    let others : (uri : List ℕ) → listed_in news.new uri ≢ listed_in news.old uri → uri ≡ input_name =
    λ uri differs. differs_at uri (diagnostics_alone text r) (eq_by_cmp (slice_cmp nat_cmp) uri input_name) refl (λ same. differs (now uri ∙ same ∙ sym (was uri))) in
    let found = one_published u (listed_in news.old) (listed_in news.new) others ps news.published in
    (found.0, found.1, found.2, found.3 ∙ now input_name)

-- what holds once the text is opened
holds : (w old : workspace.State) (text : List ℕ) (lists : List Published) → IsUtf8 text → old.texts ≡ empty → length text ≤ max_text → w.encoding ≡ Utf16 → w.texts ≡ (after Utf16 old.texts (Added input_name (pos 0) text)).0 →
    Publishes (leaves (Added input_name (pos 0) text) (after Utf16 old.texts (Added input_name (pos 0) text)).1) Utf16 old.texts w.texts input_name lists → HoldsAlone text w lists
holds w old text lists utf8 none short encoding texts published =
    let added = added_alone Utf16 old.texts text none short in
    let is : entries w.texts ≡ alone text = ap (λ (t : Texts). entries t) (texts ∙ ap (λ (r : Texts × Option Refusal). r.0) added) ∙ entries_alone old.texts text none in
    let news : IsNewsOf Utf16 old.texts w.texts input_name lists =
    subst (λ (r : Texts × Option Refusal). Publishes (leaves (Added input_name (pos 0) text) r.1) Utf16 old.texts w.texts input_name lists) added published in
    record { utf8 = utf8; encoding_is = encoding; documents = is; published = λ r read. published_alone old.texts w.texts text r lists none is read news }

-- the texts and the lists after an event, by its uri, its text and the encoding
abbrev Opens : workspace.State → workspace.State → List Published → (uri text : List ℕ) → Encoding → Type 0
Opens w old lists uri text e =
    (w.texts ≡ (after e old.texts (Added uri (pos 0) text)).0)
    × Publishes (leaves (Added uri (pos 0) text) (after e old.texts (Added uri (pos 0) text)).1) e old.texts w.texts uri lists

pub holds_alone : (w old : workspace.State) (uri text copy : List ℕ) (lists : List Published) → IsUtf8 text → old.texts ≡ empty → old.encoding ≡ Utf16 → length text ≤ max_text → uri ≡ input_name → copy ≡ text →
    w.encoding ≡ old.encoding → w.texts ≡ (after old.encoding old.texts (Added uri (pos 0) copy)).0 →
    Publishes (leaves (Added uri (pos 0) copy) (after old.encoding old.texts (Added uri (pos 0) copy)).1) old.encoding old.texts w.texts uri lists → HoldsAlone text w lists
holds_alone w old uri text copy lists utf8 none utf16 short at same encoding texts published =
    let there : Opens w old lists uri copy old.encoding = (texts, published) in
    let named = subst (λ (u : List ℕ). Opens w old lists u copy old.encoding) at there in
    let with_text = subst (λ (t : List ℕ). Opens w old lists input_name t old.encoding) same named in
    let opens = subst (λ (e : Encoding). Opens w old lists input_name text e) utf16 with_text in
    holds w old text lists utf8 none short (encoding ∙ utf16) opens.0 opens.1

-- the macro uses that are counted once the text is opened
pub counted_alone : (w old : workspace.State) (uri text copy : List ℕ) (before now : ℕ) → old.texts ≡ empty → old.encoding ≡ Utf16 → length text ≤ max_text → uri ≡ input_name → copy ≡ text → entries w.texts ≡ alone text →
    (leaves (Added uri (pos 0) copy) (after old.encoding old.texts (Added uri (pos 0) copy)).1 ≡ false → (rs : List Read) → AreReadAs (entries w.texts) rs → now ≡ before + uses_in rs) →
    (r : Read) → IsReadAlone text r → now ≡ before + uses_in (r ∷ [])
counted_alone w old uri text copy before now none utf16 short at same documents counts r read =
    let stays : leaves (Added uri (pos 0) copy) (after old.encoding old.texts (Added uri (pos 0) copy)).1 ≡ false =
    (λ j. leaves (Added (at j) (pos 0) (same j)) (after (utf16 j) old.texts (Added (at j) (pos 0) (same j))).1)
    ∙ ap (λ (a : Texts × Option Refusal). leaves (Added input_name (pos 0) text) a.1) (added_alone Utf16 old.texts text none short) in
    counts stays (r ∷ []) (subst (λ (ds : List (List ℕ × Document)). AreReadAs ds (r ∷ [])) (sym documents) (read.0, tt, read.1))

-- ---- what is told

picked : (text : List ℕ) (rs : List Read) → AreReadAs (alone text) rs → (r : Read) × IsReadAlone text r
picked text [] h = absurd h
picked text (r ∷ rs) h = (r, (h.0, h.2))

pub read_alone : (text : List ℕ) → (r : Read) × IsReadAlone text r
read_alone text = let row = some_row (alone text) in picked text row.0 row.1

is_some_map : {X Y : Type 0} (f : X → Y) (o : Option X) → is_some (option_map f o) ≡ is_some o
is_some_map f None = refl
is_some_map f (Some x) = refl

-- one Error that is published
one_line : (p : Published) (lists : List Published) (d : told.Diagnostic) → lists ≡ p ∷ [] → p.uri ≡ input_name → p.list ≡ d ∷ [] → published_lines lists ≡ diagnostic_line input_name d
one_line p lists d one uri list =
    ap published_lines one ∙ append-nil (diagnostic_lines p.uri p.list) ∙ (λ j. diagnostic_lines (uri j) (list j)) ∙ append-nil (diagnostic_line input_name d)

drawn_alone : (text : List ℕ) (r : Read) (at : Pos) → answer_of Utf16 (alone text) (r ∷ []) input_name at Arrows ≡ answers.Arrows (arrows_alone text r)
drawn_alone text r at = refl

module _ (text : List ℕ) (w : workspace.State) (lists : List Published) (holds : HoldsAlone text w lists) where
  row : (r : Read) → IsReadAlone text r → AreReadAs (entries w.texts) (r ∷ [])
  row r read = subst (λ (ds : List (List ℕ × Document)). AreReadAs ds (r ∷ [])) (sym holds.documents) (read.0, tt, read.1)

  answers_so : (answer : Answer) (at : Pos) → ((rs : List Read) → AreReadAs (entries w.texts) rs → answer ≡ answer_of w.encoding (entries w.texts) rs input_name at Arrows) →
      (r : Read) → IsReadAlone text r → answer ≡ answers.Arrows (arrows_alone text r)
  answers_so answer at is r read =
      is (r ∷ []) (row r read) ∙ (λ j. answer_of (holds.encoding_is j) (holds.documents j) (r ∷ []) input_name at Arrows) ∙ drawn_alone text r at

  pub is_drawn : (answer : Answer) (at : Pos) → ((rs : List Read) → AreReadAs (entries w.texts) rs → answer ≡ answer_of w.encoding (entries w.texts) rs input_name at Arrows) → IsDrawn answer
  is_drawn answer at is = let read = read_alone text in (arrows_alone text read.0, answers_so answer at is read.0 read.1)

  module _ {X : Type 0} (f : X → List ℕ) (found : Option X) (unread : (rs : List Read) → AreReadAs (entries w.texts) rs → option_map f found ≡ first_unread (entries w.texts) rs) where
    unread_by : (r : Read) → IsReadAlone text r → is_some (first_unread (alone text) (r ∷ [])) ≡ is_some found
    unread_by r read =
        sym (ap is_some (unread (r ∷ []) (row r read) ∙ ap (λ (ds : List (List ℕ × Document)). first_unread ds (r ∷ [])) holds.documents)) ∙ is_some_map f found

    stop_at : (output : List ℕ) → output ≡ published_lines lists → is_some found ≡ true → (r : Read) → IsReadAlone text r → IsStopLine text output
    stop_at output is there (Reads uri ds spans) read = absurd (true≢false (sym there ∙ sym (unread_by (Reads uri ds spans) read)))
    stop_at output is there (Stops uri stop) read =
        let p = holds.published (Stops uri stop) read in
        record { utf8 = holds.utf8; stop = stop; stops = (read.0, refl); line = is ∙ one_line p.0 lists (told_in Utf16 text (of_stop 0 stop)) p.1 p.2 p.3 }

    pub is_stop_line : (output : List ℕ) → output ≡ published_lines lists → is_some found ≡ true → IsStopLine text output
    is_stop_line output is there = let read = read_alone text in stop_at output is there read.0 read.1

    lines_at : (answer : Answer) (at : Pos) → ((rs : List Read) → AreReadAs (entries w.texts) rs → answer ≡ answer_of w.encoding (entries w.texts) rs input_name at Arrows) →
        (output : List ℕ) → ((arrows : List drawn.Arrow) → answer ≡ answers.Arrows arrows → output ≡ lines_of arrows) → is_some found ≡ false → (r : Read) → IsReadAlone text r → AreLines text output
    lines_at answer at is output lined none (Reads uri ds spans) read =
        record {
          utf8 = holds.utf8;
          items = ds;
          spans = spans;
          reads = (read.0, refl);
          lines = lined (arrows_alone text (Reads uri ds spans)) (answers_so answer at is (Reads uri ds spans) read) ∙ ap (λ (u : List ℕ). lines_of (arrows_alone text (Reads u ds spans))) read.1;
        }
    lines_at answer at is output lined none (Stops uri stop) read = absurd (true≢false (unread_by (Stops uri stop) read ∙ none))

    pub are_lines : (answer : Answer) (at : Pos) → ((rs : List Read) → AreReadAs (entries w.texts) rs → answer ≡ answer_of w.encoding (entries w.texts) rs input_name at Arrows) →
        (output : List ℕ) → ((arrows : List drawn.Arrow) → answer ≡ answers.Arrows arrows → output ≡ lines_of arrows) → is_some found ≡ false → AreLines text output
    are_lines answer at is output lined none = let read = read_alone text in lines_at answer at is output lined none read.0 read.1
