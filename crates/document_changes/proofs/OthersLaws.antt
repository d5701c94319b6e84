-- Documents other than the one of an event stay, and so do their lists.
use Rattle.std.proofs.Common.{◌≡◌, ◌≢◌, ℕ, ℤ, List, [], ◌∷◌, map, Bool, true, false, cond, not, ◌||◌, Option, Some, None, is_some, Result, Ok, Err, BTreeMap, String, string_bytes, nat_cmp, is_eq, refl, sym, ap, ◌∙◌}
use Rattle.std.specs.List.{list_any}
use Rattle.std.specs.Map.{lookup}
use Rattle.std.specs.BTreeMap.{is_at}
use Rattle.std.specs.Ordering.{eq_by_cmp}
use Rattle.std.specs.Cmp.Lexicographic.{slice_cmp, nat_list_cmp_total, texts_ties}
use Rattle.std.specs.FinMap.{get, insert, remove, contains_key-keys, get-insert, get-remove}
use Rattle.std.proofs.lemmas.Slice.Eq.{bytes_eq-Decides}
use Rattle.std.specs.Str.{bytes_eq}
use Rattle.ls_base.specs.declared.encoding.Encoding.{Encoding}
use Rattle.ls_base.specs.declared.answers.Change.{Change}
use Rattle.ls_base.specs.declared.answers.Diagnostic as told
use Rattle.document_store.specs.Texts as store
use Rattle.document_store.specs.Texts.{Document, Texts, has_room, is_open, is_long, text_at, after, changed, changed_to, edits}
use Rattle.document_changes.specs.declared.events.DocEvent as events
use Rattle.document_changes.specs.declared.events.DocEvent.TheVariants as event
use Rattle.document_changes.specs.Events.{event_of, uri_of}
use Rattle.program_answers.specs.Listings.{or_none}
use Rattle.program_answers.specs.Updates.{entries_shown, list_at, AreKeyed, OthersStay}

-- ---- what an event leaves at other uris

module _ (uri bs : List ℕ) (other : uri ≢ bs) where
  apart : eq_by_cmp (slice_cmp nat_cmp) uri bs ≡ false
  apart = sym (texts_ties uri bs) ∙ go (bytes_eq uri bs) refl
    where
      go : (b : Bool) → bytes_eq uri bs ≡ b → b ≡ false
      go true e = absurd (other ((bytes_eq-Decides uri bs).0 e))
      go false e = refl

  put_other : (texts : Texts) (d : Document) → get (insert texts bs d) uri ≡ get texts uri
  put_other texts d = get-insert nat_list_cmp_total texts bs d uri ∙ ap (λ b. cond b (Some d) (get texts uri)) apart

  taken_other : (texts : Texts) → get (remove texts bs) uri ≡ get texts uri
  taken_other texts = get-remove nat_list_cmp_total texts bs uri ∙ ap (λ b. cond b None (get texts uri)) apart

  edits_other : (texts : Texts) (v : ℤ) (r : Result (List ℕ) store.Refusal) → get (changed_to texts bs v r).0 uri ≡ get texts uri
  edits_other texts v (Ok t) = put_other texts (v, t)
  edits_other texts v (Err store.NotOpen) = refl
  edits_other texts v (Err store.BadRange) = refl
  edits_other texts v (Err store.TooLong) = taken_other texts
  edits_other texts v (Err store.TooMany) = refl

  change_other : (e : Encoding) (texts : Texts) (v : ℤ) (cs : List Change) (o : Option (List ℕ)) → get (changed e texts bs v cs o).0 uri ≡ get texts uri
  change_other e texts v cs None = refl
  change_other e texts v cs (Some t) = edits_other texts v (edits e cs t)

  added_other : (texts : Texts) (v : ℤ) (t : List ℕ) (b c : Bool) →
      get (cond {A = Texts × Option store.Refusal} b (texts, Some store.TooMany) (cond {A = Texts × Option store.Refusal} c (texts, Some store.TooLong) (insert texts bs (v, t), None))).0 uri ≡ get texts uri
  added_other texts v t true c = refl
  added_other texts v t false true = refl
  added_other texts v t false false = put_other texts (v, t)

  closed_other : (texts : Texts) (b : Bool) → get (cond {A = Texts × Option store.Refusal} b (remove texts bs, None) (texts, Some store.NotOpen)).0 uri ≡ get texts uri
  closed_other texts true = taken_other texts
  closed_other texts false = refl

after_other : (e : Encoding) (texts : Texts) (ev : events.DocEvent) (uri : List ℕ) → uri ≢ uri_of ev → get (after e texts (event_of ev)).0 uri ≡ get texts uri
after_other e texts (event.Added bs v t) uri other = added_other uri bs other texts v t (not (has_room texts bs)) (is_long t)
after_other e texts (event.Changed bs v cs) uri other = change_other uri bs other e texts v cs (text_at texts bs)
after_other e texts (event.Closed bs) uri other = closed_other uri bs other texts (is_open texts bs)

-- ---- what isn't open has no list

module _ {Y : Type 0} (uri : List ℕ) where
  no_entry : (es : List (String Y × List told.Diagnostic)) → list_any (eq_by_cmp (slice_cmp nat_cmp) uri) (map (λ e. string_bytes e.0) es) ≡ false →
      lookup (is_at (λ (k : String Y). slice_cmp nat_cmp uri (string_bytes k))) es ≡ None
  no_entry [] h = refl
  no_entry (e ∷ es) h = go (is_eq (slice_cmp nat_cmp uri (string_bytes e.0))) h (no_entry es)
    where
      go : (b : Bool) → (b || list_any (eq_by_cmp (slice_cmp nat_cmp) uri) (map (λ x. string_bytes x.0) es)) ≡ false →
          (list_any (eq_by_cmp (slice_cmp nat_cmp) uri) (map (λ x. string_bytes x.0) es) ≡ false → lookup (is_at (λ (k : String Y). slice_cmp nat_cmp uri (string_bytes k))) es ≡ None) →
          cond b (Some e.1) (lookup (is_at (λ (k : String Y). slice_cmp nat_cmp uri (string_bytes k))) es) ≡ None
      go true k rest = absurd cc
      go false k rest = rest k

  shown_keys : (es : List (String Y × List told.Diagnostic)) → map (λ (l : List ℕ × List told.Diagnostic). l.0) (map (λ e. (string_bytes e.0, e.1)) es) ≡ map (λ e. string_bytes e.0) es
  shown_keys [] = refl
  shown_keys (e ∷ es) = ap (λ ks. string_bytes e.0 ∷ ks) (shown_keys es)

  none_listed : (texts : Texts) (m : BTreeMap (String Y) (List told.Diagnostic)) → AreKeyed texts (entries_shown m) → is_open texts uri ≡ false → list_at m uri ≡ []
  none_listed texts m keyed closed =
      ap or_none (no_entry m.entries (ap (list_any (eq_by_cmp (slice_cmp nat_cmp) uri)) (sym (shown_keys m.entries) ∙ keyed) ∙ sym (contains_key-keys texts uri) ∙ closed))

-- what isn't open, and isn't the event's document, had no list and has none
pub others_stay : {Y : Type 0} (e : Encoding) (texts : Texts) (ev : events.DocEvent) (before now : BTreeMap (String Y) (List told.Diagnostic)) → AreKeyed texts (entries_shown before) →
    AreKeyed (after e texts (event_of ev)).0 (entries_shown now) → OthersStay (uri_of ev) (after e texts (event_of ev)).0 (list_at before) (list_at now)
others_stay e texts ev before now b n = λ uri closed other.
    none_listed uri (after e texts (event_of ev)).0 now n closed ∙ sym (none_listed uri texts before b (ap is_some (sym (after_other e texts ev uri other)) ∙ closed))
