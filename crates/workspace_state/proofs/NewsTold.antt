-- Lists as the code keeps them, by uri: those of the texts, and what is news of them.
use Rattle.std.proofs.Common.{◌≡◌, ℕ, suc, T, List, [], ◌∷◌, map, cond, Option, Some, BTreeMap, String, string_bytes, nat_cmp, is_eq, refl, sym, ap, ◌∙◌, subst}
use Rattle.std.specs.Cmp.Lexicographic.{slice_cmp}
use Rattle.std.specs.Map.{lookup}
use Rattle.std.specs.BTreeMap.{is_at}
use Rattle.std.specs.FinMap.{entries, entries_sorted, find, from_sorted, entries-from_sorted, get-from_sorted, is_sorted}
use Rattle.ls_base.specs.declared.encoding.Encoding.{Encoding}
use Rattle.ls_base.specs.declared.answers.Diagnostic as told
use Rattle.document_store.specs.Texts.{Document, Texts}
use Rattle.program_answers.specs.declared.publications.Published.{Published}
use Rattle.program_answers.specs.Listings.{or_none}
use Rattle.read_documents.specs.Readings.{Read, AreReadAs}
use Rattle.workspace_state.specs.State.{AreListsFor}
use Rattle.program_answers.specs.Updates.{entries_shown, list_at, listed_in, Lists, AreListsOfTexts, ArePublished, IsNewsOf, AreKeyed}
use Rattle.program_answers.proofs.TextLists.{some_row, lists_rise, rows_from}

module _ {Y : Type 0} where
  abbrev pub shown_map : BTreeMap (String Y) (List told.Diagnostic) → Lists
  shown_map m = from_sorted (entries_shown m)

  found_in : (uri : List ℕ) (es : List (String Y × List told.Diagnostic)) → find (slice_cmp nat_cmp) uri (map (λ e. (string_bytes e.0, e.1)) es) ≡ lookup (is_at (λ (k : String Y). slice_cmp nat_cmp uri (string_bytes k))) es
  found_in uri [] = refl
  found_in uri (e ∷ es) = ap (λ (o : Option (List told.Diagnostic)). cond (is_eq (slice_cmp nat_cmp uri (string_bytes e.0))) (Some e.1) o) (found_in uri es)

  module _ (e : Encoding) (texts : Texts) (m : BTreeMap (String Y) (List told.Diagnostic)) (are : AreListsFor e texts (entries_shown m)) where
    rising : T (is_sorted (slice_cmp nat_cmp) (entries_shown m))
    rising =
        let row = some_row (entries texts) in
        subst (λ (es : List (List ℕ × List told.Diagnostic)). T (is_sorted (slice_cmp nat_cmp) es)) (sym (are row.0 row.1)) (lists_rise e row.0 0 (entries texts) row.0 (entries_sorted texts))

    pub lists_of_texts : AreListsOfTexts e texts (shown_map m)
    lists_of_texts = let row = some_row (entries texts) in (row.0, row.1, entries-from_sorted (slice_cmp nat_cmp) (entries_shown m) rising ∙ are row.0 row.1)

    pub listed_alike : (uri : List ℕ) → list_at m uri ≡ listed_in (shown_map m) uri
    listed_alike uri = ap or_none (sym (found_in uri m.entries) ∙ sym (get-from_sorted (slice_cmp nat_cmp) (entries_shown m) uri rising))

    pub are_keyed : AreKeyed texts (entries_shown m)
    are_keyed = let row = some_row (entries texts) in ap (map (λ l. l.0)) (are row.0 row.1) ∙ keyed (entries texts) row.0 row.0 0 row.1
      where
        keyed : (ds : List (List ℕ × Document)) (all rs : List Read) (place : ℕ) → AreReadAs ds rs → map (λ (l : List ℕ × List told.Diagnostic). l.0) (rows_from e all place ds rs) ≡ map (λ (d : List ℕ × Document). d.0) ds
        keyed [] all [] place h = refl
        keyed [] all (r ∷ rs) place h = absurd h
        keyed (d ∷ ds) all [] place h = absurd h
        keyed (d ∷ ds) all (r ∷ rs) place h = ap (λ ks. d.0 ∷ ks) (keyed ds all rs (suc place) h.1)

  pub are_news : (e : Encoding) (before after : Texts) (changed : List ℕ) (old new : BTreeMap (String Y) (List told.Diagnostic)) → AreListsFor e before (entries_shown old) → AreListsFor e after (entries_shown new) →
      (ps : List Published) → ArePublished changed after (list_at old) (list_at new) ps → IsNewsOf e before after changed ps
  are_news e before after changed old new was is ps published = record {
    old = shown_map old;
    new = shown_map new;
    were = lists_of_texts e before old was;
    are = lists_of_texts e after new is;
    published = subst (λ (f : List ℕ → List told.Diagnostic). ArePublished changed after f (listed_in (shown_map new)) ps) (λ j. λ uri. listed_alike e before old was uri j)
        (subst (λ (f : List ℕ → List told.Diagnostic). ArePublished changed after (list_at old) f ps) (λ j. λ uri. listed_alike e after new is uri j) published);
  }
