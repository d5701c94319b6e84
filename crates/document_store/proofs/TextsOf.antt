-- The finite map that the entries of a store make.
use Rattle.std.proofs.Common.{◌≡◌, ◌≤◌, ℕ, arith, Bor, slice_get, List, [], ◌∷◌, map, length, Option, Some, None, is_some, cond, Bool, true, false, refl, sym, ap, ◌∙◌, String, Global}
use Rattle.std.specs.Option.{option_map}
use Rattle.std.proofs.lemmas.Option.{slice_get-map}
use Rattle.ls_base.specs.Limits.{max_documents}
use Rattle.std.specs.String.{string_bytes, string_cmp}
use Rattle.std.specs.Ordering.{nat_cmp, is_eq, eq_by_cmp}
use Rattle.std.specs.Cmp.Lexicographic.{slice_cmp, nat_list_cmp_total}
use Rattle.std.specs.Cmp.{eq_by_cmp_equiv}
use Rattle.std.specs.Map.{lookup, keys_of}
use Rattle.std.specs.List.Sorted.{IsStrictlySortedBy}
use Rattle.std.specs.FinMap.Entries.{by_order}
use Rattle.std.proofs.lemmas.List.{length-map, nil_from_length}
use Rattle.std.specs.BTreeMap.{BTreeMap, is_at, get_by_text, UpdatesBy, IsOrdered}
use Rattle.std.specs.BTreeMap as tree
use Rattle.std.specs.FinMap.{get, insert, remove, len, keys, entries, find, put, entries-insert, len-entries, len-empty, get-from_entries, get-insert, get-remove, same_map, slice_cmp-IsAntisymmetric, nat_cmp-IsAntisymmetric}
use Rattle.std.proofs.lemmas.Map.Text.{is_eq-slice_cmp, btree_map_updates_text}
use Rattle.std.specs.Str.{bytes_eq}
use Rattle.document_store.specs.declared.kept.Kept.{Kept}
use Rattle.document_store.specs.Texts.{Texts, Document, is_open}
use Rattle.document_store.specs.Docs.{document, texts_of}

abbrev entry_of : String Global × Kept → List ℕ × Document
entry_of e = (string_bytes e.0, document e.1)

keys_of_entries : (es : List (String Global × Kept)) → map (λ e. e.0) (map entry_of es) ≡ map string_bytes (keys_of es)
keys_of_entries [] = refl
keys_of_entries (e ∷ es) = ap (λ ks. string_bytes e.0 ∷ ks) (keys_of_entries es)

mapped : {X Y : Type 0} (f : X → Y) (b : Bool) (o p : Option X) → option_map f (cond b o p) ≡ cond b (option_map f o) (option_map f p)
mapped f true o p = refl
mapped f false o p = refl

mapped_some : {X Y : Type 0} (f : X → Y) (o : Option X) → is_some (option_map f o) ≡ is_some o
mapped_some f None = refl
mapped_some f (Some x) = refl

twice : {X Y Z : Type 0} (f : Y → Z) (g : X → Y) (o : Option X) → option_map f (option_map g o) ≡ option_map (λ x. f (g x)) o
twice f g None = refl
twice f g (Some x) = refl

find_texts : (es : List (String Global × Kept)) (q : List ℕ) → find (slice_cmp nat_cmp) q (map (λ e. (string_bytes e.0, document e.1)) es) ≡ option_map document (lookup (is_at (λ k. slice_cmp nat_cmp q (string_bytes k))) es)
find_texts [] q = refl
find_texts (e ∷ es) q =
    ap (cond (is_eq (slice_cmp nat_cmp q (string_bytes e.0))) (Some (document e.1))) (find_texts es q)
    ∙ sym (mapped document (is_eq (slice_cmp nat_cmp q (string_bytes e.0))) (Some e.1) (lookup (is_at (λ k. slice_cmp nat_cmp q (string_bytes k))) es))

-- what the map has at a uri
pub get_texts : (m : BTreeMap (String Global) Kept) (q : List ℕ) → get (texts_of m.entries) q ≡ option_map document (get_by_text m q)
get_texts m q = get-from_entries nat_list_cmp_total (map (λ e. (string_bytes e.0, document e.1)) m.entries) q ∙ find_texts m.entries q

-- so of the texts that a store is seen as
pub get_seen : (m : BTreeMap (String Global) Kept) (texts : Texts) (q : List ℕ) (kept : Option Kept) → texts_of m.entries ≡ texts → kept ≡ get_by_text m q → get texts q ≡ option_map document kept
get_seen m texts q kept seen found = ap (λ (t : Texts). get t q) (sym seen) ∙ get_texts m q ∙ ap (option_map document) (sym found)

pub open_texts : (m : BTreeMap (String Global) Kept) (q : List ℕ) → is_open (texts_of m.entries) q ≡ is_some (get_by_text m q)
open_texts m q = ap is_some (get_texts m q) ∙ mapped_some document (get_by_text m q)

module _ (m n : BTreeMap (String Global) Kept) (bs : List ℕ) (w : Option Kept) (u : UpdatesBy string_cmp (λ k. slice_cmp nat_cmp bs (string_bytes k)) m n w) where
  tied : (q : List ℕ) → bytes_eq bs q ≡ eq_by_cmp (slice_cmp nat_cmp) q bs
  tied q = sym (is_eq-slice_cmp bs q) ∙ (eq_by_cmp_equiv nat_list_cmp_total).symm bs q

  get_updated : (q : List ℕ) → get (texts_of n.entries) q ≡ cond (eq_by_cmp (slice_cmp nat_cmp) q bs) (option_map document w) (get (texts_of m.entries) q)
  get_updated q =
      get_texts n q ∙ ap (option_map document) (btree_map_updates_text bs m n w u q)
      ∙ mapped document (bytes_eq bs q) w (get_by_text m q)
      ∙ ap (λ b. cond b (option_map document w) (option_map document (get_by_text m q))) (tied q)
      ∙ ap (cond (eq_by_cmp (slice_cmp nat_cmp) q bs) (option_map document w)) (sym (get_texts m q))

  -- a document that is put
  pub texts_put : (d : Kept) → w ≡ Some d → texts_of n.entries ≡ insert (texts_of m.entries) bs (document d)
  texts_put d is = same_map nat_list_cmp_total (slice_cmp-IsAntisymmetric nat_cmp-IsAntisymmetric) _ _ (λ q.
      get_updated q ∙ ap (λ o. cond (eq_by_cmp (slice_cmp nat_cmp) q bs) (option_map document o) (get (texts_of m.entries) q)) is
      ∙ sym (get-insert nat_list_cmp_total (texts_of m.entries) bs (document d) q))

  -- and one that is taken out
  pub texts_removed : w ≡ None → texts_of n.entries ≡ remove (texts_of m.entries) bs
  texts_removed is = same_map nat_list_cmp_total (slice_cmp-IsAntisymmetric nat_cmp-IsAntisymmetric) _ _ (λ q.
      get_updated q ∙ ap (λ o. cond (eq_by_cmp (slice_cmp nat_cmp) q bs) (option_map document o) (get (texts_of m.entries) q)) is
      ∙ sym (get-remove nat_list_cmp_total (texts_of m.entries) bs q))

-- the entries of a map with ordered keys are kept as they stand
first_put : (e : String Global × Kept) (es : List (String Global × Kept)) → IsStrictlySortedBy string_cmp (keys_of (e ∷ es)) → put (slice_cmp nat_cmp) (string_bytes e.0) (document e.1) (map entry_of es) ≡ entry_of e ∷ map entry_of es
unfolding IsStrictlySortedBy
first_put e [] h = refl
first_put e (f ∷ fs) h = ap (λ o. by_order o (entry_of e ∷ entry_of f ∷ map entry_of fs) ((string_bytes f.0, document e.1) ∷ map entry_of fs) (entry_of f ∷ put (slice_cmp nat_cmp) (string_bytes e.0) (document e.1) (map entry_of fs))) h.0.0

others_sorted : (e : String Global × Kept) (es : List (String Global × Kept)) → IsStrictlySortedBy string_cmp (keys_of (e ∷ es)) → IsStrictlySortedBy string_cmp (keys_of es)
unfolding IsStrictlySortedBy
others_sorted e es h = h.1

entries_texts : (es : List (String Global × Kept)) → IsStrictlySortedBy string_cmp (keys_of es) → entries (texts_of es) ≡ map entry_of es
entries_texts [] h = nil_from_length (entries (texts_of [])) (sym (len-entries (texts_of [])) ∙ len-empty (slice_cmp nat_cmp) Document)
entries_texts (e ∷ es) h =
    entries-insert nat_list_cmp_total (texts_of es) (string_bytes e.0) (document e.1)
    ∙ ap (put (slice_cmp nat_cmp) (string_bytes e.0) (document e.1)) (entries_texts es (others_sorted e es h))
    ∙ first_put e es h

-- so its uris are those of the entries, in order
pub keys_texts : (m : BTreeMap (String Global) Kept) → IsOrdered string_cmp m → keys (texts_of m.entries) ≡ map string_bytes (tree.keys m)
keys_texts m h = ap (map (λ e. e.0)) (entries_texts m.entries h) ∙ keys_of_entries m.entries

pub len_texts : (m : BTreeMap (String Global) Kept) → IsOrdered string_cmp m → len (texts_of m.entries) ≡ length m.entries
len_texts m h = len-entries (texts_of m.entries) ∙ ap length (entries_texts m.entries h) ∙ length-map m.entries entry_of

-- the nth uri, by the nth key
pub nth_seen : (m : BTreeMap (String Global) Kept) (texts : Texts) (n : ℕ) (key : Option (Bor (String Global))) → texts_of m.entries ≡ texts → IsOrdered string_cmp m → option_map (λ k. k.now) key ≡ slice_get (tree.keys m) n → slice_get (keys texts) n ≡ option_map (λ k. string_bytes k.now) key
nth_seen m texts n key seen h e =
    ap (λ (t : Texts). slice_get (keys t) n) (sym seen) ∙ ap (λ ks. slice_get ks n) (keys_texts m h)
    ∙ slice_get-map string_bytes (tree.keys m) n ∙ ap (option_map string_bytes) (sym e) ∙ twice string_bytes (λ k. k.now) key

pub few_seen : (m : BTreeMap (String Global) Kept) (texts : Texts) → texts_of m.entries ≡ texts → IsOrdered string_cmp m → length m.entries ≤ max_documents → len texts ≤ max_documents
few_seen m texts seen h few = omega (arith, ap (λ (t : Texts). len t) seen, len_texts m h)
