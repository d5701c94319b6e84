-- What is published, one document after another.
use Rattle.std.proofs.Common.{◌≡◌, ◌≢◌, ◌⊎◌, inl, inr, ℕ, ℤ, zero, suc, T, List, [], ◌∷◌, ◌++◌, map, slice_get, Bool, true, false, cond, ◌&&◌, Option, Some, None, is_some, BTreeMap, String, string_bytes, string_cmp, bytes_eq, Ordering, Less, Equal, Greater, is_lt, is_eq, nat_cmp, refl, sym, ap, ◌∙◌, subst}
use Rattle.std.specs.Option.{option_map}
use Rattle.std.specs.Cmp.Lexicographic.{slice_cmp, texts_ties}
use Rattle.std.specs.String.{string_cmp_total}
use Rattle.std.specs.Map.{update, lookup}
use Rattle.std.specs.BTreeMap.{get_by_text, IsOrdered, is_at}
use Rattle.std.specs.List.{AllByRecursion}
use Rattle.std.specs.List.Sorted.{IsStrictlySortedBy}
use Rattle.std.specs.FinMap.{entries, entries_sorted, is_sorted, find, get, get-entries}
use Rattle.std.specs.FinMap.Entries.{below_all}
use Rattle.std.proofs.lemmas.Map.Entries.{btree_map_get_place, place_from_lookup}
use Rattle.std.proofs.lemmas.Option.{slice_get-map}
use Rattle.std.proofs.lemmas.Slice.Eq.{bytes_eq-Decides}
use Rattle.ls_base.specs.declared.answers.Diagnostic as told
use Rattle.document_store.specs.Texts.{Document, Texts, is_open, version_at}
use Rattle.read_documents.specs.declared.documents.Document as code
use Rattle.program_answers.specs.declared.publications.Published.{Published}
use Rattle.read_documents.specs.Readings.{AreDocuments}
use Rattle.program_answers.specs.Updates.{IsNews, OthersStay, IsPublished, ArePublished}

-- ---- the versions of documents

abbrev either : {A : Type 0} → Option A → Option A → Option A
either None o = o
either (Some x) o = Some x

abbrev pub version_among : List code.Document → List ℕ → Option ℤ
version_among [] uri = None
version_among (c ∷ cs) uri = either (version_among cs uri) (cond (bytes_eq c.uri uri) (Some c.version) None)

pub version_push : (cs : List code.Document) (c : code.Document) (uri : List ℕ) → version_among (cs ++ c ∷ []) uri ≡ cond (bytes_eq c.uri uri) (Some c.version) (version_among cs uri)
version_push [] c uri = refl
version_push (b ∷ cs) c uri = ap (λ o. either o (cond (bytes_eq b.uri uri) (Some b.version) None)) (version_push cs c uri) ∙ go (bytes_eq c.uri uri)
  where
    go : (t : Bool) → either (cond t (Some c.version) (version_among cs uri)) (cond (bytes_eq b.uri uri) (Some b.version) None) ≡ cond t (Some c.version) (either (version_among cs uri) (cond (bytes_eq b.uri uri) (Some b.version) None))
    go true = refl
    go false = refl

first : (a b : Bool) → T (a && b) → T a
first true b p = tt
first false b p = p

second : (a b : Bool) → T (a && b) → T b
second true b p = p
second false b p = absurd p

less : (r : Ordering) → T (is_lt r) → r ≡ Less
less Less p = refl
less Equal p = absurd p
less Greater p = absurd p

none_above : (uri : List ℕ) (ds : List (List ℕ × Document)) → T (below_all (slice_cmp nat_cmp) uri ds) → find (slice_cmp nat_cmp) uri ds ≡ None
none_above uri [] h = refl
none_above uri (d ∷ ds) h = ap (λ r. cond (is_eq r) (Some d.1) (find (slice_cmp nat_cmp) uri ds)) (less _ (first _ _ h)) ∙ none_above uri ds (second _ _ h)

versions_from : (ds : List (List ℕ × Document)) (cs : List code.Document) (uri : List ℕ) → AreDocuments ds cs → T (is_sorted (slice_cmp nat_cmp) ds) → version_among cs uri ≡ option_map (λ (d : Document). d.0) (find (slice_cmp nat_cmp) uri ds)
versions_from [] [] uri are h = refl
versions_from [] (c ∷ cs) uri are h = absurd are
versions_from (d ∷ ds) [] uri are h = absurd are
versions_from (d ∷ ds) (c ∷ cs) uri are h = ap (λ o. either o (cond (bytes_eq c.uri uri) (Some c.version) None)) (versions_from ds cs uri are.1 (second _ _ h)) ∙ go (bytes_eq c.uri uri) refl
  where
    rest : Option Document
    rest = find (slice_cmp nat_cmp) uri ds

    ties : is_eq (slice_cmp nat_cmp uri d.0) ≡ bytes_eq uri d.0
    ties = sym (texts_ties uri d.0)

    go : (t : Bool) → bytes_eq c.uri uri ≡ t → either (option_map (λ (x : Document). x.0) rest) (cond t (Some c.version) None) ≡ option_map (λ (x : Document). x.0) (cond (is_eq (slice_cmp nat_cmp uri d.0)) (Some d.1) rest)
    go true e =
        let same : uri ≡ d.0 = sym ((bytes_eq-Decides c.uri uri).0 e) ∙ are.0.uri in
        let gone : rest ≡ None = none_above uri ds (subst (λ (u : List ℕ). T (below_all (slice_cmp nat_cmp) u ds)) (sym same) (first _ _ h)) in
        let here : is_eq (slice_cmp nat_cmp uri d.0) ≡ true = ties ∙ (bytes_eq-Decides uri d.0).1 same in
        ap (λ o. either (option_map (λ (x : Document). x.0) o) (Some c.version)) gone ∙ ap Some are.0.version ∙ ap (λ b. option_map (λ (x : Document). x.0) (cond b (Some d.1) rest)) (sym here)
    go false e =
        let apart : is_eq (slice_cmp nat_cmp uri d.0) ≡ false = ties ∙ other (bytes_eq uri d.0) refl e in
        padded (option_map (λ (x : Document). x.0) rest) ∙ ap (λ b. option_map (λ (x : Document). x.0) (cond b (Some d.1) rest)) (sym apart)
      where
        padded : (o : Option ℤ) → either o None ≡ o
        padded None = refl
        padded (Some x) = refl

        other : (b : Bool) → bytes_eq uri d.0 ≡ b → bytes_eq c.uri uri ≡ false → b ≡ false
        other true k n = let back = (bytes_eq-Decides c.uri uri).1 (are.0.uri ∙ sym ((bytes_eq-Decides uri d.0).0 k)) in cc
        other false k n = refl

pub versions_are : (texts : Texts) (cs : List code.Document) → AreDocuments (entries texts) cs → (uri : List ℕ) → version_among cs uri ≡ version_at texts uri
versions_are texts cs are uri = versions_from (entries texts) cs uri are (entries_sorted texts) ∙ ap (option_map (λ (d : Document). d.0)) (sym (get-entries texts uri))

-- ---- so far

abbrev Lists : Type 0 → Type 0
Lists Y = BTreeMap (String Y) Published

abbrev uris : List Published → List (List ℕ)
uris ps = map (λ (p : Published). p.uri) ps

module _ {Y : Type 0} (changed : List ℕ) (before now : List ℕ → List told.Diagnostic) where
  pub record SoFar (versions : List ℕ → Option ℤ) (m : Lists Y) : Type 0 where
    pub there : (uri : List ℕ) (p : Published) → get_by_text m uri ≡ Some p → (p.uri ≡ uri) × (p.version ≡ versions uri) × (p.list ≡ now uri) × IsNews changed before now uri
    pub all : (uri : List ℕ) → (uri ≡ changed) ⊎ ((is_some (versions uri) ≡ true) × (now uri ≢ before uri)) → is_some (get_by_text m uri) ≡ true

  pub so_far_one : (m n : Lists Y) (p : Published) → m.entries ≡ [] → ((uri : List ℕ) → get_by_text n uri ≡ update bytes_eq (get_by_text m) changed (Some p) uri) → p.uri ≡ changed → p.version ≡ None → p.list ≡ now changed → SoFar (λ uri. None) n
  so_far_one m n p none put u v l = record {
    there = λ uri q at. go uri q (bytes_eq changed uri) refl at;
    all = λ uri h. yes uri h;
  }
    where
      empty : (uri : List ℕ) → get_by_text m uri ≡ None
      empty uri = ap (lookup (is_at (λ (k : String Y). slice_cmp nat_cmp uri (string_bytes k)))) none

      go : (uri : List ℕ) (q : Published) (b : Bool) → bytes_eq changed uri ≡ b → get_by_text n uri ≡ Some q → (q.uri ≡ uri) × (q.version ≡ None) × (q.list ≡ now uri) × IsNews changed before now uri
      go uri q true e at =
          let same : changed ≡ uri = (bytes_eq-Decides changed uri).0 e in
          let one : Some p ≡ Some q = ap (λ b. cond b (Some p) (get_by_text m uri)) (sym e) ∙ sym (put uri) ∙ at in
          let is : p ≡ q = cc in
          (ap (λ (x : Published). x.uri) (sym is) ∙ u ∙ same, ap (λ (x : Published). x.version) (sym is) ∙ v, ap (λ (x : Published). x.list) (sym is) ∙ l ∙ ap now same, inl (sym same))
      go uri q false e at =
          let gone : None ≡ Some q = sym (empty uri) ∙ ap (λ b. cond b (Some p) (get_by_text m uri)) (sym e) ∙ sym (put uri) ∙ at in
          absurd cc

      yes : (uri : List ℕ) → (uri ≡ changed) ⊎ ((false ≡ true) × (now uri ≢ before uri)) → is_some (get_by_text n uri) ≡ true
      yes uri (inl e) = ap is_some (put uri ∙ ap (λ b. cond b (Some p) (get_by_text m uri)) ((bytes_eq-Decides changed uri).1 (sym e)))
      yes uri (inr h) = absurd cc

  module _ (versions later : List ℕ → Option ℤ) (m : Lists Y) (so : SoFar versions m) (bs : List ℕ) (v : ℤ) (one_later : (uri : List ℕ) → later uri ≡ cond (bytes_eq bs uri) (Some v) (versions uri)) where
    -- a document whose list is published
    pub so_far_put : (n : Lists Y) (p : Published) → ((uri : List ℕ) → get_by_text n uri ≡ update bytes_eq (get_by_text m) bs (Some p) uri) → p.uri ≡ bs → p.version ≡ Some v → p.list ≡ now bs → IsNews changed before now bs → SoFar later n
    so_far_put n p put u w l news = record {
      there = λ uri q at. go uri q (bytes_eq bs uri) refl at;
      all = λ uri h. yes uri (bytes_eq bs uri) refl h;
    }
      where
        go : (uri : List ℕ) (q : Published) (b : Bool) → bytes_eq bs uri ≡ b → get_by_text n uri ≡ Some q → (q.uri ≡ uri) × (q.version ≡ later uri) × (q.list ≡ now uri) × IsNews changed before now uri
        go uri q true e at =
            let same : bs ≡ uri = (bytes_eq-Decides bs uri).0 e in
            let one : Some p ≡ Some q = ap (λ b. cond b (Some p) (get_by_text m uri)) (sym e) ∙ sym (put uri) ∙ at in
            let is : p ≡ q = cc in
            let has : later uri ≡ Some v = one_later uri ∙ ap (λ b. cond b (Some v) (versions uri)) e in
            (ap (λ (x : Published). x.uri) (sym is) ∙ u ∙ same, ap (λ (x : Published). x.version) (sym is) ∙ w ∙ sym has, ap (λ (x : Published). x.list) (sym is) ∙ l ∙ ap now same, subst (IsNews changed before now) same news)
        go uri q false e at =
            let old : get_by_text m uri ≡ Some q = ap (λ b. cond b (Some p) (get_by_text m uri)) (sym e) ∙ sym (put uri) ∙ at in
            let has : versions uri ≡ later uri = ap (λ b. cond b (Some v) (versions uri)) (sym e) ∙ sym (one_later uri) in
            let k = so.there uri q old in
            (k.0, k.1 ∙ has, k.2, k.3)

        yes : (uri : List ℕ) (b : Bool) → bytes_eq bs uri ≡ b → (uri ≡ changed) ⊎ ((is_some (later uri) ≡ true) × (now uri ≢ before uri)) → is_some (get_by_text n uri) ≡ true
        yes uri true e h = ap is_some (put uri ∙ ap (λ b. cond b (Some p) (get_by_text m uri)) e)
        yes uri false e (inl h) = ap is_some (put uri ∙ ap (λ b. cond b (Some p) (get_by_text m uri)) e) ∙ so.all uri (inl h)
        yes uri false e (inr h) =
            let has : later uri ≡ versions uri = one_later uri ∙ ap (λ b. cond b (Some v) (versions uri)) e in
            ap is_some (put uri ∙ ap (λ b. cond b (Some p) (get_by_text m uri)) e) ∙ so.all uri (inr (ap is_some (sym has) ∙ h.0, h.1))

    -- one that isn't the event's, with the list as it was
    pub so_far_skip : bs ≢ changed → now bs ≡ before bs → SoFar later m
    so_far_skip other stays = record {
      there = λ uri q at. go uri q (bytes_eq bs uri) refl (so.there uri q at);
      all = λ uri h. yes uri (bytes_eq bs uri) refl h;
    }
      where
        not_news : (uri : List ℕ) → bs ≡ uri → IsNews changed before now uri → ⊥
        not_news uri same (inl e) = other (same ∙ e)
        not_news uri same (inr e) = e (sym (ap now same) ∙ stays ∙ ap before same)

        go : (uri : List ℕ) (q : Published) (b : Bool) → bytes_eq bs uri ≡ b → (q.uri ≡ uri) × (q.version ≡ versions uri) × (q.list ≡ now uri) × IsNews changed before now uri →
            (q.uri ≡ uri) × (q.version ≡ later uri) × (q.list ≡ now uri) × IsNews changed before now uri
        go uri q true e k = absurd (not_news uri ((bytes_eq-Decides bs uri).0 e) k.3)
        go uri q false e k = (k.0, k.1 ∙ ap (λ b. cond b (Some v) (versions uri)) (sym e) ∙ sym (one_later uri), k.2, k.3)

        yes : (uri : List ℕ) (b : Bool) → bytes_eq bs uri ≡ b → (uri ≡ changed) ⊎ ((is_some (later uri) ≡ true) × (now uri ≢ before uri)) → is_some (get_by_text m uri) ≡ true
        yes uri b e (inl h) = so.all uri (inl h)
        yes uri true e (inr h) = absurd (not_news uri ((bytes_eq-Decides bs uri).0 e) (inr h.1))
        yes uri false e (inr h) = so.all uri (inr (ap is_some (sym (one_later uri ∙ ap (λ b. cond b (Some v) (versions uri)) e)) ∙ h.0, h.1))

  -- ---- at the end

  abbrev values : List (String Y × Published) → List Published
  values es = map (λ e. e.1) es

  sorted_bytes : (ks : List (String Y)) → IsStrictlySortedBy string_cmp ks → IsStrictlySortedBy (slice_cmp nat_cmp) (map string_bytes ks)
  unfolding IsStrictlySortedBy
  sorted_bytes [] h = tt
  sorted_bytes (k ∷ ks) h = (above ks h.0, sorted_bytes ks h.1)
    where
      above : (ls : List (String Y)) → AllByRecursion (λ y. string_cmp k y ≡ Less) ls → AllByRecursion (λ y. slice_cmp nat_cmp (string_bytes k) y ≡ Less) (map string_bytes ls)
      above [] g = tt
      above (l ∷ ls) g = (g.0, above ls g.1)

  same_uris : (es : List (String Y × Published)) → ((n : ℕ) (k : String Y) (p : Published) → slice_get es n ≡ Some (k, p) → p.uri ≡ string_bytes k) → map string_bytes (map (λ e. e.0) es) ≡ uris (values es)
  same_uris [] h = refl
  same_uris (e ∷ es) h = λ i. sym (h 0 e.0 e.1 refl) i ∷ same_uris es (λ n k p at. h (suc n) k p at) i

  module _ (texts : Texts) (versions : List ℕ → Option ℤ) (told_so : (uri : List ℕ) → versions uri ≡ version_at texts uri) (m : Lists Y) (so : SoFar versions m) (ordered : IsOrdered string_cmp m) where
    entry_at : (n : ℕ) (k : String Y) (p : Published) → slice_get m.entries n ≡ Some (k, p) → get_by_text m (string_bytes k) ≡ Some p
    entry_at n k p at = btree_map_get_place string_cmp_total m n k p ordered at

    entry_of : (es : List (String Y × Published)) (n : ℕ) (p : Published) → slice_get (values es) n ≡ Some p → (k : String Y) × (slice_get es n ≡ Some (k, p))
    entry_of [] n p at = absurd cc
    entry_of (e ∷ es) zero p at = let same : e.1 ≡ p = cc in (e.0, ap (λ q. Some (e.0, q)) same)
    entry_of (e ∷ es) (suc n) p at = entry_of es n p at

    each_is : (n : ℕ) (p : Published) → slice_get (values m.entries) n ≡ Some p → IsPublished changed texts before now p
    each_is n p at =
        let e = entry_of m.entries n p at in
        let f = so.there (string_bytes e.0) p (entry_at n e.0 p e.1) in
        record {
          news = subst (IsNews changed before now) (sym f.0) f.3;
          version_is = f.1 ∙ told_so (string_bytes e.0) ∙ ap (version_at texts) (sym f.0);
          list_is = f.2 ∙ ap now (sym f.0);
        }

    some_at : (uri : List ℕ) (o : Option Published) → get_by_text m uri ≡ o → is_some o ≡ true → (n : ℕ) × (p : Published) × (slice_get (values m.entries) n ≡ Some p) × (p.uri ≡ uri)
    some_at uri None at e = absurd cc
    some_at uri (Some p) at e =
        let q = place_from_lookup _ m.entries p at in
        (q.0, p, slice_get-map (λ (x : String Y × Published). x.1) m.entries q.0 ∙ ap (option_map (λ (x : String Y × Published). x.1)) q.2, (so.there uri p at).0)

    pub published_all : OthersStay changed texts before now → (ps : List Published) → ps ≡ values m.entries → ArePublished changed texts before now ps
    published_all stay ps is = subst (λ (xs : List Published). ArePublished changed texts before now xs) (sym is) (record {
      in_order = subst (IsStrictlySortedBy (slice_cmp nat_cmp)) (same_uris m.entries (λ n k p at. (so.there (string_bytes k) p (entry_at n k p at)).0)) (sorted_bytes (map (λ e. e.0) m.entries) ordered);
      each = each_is;
      all = λ uri news. some_at uri (get_by_text m uri) refl (so.all uri (reason uri news (is_open texts uri) refl (bytes_eq uri changed) refl));
    })
      where
        reason : (uri : List ℕ) → IsNews changed before now uri → (b : Bool) → is_open texts uri ≡ b → (t : Bool) → bytes_eq uri changed ≡ t → (uri ≡ changed) ⊎ ((is_some (versions uri) ≡ true) × (now uri ≢ before uri))
        reason uri (inl e) b o t s = inl e
        reason uri (inr e) true o t s = inr (ap is_some (told_so uri) ∙ opened (get texts uri) ∙ o, e)
          where
            opened : (d : Option Document) → is_some (option_map (λ (x : Document). x.0) d) ≡ is_some d
            opened None = refl
            opened (Some d) = refl
        reason uri (inr e) false o true s = inl ((bytes_eq-Decides uri changed).0 s)
        reason uri (inr e) false o false s = absurd (e (stay uri o (λ same. absurd (false_true ((bytes_eq-Decides uri changed).1 same) s))))
          where
            false_true : {b : Bool} → b ≡ true → b ≡ false → ⊥
            false_true p q = cc
