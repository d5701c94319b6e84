-- What is published, as a map by uri: it is so exactly where it is in order, each of it news, and all news in it.
use Rattle.std.proofs.Common.{◌≡◌, ◌≢◌, ◌↔◌, ℕ, ℤ, zero, suc, T, List, [], ◌∷◌, map, slice_get, Bool, true, false, cond, ◌&&◌, Option, Some, None, is_some, Ordering, Less, Equal, Greater, is_lt, is_eq, nat_cmp, refl, sym, ap, ◌∙◌, subst}
use Rattle.std.specs.Cmp.Lexicographic.{slice_cmp}
use Rattle.std.specs.Ordering.{eq_by_cmp}
use Rattle.std.specs.List.{AllByRecursion}
use Rattle.std.specs.List.Sorted.{IsStrictlySortedBy}
use Rattle.std.specs.FinMap.{FinMap, entries, entries_sorted, get, contains_key, find, from_sorted, entries-from_sorted, get-entries, get-from_sorted, is_sorted}
use Rattle.std.specs.FinMap.Entries.{below_all}
use Rattle.std.proofs.lemmas.Map.Text.{is_eq-slice_cmp}
use Rattle.std.proofs.lemmas.Slice.Eq.{bytes_eq-Decides}
use Rattle.ls_base.specs.declared.answers.Diagnostic as told
use Rattle.document_store.specs.Texts.{Texts, version_at}
use Rattle.program_answers.specs.declared.publications.Published.{Published}
use Rattle.program_answers.specs.Updates.{IsNews, IsPublished, ArePublished}

-- a list as it is published, with a version where its document is open
abbrev pub Telling : Type 0
Telling = Option ℤ × List told.Diagnostic

abbrev pub published : Published → List ℕ × Telling
published p = (p.uri, (p.version, p.list))

abbrev pub unpublished : List ℕ × Telling → Published
unpublished t = record { uri = t.0; version = t.1.0; list = t.1.1 }

abbrev pub All : Type 0
All = FinMap (slice_cmp nat_cmp) Telling

-- the lists are exactly those that are news, each as it is now
pub record ArePublishedIn (changed : List ℕ) (texts : Texts) (before now : List ℕ → List told.Diagnostic) (ps : List Published) : Type 0 where
  pub all : All
  pub told : map published ps ≡ entries all
  pub exactly : (uri : List ℕ) → (contains_key all uri ≡ true) ↔ IsNews changed before now uri
  pub each : (uri : List ℕ) (t : Telling) → get all uri ≡ Some t → t ≡ (version_at texts uri, now uri)

-- ---- keys

-- uris that tie are one
pub ties_are : (uri k : List ℕ) → eq_by_cmp (slice_cmp nat_cmp) uri k ≡ true → uri ≡ k
ties_are uri k tie = (bytes_eq-Decides uri k).0 (sym (is_eq-slice_cmp uri k) ∙ tie)

pub is_tied : (uri k : List ℕ) → uri ≡ k → eq_by_cmp (slice_cmp nat_cmp) uri k ≡ true
is_tied uri k same = is_eq-slice_cmp uri k ∙ (bytes_eq-Decides uri k).1 same

both : (a b : Bool) → T a → T b → T (a && b)
both true b p q = q
both false b p q = p

first : (a b : Bool) → T (a && b) → T a
first true b p = tt
first false b p = p

second : (a b : Bool) → T (a && b) → T b
second true b p = p
second false b p = absurd p

less : (r : Ordering) → T (is_lt r) → r ≡ Less
less Less p = refl
less Equal p = absurd p
less Greater p = absurd p

is_less : (r : Ordering) → r ≡ Less → T (is_lt r)
is_less r e = subst (λ (q : Ordering). T (is_lt q)) (sym e) tt

abbrev uris : List Published → List (List ℕ)
uris ps = map (λ (p : Published). p.uri) ps

-- ---- in order

above : (k : List ℕ) (ps : List Published) → AllByRecursion (λ y. slice_cmp nat_cmp k y ≡ Less) (uris ps) → T (below_all (slice_cmp nat_cmp) k (map published ps))
above k [] h = tt
above k (p ∷ ps) h = both _ _ (is_less (slice_cmp nat_cmp k p.uri) h.0) (above k ps h.1)

rise : (ps : List Published) → IsStrictlySortedBy (slice_cmp nat_cmp) (uris ps) → T (is_sorted (slice_cmp nat_cmp) (map published ps))
unfolding IsStrictlySortedBy
rise [] h = tt
rise (p ∷ ps) h = both _ _ (above p.uri ps h.0) (rise ps h.1)

above_back : (k : List ℕ) (ps : List Published) → T (below_all (slice_cmp nat_cmp) k (map published ps)) → AllByRecursion (λ y. slice_cmp nat_cmp k y ≡ Less) (uris ps)
above_back k [] h = tt
above_back k (p ∷ ps) h = (less (slice_cmp nat_cmp k p.uri) (first _ _ h), above_back k ps (second _ _ h))

rise_back : (ps : List Published) → T (is_sorted (slice_cmp nat_cmp) (map published ps)) → IsStrictlySortedBy (slice_cmp nat_cmp) (uris ps)
unfolding IsStrictlySortedBy
rise_back [] h = tt
rise_back (p ∷ ps) h = (above_back p.uri ps (first _ _ h), rise_back ps (second _ _ h))

-- ---- what stands at a uri

-- what is found at a uri stands at some place
found_at : (ps : List Published) (uri : List ℕ) (t : Telling) → find (slice_cmp nat_cmp) uri (map published ps) ≡ Some t →
    (n : ℕ) × (p : Published) × (slice_get ps n ≡ Some p) × (p.uri ≡ uri) × ((p.version, p.list) ≡ t)
found_at [] uri t is = cc
found_at (p ∷ ps) uri t is = here (eq_by_cmp (slice_cmp nat_cmp) uri p.uri) refl is (found_at ps uri t)
  where
    here : (b : Bool) → eq_by_cmp (slice_cmp nat_cmp) uri p.uri ≡ b → cond b (Some (p.version, p.list)) (find (slice_cmp nat_cmp) uri (map published ps)) ≡ Some t →
        (find (slice_cmp nat_cmp) uri (map published ps) ≡ Some t → (n : ℕ) × (q : Published) × (slice_get ps n ≡ Some q) × (q.uri ≡ uri) × ((q.version, q.list) ≡ t)) →
        (n : ℕ) × (q : Published) × (slice_get (p ∷ ps) n ≡ Some q) × (q.uri ≡ uri) × ((q.version, q.list) ≡ t)
    here true tie h rest = let same : (p.version, p.list) ≡ t = cc in (0, p, refl, sym (ties_are uri p.uri tie), same)
    here false tie h rest = let q = rest h in (suc q.0, q.1, q.2, q.3, q.4)

-- what stands at some place is found
is_found : (ps : List Published) (n : ℕ) (p : Published) (uri : List ℕ) → slice_get ps n ≡ Some p → p.uri ≡ uri → is_some (find (slice_cmp nat_cmp) uri (map published ps)) ≡ true
is_found [] n p uri at same = absurd cc
is_found (q ∷ ps) zero p uri at same =
    let one : q ≡ p = cc in
    ap (λ b. is_some (cond b (Some (q.version, q.list)) (find (slice_cmp nat_cmp) uri (map published ps)))) (is_tied uri q.uri (sym same ∙ ap (λ (x : Published). x.uri) (sym one)))
is_found (q ∷ ps) (suc n) p uri at same = go (eq_by_cmp (slice_cmp nat_cmp) uri q.uri) (is_found ps n p uri at same)
  where
    go : (b : Bool) → is_some (find (slice_cmp nat_cmp) uri (map published ps)) ≡ true → is_some (cond b (Some (q.version, q.list)) (find (slice_cmp nat_cmp) uri (map published ps))) ≡ true
    go true h = refl
    go false h = h

-- and in order it is the one that is found
below_at : (k : List ℕ) (ps : List Published) (n : ℕ) (p : Published) → T (below_all (slice_cmp nat_cmp) k (map published ps)) → slice_get ps n ≡ Some p → slice_cmp nat_cmp k p.uri ≡ Less
below_at k [] n p h at = absurd cc
below_at k (q ∷ ps) zero p h at = let one : q ≡ p = cc in ap (λ (x : Published). slice_cmp nat_cmp k x.uri) (sym one) ∙ less _ (first _ _ h)
below_at k (q ∷ ps) (suc n) p h at = below_at k ps n p (second _ _ h) at

finds_it : (ps : List Published) (n : ℕ) (p : Published) → T (is_sorted (slice_cmp nat_cmp) (map published ps)) → slice_get ps n ≡ Some p → find (slice_cmp nat_cmp) p.uri (map published ps) ≡ Some (p.version, p.list)
finds_it [] n p h at = absurd cc
finds_it (q ∷ ps) zero p h at =
    let one : q ≡ p = cc in
    ap (λ b. cond b (Some (q.version, q.list)) (find (slice_cmp nat_cmp) p.uri (map published ps))) (is_tied p.uri q.uri (ap (λ (x : Published). x.uri) (sym one)))
    ∙ ap (λ (x : Published). Some (x.version, x.list)) one
finds_it (q ∷ ps) (suc n) p h at = go (eq_by_cmp (slice_cmp nat_cmp) p.uri q.uri) refl (finds_it ps n p (second _ _ h) at)
  where
    go : (b : Bool) → eq_by_cmp (slice_cmp nat_cmp) p.uri q.uri ≡ b → find (slice_cmp nat_cmp) p.uri (map published ps) ≡ Some (p.version, p.list) →
        cond b (Some (q.version, q.list)) (find (slice_cmp nat_cmp) p.uri (map published ps)) ≡ Some (p.version, p.list)
    go true tie rest =
        let same : p.uri ≡ q.uri = ties_are p.uri q.uri tie in
        let apart : slice_cmp nat_cmp q.uri p.uri ≡ Less = below_at q.uri ps n p (first _ _ h) at in
        let tied : is_eq (slice_cmp nat_cmp q.uri p.uri) ≡ true = is_tied q.uri p.uri (sym same) in
        absurd (not_both (sym (ap is_eq apart) ∙ tied))
      where
        not_both : false ≡ true → ⊥
        not_both e = cc
    go false tie rest = rest

-- ---- both ways

module _ (changed : List ℕ) (texts : Texts) (before now : List ℕ → List told.Diagnostic) (ps : List Published) where
  pub as_map : ArePublished changed texts before now ps → ArePublishedIn changed texts before now ps
  as_map h = record {
    all = from_sorted (map published ps);
    told = sym (entries-from_sorted (slice_cmp nat_cmp) (map published ps) sorted);
    exactly = λ uri. (λ there. to uri (find (slice_cmp nat_cmp) uri (map published ps)) refl (subst (λ (o : Option Telling). is_some o ≡ true) (at uri) there), λ news. from uri (h.all uri news));
    each = λ uri t is. tells uri t (found_at ps uri t (sym (at uri) ∙ is));
  }
    where
      sorted : T (is_sorted (slice_cmp nat_cmp) (map published ps))
      sorted = rise ps h.in_order

      at : (uri : List ℕ) → get (from_sorted {R = slice_cmp nat_cmp} (map published ps)) uri ≡ find (slice_cmp nat_cmp) uri (map published ps)
      at uri = get-from_sorted (slice_cmp nat_cmp) (map published ps) uri sorted

      to : (uri : List ℕ) (o : Option Telling) → find (slice_cmp nat_cmp) uri (map published ps) ≡ o → is_some o ≡ true → IsNews changed before now uri
      to uri None is there = absurd cc
      to uri (Some t) is there = let q = found_at ps uri t is in subst (IsNews changed before now) q.3 (h.each q.0 q.1 q.2).news

      from : (uri : List ℕ) → (n : ℕ) × (p : Published) × (slice_get ps n ≡ Some p) × (p.uri ≡ uri) → is_some (get (from_sorted {R = slice_cmp nat_cmp} (map published ps)) uri) ≡ true
      from uri q = ap is_some (at uri) ∙ is_found ps q.0 q.1 uri q.2 q.3

      tells : (uri : List ℕ) (t : Telling) → (n : ℕ) × (p : Published) × (slice_get ps n ≡ Some p) × (p.uri ≡ uri) × ((p.version, p.list) ≡ t) → t ≡ (version_at texts uri, now uri)
      tells uri t q = let e = h.each q.0 q.1 q.2 in sym q.4 ∙ (λ j. (e.version_is j, e.list_is j)) ∙ ap (λ u. (version_at texts u, now u)) q.3

  pub from_map : ArePublishedIn changed texts before now ps → ArePublished changed texts before now ps
  from_map h = record {
    in_order = rise_back ps sorted;
    each = λ n p there. one n p there;
    all = λ uri news. stands uri (get h.all uri) refl ((h.exactly uri).1 news);
  }
    where
      sorted : T (is_sorted (slice_cmp nat_cmp) (map published ps))
      sorted = subst (λ (es : List (List ℕ × Telling)). T (is_sorted (slice_cmp nat_cmp) es)) (sym h.told) (entries_sorted h.all)

      at : (uri : List ℕ) → get h.all uri ≡ find (slice_cmp nat_cmp) uri (map published ps)
      at uri = get-entries h.all uri ∙ ap (find (slice_cmp nat_cmp) uri) (sym h.told)

      one : (n : ℕ) (p : Published) → slice_get ps n ≡ Some p → IsPublished changed texts before now p
      one n p there =
          let found : get h.all p.uri ≡ Some (p.version, p.list) = at p.uri ∙ finds_it ps n p sorted there in
          let telling = h.each p.uri (p.version, p.list) found in
          record {
            news = (h.exactly p.uri).0 (ap is_some found);
            version_is = ap (λ (t : Telling). t.0) telling;
            list_is = ap (λ (t : Telling). t.1) telling;
          }

      stands : (uri : List ℕ) (o : Option Telling) → get h.all uri ≡ o → is_some o ≡ true → (n : ℕ) × (p : Published) × (slice_get ps n ≡ Some p) × (p.uri ≡ uri)
      stands uri None is there = absurd cc
      stands uri (Some t) is there = let q = found_at ps uri t (sym (at uri) ∙ is) in (q.0, q.1, q.2, q.3)
