-- What is news of texts is told in one way.
use Rattle.std.proofs.Common.{◌≡◌, ◌≢◌, ◌⊎◌, ◌↔◌, inl, inr, ℕ, ℤ, List, [], ◌∷◌, ◌++◌, map, Bool, true, false, cond, Option, Some, None, is_some, refl, sym, ap, ◌∙◌, subst, nat_cmp}
use Rattle.std.specs.Cmp.Lexicographic.{slice_cmp, nat_list_cmp_total}
use Rattle.std.specs.Ordering.{eq_by_cmp}
use Rattle.std.specs.FinMap.{entries, get, insert, empty, contains_key, find, keys, get-empty, get-entries, get-insert, same_map, slice_cmp-IsAntisymmetric, nat_cmp-IsAntisymmetric}
use Rattle.ls_base.specs.declared.encoding.Encoding.{Encoding}
use Rattle.ls_base.specs.declared.answers.Diagnostic as told
use Rattle.document_store.specs.Texts.{Texts, version_at}
use Rattle.program_answers.specs.declared.publications.Published.{Published}
use Rattle.program_answers.specs.Listings.{or_none}
use Rattle.program_answers.specs.Updates.{Lists, listed_in, IsNews, ArePublished, IsNewsOf}
use Rattle.program_answers.proofs.SameDiagnostics.{same_bytes, same_diagnostics}
use Rattle.program_answers.proofs.TextLists.{one_lists, some_lists}
use Rattle.program_answers.proofs.PublishedMaps.{All, Telling, published, unpublished, ArePublishedIn, as_map, from_map, ties_are, is_tied}

-- ---- one way

as_published : (p q : Published) → published p ≡ published q → p ≡ q
as_published p q h = λ j. unpublished (h j)

same_row : (ps qs : List Published) → map published ps ≡ map published qs → ps ≡ qs
same_row [] [] h = refl
same_row [] (q ∷ qs) h = cc
same_row (p ∷ ps) [] h = cc
same_row (p ∷ ps) (q ∷ qs) h =
    let first : published p ≡ published q = cc in
    let rest : map published ps ≡ map published qs = cc in
    λ j. as_published p q first j ∷ same_row ps qs rest j

module _ (changed : List ℕ) (texts : Texts) (before now : List ℕ → List told.Diagnostic) where
  -- maps with what is news alike are alike
  same_at : (uri : List ℕ) (m n : Option Telling) →
      ((is_some m ≡ true) ↔ IsNews changed before now uri) → ((is_some n ≡ true) ↔ IsNews changed before now uri) →
      ((t : Telling) → m ≡ Some t → t ≡ (version_at texts uri, now uri)) → ((t : Telling) → n ≡ Some t → t ≡ (version_at texts uri, now uri)) → m ≡ n
  same_at uri None None a b c d = refl
  same_at uri None (Some t) a b c d = let there : false ≡ true = a.1 (b.0 refl) in absurd cc
  same_at uri (Some t) None a b c d = let there : false ≡ true = b.1 (a.0 refl) in absurd cc
  same_at uri (Some t) (Some u) a b c d = ap Some (c t refl ∙ sym (d u refl))

  one_in : (ps qs : List Published) → ArePublishedIn changed texts before now ps → ArePublishedIn changed texts before now qs → ps ≡ qs
  one_in ps qs h k =
      let same : h.all ≡ k.all = same_map nat_list_cmp_total (slice_cmp-IsAntisymmetric nat_cmp-IsAntisymmetric) h.all k.all
      (λ uri. same_at uri (get h.all uri) (get k.all uri) (h.exactly uri) (k.exactly uri) (h.each uri) (k.each uri)) in
      same_row ps qs (h.told ∙ ap (λ (m : All). entries m) same ∙ sym k.told)

  one_published : (ps qs : List Published) → ArePublished changed texts before now ps → ArePublished changed texts before now qs → ps ≡ qs
  one_published ps qs h k = one_in ps qs (as_map changed texts before now ps h) (as_map changed texts before now qs k)

pub one_news : (e : Encoding) (before after : Texts) (changed : List ℕ) (ps qs : List Published) → IsNewsOf e before after changed ps → IsNewsOf e before after changed qs → ps ≡ qs
one_news e before after changed ps qs h k =
    let old = one_lists e before k.old h.old k.were h.were in
    let new = one_lists e after k.new h.new k.are h.are in
    let other : ArePublished changed after (listed_in h.old) (listed_in h.new) qs =
    subst (λ (l : Lists). ArePublished changed after (listed_in h.old) (listed_in l) qs) new (subst (λ (l : Lists). ArePublished changed after (listed_in l) (listed_in k.new) qs) old k.published) in
    one_published changed after (listed_in h.old) (listed_in h.new) ps qs h.published other

-- ---- some lists

-- a uri among some
abbrev IsAmong : List (List ℕ) → List ℕ → Type 0
IsAmong [] uri = ⊥
IsAmong (k ∷ ks) uri = (uri ≡ k) ⊎ IsAmong ks uri

module _ (News : List ℕ → Type 0) (telling : List ℕ → Telling) where
  -- a map of exactly the news among some uris
  record Gathers (ks : List (List ℕ)) : Type 0 where
    pub all : All
    pub exactly : (uri : List ℕ) → (contains_key all uri ≡ true) ↔ (IsAmong ks uri × News uri)
    pub each : (uri : List ℕ) (t : Telling) → get all uri ≡ Some t → t ≡ telling uri

  none_there : (uri : List ℕ) (o : Option Telling) → o ≡ None → is_some o ≡ true → ⊥
  none_there uri None h k = cc
  none_there uri (Some t) h k = cc

  gathers_none : Gathers []
  gathers_none = record {
    all = empty;
    exactly = λ uri. (λ there. absurd (none_there uri (get (empty {X = Telling} {R = slice_cmp nat_cmp}) uri) (get-empty (slice_cmp nat_cmp) uri) there), λ h. absurd h.0);
    each = λ uri t at. let is : None ≡ Some t = sym (get-empty (slice_cmp nat_cmp) uri) ∙ at in cc;
  }

  -- what stands at a uri of a map with one more entry
  with_one : (ks : List (List ℕ)) (k : List ℕ) → News k → Gathers ks → Gathers (k ∷ ks)
  with_one ks k news rest = record {
    all = insert rest.all k (telling k);
    exactly = λ uri. (
      λ there. to uri (eq_by_cmp (slice_cmp nat_cmp) uri k) refl (subst (λ (o : Option Telling). is_some o ≡ true) (at uri) there),
      λ h. subst (λ (o : Option Telling). is_some o ≡ true) (sym (at uri)) (from uri (eq_by_cmp (slice_cmp nat_cmp) uri k) refl h.0 h.1),
    );
    each = λ uri t is. tells uri (eq_by_cmp (slice_cmp nat_cmp) uri k) refl t (sym (at uri) ∙ is);
  }
    where
      at : (uri : List ℕ) → get (insert rest.all k (telling k)) uri ≡ cond (eq_by_cmp (slice_cmp nat_cmp) uri k) (Some (telling k)) (get rest.all uri)
      at uri = get-insert nat_list_cmp_total rest.all k (telling k) uri

      to : (uri : List ℕ) (b : Bool) → eq_by_cmp (slice_cmp nat_cmp) uri k ≡ b → is_some (cond b (Some (telling k)) (get rest.all uri)) ≡ true → IsAmong (k ∷ ks) uri × News uri
      to uri true tie there = let same = ties_are uri k tie in (inl same, subst News (sym same) news)
      to uri false tie there = let h = (rest.exactly uri).0 there in (inr h.0, h.1)

      from : (uri : List ℕ) (b : Bool) → eq_by_cmp (slice_cmp nat_cmp) uri k ≡ b → IsAmong (k ∷ ks) uri → News uri → is_some (cond b (Some (telling k)) (get rest.all uri)) ≡ true
      from uri true tie among is = refl
      from uri false tie (inl same) is = let both : true ≡ false = sym (is_tied uri k same) ∙ tie in absurd cc
      from uri false tie (inr among) is = (rest.exactly uri).1 (among, is)

      tells : (uri : List ℕ) (b : Bool) → eq_by_cmp (slice_cmp nat_cmp) uri k ≡ b → (t : Telling) → cond b (Some (telling k)) (get rest.all uri) ≡ Some t → t ≡ telling uri
      tells uri true tie t is = let first : telling k ≡ t = cc in sym first ∙ ap telling (sym (ties_are uri k tie))
      tells uri false tie t is = rest.each uri t is

  without_it : (ks : List (List ℕ)) (k : List ℕ) → (News k → ⊥) → Gathers ks → Gathers (k ∷ ks)
  without_it ks k old rest = record {
    all = rest.all;
    exactly = λ uri. (λ there. let h = (rest.exactly uri).0 there in (inr h.0, h.1), λ h. from uri h.0 h.1);
    each = rest.each;
  }
    where
      from : (uri : List ℕ) → IsAmong (k ∷ ks) uri → News uri → contains_key rest.all uri ≡ true
      from uri (inl same) is = absurd (old (subst News same is))
      from uri (inr among) is = (rest.exactly uri).1 (among, is)

  some_gather : ((uri : List ℕ) → News uri ⊎ (News uri → ⊥)) → (ks : List (List ℕ)) → Gathers ks
  some_gather decide [] = gathers_none
  some_gather decide (k ∷ ks) = elim (decide k) as (λ _. Gathers (k ∷ ks)) [
    | inl news ↦ with_one ks k news (some_gather decide ks)
    | inr old ↦ without_it ks k old (some_gather decide ks)
  ]

-- the lists of a document among the uris of texts
among_found : (ls : List (List ℕ × List told.Diagnostic)) (uri : List ℕ) (l : List told.Diagnostic) → find (slice_cmp nat_cmp) uri ls ≡ Some l → IsAmong (map (λ x. x.0) ls) uri
among_found [] uri l is = cc
among_found (x ∷ ls) uri l is = here (eq_by_cmp (slice_cmp nat_cmp) uri x.0) refl is (among_found ls uri l)
  where
    here : (b : Bool) → eq_by_cmp (slice_cmp nat_cmp) uri x.0 ≡ b → cond b (Some x.1) (find (slice_cmp nat_cmp) uri ls) ≡ Some l →
        (find (slice_cmp nat_cmp) uri ls ≡ Some l → IsAmong (map (λ y. y.0) ls) uri) → IsAmong (x.0 ∷ map (λ y. y.0) ls) uri
    here true tie h rest = inl (ties_are uri x.0 tie)
    here false tie h rest = inr (rest h)

among_more : (ks js : List (List ℕ)) (uri : List ℕ) → IsAmong ks uri ⊎ IsAmong js uri → IsAmong (ks ++ js) uri
among_more [] js uri (inl h) = absurd h
among_more [] js uri (inr h) = h
among_more (k ∷ ks) js uri (inl (inl same)) = inl same
among_more (k ∷ ks) js uri (inl (inr h)) = inr (among_more ks js uri (inl h))
among_more (k ∷ ks) js uri (inr h) = inr (among_more ks js uri (inr h))

-- what isn't as it was has a list before or after
listed : (before now : Lists) (uri : List ℕ) → listed_in now uri ≢ listed_in before uri → IsAmong (keys now ++ keys before) uri
listed before now uri differ = at (get now uri) (get before uri) refl refl
  where
    at : (m n : Option (List told.Diagnostic)) → get now uri ≡ m → get before uri ≡ n → IsAmong (keys now ++ keys before) uri
    at (Some l) n h k = among_more (keys now) (keys before) uri (inl (among_found (entries now) uri l (sym (get-entries now uri) ∙ h)))
    at None (Some l) h k = among_more (keys now) (keys before) uri (inr (among_found (entries before) uri l (sym (get-entries before uri) ∙ k)))
    at None None h k = absurd (differ (ap or_none h ∙ sym (ap or_none k)))

back : (ts : List (List ℕ × Telling)) → map published (map unpublished ts) ≡ ts
back [] = refl
back (t ∷ ts) = ap (λ (us : List (List ℕ × Telling)). t ∷ us) (back ts)

-- whether a list is news is decided
decide_news : (changed : List ℕ) (before now : List ℕ → List told.Diagnostic) (uri : List ℕ) → IsNews changed before now uri ⊎ (IsNews changed before now uri → ⊥)
decide_news changed before now uri = elim (same_bytes uri changed) as (λ _. IsNews changed before now uri ⊎ (IsNews changed before now uri → ⊥)) [
  | inl same ↦ inl (inl same)
  | inr another ↦ elim (same_diagnostics (now uri) (before uri)) as (λ _. IsNews changed before now uri ⊎ (IsNews changed before now uri → ⊥)) [
    | inl same ↦ inr (neither another same)
    | inr differ ↦ inl (inr differ)
  ]
]
  where
    neither : uri ≢ changed → now uri ≡ before uri → IsNews changed before now uri → ⊥
    neither another same (inl is) = another is
    neither another same (inr differ) = differ same

some_published : (changed : List ℕ) (texts : Texts) (before now : Lists) → (ps : List Published) × ArePublished changed texts (listed_in before) (listed_in now) ps
some_published changed texts before now =
    let telling : List ℕ → Telling = λ uri. (version_at texts uri, listed_in now uri) in
    let ks = changed ∷ (keys now ++ keys before) in
    let g = some_gather (IsNews changed (listed_in before) (listed_in now)) telling (decide_news changed (listed_in before) (listed_in now)) ks in (
      map unpublished (entries g.all),
      from_map changed texts (listed_in before) (listed_in now) (map unpublished (entries g.all)) (record {
        all = g.all;
        told = back (entries g.all);
        exactly = λ uri. (λ there. ((g.exactly uri).0 there).1, λ news. (g.exactly uri).1 (among uri news, news));
        each = g.each;
      }),
    )
  where
    among : (uri : List ℕ) → IsNews changed (listed_in before) (listed_in now) uri → IsAmong (changed ∷ (keys now ++ keys before)) uri
    among uri (inl same) = inl same
    among uri (inr differ) = inr (listed before now uri differ)

pub some_news : (e : Encoding) (before after : Texts) (changed : List ℕ) → (ps : List Published) × IsNewsOf e before after changed ps
some_news e before after changed =
    let old = some_lists e before in
    let new = some_lists e after in
    let found = some_published changed after old.0 new.0 in
    (found.0, record { old = old.0; new = new.0; were = old.1; are = new.1; published = found.1 })
