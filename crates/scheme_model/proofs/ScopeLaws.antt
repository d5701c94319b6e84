-- Names by scopes are names by substitution.
use Rattle.std.proofs.Common.{◌≡◌, Bool, true, false, cond, [], ◌∷◌, Some, None, refl, sym, ap, ◌∙◌, subst}
use Rattle.scheme_model.specs.Identifiers.{Name, Written as WrittenName, Var, same_name, strip}
use Rattle.scheme_model.specs.Ident.{Ident, Written, Inserted, same_ident, erase, symbol_of}
use Rattle.scheme_model.specs.Trees.{Tree, name, atom, list, vector, Trees, no_trees, tree, Tail, proper, dotted, map_tree, map_trees, map_tail}
use Rattle.scheme_model.specs.Meaning.{Free}
use Rattle.scheme_model.specs.Substitution.{Table, Entries, defines, global_or, meaning, shallow}
use Rattle.scheme_model.specs.Scopes.{Bound, Chain, Uses, under, outside, image, substituted, AreOutside, found, own_of, local_or, beyond, means}
use Rattle.scheme_model.proofs.MeaningLaws.{imported_is, own_name}
use Rattle.scheme_model.proofs.IdentLaws.{ident_told, ident_itself, name_told, name_itself, bool_same, strip_erased, same_turned}

-- ---- what an identifier came from

erase_under : (c : Chain) (n : Name) (i : Ident) → erase n ≡ i → erase (under c n i) ≡ i
erase_under [] n i h = h
erase_under (b ∷ bs) n i h = go (same_ident b.ident i) (erase_under bs n i h)
  where
    go : (t : Bool) → erase (under bs n i) ≡ i → erase (cond t (Var b.binder (under bs n i)) (under bs n i)) ≡ i
    go true e = e
    go false e = e

erase_outside : (uses : Uses) (i : Ident) → erase (outside uses i) ≡ i
erase_outside uses (Written u s) = refl
erase_outside uses (Inserted i k) = ap (λ (j : Ident). Inserted j k) (erase_under (uses k) (outside uses i) i (erase_outside uses i))

pub erase_image : (uses : Uses) (c : Chain) (i : Ident) → erase (image uses c i) ≡ i
erase_image uses c i = erase_under c (outside uses i) i (erase_outside uses i)

pub strip_image : (uses : Uses) (c : Chain) (i : Ident) → strip (image uses c i) ≡ symbol_of i
strip_image uses c i = sym (strip_erased (image uses c i)) ∙ ap symbol_of (erase_image uses c i)

pub same_image : (uses : Uses) (c : Chain) (i j : Ident) → same_name (image uses c i) (image uses c j) ≡ same_ident i j
same_image uses c i j =
    bool_same (same_name (image uses c i) (image uses c j)) (same_ident i j)
    (λ h. let same : i ≡ j = sym (erase_image uses c i) ∙ ap erase (name_told (image uses c i) (image uses c j) h) ∙ erase_image uses c j in
    subst (λ (x : Ident). same_ident i x ≡ true) same (ident_itself i))
    (λ h. subst (λ (x : Ident). same_name (image uses c i) (image uses c x) ≡ true) (ident_told i j h) (name_itself (image uses c i)))

-- ---- one binder more

pub image_bound : (uses : Uses) (b : Bound) (bs : Chain) (i : Ident) → shallow (image uses bs b.ident) b.binder (image uses bs i) ≡ image uses (b ∷ bs) i
image_bound uses b bs i =
    ap (λ (t : Bool). cond t (Var b.binder (image uses bs b.ident)) (image uses bs i)) (same_image uses bs i b.ident ∙ same_turned i b.ident)
    ∙ go (same_ident b.ident i) refl
  where
    go : (t : Bool) → same_ident b.ident i ≡ t → cond t (Var b.binder (image uses bs b.ident)) (image uses bs i) ≡ cond t (Var b.binder (image uses bs i)) (image uses bs i)
    go true h = ap (λ (x : Ident). Var b.binder (image uses bs x)) (ident_told b.ident i h)
    go false h = refl

-- ---- trees

mutual
  pub map_map : {A B C : Type 0} (f : B → C) (g : A → B) (t : Tree A) → map_tree f (map_tree g t) ≡ map_tree (λ a. f (g a)) t
  map_map f g (name i o) = refl
  map_map f g (atom a o) = refl
  map_map f g (list ts tail o) =
      let parts = map_map_all f g ts in
      let end = map_map_tail f g tail in
      λ j. list (parts j) (end j) o
  map_map f g (vector ts o) = ap (λ us. vector us o) (map_map_all f g ts)

  pub map_map_all : {A B C : Type 0} (f : B → C) (g : A → B) (ts : Trees A) → map_trees f (map_trees g ts) ≡ map_trees (λ a. f (g a)) ts
  map_map_all f g no_trees = refl
  map_map_all f g (tree t ts) =
      let first = map_map f g t in
      let rest = map_map_all f g ts in
      λ j. tree (first j) (rest j)

  pub map_map_tail : {A B C : Type 0} (f : B → C) (g : A → B) (tail : Tail A) → map_tail f (map_tail g tail) ≡ map_tail (λ a. f (g a)) tail
  map_map_tail f g proper = refl
  map_map_tail f g (dotted t) = ap dotted (map_map f g t)

mutual
  pub map_itself : {A : Type 0} (t : Tree A) → map_tree (λ a. a) t ≡ t
  map_itself (name i o) = refl
  map_itself (atom a o) = refl
  map_itself (list ts tail o) =
      let parts = map_itself_all ts in
      let end = map_itself_tail tail in
      λ j. list (parts j) (end j) o
  map_itself (vector ts o) = ap (λ us. vector us o) (map_itself_all ts)

  map_itself_all : {A : Type 0} (ts : Trees A) → map_trees (λ a. a) ts ≡ ts
  map_itself_all no_trees = refl
  map_itself_all (tree t ts) =
      let first = map_itself t in
      let rest = map_itself_all ts in
      λ j. tree (first j) (rest j)

  map_itself_tail : {A : Type 0} (tail : Tail A) → map_tail (λ a. a) tail ≡ tail
  map_itself_tail proper = refl
  map_itself_tail (dotted t) = ap dotted (map_itself t)

mutual
  pub map_same : {A B : Type 0} (f g : A → B) → ((a : A) → f a ≡ g a) → (t : Tree A) → map_tree f t ≡ map_tree g t
  map_same f g h (name i o) = ap (λ j. name j o) (h i)
  map_same f g h (atom a o) = refl
  map_same f g h (list ts tail o) =
      let parts = map_same_all f g h ts in
      let end = map_same_tail f g h tail in
      λ j. list (parts j) (end j) o
  map_same f g h (vector ts o) = ap (λ us. vector us o) (map_same_all f g h ts)

  pub map_same_all : {A B : Type 0} (f g : A → B) → ((a : A) → f a ≡ g a) → (ts : Trees A) → map_trees f ts ≡ map_trees g ts
  map_same_all f g h no_trees = refl
  map_same_all f g h (tree t ts) =
      let first = map_same f g h t in
      let rest = map_same_all f g h ts in
      λ j. tree (first j) (rest j)

  pub map_same_tail : {A B : Type 0} (f g : A → B) → ((a : A) → f a ≡ g a) → (tail : Tail A) → map_tail f tail ≡ map_tail g tail
  map_same_tail f g h proper = refl
  map_same_tail f g h (dotted t) = ap dotted (map_same f g h t)

pub images_substituted : (uses : Uses) (c : Chain) (t : Tree Ident) → substituted uses c t ≡ map_tree (image uses c) t
images_substituted uses [] t = refl
images_substituted uses (b ∷ bs) t =
    ap (map_tree (shallow (image uses bs b.ident) b.binder)) (images_substituted uses bs t)
    ∙ map_map (shallow (image uses bs b.ident) b.binder) (image uses bs) t
    ∙ map_same (λ i. shallow (image uses bs b.ident) b.binder (image uses bs i)) (image uses (b ∷ bs)) (image_bound uses b bs) t

-- ---- meanings

module _ (table : Table) (entry : Entries) (uses : Uses) (plain : AreOutside table uses) where
  -- under binders it means the innermost of them, else what it means outside
  meaning_under : (c : Chain) (n : Name) (i : Ident) → meaning table entry (under c n i) ≡ local_or (found c i) (meaning table entry n)
  meaning_under [] n i = refl
  meaning_under (b ∷ bs) n i = go (same_ident b.ident i) (meaning_under bs n i)
    where
      go : (t : Bool) → meaning table entry (under bs n i) ≡ local_or (found bs i) (meaning table entry n) →
          meaning table entry (cond t (Var b.binder (under bs n i)) (under bs n i)) ≡ local_or (cond t (Some b.binder) (found bs i)) (meaning table entry n)
      go true e = refl
      go false e = e

  pub meaning_outside : (i : Ident) → meaning table entry (outside uses i) ≡ beyond (own_of table entry) uses i
  meaning_outside (Written u s) =
      ap (global_or (defines table u (WrittenName u s)) u (WrittenName u s)) (imported_is (entry u s) s)
      ∙ own_name table entry u (WrittenName u s) (Written u s) refl (plain u (Written u s)) (entry u s) (Free s) refl
  meaning_outside (Inserted i k) =
      ap (global_or (defines table k.unit (outside uses (Inserted i k))) k.unit (outside uses (Inserted i k)))
      (meaning_under (uses k) (outside uses i) i ∙ ap (local_or (found (uses k) i)) (meaning_outside i))
      ∙ own_name table entry k.unit (outside uses (Inserted i k)) (Inserted i k) (erase_outside uses (Inserted i k)) (plain k.unit (Inserted i k)) None (local_or (found (uses k) i) (beyond (own_of table entry) uses i)) refl

  pub meaning_image : (c : Chain) (i : Ident) → meaning table entry (image uses c i) ≡ means (own_of table entry) uses c i
  meaning_image c i = meaning_under c (outside uses i) i ∙ ap (local_or (found c i)) (meaning_outside i)
