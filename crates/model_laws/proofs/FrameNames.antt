-- An image is its identifier, is told apart as it is, keeps its symbol, and means what the frames give.
use Rattle.std.proofs.Common.{◌≡◌, Bool, true, false, cond, List, [], ◌∷◌, Option, Some, None, refl, sym, ap, ◌∙◌, subst}
use Rattle.scheme_model.specs.Identifiers.{Number, Name, Written as WrittenName, same_name, strip}
use Rattle.scheme_model.specs.Ident.{Ident, Written, Inserted, same_ident, erase, symbol_of}
use Rattle.scheme_model.specs.Meaning.{Meaning, Local, Free}
use Rattle.scheme_model.specs.Substitution.{Table, Entries, defines, global_or, meaning}
use Rattle.scheme_model.specs.ScopedExpansion.{Bind, Enter, Frames, BodyDefinitions, UsePlace, around, find, defined_as, means_inside, means_outside}
use Rattle.scheme_model.specs.FrameImages.{is_older, bound_as, entered_as, before_definition, image_inside, image_outside, frame_image, DefinesOutside}
use Rattle.scheme_model.proofs.IdentLaws.{ident_told, ident_itself, name_told, name_itself, bool_same, strip_erased}
use Rattle.scheme_model.proofs.MeaningLaws.{imported_is, own_name}

-- ---- an image is its identifier

erase_bound : (t : Bool) (v : Number) (j : Name) → erase (bound_as t v j) ≡ erase j
erase_bound true v j = refl
erase_bound false v j = refl

erase_entered : (t : Bool) (b : Number) (j : Name) → erase (entered_as t b j) ≡ erase j
erase_entered true b j = refl
erase_entered false b j = refl

erase_defined : (o : Option (Number × BodyDefinitions)) (g : BodyDefinitions → Name) (ds : BodyDefinitions) (i : Ident) → ((es : BodyDefinitions) → erase (g es) ≡ i) → erase (before_definition o g ds) ≡ i
erase_defined None g ds i h = h ds
erase_defined (Some d) g ds i h = h d.1

erase_inside : (fs : Frames) (i : Ident) (outer : BodyDefinitions → Name) → ((es : BodyDefinitions) → erase (outer es) ≡ i) → (ds : BodyDefinitions) → erase (image_inside fs i outer ds) ≡ i
erase_inside [] i outer h ds = h ds
erase_inside (Bind x v ∷ fs) i outer h ds = erase_bound (same_ident x i) v (image_inside fs i outer ds) ∙ erase_inside fs i outer h ds
erase_inside (Enter b u ∷ fs) i outer h ds =
    erase_defined (find ds b i) (λ es. entered_as (is_older b u i) b (image_inside fs i outer es)) ds i
    (λ es. erase_entered (is_older b u i) b (image_inside fs i outer es) ∙ erase_inside fs i outer h es)

pub erase_outer : (ps : List UsePlace) (i : Ident) (ds : BodyDefinitions) → erase (image_outside ps i ds) ≡ i
erase_outer ps (Written u s) ds = refl
erase_outer ps (Inserted i k) ds = ap (λ (x : Ident). Inserted x k) (erase_inside (around ps k) i (image_outside ps i) (λ es. erase_outer ps i es) ds)

pub erase_frame_image : (ps : List UsePlace) (ds : BodyDefinitions) (fs : Frames) (i : Ident) → erase (frame_image ps ds fs i) ≡ i
erase_frame_image ps ds fs i = erase_inside fs i (image_outside ps i) (λ es. erase_outer ps i es) ds

-- so images in one place are told apart as the identifiers are
pub same_frame_image : (ps : List UsePlace) (ds : BodyDefinitions) (fs : Frames) (i j : Ident) → same_name (frame_image ps ds fs i) (frame_image ps ds fs j) ≡ same_ident i j
same_frame_image ps ds fs i j =
    bool_same (same_name (frame_image ps ds fs i) (frame_image ps ds fs j)) (same_ident i j)
    (λ h. let same : i ≡ j = sym (erase_frame_image ps ds fs i) ∙ ap erase (name_told (frame_image ps ds fs i) (frame_image ps ds fs j) h) ∙ erase_frame_image ps ds fs j in
    subst (λ (x : Ident). same_ident i x ≡ true) same (ident_itself i))
    (λ h. subst (λ (x : Ident). same_name (frame_image ps ds fs i) (frame_image ps ds fs x) ≡ true) (ident_told i j h) (name_itself (frame_image ps ds fs i)))

pub strip_frame_image : (ps : List UsePlace) (ds : BodyDefinitions) (fs : Frames) (i : Ident) → strip (frame_image ps ds fs i) ≡ symbol_of i
strip_frame_image ps ds fs i = sym (strip_erased (frame_image ps ds fs i)) ∙ ap symbol_of (erase_frame_image ps ds fs i)

-- ---- an image means what the frames give

module _ (table : Table) (entry : Entries) where
  meaning_bound : (t : Bool) (v : Number) (j : Name) → meaning table entry (bound_as t v j) ≡ cond t (Local v) (meaning table entry j)
  meaning_bound true v j = refl
  meaning_bound false v j = refl

  meaning_entered : (t : Bool) (b : Number) (j : Name) → meaning table entry (entered_as t b j) ≡ meaning table entry j
  meaning_entered true b j = refl
  meaning_entered false b j = refl

  meaning_defined : (o : Option (Number × BodyDefinitions)) (g : BodyDefinitions → Name) (ds : BodyDefinitions) (m : Meaning) → meaning table entry (g ds) ≡ m → meaning table entry (before_definition o g ds) ≡ defined_as o m
  meaning_defined None g ds m h = h
  meaning_defined (Some d) g ds m h = refl

  meaning_inside : (fs : Frames) (i : Ident) (outer : BodyDefinitions → Name) (ds : BodyDefinitions) → meaning table entry (image_inside fs i outer ds) ≡ means_inside ds fs i (meaning table entry (outer ds))
  meaning_inside [] i outer ds = refl
  meaning_inside (Bind x v ∷ fs) i outer ds = meaning_bound (same_ident x i) v (image_inside fs i outer ds) ∙ ap (cond (same_ident x i) (Local v)) (meaning_inside fs i outer ds)
  meaning_inside (Enter b u ∷ fs) i outer ds =
      meaning_defined (find ds b i) (λ es. entered_as (is_older b u i) b (image_inside fs i outer es)) ds (means_inside ds fs i (meaning table entry (outer ds)))
      (meaning_entered (is_older b u i) b (image_inside fs i outer ds) ∙ meaning_inside fs i outer ds)

  module _ (ps : List UsePlace) (outside : DefinesOutside table ps) where
    meaning_outer : (i : Ident) (ds : BodyDefinitions) → meaning table entry (image_outside ps i ds) ≡ means_outside table entry ps ds i
    meaning_outer (Written u s) ds =
        ap (global_or (defines table u (WrittenName u s)) u (WrittenName u s)) (imported_is (entry u s) s)
        ∙ own_name table entry u (WrittenName u s) (Written u s) refl (outside u (Written u s) ds) (entry u s) (Free s) refl
    meaning_outer (Inserted i k) ds =
        ap (global_or (defines table k.unit (image_outside ps (Inserted i k) ds)) k.unit (image_outside ps (Inserted i k) ds))
        (meaning_inside (around ps k) i (image_outside ps i) ds ∙ ap (means_inside ds (around ps k) i) (meaning_outer i ds))
        ∙ own_name table entry k.unit (image_outside ps (Inserted i k) ds) (Inserted i k) (erase_outer ps (Inserted i k) ds) (outside k.unit (Inserted i k) ds)
        None (means_inside ds (around ps k) i (means_outside table entry ps ds i)) refl

    pub meaning_frame_image : (ds : BodyDefinitions) (fs : Frames) (i : Ident) → meaning table entry (frame_image ps ds fs i) ≡ means_inside ds fs i (means_outside table entry ps ds i)
    meaning_frame_image ds fs i = meaning_inside fs i (image_outside ps i) ds ∙ ap (means_inside ds fs i) (meaning_outer i ds)
