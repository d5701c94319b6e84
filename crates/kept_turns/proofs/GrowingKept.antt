-- One form more of a unit may be kept, in its first part, and then in its second, where it may be kept where its own turn comes and of those
-- behind it nothing is kept.
use Rattle.std.proofs.Common.{◌≡◌, ℕ, List, [], ◌∷◌, ◌++◌, Option, Some, None, refl, sym, ap, subst}
use Rattle.scheme_model.specs.Ident.{Ident}
use Rattle.scheme_model.specs.Trees.{Tree}
use Rattle.scheme_model.specs.Requirements.{Known}
use Rattle.scheme_model.specs.Order.{Note, Pass}
use Rattle.scheme_model.specs.UnitExpansion.{◌then◌, going, unless_over}
use Rattle.scheme_model.specs.ScopedExpansion.{FramedIdent, ScopedState}
use Rattle.scheme_model.specs.CountedExpansion.{counted}
use Rattle.scheme_model.specs.Questions.{Around}
use Rattle.form_laws.specs.Begins.{Each}
use Rattle.kept_forms.specs.KeptForms.{KeptParts, KeptForm, FormOrKept, LeftOrKept, around_form, rest_kept, numbers_of}
use Rattle.kept_forms.specs.Carried.{Onwards, PassKept, RestKept, FormFits}
use Rattle.forgotten_locals.specs.Ways.{Way, left_of, firsts_by, AtFirsts, AtSeconds, IsKept, IsRestKept, AllKept}
use Rattle.kept_turns.specs.Turns.{passed, AtFirst, form_with, NotKept, NoRest, NoRests}
use Rattle.kept_turns.proofs.Onward.{onwards_all, onwards_map, onwards_then}
use Rattle.kept_turns.proofs.EachTurn.{firsts_split, firsts_join}

-- ---- lists

pub each_split : {X : Type 0} (P : X → Type 0) (xs ys : List X) → Each P (xs ++ ys) → Each P xs × Each P ys
each_split P [] ys h = (tt, h)
each_split P (x ∷ xs) ys h = let z = each_split P xs ys h.1 in ((h.0, z.0), z.1)

pub each_join : {X : Type 0} (P : X → Type 0) (xs ys : List X) → Each P xs → Each P ys → Each P (xs ++ ys)
each_join P [] ys h k = k
each_join P (x ∷ xs) ys h k = (h.0, each_join P xs ys h.1 k)

each_map : {X : Type 0} (P Q : X → Type 0) → ((x : X) → P x → Q x) → (xs : List X) → Each P xs → Each Q xs
each_map P Q f [] h = tt
each_map P Q f (x ∷ xs) h = (f x h.0, each_map P Q f xs h.1)

-- what is kept of a form doesn't change the forms
pub same_numbers : (ys zs : List FormOrKept) (n : ℕ × Tree Ident) (a b : Option KeptForm) → numbers_of (ys ++ form_with n a ∷ zs) ≡ numbers_of (ys ++ form_with n b ∷ zs)
same_numbers [] zs n a b = refl
same_numbers (y ∷ ys) zs n a b = ap (λ fs. y.form ∷ fs) (same_numbers ys zs n a b)

-- nothing kept has no rest kept
none_rests : (xs : List FormOrKept) → NotKept xs → NoRests xs
none_rests xs h = each_map (λ (x : FormOrKept). x.kept ≡ None) (λ (x : FormOrKept). NoRest x.kept) (λ x e. subst NoRest (sym e) tt) xs h

fits_alone : (k : Option KeptForm) → NoRest k → FormFits k
fits_alone None h = tt
fits_alone (Some k) h = go k.parts h
  where
    go : (o : Option KeptParts) → o ≡ None → FormFits (Some (record { aside = k.aside; parts = o }))
    go None e = tt
    go (Some c) e = absurd cc

rest_none : (v : Around) (k : Option KeptForm) → NoRest k → rest_kept v k ≡ None
rest_none v None h = refl
rest_none v (Some k) h = go k.parts h
  where
    go : (o : Option KeptParts) → o ≡ None → rest_kept v (Some (record { aside = k.aside; parts = o })) ≡ None
    go None e = refl
    go (Some c) e = absurd cc

-- ---- along the turns

module _ (way : Way) (turns : ℕ) (known : Known) (fs : List ℕ) where
  abbrev NoneLeft : List LeftOrKept → Type 0
  NoneLeft rs = Each (λ (r : LeftOrKept). r.kept ≡ None) rs

  firsts_unkept : (xs : List FormOrKept) (ns : List (Note FramedIdent)) (s : ScopedState) → NotKept xs → AtFirsts (IsKept turns) way known fs xs ns s
  firsts_unkept [] ns s h = tt
  firsts_unkept (x ∷ xs) ns s h =
      let v = around_form known x.form ns s in
      (subst (PassKept v turns x.tree) (sym h.0) tt, onwards_all (λ q t. AtFirsts (IsKept turns) way known fs xs q.notes t) (λ q t. firsts_unkept xs q.notes t h.1) (unless_over (counted known) fs (way.first v x.tree x.kept)))

  pub seconds_unkept : (rs : List LeftOrKept) (s : ScopedState) → NoneLeft rs → AtSeconds (IsRestKept turns) way known fs rs s
  seconds_unkept [] s h = tt
  seconds_unkept (r ∷ rs) s h =
      let v = around_form known r.form [] s in
      (subst (RestKept v turns) (sym h.0) tt, onwards_all (λ p t. AtSeconds (IsRestKept turns) way known fs rs t) (λ p t. seconds_unkept rs t h.1) (way.second fs v r.left r.kept))

  -- where no rest is kept, nothing is kept of what is left
  pub rests_alone : (xs : List FormOrKept) (ns : List (Note FramedIdent)) (s : ScopedState) → NoRests xs → Onwards (λ rs t. NoneLeft rs) (firsts_by way known fs xs ns s)
  rests_alone [] ns s h = tt
  rests_alone (x ∷ xs) ns s h =
      let v = around_form known x.form ns s in
      let q = unless_over (counted known) fs (way.first v x.tree x.kept) in
      onwards_then (λ rs t. NoneLeft rs) (λ p t. firsts_by way known fs xs p.notes t then λ rest. going (left_of x v p t ∷ rest)) q
      (onwards_all (λ p t. Onwards (λ rs u. NoneLeft rs) (firsts_by way known fs xs p.notes t then λ rest. going (left_of x v p t ∷ rest))) (λ p t. behind v p t (firsts_by way known fs xs p.notes t) (rests_alone xs p.notes t h.1)) q)
    where
      behind : (v : Around) (p : Pass Ident FramedIdent) (t : ScopedState) (m : Option (List LeftOrKept) × ScopedState) → Onwards (λ rs u. NoneLeft rs) m → Onwards (λ rs u. NoneLeft rs) (m then λ rest. going (left_of x v p t ∷ rest))
      behind v p t (None, u) k = tt
      behind v p t (Some rs, u) k = (rest_none v x.kept h.0, k)

-- ---- first parts

module _ (way : Way) (turns : ℕ) (known : Known) (ys : List FormOrKept) (n : ℕ × Tree Ident) (zs : List FormOrKept) (s : ScopedState) where
  abbrev xs : Option KeptForm → List FormOrKept
  xs k = ys ++ form_with n k ∷ zs

  -- in surroundings of one unit the forms have the same numbers, whatever is kept
  firsts_here : (a k : Option KeptForm) → AtFirsts (IsKept turns) way known (numbers_of (xs a)) ys [] s → AtFirsts (IsKept turns) way known (numbers_of (xs k)) ys [] s
  firsts_here a k h = subst (λ fs. AtFirsts (IsKept turns) way known fs ys [] s) (same_numbers ys zs n a k) h

  pub aside_more : (a k : Option KeptForm) → NoRests ys → NoRest k → NotKept zs → AllKept way turns known (xs a) s → AtFirst (λ v. PassKept v turns n.1 k) way known ys (form_with n k) zs s → AllKept way turns known (xs k) s
  aside_more a k alone none behind old turn =
      let fs = numbers_of (xs k) in
      let front = firsts_here a k (firsts_split way known (numbers_of (xs a)) (IsKept turns) ys (form_with n a ∷ zs) [] s old.1.0).0 in
      let rests = each_join (λ (x : FormOrKept). NoRest x.kept) ys (form_with n k ∷ zs) alone (none, none_rests zs behind) in (
        each_map (λ (x : FormOrKept). NoRest x.kept) (λ (x : FormOrKept). FormFits x.kept) (λ x h. fits_alone x.kept h) (xs k) rests,
        (
          firsts_join way known fs (IsKept turns) ys (form_with n k ∷ zs) [] s front
              (onwards_map (λ ms t. PassKept (around_form known n.0 ms t) turns n.1 k) (λ ms t. AtFirsts (IsKept turns) way known fs (form_with n k ∷ zs) ms t)
              (λ ms t h. (h, onwards_all (λ q u. AtFirsts (IsKept turns) way known fs zs q.notes u) (λ q u. firsts_unkept way turns known fs zs q.notes u behind) (unless_over (counted known) fs (way.first (around_form known n.0 ms t) n.1 k))))
              (passed way known fs ys [] s) turn),
          onwards_map (λ rs t. NoneLeft way turns known fs rs) (λ rs t. AtSeconds (IsRestKept turns) way known fs rs t) (λ rs t h. seconds_unkept way turns known fs rs t h) (firsts_by way known fs (xs k) [] s) (rests_alone way turns known fs (xs k) [] s rests),
        ),
      )
