-- The work in which every form is expanded is the definition's, each form may begin in it, and a unit of which forms are kept is one of
-- these ways.
use Rattle.std.proofs.Common.{◌≡◌, ◌↔◌, ℕ, List, [], ◌∷◌, map, Option, Some, None, Result, refl, sym, ap, ◌∙◌, subst}
use Rattle.scheme_model.specs.Ident.{Ident}
use Rattle.scheme_model.specs.Trees.{Tree}
use Rattle.scheme_model.specs.Requirements.{Known}
use Rattle.scheme_model.specs.Cores.{Parts}
use Rattle.scheme_model.specs.Steps.{Broken}
use Rattle.scheme_model.specs.Order.{Left, Note, Pass}
use Rattle.scheme_model.specs.Expression.{expand}
use Rattle.scheme_model.specs.UnitExpansion.{Work, ◌then◌, going, unless_over, passes, finished, unit}
use Rattle.scheme_model.specs.ScopedExpansion.{FramedIdent, ScopedState}
use Rattle.scheme_model.specs.CountedExpansion.{counted}
use Rattle.scheme_model.specs.FormsAlike.{set_aside}
use Rattle.form_laws.specs.Begins.{Each}
use Rattle.kept_forms.specs.KeptForms.{FormOrKept, form_of, LeftOrKept, around_form, goes_through, comes_to, passes_keeping, numbers_of, counts_at}
use Rattle.kept_forms.specs.Carried.{Onwards, FormFits, PassesKept, RestsKept, UnitKept, PassesBegin, RestsBegin, UnitBegins}
use Rattle.forgotten_locals.specs.Ways.{anew, keeping, left_of, firsts_by, seconds_by, unit_by, AtFirsts, AtSeconds, IsKept, IsRestKept, AllKept, CanBegin, RestCanBegin, AllBegin}

onwards_map : {S X : Type 0} (P Q : X → S → Type 0) → ((x : X) (s : S) → P x s → Q x s) → (q : Option X × S) → Onwards P q → Onwards Q q
onwards_map P Q f (None, s) h = tt
onwards_map P Q f (Some x, s) h = f x s h

onwards_all : {S X : Type 0} (P : X → S → Type 0) → ((x : X) (s : S) → P x s) → (q : Option X × S) → Onwards P q
onwards_all P f (None, s) = tt
onwards_all P f (Some x, s) = f x s

-- each of what is given
abbrev mapped : {S X Y : Type 0} → (X → Y) → Option (List X) × S → Option (List Y) × S
mapped f (None, s) = (None, s)
mapped f (Some xs, s) = (Some (map f xs), s)

mapped_then : {S X Y Z : Type 0} (f : X → Y) (g : List X → Work S Z) (h : List Y → Work S Z) → ((xs : List X) (s : S) → h (map f xs) s ≡ g xs s) → (q : Option (List X) × S) → (mapped f q then h) ≡ (q then g)
mapped_then f g h e (None, s) = refl
mapped_then f g h e (Some xs, s) = e xs s

mapped_one : {S X Y : Type 0} (f : X → Y) (x : X) (q : Option (List X) × S) → (mapped f q then λ rest. going (f x ∷ rest)) ≡ mapped f (q then λ rest. going (x ∷ rest))
mapped_one f x (None, s) = refl
mapped_one f x (Some xs, s) = refl

onwards_mapped : {S X Y : Type 0} (f : X → Y) (P : List Y → S → Type 0) (Q : List X → S → Type 0) → ((xs : List X) (s : S) → P (map f xs) s → Q xs s) → (q : Option (List X) × S) → Onwards P (mapped f q) → Onwards Q q
onwards_mapped f P Q g (None, s) h = tt
onwards_mapped f P Q g (Some xs, s) h = g xs s h

module _ (known : Known) (turns : ℕ) (fs : List ℕ) where
  -- ---- it is the definition's

  abbrev set_of : LeftOrKept → ℕ × Result (Left Ident) Broken
  set_of r = (r.form, r.left)

  firsts_anew : (xs : List FormOrKept) (ns : List (Note FramedIdent)) (s : ScopedState) → passes (counted known) turns [] fs (map form_of xs) ns s ≡ mapped set_of (firsts_by (anew turns) known fs xs ns s)
  firsts_anew [] ns s = refl
  firsts_anew (x ∷ xs) ns s = go (unless_over (counted known) fs (set_aside (around_form known x.form ns s) turns x.tree)) (λ ms t. firsts_anew xs ms t)
    where
      go : (q : Option (Pass Ident FramedIdent) × ScopedState) → ((ms : List (Note FramedIdent)) (t : ScopedState) → passes (counted known) turns [] fs (map form_of xs) ms t ≡ mapped set_of (firsts_by (anew turns) known fs xs ms t))
          → (q then λ p t. passes (counted known) turns [] fs (map form_of xs) p.notes t then λ rest. going ((x.form, p.left) ∷ rest))
          ≡ mapped set_of (q then λ p t. firsts_by (anew turns) known fs xs p.notes t then λ rest. going (left_of x (around_form known x.form ns s) p t ∷ rest))
      go (None, t) law = refl
      go (Some p, t) law = ap (λ z. z then λ rest. going ((x.form, p.left) ∷ rest)) (law p.notes t) ∙ mapped_one set_of (left_of x (around_form known x.form ns s) p t) (firsts_by (anew turns) known fs xs p.notes t)

  seconds_anew : (rs : List LeftOrKept) (s : ScopedState) → finished (counted known) (expand (counted known) turns) [] fs (map set_of rs) s ≡ seconds_by (anew turns) known fs rs s
  seconds_anew [] s = refl
  seconds_anew (r ∷ rs) s = go (comes_to (around_form known r.form [] s) turns fs r.left None) (λ t. seconds_anew rs t)
    where
      go : (q : Option (Result Parts Broken) × ScopedState) → ((t : ScopedState) → finished (counted known) (expand (counted known) turns) [] fs (map set_of rs) t ≡ seconds_by (anew turns) known fs rs t)
          → (q then λ parts t. finished (counted known) (expand (counted known) turns) [] fs (map set_of rs) t then λ rest. going (record { form = r.form; result = parts; counted = (counted known).counted t } ∷ rest))
          ≡ (q then λ parts t. seconds_by (anew turns) known fs rs t then λ rest. going (record { form = r.form; result = parts; counted = (counted known).counted t } ∷ rest))
      go (None, t) law = refl
      go (Some p, t) law = ap (λ z. z then λ rest. going (record { form = r.form; result = p; counted = (counted known).counted t } ∷ rest)) (law t)

  -- ---- of no form anything is kept

  abbrev pub unkept : FormOrKept → FormOrKept
  unkept x = record x { kept = None }

  abbrev rest_unkept : LeftOrKept → LeftOrKept
  rest_unkept r = record r { kept = None }

  firsts_unkept : (xs : List FormOrKept) (ns : List (Note FramedIdent)) (s : ScopedState) → passes_keeping known turns fs (map unkept xs) ns s ≡ mapped rest_unkept (firsts_by (anew turns) known fs xs ns s)
  firsts_unkept [] ns s = refl
  firsts_unkept (x ∷ xs) ns s = go (unless_over (counted known) fs (set_aside (around_form known x.form ns s) turns x.tree)) (λ ms t. firsts_unkept xs ms t)
    where
      go : (q : Option (Pass Ident FramedIdent) × ScopedState) → ((ms : List (Note FramedIdent)) (t : ScopedState) → passes_keeping known turns fs (map unkept xs) ms t ≡ mapped rest_unkept (firsts_by (anew turns) known fs xs ms t))
          → (q then λ p t. passes_keeping known turns fs (map unkept xs) p.notes t then λ rest. going (record { form = x.form; counts = counts_at x.form t; left = p.left; kept = None } ∷ rest))
          ≡ mapped rest_unkept (q then λ p t. firsts_by (anew turns) known fs xs p.notes t then λ rest. going (left_of x (around_form known x.form ns s) p t ∷ rest))
      go (None, t) law = refl
      go (Some p, t) law =
          ap (λ z. z then λ rest. going (record { form = x.form; counts = counts_at x.form t; left = p.left; kept = None } ∷ rest)) (law p.notes t)
          ∙ mapped_one rest_unkept (left_of x (around_form known x.form ns s) p t) (firsts_by (anew turns) known fs xs p.notes t)

  passes_unkept : (xs : List FormOrKept) (ns : List (Note FramedIdent)) (s : ScopedState) → PassesKept known turns fs (map unkept xs) ns s
  passes_unkept [] ns s = tt
  passes_unkept (x ∷ xs) ns s = (tt, onwards_all (λ p t. PassesKept known turns fs (map unkept xs) p.notes t) (λ p t. passes_unkept xs p.notes t) (unless_over (counted known) fs (set_aside (around_form known x.form ns s) turns x.tree)))

  rests_unkept : (rs : List LeftOrKept) (s : ScopedState) → RestsKept known turns fs (map rest_unkept rs) s
  rests_unkept [] s = tt
  rests_unkept (r ∷ rs) s = (tt, onwards_all (λ p t. RestsKept known turns fs (map rest_unkept rs) t) (λ p t. rests_unkept rs t) (comes_to (around_form known r.form [] s) turns fs r.left None))

  all_unkept : (q : Option (List LeftOrKept) × ScopedState) → Onwards (λ rs t. RestsKept known turns fs rs t) (mapped rest_unkept q)
  all_unkept (None, t) = tt
  all_unkept (Some rs, t) = rests_unkept rs t

  firsts_begin : (xs : List FormOrKept) (ns : List (Note FramedIdent)) (s : ScopedState) → PassesBegin known turns fs (map unkept xs) ns s → AtFirsts CanBegin (anew turns) known fs xs ns s
  firsts_begin [] ns s h = tt
  firsts_begin (x ∷ xs) ns s h = (
    (h.0, h.1),
    onwards_map (λ p t. PassesBegin known turns fs (map unkept xs) p.notes t) (λ p t. AtFirsts CanBegin (anew turns) known fs xs p.notes t) (λ p t k. firsts_begin xs p.notes t k)
        (unless_over (counted known) fs (set_aside (around_form known x.form ns s) turns x.tree)) h.2,
  )

  seconds_begin : (rs : List LeftOrKept) (s : ScopedState) → RestsBegin known turns fs (map rest_unkept rs) s → AtSeconds RestCanBegin (anew turns) known fs rs s
  seconds_begin [] s h = tt
  seconds_begin (r ∷ rs) s h = (
    (h.0, h.1),
    onwards_map (λ p t. RestsBegin known turns fs (map rest_unkept rs) t) (λ p t. AtSeconds RestCanBegin (anew turns) known fs rs t) (λ p t k. seconds_begin rs t k)
        (comes_to (around_form known r.form [] s) turns fs r.left None) h.2,
  )

  -- ---- what is kept is put into its place

  firsts_keeping : (xs : List FormOrKept) (ns : List (Note FramedIdent)) (s : ScopedState) → firsts_by (keeping turns) known fs xs ns s ≡ passes_keeping known turns fs xs ns s
  firsts_keeping [] ns s = refl
  firsts_keeping (x ∷ xs) ns s = go (unless_over (counted known) fs (goes_through (around_form known x.form ns s) turns x.tree x.kept)) (λ ms t. firsts_keeping xs ms t)
    where
      go : (q : Option (Pass Ident FramedIdent) × ScopedState) → ((ms : List (Note FramedIdent)) (t : ScopedState) → firsts_by (keeping turns) known fs xs ms t ≡ passes_keeping known turns fs xs ms t)
          → (q then λ p t. firsts_by (keeping turns) known fs xs p.notes t then λ rest. going (left_of x (around_form known x.form ns s) p t ∷ rest))
          ≡ (q then λ p t. passes_keeping known turns fs xs p.notes t then λ rest. going (left_of x (around_form known x.form ns s) p t ∷ rest))
      go (None, t) law = refl
      go (Some p, t) law = ap (λ z. z then λ rest. going (left_of x (around_form known x.form ns s) p t ∷ rest)) (law p.notes t)

  firsts_to : (xs : List FormOrKept) (ns : List (Note FramedIdent)) (s : ScopedState) → PassesKept known turns fs xs ns s → AtFirsts (IsKept turns) (keeping turns) known fs xs ns s
  firsts_to [] ns s h = tt
  firsts_to (x ∷ xs) ns s h = (
    h.0,
    onwards_map (λ p t. PassesKept known turns fs xs p.notes t) (λ p t. AtFirsts (IsKept turns) (keeping turns) known fs xs p.notes t) (λ p t k. firsts_to xs p.notes t k)
        (unless_over (counted known) fs (goes_through (around_form known x.form ns s) turns x.tree x.kept)) h.1,
  )

  firsts_from : (xs : List FormOrKept) (ns : List (Note FramedIdent)) (s : ScopedState) → AtFirsts (IsKept turns) (keeping turns) known fs xs ns s → PassesKept known turns fs xs ns s
  firsts_from [] ns s h = tt
  firsts_from (x ∷ xs) ns s h = (
    h.0,
    onwards_map (λ p t. AtFirsts (IsKept turns) (keeping turns) known fs xs p.notes t) (λ p t. PassesKept known turns fs xs p.notes t) (λ p t k. firsts_from xs p.notes t k)
        (unless_over (counted known) fs (goes_through (around_form known x.form ns s) turns x.tree x.kept)) h.1,
  )

  seconds_to : (rs : List LeftOrKept) (s : ScopedState) → RestsKept known turns fs rs s → AtSeconds (IsRestKept turns) (keeping turns) known fs rs s
  seconds_to [] s h = tt
  seconds_to (r ∷ rs) s h =
      (h.0, onwards_map (λ p t. RestsKept known turns fs rs t) (λ p t. AtSeconds (IsRestKept turns) (keeping turns) known fs rs t) (λ p t k. seconds_to rs t k) (comes_to (around_form known r.form [] s) turns fs r.left r.kept) h.1)

  seconds_from : (rs : List LeftOrKept) (s : ScopedState) → AtSeconds (IsRestKept turns) (keeping turns) known fs rs s → RestsKept known turns fs rs s
  seconds_from [] s h = tt
  seconds_from (r ∷ rs) s h =
      (h.0, onwards_map (λ p t. AtSeconds (IsRestKept turns) (keeping turns) known fs rs t) (λ p t. RestsKept known turns fs rs t) (λ p t k. seconds_from rs t k) (comes_to (around_form known r.form [] s) turns fs r.left r.kept) h.1)

-- ---- the unit

forms_unkept : (known : Known) (turns : ℕ) (fs : List ℕ) (xs : List FormOrKept) → map form_of (map (unkept known turns fs) xs) ≡ map form_of xs
forms_unkept known turns fs [] = refl
forms_unkept known turns fs (x ∷ xs) = ap (λ ys. form_of x ∷ ys) (forms_unkept known turns fs xs)

fits_unkept : (known : Known) (turns : ℕ) (fs : List ℕ) (xs : List FormOrKept) → Each (λ (x : FormOrKept). FormFits x.kept) (map (unkept known turns fs) xs)
fits_unkept known turns fs [] = tt
fits_unkept known turns fs (x ∷ xs) = (tt, fits_unkept known turns fs xs)

module _ (known : Known) (turns : ℕ) (xs : List FormOrKept) (s : ScopedState) where
  abbrev fs : List ℕ
  fs = numbers_of xs

  pub unit_anew : unit_by (anew turns) known xs s ≡ unit (counted known) turns [] (map form_of xs) s
  unit_anew =
      sym (ap (λ q. q then finished (counted known) (expand (counted known) turns) [] fs) (firsts_anew known turns fs xs [] s)
      ∙ mapped_then (set_of known turns fs) (seconds_by (anew turns) known fs) (finished (counted known) (expand (counted known) turns) [] fs) (λ rs t. seconds_anew known turns fs rs t) (firsts_by (anew turns) known fs xs [] s))

  -- with nothing kept
  abbrev pub plain : List FormOrKept
  plain = map (unkept known turns fs) xs

  plain_numbers : numbers_of plain ≡ fs
  plain_numbers = ap (λ (ts : List (ℕ × Tree Ident)). map (λ t. t.0) ts) (forms_unkept known turns fs xs)

  pub plain_forms : map form_of plain ≡ map form_of xs
  plain_forms = forms_unkept known turns fs xs

  abbrev KeptBy : List ℕ → Type 0
  KeptBy ns = Each (λ (x : FormOrKept). FormFits x.kept) plain × PassesKept known turns ns plain [] s × Onwards (λ rs t. RestsKept known turns ns rs t) (passes_keeping known turns ns plain [] s)

  pub plain_kept : UnitKept known turns plain s
  plain_kept =
      subst KeptBy (sym plain_numbers)
      (fits_unkept known turns fs xs, passes_unkept known turns fs xs [] s, subst (Onwards (λ rs t. RestsKept known turns fs rs t)) (sym (firsts_unkept known turns fs xs [] s)) (all_unkept known turns fs (firsts_by (anew turns) known fs xs [] s)))

  abbrev BeginsBy : List ℕ → Type 0
  BeginsBy ns = PassesBegin known turns ns plain [] s × Onwards (λ rs t. RestsBegin known turns ns rs t) (passes_keeping known turns ns plain [] s)

  pub plain_begin : UnitBegins known turns plain s → AllBegin (anew turns) known xs s
  plain_begin h =
      let k = subst BeginsBy plain_numbers h in (
        firsts_begin known turns fs xs [] s k.0,
        onwards_mapped (rest_unkept known turns fs) (λ rs t. RestsBegin known turns fs rs t) (λ rs t. AtSeconds RestCanBegin (anew turns) known fs rs t) (λ rs t b. seconds_begin known turns fs rs t b)
            (firsts_by (anew turns) known fs xs [] s) (subst (Onwards (λ rs t. RestsBegin known turns fs rs t)) (firsts_unkept known turns fs xs [] s) k.1),
      )

  keeping_in : AllKept (keeping turns) turns known xs s → UnitKept known turns xs s
  keeping_in k = (
    k.0,
    firsts_from known turns fs xs [] s k.1.0,
    subst (Onwards (λ rs t. RestsKept known turns fs rs t)) (firsts_keeping known turns fs xs [] s)
        (onwards_map (λ rs t. AtSeconds (IsRestKept turns) (keeping turns) known fs rs t) (λ rs t. RestsKept known turns fs rs t) (λ rs t b. seconds_from known turns fs rs t b) (firsts_by (keeping turns) known fs xs [] s) k.1.1),
  )

  keeping_out : UnitKept known turns xs s → AllKept (keeping turns) turns known xs s
  keeping_out k = (
    k.0,
    (
      firsts_to known turns fs xs [] s k.1,
      onwards_map (λ rs t. RestsKept known turns fs rs t) (λ rs t. AtSeconds (IsRestKept turns) (keeping turns) known fs rs t) (λ rs t b. seconds_to known turns fs rs t b)
          (firsts_by (keeping turns) known fs xs [] s) (subst (Onwards (λ rs t. RestsKept known turns fs rs t)) (sym (firsts_keeping known turns fs xs [] s)) k.2),
    ),
  )

  pub keeping_kept : UnitKept known turns xs s ↔ AllKept (keeping turns) turns known xs s
  keeping_kept = (keeping_out, keeping_in)
