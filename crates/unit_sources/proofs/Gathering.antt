-- What is gathered from the items of a list, each with its number.
use Rattle.std.proofs.Common.{◌≡◌, ℕ, suc, ◌+◌, ◌<◌, ◌≤◌, List, [], ◌∷◌, ◌++◌, append_assoc, append-nil, length, map, get_or, drop, Option, Some, None, refl, sym, ap, ◌∙◌, subst, arith}
use Rattle.std.proofs.lemmas.List.{drop_more, at_drop_all}
use Rattle.std.specs.Option.{option_to_list}
use Rattle.scheme_model.specs.Program as model
use Rattle.scheme_model.specs.Program.{specs_in, specs_from, spec_of, exports_in, exports_from, exports_with, export_of}
use Rattle.scheme_model.specs.declared.Home.{Home}
use Rattle.scheme_model.specs.Trees.{placed_by}
use Rattle.datum_reader.specs.declared.datum.Datum as code
use Rattle.datum_reader.specs.Views.{datum_of, data_of}
use Rattle.unit_sources.specs.declared.units.UnitForm as code_form
use Rattle.unit_sources.specs.declared.units.ExportSpec as code_export
use Rattle.datum_reader.specs.Looks.{plain}
use Rattle.unit_sources.specs.UnitsRead.{Pairs, Adds, form_of, forms_of, IsExportOf, IsExportRead}

-- what each item gives, in order
abbrev pub numbered : {Y A : Type 0} → (ℕ → Y → List A) → ℕ → List Y → List A
numbered f n [] = []
numbered f n (y ∷ ys) = f n y ++ numbered f (suc n) ys

-- ---- pairs

pairs_append : {X A : Type 0} (R : X → A → Type 0) (xs zs : List X) (ps qs : List A) → Pairs R xs ps → Pairs R zs qs → Pairs R (xs ++ zs) (ps ++ qs)
pairs_append R [] zs [] qs h k = k
pairs_append R [] zs (p ∷ ps) qs h k = absurd h
pairs_append R (x ∷ xs) zs [] qs h k = absurd h
pairs_append R (x ∷ xs) zs (p ∷ ps) qs h k = (h.0, pairs_append R xs zs ps qs h.1 k)

pub one_pair : {X A : Type 0} (R : X → A → Type 0) (old new : List X) (x : X) (a : A) → new ≡ old ++ x ∷ [] → R x a → Adds R old new (a ∷ [])
one_pair R old new x a e h = (x ∷ [], e, (h, tt))

pub no_pairs : {X A : Type 0} (R : X → A → Type 0) (old : List X) → Adds R old old []
no_pairs R old = ([], sym (append-nil old), tt)

-- ---- so many items

module _ {X Y A : Type 0} (R : X → A → Type 0) (f : ℕ → Y → List A) (ys : List Y) where
  -- what so many items give was added, and the others are left
  pub record GatheredUpTo (i : ℕ) (old new : List X) : Type 0 where
    pub xs : List X
    pub front : List A
    pub added : new ≡ old ++ xs
    pub pairs : Pairs R xs front
    pub left : numbered f 0 ys ≡ front ++ numbered f i (drop i ys)

  pub gathered_none : (old new : List X) → new ≡ old → GatheredUpTo 0 old new
  gathered_none old new e = record { xs = []; front = []; added = e ∙ sym (append-nil old); pairs = tt; left = refl }

  pub gathered_more : (i : ℕ) (y : Y) (old now new : List X) → i < length ys → y ≡ get_or ys i y → GatheredUpTo i old now → Adds R now new (f i y) → GatheredUpTo (i + 1) old new
  gathered_more i y old now new lt is h k = record {
    xs = h.xs ++ k.0;
    front = h.front ++ f i y;
    added = k.1 ∙ ap (λ (x : List X). x ++ k.0) h.added ∙ append_assoc old h.xs k.0;
    pairs = pairs_append R h.xs k.0 h.front (f i y) h.pairs k.2;
    left =
        h.left ∙ ap (λ (x : List Y). h.front ++ numbered f i x) (drop_more ys i y lt) ∙ ap (λ (x : Y). h.front ++ (f i x ++ numbered f (suc i) (drop (i + 1) ys))) (sym is)
        ∙ sym (append_assoc h.front (f i y) (numbered f (suc i) (drop (i + 1) ys))) ∙ ap (λ n. (h.front ++ f i y) ++ numbered f n (drop (i + 1) ys)) (plus i);
  }
    where
      plus : (n : ℕ) → suc n ≡ n + 1
      plus n = omega arith

  pub gathered_all : (i : ℕ) (old new : List X) → length ys ≤ i → GatheredUpTo i old new → Adds R old new (numbered f 0 ys)
  gathered_all i old new h k =
      (k.xs, k.added, subst (λ (x : List A). Pairs R k.xs x) (sym (k.left ∙ ap (λ (x : List A). k.front ++ x) (at_drop_all (numbered f i) ys i h) ∙ append-nil k.front)) k.pairs)

-- all that was gathered, where there was nothing before
pub from_none : {X A : Type 0} (R : X → A → Type 0) (old new : List X) (ps : List A) → old ≡ [] → Adds R old new ps → Pairs R new ps
from_none {X} {A} R old new ps e h = subst (λ (xs : List X). Pairs R xs ps) (sym (h.1 ∙ ap (λ (x : List X). x ++ h.0) e)) h.2

pub adds_as : {X A : Type 0} (R : X → A → Type 0) (old new : List X) (ps qs : List A) → qs ≡ ps → Adds R old new ps → Adds R old new qs
adds_as {X} {A} R old new ps qs e h = subst (λ (x : List A). Adds R old new x) (sym e) h

pub pairs_as : {X A : Type 0} (R : X → A → Type 0) (xs : List X) (ps qs : List A) → qs ≡ ps → Pairs R xs ps → Pairs R xs qs
pairs_as {X} {A} R xs ps qs e h = subst (λ (x : List A). Pairs R xs x) (sym e) h

-- ---- what is gathered

-- the import sets of a form
pub specs_each : (unit form first n : ℕ) (ds : List code.Datum) → map (spec_of unit form first) (data_of ds) ≡ numbered (λ k d. spec_of unit form first (datum_of d) ∷ []) n ds
specs_each unit form first n [] = refl
specs_each unit form first n (d ∷ ds) = ap (λ (x : List model.ImportSpec). spec_of unit form first (datum_of d) ∷ x) (specs_each unit form first (suc n) ds)

-- the import sets of a unit
pub specs_numbered : (unit n : ℕ) (fs : List code_form.UnitForm) → specs_from unit n (forms_of fs) ≡ numbered (λ k f. specs_in unit k (form_of f)) n fs
specs_numbered unit n [] = refl
specs_numbered unit n (f ∷ fs) = ap (λ (x : List model.ImportSpec). specs_in unit n (form_of f) ++ x) (specs_numbered unit (suc n) fs)

-- the exports of a form
pub exports_each : (form : ℕ) (h : Home) (n : ℕ) (ds : List code.Datum) → exports_with form h (data_of ds) ≡ numbered (λ k d. export_of form (plain (placed_by h) (datum_of d))) n ds
exports_each form h n [] = refl
exports_each form h n (d ∷ ds) = ap (λ (x : List model.ExportSpec). export_of form (plain (placed_by h) (datum_of d)) ++ x) (exports_each form h (suc n) ds)

-- the exports of a unit
pub exports_numbered : (unit n : ℕ) (fs : List code_form.UnitForm) → exports_from unit n (forms_of fs) ≡ numbered (λ k f. exports_in unit k (form_of f)) n fs
exports_numbered unit n [] = refl
exports_numbered unit n (f ∷ fs) = ap (λ (x : List model.ExportSpec). exports_in unit n (form_of f) ++ x) (exports_numbered unit (suc n) fs)

-- an export that there is, or isn't
pub export_added : (old new : List code_export.ExportSpec) (o : Option code_export.ExportSpec) (xs : List model.ExportSpec) → new ≡ old ++ option_to_list o → IsExportOf o xs → Adds IsExportRead old new xs
export_added old new None xs e h = ([], e, subst (λ (x : List model.ExportSpec). Pairs IsExportRead [] x) (sym h) tt)
export_added old new (Some c) xs e h = (c ∷ [], e, subst (λ (x : List model.ExportSpec). Pairs IsExportRead (c ∷ []) x) (sym h.1) (h.2, tt))
