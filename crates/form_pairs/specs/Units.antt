-- Units as they are paired, and what the code's stand for.
use Rattle.std.specs.Prelude.{◌≡◌, ℕ, suc, List, [], ◌∷◌, map, Option, Some, None, slice_get}
use Rattle.std.specs.Option.{option_map}
use Rattle.std.specs.Borrow.{Bor}
use Rattle.scheme_model.specs.Trees.{Tree}
use Rattle.scheme_model.specs.Requirements.{LibraryName}
use Rattle.scheme_model.specs.Declarations.{home_of}
use Rattle.scheme_tokens.specs.LibraryNames.{library_text, IsProper}
use Rattle.unit_sources.specs.UnitsRead.{form_of, forms_of}
use Rattle.unit_sources.specs.declared.units.UnitForm.{UnitForm}
use Rattle.form_pairs.specs.declared.units.UnitText as code
use Rattle.carried_forms.specs.Paired.{FormText, UnitText}
use Rattle.carried_forms.specs.Worked.{form_text, form_texts}
use Rattle.form_pairs.specs.Trees.{tree_as}

-- the first token of a form's text, at its home
abbrev pub first_of : UnitForm → ℕ
first_of f = (home_of 0 0 (form_of f)).first

abbrev pub form_as : UnitForm → Tree (List ℕ)
form_as f = tree_as (first_of f) f.datum

-- a library's name, as its text
abbrev pub IsNameOf : Option (Bor (List ℕ)) → Option LibraryName → Type 0
IsNameOf None None = Unit {0}
IsNameOf None (Some n) = ⊥
IsNameOf (Some t) None = ⊥
IsNameOf (Some t) (Some n) = (t.now ≡ library_text n) × IsProper n

-- one unit with a number, where units have these uris
pub record IsUnitText (uri_of : ℕ → List ℕ) (n : ℕ) (c : code.UnitText) (u : UnitText) : Type 0 where
  pub uri : u.uri ≡ c.uri.now
  pub library : u.is_library ≡ c.is_library
  pub name : IsNameOf c.name u.name
  pub broken : u.broken ≡ c.broken
  pub forms : u.forms ≡ form_texts uri_of n 0 (forms_of c.forms.now)

-- units from a number on
abbrev pub AreUnitTexts : (ℕ → List ℕ) → ℕ → List code.UnitText → List UnitText → Type 0
AreUnitTexts uri_of n [] [] = Unit {0}
AreUnitTexts uri_of n [] (u ∷ us) = ⊥
AreUnitTexts uri_of n (c ∷ cs) [] = ⊥
AreUnitTexts uri_of n (c ∷ cs) (u ∷ us) = IsUnitText uri_of n c u × AreUnitTexts uri_of (suc n) cs us

-- the uri of a unit; nothing where there is no such unit
abbrev pub uri_if : Option code.UnitText → List ℕ
uri_if None = []
uri_if (Some c) = c.uri.now

abbrev pub uri_in : List code.UnitText → ℕ → List ℕ
uri_in cs n = uri_if (slice_get cs n)

abbrev pub forms_if : Option code.UnitText → List UnitForm
forms_if None = []
forms_if (Some c) = c.forms.now

abbrev pub forms_in : List code.UnitText → ℕ → List UnitForm
forms_in cs n = forms_if (slice_get cs n)

abbrev pub AreUnits : List code.UnitText → List UnitText → Type 0
AreUnits cs us = AreUnitTexts (uri_in cs) 0 cs us

-- a form as it is paired, of a unit among these
abbrev pub form_at : List code.UnitText → (unit number : ℕ) → UnitForm → FormText
form_at cs unit number f = form_text (uri_in cs) (home_of unit number (form_of f)) (form_of f)

-- all forms of a unit
abbrev pub texts_at : List code.UnitText → (unit : ℕ) → List FormText
texts_at cs unit = form_texts (uri_in cs) unit 0 (forms_of (forms_in cs unit))
