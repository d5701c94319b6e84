-- Units with a standard name are imported by none.
use Rattle.std.proofs.Common.{◌≡◌, ℕ, Bool, true, false, cond, List, Option, Some, None, refl, sym, ap, ◌∙◌}
use Rattle.std.specs.Option as std
use Rattle.std.specs.Option.{option_map}
use Rattle.scheme_model.specs.Order as order
use Rattle.scheme_model.specs.Requirements.{LibraryName}
use Rattle.scheme_model.specs.Program.{unless_standard}
use Rattle.base_library.specs.Texts.{names_of, SpellsStandard}
use Rattle.base_library.proofs.TextLaws.{by_name}
use Rattle.base_library.proofs.StandardTexts as standard_texts
use Rattle.unit_sources.specs.Repeated.{has_standard_name}
use Rattle.unit_sources.specs.declared.units.UnitSource as code
use Rattle.read_documents.specs.Broken.{has_standard}
use Rattle.document_units.specs.UnitsListed.{WritesProper, without_standard}

same_some : {A : Type 0} (o : Option A) → std.is_some o ≡ order.is_some o
same_some None = refl
same_some (Some a) = refl

pub standard_same : (spelled : LibraryName → List ℕ) → SpellsStandard spelled → (o : Option LibraryName) → has_standard (option_map spelled o) ≡ has_standard_name o
standard_same spelled is None = refl
standard_same spelled is (Some n) = same_some (names_of (spelled n)) ∙ ap (λ (o : Option (List (List ℕ))). order.is_some o) (by_name spelled is (spelled n) n refl)

-- a name's text tells whether it is standard, where it is proper
pub standard_told : (o : Option LibraryName) (name : Option (List ℕ)) → ((spelled : LibraryName → List ℕ) → WritesProper spelled → name ≡ option_map spelled o) → has_standard name ≡ has_standard_name o
standard_told o name is =
    let t = standard_texts.told in
    ap has_standard (is t.0 t.2) ∙ standard_same t.0 t.1 o

pub as_imported : (spelled : LibraryName → List ℕ) (o : Option LibraryName) (b : Bool) → has_standard_name o ≡ b → (name : Option (List ℕ)) → name ≡ option_map spelled o → cond b None name ≡ option_map spelled (unless_standard o)
as_imported spelled None true e name is = absurd cc
as_imported spelled None false e name is = is
as_imported spelled (Some n) true e name is = sym (ap (λ (b : Bool). option_map spelled (cond b None (Some n))) e)
as_imported spelled (Some n) false e name is = is ∙ sym (ap (λ (b : Bool). option_map spelled (cond b None (Some n))) e)

-- all but the name stays
pub same_forms : (c : code.UnitSource) → (without_standard c).forms ≡ c.forms
same_forms c = go (has_standard c.name)
  where
    go : (b : Bool) → (cond b (record c { name = None }) c).forms ≡ c.forms
    go true = refl
    go false = refl
