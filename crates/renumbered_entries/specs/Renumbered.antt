-- Entries under other numbers.
use Rattle.std.specs.Prelude.{◌≡◌, ℕ}
use Rattle.scheme_model.specs.Ident.{Ident}
use Rattle.scheme_model.specs.Trees.{Tree}
use Rattle.scheme_model.specs.RulesShape.{option_map}
use Rattle.scheme_model.specs.Questions.{Around}
use Rattle.syntax_tree.specs.declared.trees.Work.{Work}
use Rattle.syntax_tree.specs.declared.trees.table.Region.{Region}
use Rattle.core_tree.specs.declared.units.UnitForm.{UnitForm}
use Rattle.renumbering_laws.specs.Moving.{move_tree}
use Rattle.renumbering_laws.specs.Renumbering.{Renumbering, change}
use Rattle.renumbering_laws.specs.Asked.{new_macro}
use Rattle.renumbering_laws.specs.NewSurroundings.{HasOldNumbers, around_new}
use Rattle.kept_forms.specs.KeptForms.{KeptForm}
use Rattle.carried_laws.specs.Entries.{kept_as}
use Rattle.form_cache.specs.Entries.{Editions, IsEntry}
use Rattle.form_cache.specs.declared.entries.Entry.{Entry}

-- each edition is of the same rules, under the new numbers
abbrev pub EditionsMove : Renumbering → Editions → Editions → Type 0
EditionsMove r e f = (n : ℕ) → f n ≡ option_map (new_macro r) (e n)

-- the entry of a form, where the form, what is kept of it, and what was around it are under the new numbers
abbrev pub IsEntryUnder : (r : Renumbering) → HasOldNumbers r → Work → Region → Editions → (unit : ℕ) → ℕ × Tree Ident → Entry → UnitForm → KeptForm → (w u : Around) → Type 0
IsEntryUnder r back work region e unit n x f k w u =
    IsEntry work region e (r.unit unit) (r.form unit n.0, move_tree (change r) n.1) x f (kept_as r k) (around_new r back w) (around_new r back u)
