-- The arrows of the units of a program under other numbers, units in the same order.
use Rattle.std.proofs.Common.{◌≡◌, List, [], ◌∷◌, map, refl, ap, ◌∙◌}
use Rattle.scheme_model.specs.Substitution.{Table}
use Rattle.scheme_model.specs.Live.{unit_leaves, keyword_targets, NameUse}
use Rattle.scheme_model.specs.Program.{UnitResult}
use Rattle.scheme_model.specs.ProgramArrows.{program_leaves, program_keywords, arrows_with}
use Rattle.scheme_model.proofs.RenamingLaws.{append_map}
use Rattle.renumbering_laws.specs.Renumbering.{Renumbering, IsOneToOne, target}
use Rattle.renumbering_laws.specs.States.{TablesMove}
use Rattle.renumbering_laws.specs.Arrows.{leaf_as, name_use_as, arrow_as, UnitsMove}
use Rattle.renumbering_laws.proofs.ArrowLaws.{unit_leaves_moved, keywords_moved, arrows_renumbered}

module _ (r : Renumbering) (o : IsOneToOne r) where
  leaves_moved : (us us' : List UnitResult) → UnitsMove r us us' → program_leaves us' ≡ map (leaf_as r) (program_leaves us)
  leaves_moved [] [] h = refl
  leaves_moved [] (v ∷ vs) h = absurd h
  leaves_moved (u ∷ us) [] h = absurd h
  leaves_moved (u ∷ us) (v ∷ vs) h = append_map (leaf_as r) (unit_leaves u.forms) (program_leaves us) (ap unit_leaves h.0 ∙ unit_leaves_moved r u.unit.number u.forms) (leaves_moved us vs h.1)

  program_keywords_moved : (us us' : List UnitResult) → UnitsMove r us us' → program_keywords us' ≡ map (target r) (program_keywords us)
  program_keywords_moved [] [] h = refl
  program_keywords_moved [] (v ∷ vs) h = absurd h
  program_keywords_moved (u ∷ us) [] h = absurd h
  program_keywords_moved (u ∷ us) (v ∷ vs) h = append_map (target r) (keyword_targets u.forms) (program_keywords us) (ap keyword_targets h.0 ∙ keywords_moved r u.unit.number u.forms) (program_keywords_moved us vs h.1)

  pub program_arrows_renumbered : (us us' : List UnitResult) → UnitsMove r us us' → (ns ns' : List NameUse) → ns' ≡ map (name_use_as r) ns → (table table' : Table) → TablesMove r table table'
      → arrows_with (program_leaves us') (program_keywords us') ns' table' ≡ map (arrow_as r) (arrows_with (program_leaves us) (program_keywords us) ns table)
  program_arrows_renumbered us us' h ns ns' e table table' l =
      (let a = leaves_moved us us' h in let b = program_keywords_moved us us' h in λ j. arrows_with (a j) (b j) (e j) table') ∙ arrows_renumbered r o (program_leaves us) (program_keywords us) ns table table' l
