-- What forms left in their units, under other numbers: places and meanings change, and numbers in tables, trees and editions stay.
use Rattle.std.specs.Prelude.{List, map}
use Rattle.scheme_model.specs.Order.{Note}
use Rattle.scheme_model.specs.ScopedExpansion.{FramedIdent}
use Rattle.syntax_tree.specs.declared.trees.Work.{Work}
use Rattle.rules_check.specs.declared.leaf.RuleLeaf.{RuleLeaf}
use Rattle.form_notes.specs.Noted.{Noted, Since}
use Rattle.renumbering_laws.specs.Renumbering.{Renumbering, IsOneToOne, place}
use Rattle.renumbering_laws.specs.Asked.{new_note}
use Rattle.moves.specs.Works.{WorkMoves}
use Rattle.moved_numbers.specs.Notes.{noted_as, SinceMoves}
use Rattle.declared_parts.specs.Parts.{IsPart}
use Rattle.declared_parts.specs.declared.parts.DeclaredPart.{DeclaredPart}
use Rattle.declared_parts.specs.declared.parts.KeptMacro.{KeptMacro}

-- ---- what becomes of the code's values

abbrev pub leaf_as : Renumbering → RuleLeaf → RuleLeaf
leaf_as r l = record l { name = record l.name { occ = place r l.name.occ } }

abbrev pub kept_as : Renumbering → KeptMacro → KeptMacro
kept_as r k = record k { leaves = map (leaf_as r) k.leaves }

-- ---- what it stands for

-- whatever the first stood for, the second stands for what becomes of that, where numbers that differ stay so
abbrev pub PartStands : Renumbering → DeclaredPart → DeclaredPart → Type 0
PartStands r x y =
    IsOneToOne r → (old new : Work) (s t : Since) (own : List (Note FramedIdent)) (ms : List Noted) → WorkMoves r old new → SinceMoves r s t → IsPart old s x own ms →
    IsPart new t y (map (new_note r) own) (map (noted_as r) ms)
