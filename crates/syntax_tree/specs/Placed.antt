-- Where trees stand, and identifiers with their places.
use Rattle.std.specs.Prelude.{◌≡◌, Option}
use Rattle.scheme_model.specs.declared.Occ.{Occ}
use Rattle.scheme_model.specs.Trees.{Tree, name, atom, list, vector}
use Rattle.scheme_model.specs.ExpansionFaults.{Named}
use Rattle.scheme_model.specs.Ident.{Ident as Identifier}
use Rattle.syntax_tree.specs.Names.{Names}
use Rattle.syntax_tree.specs.Macros.{IsIdent}
use Rattle.syntax_tree.specs.declared.rules.Named as code

-- where a tree stands, where it was read from a text
abbrev pub tree_place : Tree Identifier → Option Occ
tree_place (name i o) = o
tree_place (atom a o) = o
tree_place (list ts tail o) = o
tree_place (vector ts o) = o

-- the number of an identifier, with its place
abbrev pub IsNamed : Names → code.Named → Named Identifier → Type 0
IsNamed names n m = IsIdent names n.ident m.name × (n.occ ≡ m.occ)
