-- Works under other numbers.
use Rattle.std.specs.Prelude.{◌≡◌, ℕ, map}
use Rattle.std.specs.Option.{option_map}
use Rattle.std.specs.FinMap as finite
use Rattle.syntax_tree.specs.Names.{Names}
use Rattle.syntax_tree.specs.Nodes.{Lived}
use Rattle.syntax_tree.specs.NodePlaces.{place_in, placed_at}
use Rattle.syntax_tree.specs.Regions.{Forest}
use Rattle.syntax_tree.specs.declared.trees.Work.{Work}
use Rattle.renumbering_laws.specs.Renumbering.{Renumbering, place, ident}

-- a node that lives, at its place under the new numbers
abbrev pub lived_as : Renumbering → Lived → Lived
lived_as r l = record l { node = placed_at (place r (place_in l.node)) l.node }

-- the same symbols, and each identifier at its place under its new numbers
pub record NamesMove (r : Renumbering) (old new : Names) : Type 0 where
  pub symbols : new.symbols ≡ old.symbols
  pub idents : new.idents ≡ map (ident r) old.idents

-- each node that lives is at its new place, and all else is as it was
pub record TreesMove (r : Renumbering) (old new : Forest) : Type 0 where
  pub nodes : (n : ℕ) → finite.get new.nodes n ≡ option_map (lived_as r) (finite.get old.nodes n)
  pub identity : new.identity ≡ old.identity
  pub regions : new.regions ≡ old.regions
  pub counts : new.counts ≡ old.counts
  pub spare : new.spare ≡ old.spare

pub record WorkMoves (r : Renumbering) (old new : Work) : Type 0 where
  pub trees : TreesMove r old.trees new.trees
  pub names : NamesMove r old.symbols new.symbols
