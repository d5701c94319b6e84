-- Entries that are put together one by one.
use Rattle.std.specs.Prelude.{◌≡◌, ℕ, List, [], ◌∷◌, map, reverse, Bool, false, Option}
use Rattle.std.specs.List.{list_any}
use Rattle.std.specs.Str.{bytes_eq}
use Rattle.scheme_model.specs.declared.Occ.{Occ}
use Rattle.scheme_model.specs.Entries as model
use Rattle.syntax_tree.specs.Names.{Names}
use Rattle.syntax_tree.specs.Meant.{AreEntries}
use Rattle.import_sets.specs.Given.{finished, Gathered}
use Rattle.syntax_tree.specs.declared.units.Origin.{Origin}
use Rattle.import_sets.specs.declared.gather.Group.{Group}

abbrev pub has_group : List Group → List ℕ → Bool
has_group gs s = list_any (λ (g : Group). bytes_eq g.entry.name s) gs

-- each name stands once
abbrev pub AreApart : List Group → Type 0
AreApart [] = Unit {0}
AreApart (g ∷ gs) = (has_group gs g.entry.name ≡ false) × AreApart gs

-- what is put together stands for some entries
abbrev pub GroupsMean : Names → List Group → Type 0
GroupsMean names gs = (ds : List model.Entry) × AreEntries names (map finished gs) ds

-- what is put together stands for these entries
abbrev pub GroupsStand : Names → List Group → List model.Entry → Type 0
GroupsStand names gs es = AreEntries names (map finished gs) es

-- what was put together, and the names that clashed, the latest first
pub record GatheredAs (names : Names) (g : Gathered) (p : List model.Entry × List (List ℕ)) : Type 0 where
  pub groups : GroupsStand names g.groups p.0
  pub clashes : reverse g.clashes ≡ p.1

-- an origin without a prefix
abbrev pub plain_origin : Option Occ → List Origin
plain_origin o = record { occ = o; prefix = [] } ∷ []
