-- What binders, targets and other leaves of cores become under other numbers: their meanings and places change, and numbers in tables stay.
use Rattle.core_tree.specs.declared.cores.Binder.{Binder}
use Rattle.core_tree.specs.declared.cores.Target.{Target}
use Rattle.core_tree.specs.declared.cores.RuleLeaf.{RuleLeaf}
use Rattle.core_tree.specs.declared.cores.FieldUse.{FieldUse}
use Rattle.renumbering_laws.specs.Renumbering.{Renumbering, place}
use Rattle.moves.specs.Numbers.{meaning_as}

abbrev pub binder_as : Renumbering → Binder → Binder
binder_as r b = record b { occ = place r b.occ }

abbrev pub target_as : Renumbering → Target → Target
target_as r t = record t { meaning = meaning_as r t.meaning; occ = place r t.occ }

abbrev pub leaf_as : Renumbering → RuleLeaf → RuleLeaf
leaf_as r l = record l { target = target_as r l.target }

abbrev pub field_as : Renumbering → FieldUse → FieldUse
field_as r u = record u { occ = place r u.occ }
