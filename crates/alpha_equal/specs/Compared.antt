-- What comparing points takes: which locals are partners, and which identifiers of templates are left out.
use Rattle.std.specs.Prelude.{◌≡◌, ℕ, Bool, false, Option, Some, None}
use Rattle.std.specs.BTreeSet.{BTreeSet, contains}
use Rattle.std.specs.Ordering.{nat_cmp, ordering_then}
use Rattle.std.specs.declared.cmp.Ordering.{Ordering}
use Rattle.scheme_model.specs.declared.Occ.{Occ}
use Rattle.scheme_model.specs.Identifiers.{Number}
use Rattle.rename_model.specs.SameProgram as same
use Rattle.program_leaves.specs.declared.sight.Sight.{Sight}
use Rattle.program_leaves.specs.Placed.{occ_cmp}
use Rattle.alpha_equal.specs.declared.compare.Partners.{Partners}

abbrev pub partners_cmp : Partners → Partners → Ordering
partners_cmp a b = ordering_then (nat_cmp a.old b.old) (nat_cmp a.new b.new)

-- a local of a form
abbrev pub local : (unit form : ℕ) → ℕ → Number
local unit form n = record { unit = unit; form = form; count = n }

-- the set has these partners, which are locals of a form
abbrev pub ArePartners : (unit form : ℕ) → BTreeSet Partners → same.Partners → Type 0
ArePartners unit form set ps = (a b : ℕ) → contains partners_cmp set (record { old = a; new = b }) ≡ same.are_partners ps (local unit form a) (local unit form b)

abbrev pub live_at : Sight → Option Occ → Bool
live_at s None = false
live_at s (Some o) = contains occ_cmp s.live o

-- a sight tells what is live; without one nothing is
abbrev pub TellsLive : Option Sight → (Option Occ → Bool) → Type 0
TellsLive None live = (o : Option Occ) → live o ≡ false
TellsLive (Some s) live = (o : Option Occ) → live o ≡ live_at s o
