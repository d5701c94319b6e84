-- The first place at which two programs aren't the same, and what stands there before and after.
use Rattle.std.specs.Prelude.{ℕ, List, [], ◌∷◌, ◌++◌, Bool, true, false, Option, Some, None, if◌then◌else◌}
use Rattle.scheme_model.specs.declared.Occ.{Occ}
use Rattle.scheme_model.specs.Meaning.{Meaning, Local, Global, Standard, Free}
use Rattle.scheme_model.specs.IncludedUnits.{Placed}
use Rattle.scheme_model.specs.Program.{Program}
use Rattle.scheme_model.specs.ProgramArrows.{binder_of, program_leaves, program_table}
use Rattle.scheme_model.specs.Spelling.{is_member}
use Rattle.rename_model.specs.Walks.{Spot, AtUse, AtQuoted, AtRule, AtTemplate, AtExport, AtErrors, AtShape, Shown, ShowsNothing, ShowsSymbol, ShowsMeaning, ShowsPlace, Point}
use Rattle.rename_model.specs.Reach.{in_reach}
use Rattle.rename_model.specs.SameProgram.{Partners, points_agree, paired, Stretch, ExportChange, Plan, stretches, live_in}

-- ---- two points apart

-- a point that only one program has is told as one of shape
abbrev pub alone : Point → Point
alone p = record { spot = AtShape; seen = p.seen; occ = None; shown = ShowsNothing }

-- the first two that don't agree
abbrev pub first_apart : (Option Occ → Bool) → Partners → List Point → List Point → Option (Point × Point)
first_apart live ps [] [] = None
first_apart live ps [] (n ∷ ns) = Some (alone n, alone n)
first_apart live ps (o ∷ os) [] = Some (alone o, alone o)
first_apart live ps (o ∷ os) (n ∷ ns) =
    if points_agree live ps o n then first_apart live (paired o.seen n.seen ++ ps) os ns else Some (o, n)

-- two points with the form of a unit that they stand in
pub record Apart : Type 0 where
  pub unit : ℕ
  pub form : ℕ
  pub old : Point
  pub new : Point

abbrev pub apart_in : Stretch → Option (Point × Point) → Option Apart → Option Apart
apart_in s None rest = rest
apart_in s (Some p) rest = Some (record { unit = s.unit; form = s.form; old = p.0; new = p.1 })

abbrev pub first_among : (Option Occ → Bool) → List Stretch → Option Apart
first_among live [] = None
first_among live (s ∷ ss) = apart_in s (first_apart live [] s.old s.new) (first_among live ss)

-- ---- what is told of them

-- a meaning that changed at an occurrence that is renamed, or at another; a quoted symbol; the rules of a macro; an export; the
-- shape; an Error of the new program
pub data Kind : Type 0 where
  IsCaptured : Kind
  IsShadowed : Kind
  IsQuoted : Kind
  IsTemplate : Kind
  IsExport : Kind
  IsStructure : Kind
  IsBroken : Kind

abbrev pub is_renamed : List Occ → Option Occ → Bool
is_renamed ms None = false
is_renamed ms (Some o) = is_member ms o

abbrev pub use_kind : Bool → Kind
use_kind true = IsCaptured
use_kind false = IsShadowed

abbrev pub kind_of : (members : List Occ) → Spot → Option Occ → Kind
kind_of members AtUse o = use_kind (is_renamed members o)
kind_of members AtQuoted o = IsQuoted
kind_of members AtRule o = IsTemplate
kind_of members AtTemplate o = IsTemplate
kind_of members AtExport o = IsExport
kind_of members AtErrors o = IsBroken
kind_of members AtShape o = IsStructure

-- one side: where what binds the name stands, a standard name, an unbound one, a symbol, or nothing
pub data Side : Type 0 where
  AtBinder : Occ → Side
  OfStandard : List ℕ → Side
  OfUnbound : List ℕ → Side
  OfSymbol : List ℕ → Side
  OfNothing : Side

abbrev pub binder_side : Option Occ → Side
binder_side None = OfNothing
binder_side (Some o) = AtBinder o

abbrev pub meaning_side : (Meaning → Option Occ) → Meaning → Side
meaning_side binder (Local v) = binder_side (binder (Local v))
meaning_side binder (Global u i) = binder_side (binder (Global u i))
meaning_side binder (Standard s) = OfStandard s
meaning_side binder (Free s) = OfUnbound s

abbrev pub side_of : (Meaning → Option Occ) → Shown → Side
side_of binder ShowsNothing = OfNothing
side_of binder (ShowsSymbol s) = OfSymbol s
side_of binder (ShowsMeaning m) = meaning_side binder m
side_of binder (ShowsPlace o) = binder_side o

pub record Difference : Type 0 where
  pub kind : Kind
  pub unit : ℕ
  pub form : ℕ
  pub occ : Option Occ
  pub before : Side
  pub after : Side

-- where what binds a meaning stands in a program
abbrev pub binders_of : Program → Meaning → Option Occ
binders_of p m = binder_of (program_leaves p.units) (program_table p) m

-- kind and place are those of the old program
abbrev pub difference : (old new : Program) → (members : List Occ) → Apart → Difference
difference old new members a = record {
  kind = kind_of members a.old.spot a.old.occ;
  unit = a.unit;
  form = a.form;
  occ = a.old.occ;
  before = side_of (binders_of old) a.old.shown;
  after = side_of (binders_of new) a.new.shown;
}

abbrev pub option_difference : (old new : Program) → (members : List Occ) → Option Apart → Option Difference
option_difference old new members None = None
option_difference old new members (Some a) = Some (difference old new members a)

-- the first difference in these units
abbrev pub difference_in : List Placed → (old new : Program) → Plan → (reach : List ℕ) → Option Difference
difference_in all old new plan reach =
    option_difference old new plan.members (first_among (live_in all old) (stretches old new plan.exports reach))

-- the first difference in the units in reach of what is renamed
abbrev pub first_difference : List Placed → (old new : Program) → Plan → Option Difference
first_difference all old new plan = difference_in all old new plan (in_reach old.units plan.members)
