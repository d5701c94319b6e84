-- Which units are in reach, by a mark for each.
use Rattle.std.specs.Prelude.{◌≡◌, ℕ, zero, suc, ◌+◌, ◌-◌, ◌==◌, nat_le, nat_lt, List, [], ◌∷◌, Bool, true, false, not, ◌||◌, ◌&&◌, if◌then◌else◌}
use Rattle.std.specs.List.{list_any}
use Rattle.std.specs.List.Sorted.{IsPermutation, IsSorted}
use Rattle.scheme_model.specs.declared.Occ.{Occ}
use Rattle.scheme_model.specs.Declarations.{is_part_kind}
use Rattle.scheme_model.specs.Includes.{max_units}
use Rattle.scheme_model.specs.Program.{UnitResult, is_in}
use Rattle.rename_model.specs.Reach.{imports_of}
use Rattle.core_tree.specs.Units.{kind_as, ranges_from}
use Rattle.core_tree.specs.declared.units.TokenRange.{TokenRange}
use Rattle.core_tree.specs.declared.units.Unit.{Unit as CodeUnit}
use Rattle.program_leaves.specs.Placed.{occ_cmp}

-- the mark of a unit; behind the last there is none
abbrev pub marked : List Bool → ℕ → Bool
marked [] n = false
marked (b ∷ bs) zero = b
marked (b ∷ bs) (suc n) = marked bs n

-- one unit more
abbrev pub with_mark : List Bool → ℕ → List Bool
with_mark [] n = []
with_mark (b ∷ bs) zero = true ∷ bs
with_mark (b ∷ bs) (suc n) = b ∷ with_mark bs n

-- ---- units that hold an occurrence

-- the same occurrences, by unit, form and token
pub record AreInOrder (os ps : List Occ) : Type 0 where
  pub sorted : IsSorted occ_cmp ps
  pub same : IsPermutation os ps

-- an occurrence is that of a token in a range
abbrev pub range_holds : TokenRange → Occ → Bool
range_holds t o = t.home.unit == o.unit && (t.home.form == o.form && (nat_le t.first (t.home.first + o.token) && nat_le (t.home.first + o.token) t.last))

-- none before this one is
abbrev pub least_held : TokenRange → Occ
least_held t = record { unit = t.home.unit; form = t.home.form; token = t.first - t.home.first }

-- a unit that is no part has a token of one of these
abbrev pub unit_holds : List Occ → CodeUnit → Bool
unit_holds os c = not (is_part_kind (kind_as c.kind)) && list_any (λ t. list_any (range_holds t) os) c.ranges.items

abbrev pub with_holder : List Occ → ℕ → CodeUnit → List Bool → List Bool
with_holder os n c bs = if nat_lt n max_units && unit_holds os c then with_mark bs n else bs

-- those from a place on that hold one, in order
abbrev pub with_holders : List Occ → ℕ → List CodeUnit → List Bool → List Bool
with_holders os n [] bs = bs
with_holders os n (c ∷ cs) bs = with_holders os (suc n) cs (with_holder os n c bs)

-- ---- units that import them

abbrev pub one_marked : List Bool → List ℕ → Bool
one_marked bs [] = false
one_marked bs (n ∷ ns) = marked bs n || one_marked bs ns

-- those from a place on that import one, in order
abbrev pub with_importers : ℕ → List CodeUnit → List Bool → List Bool
with_importers n [] bs = bs
with_importers n (u ∷ us) bs = with_importers (suc n) us (if one_marked bs u.imports then with_mark bs n else bs)

-- those in so many rounds
abbrev pub in_rounds : ℕ → List CodeUnit → List Bool → List Bool
in_rounds zero us bs = bs
in_rounds (suc n) us bs = in_rounds n us (with_importers 0 us bs)

-- the places that are marked, from a number on
abbrev pub marks_from : ℕ → List Bool → List ℕ
marks_from n [] = []
marks_from n (b ∷ bs) = if b then n ∷ marks_from (suc n) bs else marks_from (suc n) bs

-- the marks are those of these units
abbrev pub Marks : List Bool → List ℕ → Type 0
Marks bs ns = (n : ℕ) → marked bs n ≡ is_in n ns

-- units of the code with their numbers and kinds, the tokens of their forms, and what they import
pub record HasImports (place : ℕ) (c : CodeUnit) (r : UnitResult) : Type 0 where
  pub number : r.unit.number ≡ place
  pub kind : kind_as c.kind ≡ r.unit.placed.source.kind
  pub ranges : c.ranges.items ≡ ranges_from place 0 r.unit.forms
  pub imports : c.imports ≡ imports_of r

abbrev pub HaveImports : ℕ → List CodeUnit → List UnitResult → Type 0
HaveImports place [] [] = Unit {0}
HaveImports place [] (r ∷ rs) = ⊥
HaveImports place (c ∷ cs) [] = ⊥
HaveImports place (c ∷ cs) (r ∷ rs) = HasImports place c r × HaveImports (suc place) cs rs
