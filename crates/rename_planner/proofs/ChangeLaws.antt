-- The exports that are to change are those of the definition.
use Rattle.std.proofs.Common.{◌≡◌, ℕ, zero, suc, ◌+◌, ◌-◌, ◌==◌, ◌<◌, List, [], ◌∷◌, ◌++◌, map, filter, length, Bool, true, false, Option, Some, None, cond, slice_get, get_or, refl, sym, ap, ◌∙◌, subst, arith, append_assoc}
use Rattle.std.specs.Prelude.{nat_lt, ◌||◌}
use Rattle.std.specs.List.{flat_map}
use Rattle.std.proofs.lemmas.List.{length-append}
use Rattle.std.proofs.lemmas.List.Concat.{flat_map-cons}
use Rattle.std.proofs.lemmas.Bool.Decides.{nat_tests}
use Rattle.scheme_model.specs.declared.Occ.{Occ}
use Rattle.scheme_model.specs.Entries.{Entry, same_occ}
use Rattle.scheme_model.specs.Live.{NameUse}
use Rattle.scheme_model.specs.IncludedUnits.{Placed}
use Rattle.scheme_model.specs.Program.{Program, UnitResult, result_at}
use Rattle.scheme_model.specs.Requirements.{LibraryName}
use Rattle.scheme_model.specs.Spelling.{Link, class_of, is_member}
use Rattle.rename_model.specs.SameProgram.{ExportChange, external_occ}
use Rattle.syntax_tree.specs.Meant.{AreEntries}
use Rattle.syntax_tree.specs.Names.{Names}
use Rattle.syntax_tree.specs.declared.trees.Work.{Work}
use Rattle.syntax_tree.specs.declared.units.Entry as code_entry
use Rattle.core_tree.specs.Units.{UnitStands, UnitsStand}
use Rattle.core_tree.specs.declared.units.NameUse as code_name
use Rattle.core_tree.specs.declared.units.Unit.{Unit as CodeUnit}
use Rattle.program_leaves.proofs.KeyLaws.{one_occ}
use Rattle.program_differences.specs.Exported.{AreGiven, ExportsAreGiven}
use Rattle.program_differences.proofs.ExportLaws.{NamedAt, named_at as named_from_end}
use Rattle.text_edits.specs.Members.{is_part, member_of, members_of, name_of}
use Rattle.rename_conditions.specs.Opened.{Opened, class_in, export_change, export_changes}
use Rattle.rename_planner.specs.Changes.{all_changes, change_to, change_told, changes_among, named_at, occ_from_end, place_in, unit_changes}
use Rattle.rename_planner.proofs.ErrorLaws.{at_number}

-- ---- the new name of a member

abbrev as_member : Bool → List ℕ → Option (List ℕ)
as_member true s = Some s
as_member false s = None

named_among : (ls : List Link) (stem : List ℕ) (ms : List Occ) (p : Occ) → name_of (map (member_of ls stem) ms) p ≡ as_member (is_member ms p) (member_of ls stem p).name
named_among ls stem [] p = refl
named_among ls stem (m ∷ ms) p = go (named_among ls stem ms p) (same_occ m p) refl
  where
    go : name_of (map (member_of ls stem) ms) p ≡ as_member (is_member ms p) (member_of ls stem p).name → (b : Bool) → same_occ m p ≡ b → cond b (Some (member_of ls stem m).name) (name_of (map (member_of ls stem) ms) p) ≡ as_member (b || is_member ms p) (member_of ls stem p).name
    go rest true e = ap (λ (x : Occ). Some (member_of ls stem x).name) (one_occ m p e)
    go rest false e = rest

-- ---- where an external name stands

within : (a b : ℕ) → nat_lt (a + suc b) (suc b) ≡ false
within a b = grind (arith, nat_tests)

not_zero : (b : ℕ) → (suc b == 0) ≡ false
not_zero b = grind (arith, nat_tests)

at_seam : {X : Type 0} (xs : List X) (y : X) (zs : List X) → slice_get (xs ++ y ∷ zs) (length xs) ≡ Some y
at_seam [] y zs = refl
at_seam (x ∷ xs) y zs = at_seam xs y zs

from_end : (ns front : List code_name.NameUse) (n : code_name.NameUse) (last : List code_name.NameUse) → ns ≡ front ++ n ∷ last → occ_from_end ns (suc (length last)) ≡ n.target.occ
from_end ns front n last e = ap (λ (xs : List code_name.NameUse). occ_from_end xs (suc (length last))) e ∙ there
  where
    count : length (front ++ n ∷ last) ≡ length front + suc (length last)
    count = length-append front (n ∷ last)

    left : length (front ++ n ∷ last) - suc (length last) ≡ length front
    left = omega (arith, count)

    there : occ_from_end (front ++ n ∷ last) (suc (length last)) ≡ n.target.occ
    there =
        ap (λ (b : Bool). cond b None (place_in (slice_get (front ++ n ∷ last) (length (front ++ n ∷ last) - suc (length last)))))
        ((λ j. not_zero (length last) j || (ap (λ k. nat_lt k (suc (length last))) count ∙ within (length front) (length last)) j))
        ∙ ap (λ k. place_in (slice_get (front ++ n ∷ last) k)) left ∙ ap place_in (at_seam front n last)

end_of : (ns : List code_name.NameUse) (place : Option Occ) (behind k : ℕ) → behind ≡ suc k → NamedAt ns place behind → occ_from_end ns (suc k) ≡ place
end_of ns place behind k e at =
    let same : suc k ≡ suc (length at.last) = sym e ∙ at.count in ap (occ_from_end ns) same ∙ from_end ns at.front at.it at.last at.parted ∙ at.stands

-- ---- one unit

module _ (w : Opened) (o : Occ) (stem : List ℕ) (name : Occ → Option (List ℕ)) (named : (p : Occ) → name p ≡ name_of (members_of w.links stem o) p) where
  abbrev told_at : UnitResult → Entry → Option Occ → List ExportChange
  told_at r e None = []
  told_at r e (Some p) = cond (is_member (class_in w o) p) (record { unit = r.unit.number; old = e.name; new = (member_of w.links stem p).name } ∷ []) []

  change_is : (r : UnitResult) (e : Entry) → export_change w o stem r e ≡ told_at r e (external_occ r.unit.exports e.name)
  change_is r e = refl

  told_so : (r : UnitResult) (unit : ℕ) (old : List ℕ) (e : Entry) (at : Option Occ) → unit ≡ r.unit.number → old ≡ e.name → change_told name unit old at ≡ told_at r e at
  told_so r unit old e None n t = refl
  told_so r unit old e (Some p) n t = ap (change_to unit old) (named p ∙ named_among w.links stem (class_in w o) p) ∙ go (is_member (class_in w o) p)
    where
      go : (b : Bool) → change_to unit old (as_member b (member_of w.links stem p).name) ≡ cond b (record { unit = r.unit.number; old = e.name; new = (member_of w.links stem p).name } ∷ []) []
      go true = λ j. record { unit = n j; old = t j; new = (member_of w.links stem p).name } ∷ []
      go false = refl

  as_many : (names : Names) (es : List code_entry.Entry) (ds : List Entry) → AreEntries names es ds → length ds ≡ length es
  as_many names [] [] h = refl
  as_many names [] (d ∷ ds) h = absurd h
  as_many names (x ∷ es) [] h = absurd h
  as_many names (x ∷ es) (d ∷ ds) h = ap suc (as_many names es ds h.1)

  at_place : (before : List Entry) (d : Entry) (ds : List Entry) → get_or (before ++ d ∷ ds) (length before) d ≡ d
  at_place [] d ds = refl
  at_place (b ∷ before) d ds = at_place before d ds

  module _ (r : UnitResult) (unit : ℕ) (ns : List code_name.NameUse) (names : Names) (number : unit ≡ r.unit.number)
      (at : (k : ℕ) (d : Entry) → k < length r.exports → NamedAt ns (external_occ r.unit.exports (get_or r.exports k d).name) (length r.exports - k)) where
    exports_changed : (before : List Entry) (es : List code_entry.Entry) (ds : List Entry) → r.exports ≡ before ++ ds → AreEntries names es ds → changes_among name unit ns es ≡ flat_map (export_change w o stem r) ds
    exports_changed before [] [] e h = refl
    exports_changed before [] (d ∷ ds) e h = absurd h
    exports_changed before (x ∷ es) [] e h = absurd h
    exports_changed before (x ∷ es) (d ∷ ds) e h =
        let count : length r.exports ≡ length before + suc (length ds) = ap (λ (ys : List Entry). length ys) e ∙ length-append before (d ∷ ds) in
        let many = as_many names es ds h.1 in
        let it = at (length before) d (omega (arith, count)) in
        let same : get_or r.exports (length before) d ≡ d = ap (λ (ys : List Entry). get_or ys (length before) d) e ∙ at_place before d ds in
        let place : occ_from_end ns (suc (length es)) ≡ external_occ r.unit.exports d.name =
        end_of ns (external_occ r.unit.exports (get_or r.exports (length before) d).name) (length r.exports - length before) (length es) (omega (arith, count, many)) it
        ∙ ap (λ (y : Entry). external_occ r.unit.exports y.name) same in
        let first : change_told name unit x.name (occ_from_end ns (suc (length es))) ≡ export_change w o stem r d =
        told_so r unit x.name d (occ_from_end ns (suc (length es))) number h.0.name ∙ ap (told_at r d) place in
        let rest = exports_changed (before ++ d ∷ []) es ds (e ∙ sym (append_assoc before (d ∷ []) ds)) h.1 in
        (λ j. first j ++ rest j) ∙ sym (flat_map-cons (export_change w o stem r) d ds)

  -- ---- all units

  module _ (work : Work) (text : LibraryName → List ℕ) (uris : List (List ℕ)) (all : List Placed) (p : Program) where
    units_changed : (k : ℕ) (cs : List CodeUnit) (us : List UnitResult) → UnitsStand work text uris all p k cs us → ((n : ℕ) (r : UnitResult) → slice_get us n ≡ Some r → AreGiven p r) →
        all_changes name k cs ≡ flat_map (λ (r : UnitResult). flat_map (export_change w o stem r) r.exports) us
    units_changed k [] [] h given = refl
    units_changed k [] (r ∷ us) h given = absurd h
    units_changed k (c ∷ cs) [] h given = absurd h
    units_changed k (c ∷ cs) (r ∷ us) h given =
        let one : unit_changes name k c ≡ flat_map (export_change w o stem r) r.exports =
        exports_changed r k c.names work.symbols (sym h.0.number) (λ i d lt. named_from_end work.symbols k c.names _ p.table r i d h.0.names (given 0 r refl) lt) [] c.exports r.exports refl h.0.exports in
        let rest = units_changed (suc k) cs us h.1 (λ n q there. given (suc n) q there) in
        (λ j. one j ++ rest j) ∙ sym (flat_map-cons (λ (r : UnitResult). flat_map (export_change w o stem r) r.exports) r us)

    -- of a program whose exports are given
    pub changes_same : (cs : List CodeUnit) → w.program ≡ p → UnitsStand work text uris all p 0 cs p.units → ExportsAreGiven p → all_changes name 0 cs ≡ export_changes w o stem
    changes_same cs e h given =
        units_changed 0 cs p.units h (λ n r there. given n r (at_number work text uris all p n cs p.units h ∙ there))
        ∙ ap (λ (q : Program). flat_map (λ (r : UnitResult). flat_map (export_change w o stem r) r.exports) q.units) (sym e)
