use Rattle.std.proofs.Common.{List, length, sym, ◌∙◌, subst}
use Rattle.std.specs.Prelude.{ℕ, max}
use Rattle.std.specs.List.{flat_map}
use Rattle.scheme_model.specs.Program.{result_at}
use Rattle.rename_model.specs.SameProgram.{listed_stretches, unit_stretches}
use Rattle.core_tree.specs.Units.{UnitsStand}
use Rattle.core_tree.specs.declared.units.Unit.{Unit as CodeUnit}
use Rattle.program_differences.specs.Apart.{AreFound}
use Rattle.program_differences.specs.Exported.{changes_as}
use Rattle.program_differences.specs.Listed.{AreAlike}
use Rattle.program_differences.proofs.ApartLaws.{found_here, found_past}
use Rattle.program_differences.proofs.BothLaws.{not_some}
use Rattle.program_differences.proofs.difference.apart_in.Goals as goal

pub returns-then-is_some : goal.returns-then-is_some
returns-then-is_some c = λ text uris before after p q is_live tells distinct stand numbered given others live.
    let work = c.args.programs.now.work.now in
    let listed = listed_stretches p q 0 (max (length p.units) (length q.units)) in
    let rest = flat_map (λ (unit : ℕ). unit_stretches p q (changes_as c.args.changes.now) unit (result_at p.units unit) (result_at q.units unit)) c.args.reach.now in
    found_here work.symbols is_live listed rest c.listed_apart-listed.result (sym c.is_some.ensures ∙ c.if-is_some.true)
    (c.listed_apart-listed.ensures.first work text uris before after p q is_live tells distinct
    (subst (λ (us : List CodeUnit). UnitsStand work text uris before p 0 us p.units) (sym c.as_slice.ensures) stand.old)
    (subst (λ (us : List CodeUnit). UnitsStand work text uris after q 0 us q.units) (sym c.as_slice-2.ensures) stand.new))

pub units_apart-requires : goal.units_apart-requires
units_apart-requires c = record {
  stand = c.requires;
  alike = subst (λ (us : List CodeUnit). AreAlike us c.args.programs.now.new.now.units) c.as_slice.ensures
      (subst (AreAlike c.as_slice.result.now) c.as_slice-2.ensures (c.listed_apart-listed.ensures.alike (not_some c.listed_apart-listed.result (sym c.is_some.ensures ∙ c.if-is_some.false))));
}

pub returns : goal.returns
returns c = λ text uris before after p q is_live tells distinct stand numbered given others live.
    let work = c.args.programs.now.work.now in
    let listed = listed_stretches p q 0 (max (length p.units) (length q.units)) in
    let rest = flat_map (λ (unit : ℕ). unit_stretches p q (changes_as c.args.changes.now) unit (result_at p.units unit) (result_at q.units unit)) c.args.reach.now in
    let past = found_past work.symbols is_live listed rest c.listed_apart-listed.result (sym c.is_some.ensures ∙ c.if-is_some.false)
    (c.listed_apart-listed.ensures.first work text uris before after p q is_live tells distinct
    (subst (λ (us : List CodeUnit). UnitsStand work text uris before p 0 us p.units) (sym c.as_slice.ensures) stand.old)
    (subst (λ (us : List CodeUnit). UnitsStand work text uris after q 0 us q.units) (sym c.as_slice-2.ensures) stand.new)) in
    subst (AreFound work.symbols _) (sym past) (c.in_ok-units_apart.ensures text uris before after p q is_live stand numbered given others live)
