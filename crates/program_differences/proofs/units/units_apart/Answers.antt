use Rattle.std.proofs.Common.{ℕ, false, true, List, None, ◌+◌, drop, get_or, sym, ◌∙◌, subst, arith}
use Rattle.std.specs.List.{flat_map}
use Rattle.std.proofs.lemmas.List.{at_drop_more, at_drop_all}
use Rattle.scheme_model.specs.Program.{result_at}
use Rattle.rename_model.specs.SameProgram.{Stretch, unit_stretches}
use Rattle.rename_model.specs.Difference.{first_among}
use Rattle.program_differences.specs.Apart.{AreFound, FindsFirst}
use Rattle.program_differences.specs.Exported.{changes_as}
use Rattle.program_differences.proofs.ApartLaws.{found_here, found_past}
use Rattle.program_differences.proofs.units.units_apart.Goals as goal

pub returns-then-is_some : goal.returns-then-is_some
returns-then-is_some c = λ text uris before after p q is_live stand numbered given others tells.
    let names = c.args.programs.now.work.now.symbols in
    let reach = c.args.reach.now in
    let k = c.loop-place.place-index in
    let each : ℕ → List Stretch = λ unit. unit_stretches p q (changes_as c.args.changes.now) unit (result_at p.units unit) (result_at q.units unit) in
    let here : FindsFirst names is_live (each (get_or reach k 0)) c.in_ok-found.found = c.in_ok-found.ensures text uris before after p q is_live stand numbered given others tells in
    let first = found_here names is_live (each (get_or reach k 0)) (flat_map each (drop (k + 1) reach)) _ (sym c.is_some.ensures ∙ c.if-is_some.true) here in
    subst (AreFound names _) (sym (at_drop_more (λ (ns : List ℕ). first_among is_live (flat_map each ns)) reach k 0 (omega arith)) ∙ c.loop-place.invariant text uris before after p q is_live stand numbered given others tells) first

pub loop-place-preserved : goal.loop-place-preserved
loop-place-preserved c = λ text uris before after p q is_live stand numbered given others tells.
    let names = c.args.programs.now.work.now.symbols in
    let reach = c.args.reach.now in
    let k = c.loop-place.place-index in
    let each : ℕ → List Stretch = λ unit. unit_stretches p q (changes_as c.args.changes.now) unit (result_at p.units unit) (result_at q.units unit) in
    let here : FindsFirst names is_live (each (get_or reach k 0)) c.in_ok-found.found = c.in_ok-found.ensures text uris before after p q is_live stand numbered given others tells in
    sym (at_drop_more (λ (ns : List ℕ). first_among is_live (flat_map each ns)) reach k 0 (omega arith) ∙ found_past names is_live (each (get_or reach k 0)) (flat_map each (drop (k + 1) reach)) _ (sym c.is_some.ensures ∙ c.if-is_some.false) here)
    ∙ c.loop-place.invariant text uris before after p q is_live stand numbered given others tells

pub returns : goal.returns
returns c = λ text uris before after p q is_live stand numbered given others tells.
    let names = c.args.programs.now.work.now.symbols in
    let reach = c.args.reach.now in
    let each : ℕ → List Stretch = λ unit. unit_stretches p q (changes_as c.args.changes.now) unit (result_at p.units unit) (result_at q.units unit) in
    subst (AreFound names None) (sym (at_drop_all (λ (ns : List ℕ). first_among is_live (flat_map each ns)) reach c.loop-place.place-index (omega arith)) ∙ c.loop-place.invariant text uris before after p q is_live stand numbered given others tells) tt
