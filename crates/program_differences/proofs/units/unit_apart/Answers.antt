use Rattle.std.proofs.Common.{◌++◌, [], ◌∷◌, map, sym, ap, ◌∙◌, subst}
use Rattle.std.specs.Prelude.{Some, max}
use Rattle.scheme_model.specs.ProgramArrows.{program_table}
use Rattle.rename_model.specs.SameProgram.{Stretch, stretch, error_stretch, form_stretches, form_count, exports_at, name_asked}
use Rattle.rename_model.specs.Difference.{first_among}
use Rattle.core_tree.specs.Units.{error_as}
use Rattle.program_differences.specs.Apart.{at_form, AreFound}
use Rattle.program_differences.specs.Exported.{changes_as}
use Rattle.program_differences.proofs.ApartLaws.{found_here, found_past, pair_found}
use Rattle.program_differences.proofs.units.unit_apart.Goals as goal

pub returns-then-is_some : goal.returns-then-is_some
returns-then-is_some c = λ text uris before after p q r s is_live stand numbered given others tells.
    let names = c.args.programs.now.work.now.symbols in
    let unit = c.args.both.place in
    let forms = form_stretches (program_table p) (program_table q) unit (Some r) (Some s) 0 (max (form_count (Some r)) (form_count (Some s))) in
    let last = stretch unit 0 (exports_at (program_table p) (name_asked (changes_as c.args.changes.now) unit) (Some r)) (exports_at (program_table q) (λ t. t) (Some s)) ∷ [] in
    found_here names is_live (error_stretch unit (Some s) ∷ []) (forms ++ last) c.error_apart-error.result (sym c.is_some.ensures ∙ c.if-is_some.true) (c.error_apart-error.ensures names is_live s (ap (map error_as) c.as_slice.ensures ∙ stand.new.errors))

pub returns-then-is_some-2 : goal.returns-then-is_some-2
returns-then-is_some-2 c = λ text uris before after p q r s is_live stand numbered given others tells.
    let names = c.args.programs.now.work.now.symbols in
    let unit = c.args.both.place in
    let forms = form_stretches (program_table p) (program_table q) unit (Some r) (Some s) 0 (max (form_count (Some r)) (form_count (Some s))) in
    let last = stretch unit 0 (exports_at (program_table p) (name_asked (changes_as c.args.changes.now) unit) (Some r)) (exports_at (program_table q) (λ t. t) (Some s)) ∷ [] in
    let past = found_past names is_live (error_stretch unit (Some s) ∷ []) (forms ++ last) c.error_apart-error.result (sym c.is_some.ensures ∙ c.if-is_some.false) (c.error_apart-error.ensures names is_live s (ap (map error_as) c.as_slice.ensures ∙ stand.new.errors)) in
    subst (AreFound names _) (sym past) (found_here names is_live forms last _ (sym c.is_some-2.ensures ∙ c.if-is_some-2.true) (c.in_ok-form.ensures text uris before after p q r s is_live stand numbered tells))

pub returns : goal.returns
returns c = λ text uris before after p q r s is_live stand numbered given others tells.
    let names = c.args.programs.now.work.now.symbols in
    let unit = c.args.both.place in
    let forms = form_stretches (program_table p) (program_table q) unit (Some r) (Some s) 0 (max (form_count (Some r)) (form_count (Some s))) in
    let exported : Stretch = stretch unit 0 (exports_at (program_table p) (name_asked (changes_as c.args.changes.now) unit) (Some r)) (exports_at (program_table q) (λ t. t) (Some s)) in
    let past = found_past names is_live (error_stretch unit (Some s) ∷ []) (forms ++ exported ∷ []) c.error_apart-error.result (sym c.is_some.ensures ∙ c.if-is_some.false) (c.error_apart-error.ensures names is_live s (ap (map error_as) c.as_slice.ensures ∙ stand.new.errors)) in
    let behind = found_past names is_live forms (exported ∷ []) _ (sym c.is_some-2.ensures ∙ c.if-is_some-2.false) (c.in_ok-form.ensures text uris before after p q r s is_live stand numbered tells) in
    let pair = pair_found names is_live exported _ (c.in_ok-pair.ensures text uris before after p q r s is_live stand numbered given others) in
    subst (λ x. AreFound names x (first_among is_live (error_stretch unit (Some s) ∷ (forms ++ exported ∷ [])))) (sym c.placed.ensures) (subst (AreFound names (at_form unit 0 _)) (sym (past ∙ behind)) pair)
