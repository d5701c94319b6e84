use Rattle.std.proofs.Common.{◌≡◌, ℕ, List, cond, Some, None, sym, ap, ◌∙◌}
use Rattle.unit_sources.specs.declared.exported.Export.TheVariants.{Given, Refused}
use Rattle.unit_sources.specs.declared.fault.LibraryFault.TheVariants.{NotDefined, SameExport}
use Rattle.unit_sources.specs.Exported.{entry_named, exported, export_one}
use Rattle.import_sets.specs.Firsts.{place_of, place_under}
use Rattle.unit_sources.proofs.ExportLaws.{entry_at_place, entry_read, no_entry}
use Rattle.unit_sources.proofs.exported.export_one.Goals as goal

pub returns-in_default : goal.returns-in_default
returns-in_default c =
    let s = c.args.spec.now.inner.name in
    let es = c.args.entries.now in
    let none : place_of s 0 es ≡ None = sym (c.in_default.ensures ∙ ap (place_under c.args.places.now) c.as_str.ensures ∙ c.requires s) in
    ap (λ (t : List ℕ). Refused (NotDefined t)) c.in_ok-name.ensures.cases ∙ sym (ap (export_one c.args.again c.args.spec.now) (no_entry s 0 es none))

pub returns-then-again : goal.returns-then-again
returns-then-again c =
    let s = c.args.spec.now.inner.name in
    let es = c.args.entries.now in
    let at : place_of s 0 es ≡ Some c.in-Some.place = sym (c.in-Some.ensures ∙ ap (place_under c.args.places.now) c.as_str.ensures ∙ c.requires s) in
    let r = entry_read s es c.in-Some.place at in
    ap (λ (t : List ℕ). Refused (SameExport t)) c.in_ok-name-2.ensures.cases
    ∙ sym (ap (export_one c.args.again c.args.spec.now) r.1 ∙ ap (λ b. cond b (Refused (SameExport c.args.spec.now.outer.name)) (Given (exported c.args.spec.now r.0))) c.if-again.true)

pub entry_at-requires : goal.entry_at-requires
entry_at-requires c =
    let s = c.args.spec.now.inner.name in
    let es = c.args.entries.now in
    let at : place_of s 0 es ≡ Some c.in-Some.place = sym (c.in-Some.ensures ∙ ap (place_under c.args.places.now) c.as_str.ensures ∙ c.requires s) in
    (entry_at_place s es c.in-Some.place at).0

pub returns : goal.returns
returns c =
    let s = c.args.spec.now.inner.name in
    let es = c.args.entries.now in
    let at : place_of s 0 es ≡ Some c.in-Some.place = sym (c.in-Some.ensures ∙ ap (place_under c.args.places.now) c.as_str.ensures ∙ c.requires s) in
    let found : entry_named s es ≡ Some c.entry_at.result.now = sym (entry_at_place s es c.in-Some.place at).1 ∙ c.entry_at.ensures in
    ap Given c.in_ok-exported.ensures
    ∙ sym (ap (export_one c.args.again c.args.spec.now) found ∙ ap (λ b. cond b (Refused (SameExport c.args.spec.now.outer.name)) (Given (exported c.args.spec.now c.entry_at.result.now))) c.if-again.false)
