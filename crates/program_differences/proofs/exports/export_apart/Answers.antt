use Rattle.std.proofs.Common.{◌≡◌, false, true, refl, sym, ap, ◌∙◌, subst, rules}
use Rattle.std.specs.Prelude.{Option}
use Rattle.std.specs.Str.{bytes_eq}
use Rattle.scheme_model.specs.declared.Occ.{Occ}
use Rattle.scheme_model.specs.ProgramArrows.{program_table}
use Rattle.rename_model.specs.Walks.{ShowsSymbol, ShowsMeaning, point, AtExport}
use Rattle.alpha_equal.specs.Points.{IsTold}
use Rattle.program_differences.proofs.ExportLaws.{by_name, by_meaning, by_none}
use Rattle.program_differences.proofs.exports.export_apart.Goals as goal

pub mean_the_same-requires : goal.mean_the_same-requires
mean_the_same-requires c = let h = c.requires in (h.0.meaning, h.1.meaning, h.2.meaning, h.3.meaning)

pub returns-then-not-is_asked : goal.returns-then-not-is_asked
returns-then-not-is_asked c = λ p q live asks xs ys e d unit numbered asked one other before after.
    let names = c.args.programs.now.work.now.symbols in
    let apart : c.is_asked.result ≡ false = first_of (search rules, cc) in
    let tests : bytes_eq (asks e.name) d.name ≡ false =
    sym (λ j. bytes_eq ((asked c.as_str.result.now ∙ ap asks (c.as_str.ensures ∙ one.name)) j) ((c.as_str-2.ensures ∙ other.name) j)) ∙ sym c.is_asked.ensures ∙ apart in
    by_name names unit live (program_table p) (program_table q) asks xs ys e d c.in_export.result c.in_export-then-not-is_asked.result tests
    (λ s. subst (λ (o : Option Occ). IsTold names unit 0 c.in_export.result (point AtExport s o (ShowsSymbol e.name))) before
    (c.in_export.ensures names unit 0 s (ShowsSymbol e.name) (ap ShowsSymbol (sym (c.as_str-then-not-is_asked.ensures ∙ one.name)))))
    (λ s. subst (λ (o : Option Occ). IsTold names unit 0 c.in_export-then-not-is_asked.result (point AtExport s o (ShowsSymbol d.name))) after
    (c.in_export-then-not-is_asked.ensures names unit 0 s (ShowsSymbol d.name) (ap ShowsSymbol (sym (c.as_str-then-not-is_asked-2.ensures ∙ other.name)))))

pub returns-then-not-mean_the_same : goal.returns-then-not-mean_the_same
returns-then-not-mean_the_same c = λ p q live asks xs ys e d unit numbered asked one other before after.
    let names = c.args.programs.now.work.now.symbols in
    let named : c.is_asked.result ≡ true = first_of (search rules, cc) in
    let apart : c.mean_the_same.result ≡ false = first_of (search rules, cc) in
    let tests : bytes_eq (asks e.name) d.name ≡ true =
    sym (λ j. bytes_eq ((asked c.as_str.result.now ∙ ap asks (c.as_str.ensures ∙ one.name)) j) ((c.as_str-2.ensures ∙ other.name) j)) ∙ sym c.is_asked.ensures ∙ named in
    by_meaning names unit live (program_table p) (program_table q) asks xs ys e d c.in_export-then-not-mean_the_same.result c.in_export-then-not-mean_the_same-2.result tests
    (sym (c.mean_the_same.ensures p q e.meaning d.meaning numbered one.meaning other.meaning) ∙ apart)
    (λ s. subst (λ (o : Option Occ). IsTold names unit 0 c.in_export-then-not-mean_the_same.result (point AtExport s o (ShowsMeaning e.meaning))) before
    (c.in_export-then-not-mean_the_same.ensures names unit 0 s (ShowsMeaning e.meaning) (e.meaning, one.meaning unit 0, refl)))
    (λ s. subst (λ (o : Option Occ). IsTold names unit 0 c.in_export-then-not-mean_the_same-2.result (point AtExport s o (ShowsMeaning d.meaning))) after
    (c.in_export-then-not-mean_the_same-2.ensures names unit 0 s (ShowsMeaning d.meaning) (d.meaning, other.meaning unit 0, refl)))

pub returns : goal.returns
returns c = λ p q live asks xs ys e d unit numbered asked one other before after.
    let names = c.args.programs.now.work.now.symbols in
    let named : c.is_asked.result ≡ true = first_of (search rules, cc) in
    let same : c.mean_the_same.result ≡ true = first_of (search rules, cc) in
    let tests : bytes_eq (asks e.name) d.name ≡ true =
    sym (λ j. bytes_eq ((asked c.as_str.result.now ∙ ap asks (c.as_str.ensures ∙ one.name)) j) ((c.as_str-2.ensures ∙ other.name) j)) ∙ sym c.is_asked.ensures ∙ named in
    by_none names unit live (program_table p) (program_table q) asks xs ys e d tests (sym (c.mean_the_same.ensures p q e.meaning d.meaning numbered one.meaning other.meaning) ∙ same)
