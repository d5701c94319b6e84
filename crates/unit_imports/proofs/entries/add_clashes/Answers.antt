use Rattle.std.proofs.Common.{◌++◌, [], ◌∷◌, ap, ◌∙◌, arith}
use Rattle.read_documents.specs.declared.findings.At.{At}
use Rattle.read_documents.specs.Findings.{all_told, diagnostic, errors_in}
use Rattle.scheme_model.specs.DiagnosticTexts.{worded}
use Rattle.read_documents.proofs.FoundLaws.{at_in}
use Rattle.unit_imports.proofs.GivenLaws.{seen_at}
use Rattle.unit_imports.proofs.SetErrors.{clash_error}
use Rattle.unit_imports.proofs.ToldLaws.{clash_told}
use Rattle.unit_imports.proofs.entries.add_clashes.Goals as goal

pub loop-name-preserved : goal.loop-name-preserved
loop-name-preserved c = record {
  inside = λ count lt found.
      c.in_ok-add_found.ensures.inside count (at_in count c.at-at.result (let e = ap (λ (a : At). a.document) c.at-at.ensures in omega arith)) (c.loop-name.invariant.inside count lt found);
  told =
      clash_told (seen_at c.args.set.document c.args.set.spec.now.span) c.loop-name.clashes.items c.pop.new.self.items c.in-Some.name (all_told c.loop-name.findings.items) _ _ c.in-Some.ensures.items
      (c.in_ok-add_found.ensures.told ∙ (λ j. all_told c.loop-name.findings.items ++ diagnostic (c.at-at.ensures j) 52 (worded 52 (c.as_str.ensures j)) ∷ [])) c.loop-name.invariant.told;
  errors = clash_error c.args.set.form c.loop-name.clashes.items c.pop.new.self.items c.in-Some.name (errors_in c.loop-name.findings.items) (errors_in c.add_found.new.findings.items) _ c.in-Some.ensures.items c.in_ok-add_found.ensures.errors c.loop-name.invariant.errors;
}
