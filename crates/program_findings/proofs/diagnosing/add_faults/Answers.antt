-- What a fault names is among the names.
use Rattle.std.proofs.Common.{◌≡◌, ◌<◌, ◌+◌, ◌++◌, ◌∷◌, [], refl, subst, length, map, arith, add-one}
use Rattle.std.proofs.lemmas.List.{length-map}
use Rattle.scheme_model.specs.Declarations.{forms_hold}
use Rattle.scheme_model.specs.Diagnostics.{bytes_of}
use Rattle.unit_sources.specs.UnitsRead.{forms_of}
use Rattle.core_tree.specs.Traces.{IsFault}
use Rattle.read_documents.specs.Places.{spans_of}
use Rattle.read_documents.specs.Diagnosed.{fault_found}
use Rattle.program_findings.proofs.ReferredForms.{form_there, referred}
use Rattle.program_findings.proofs.StandInLaws.{fault_is_named}
use Rattle.read_documents.proofs.DiagnosedLaws.{come_more, come_all}
use Rattle.program_findings.proofs.diagnosing.add_faults.Goals as goal

pub add_fault-requires-clause-named : goal.add_fault-requires-clause-named
add_fault-requires-clause-named c = λ f name has is.
    let below : c.loop-place.place < length c.args.forms.now = omega arith in
    fault_is_named c.args.symbols.now (map referred c.args.forms.now) c.requires.forms c.loop-place.place c.index-forms-place.result.now f name
    (form_there c.args.forms.now c.loop-place.place c.index-forms-place.result below c.index-forms-place.is) has is

pub loop-place-init : goal.loop-place-init
loop-place-init c = record {
  inside = λ found. found;
  exact = λ rs us work fs are kept stand. record { rest = fs; stand = stand; found = refl };
}

pub loop-place-preserved : goal.loop-place-preserved
loop-place-preserved c =
    let below : c.loop-place.place < length c.args.forms.now = omega arith in
    let at = form_there c.args.forms.now c.loop-place.place c.index-forms-place.result below c.index-forms-place.is in
    record {
      inside = λ found. c.in_ok-add_fault.ensures.inside (c.loop-place.invariant.inside found);
      exact = λ rs us work fs are kept stand.
          come_more (bytes_of (spans_of rs) us) (forms_hold c.args.unit (forms_of c.args.sources.now)) work c.args.unit fs c.args.findings.now.items c.loop-place.findings.items c.add_fault.new.findings.items c.loop-place.place (c.loop-place.place + 1) c.index-forms-place.result.now (map referred c.args.forms.now) at (add-one c.loop-place.place)
          (c.loop-place.invariant.exact rs us work fs are kept stand) c.in_ok-add_fault.ensures.whole
          (λ fault e has is. subst (λ n. IsFault work.symbols fault e → c.add_fault.new.findings.items ≡ c.loop-place.findings.items ++ fault_found (bytes_of (spans_of rs) us) (forms_hold c.args.unit (forms_of c.args.sources.now)) c.args.unit n e ∷ []) c.in_ok-number.ensures
          (λ h. c.in_ok-add_fault.ensures.fault rs us work.symbols fault e are kept has h) is);
    }

pub returns-clause-exact : goal.returns-clause-exact
returns-clause-exact c = λ rs us work fs are kept stand.
    come_all (bytes_of (spans_of rs) us) (forms_hold c.args.unit (forms_of c.args.sources.now)) work c.args.unit fs c.args.findings.now.items c.loop-place.findings.items c.loop-place.findings.items c.loop-place.place (map referred c.args.forms.now) (omega (arith, length-map c.args.forms.now referred)) (c.loop-place.invariant.exact rs us work fs are kept stand)
