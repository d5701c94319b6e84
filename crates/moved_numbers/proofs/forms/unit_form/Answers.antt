use Rattle.std.proofs.Common.{◌≡◌, Option, Some, refl, sym, ap, ◌∙◌, subst}
use Rattle.std.specs.Option.{option_map}
use Rattle.core_tree.specs.declared.traces.FormFault.{FormFault}
use Rattle.moves.specs.Numbers.{numbers_of}
use Rattle.moved_numbers.specs.Values.{fault_as}
use Rattle.moved_numbers.proofs.FormLaws.{FaultOn, with_fault, without_fault, still_blank}
use Rattle.moved_numbers.proofs.forms.unit_form.Goals as goal

pub returns-in-Some-clause-result : goal.returns-in-Some-clause-result
returns-in-Some-clause-result c =
    with_fault (numbers_of c.args.moves.now) (λ u n. refl) c.args.form.now (record { items = c.parts.new.items; trace = c.trace.new.it; fault = Some c.fault.new.it }) c.parts.ensures.stands c.trace.ensures.keywords c.trace.ensures.uses
    c.in-Some.it c.fault.new.it c.in-Some.is refl (subst (λ (x : FormFault). FaultOn (numbers_of c.args.moves.now) x c.fault.new.it) c.in-Some.it-is c.fault.ensures.stands)

pub returns-in-None-clause-result : goal.returns-in-None-clause-result
returns-in-None-clause-result c =
    without_fault (numbers_of c.args.moves.now) (λ u n. refl) c.args.form.now (record { items = c.parts.new.items; trace = c.trace.new.it; fault = c.args.form.now.fault }) c.parts.ensures.stands c.trace.ensures.keywords c.trace.ensures.uses c.in-None.is c.in-None.is

pub returns-in-None-clause-blank : goal.returns-in-None-clause-blank
returns-in-None-clause-blank c =
    still_blank (numbers_of c.args.moves.now) c.args.form.now (record { items = c.parts.new.items; trace = c.trace.new.it; fault = c.args.form.now.fault }) c.parts.ensures.length c.trace.ensures.definitions c.trace.ensures.keywords c.trace.ensures.length refl

pub returns-in-Some-clause-value : goal.returns-in-Some-clause-value
returns-in-Some-clause-value c =
    let f = fault_as (numbers_of c.args.moves.now) in
    let fault : Some c.fault.new.it ≡ option_map f c.args.form.now.fault = ap (λ (x : FormFault). Some x) (c.fault.ensures.value ∙ ap f c.in-Some.it-is) ∙ ap (λ (o : Option FormFault). option_map f o) (sym c.in-Some.is) in
    λ i. record { items = c.parts.ensures.value i; trace = c.trace.ensures.value i; fault = fault i }

pub returns-in-None-clause-value : goal.returns-in-None-clause-value
returns-in-None-clause-value c =
    let f = fault_as (numbers_of c.args.moves.now) in
    let fault : c.args.form.now.fault ≡ option_map f c.args.form.now.fault = c.in-None.is ∙ ap (λ (o : Option FormFault). option_map f o) (sym c.in-None.is) in
    λ i. record { items = c.parts.ensures.value i; trace = c.trace.ensures.value i; fault = fault i }
