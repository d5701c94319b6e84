-- Each datum adds its name, if it has one.
use Rattle.std.proofs.Common.{ℕ, List, ◌++◌, sym, ap, ◌∙◌, append-nil}
use Rattle.std.specs.Option.{option_to_list}
use Rattle.std.proofs.lemmas.List.{take_all}
use Rattle.datum_reader.specs.declared.datum.Datum.{Datum}
use Rattle.document_units.proofs.KnownSteps.{names_at, names_more}
use Rattle.document_units.proofs.known.add_names.Goals as goal

pub loop-datum-init : goal.loop-datum-init
loop-datum-init c = sym (append-nil c.args.names.now)

pub loop-datum-preserved : goal.loop-datum-preserved
loop-datum-preserved c =
    let name = c.in_ok-library_name.field-0 in
    c.in_ok-push_if.ensures ∙ ap (λ (ts : List (List ℕ)). ts ++ option_to_list name) c.loop-datum.invariant
    ∙ names_more c.args.items.now c.loop-datum.datum-index c.datum-item.result c.args.names.now name c.loop-datum-test.true c.datum-item.is c.in_ok-library_name.ensures

pub returns : goal.returns
returns c = c.loop-datum.invariant ∙ ap (λ (ds : List Datum). c.args.names.now ++ names_at ds) (take_all c.loop-datum.datum-index c.args.items.now c.loop-datum-test.false)
