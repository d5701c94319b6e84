use Rattle.std.proofs.Common.{List, ◌++◌, ◌∙◌, sym, ap, arith}
use Rattle.std.proofs.lemmas.List.{take_all}
use Rattle.scheme_model.specs.Program.{ImportSpec}
use Rattle.read_documents.specs.UnitSources.{IsSpec}
use Rattle.unit_imports.proofs.GivenLaws.{item_at, set_as}
use Rattle.core_tree.proofs.Matched.{as_many, matched_at}
use Rattle.unit_imports.proofs.SecondLaws.{all_seconds, seconds_more}
use Rattle.unit_imports.proofs.seconds.seconds_in.Goals as goal

pub loop-spec-init : goal.loop-spec-init
loop-spec-init c = λ spelled ss specs. c.new-places.ensures

pub loop-spec-preserved : goal.loop-spec-preserved
loop-spec-preserved c = λ spelled ss specs.
    let i = c.loop-spec.spec-index in
    let m = matched_at (IsSpec spelled) c.args.specs.now ss i c.spec-item.result specs (item_at c.args.specs.now i c.spec-item.result (omega arith) c.spec-item.is) in
    c.in_ok-add.ensures
    ∙ (λ j. c.loop-spec.invariant spelled ss specs j ++ c.in_ok-second_places.ensures m.0.set (set_as spelled c.spec-item.result.set m.0.set m.2.set) j)
    ∙ sym (seconds_more ss i m.0 m.1)

pub returns : goal.returns
returns c = λ spelled ss specs.
    let i = c.loop-spec.spec-index in
    let n = as_many (IsSpec spelled) c.args.specs.now ss specs in
    c.loop-spec.invariant spelled ss specs ∙ ap (λ (l : List ImportSpec). all_seconds l) (take_all i ss (omega arith))
