use Rattle.std.proofs.Common.{IfOk, Some, sym, ap, ◌∙◌, subst, arith}
use Rattle.scheme_model.specs.Data.{place_of}
use Rattle.scheme_model.specs.Entries as model
use Rattle.scheme_model.specs.Entries.{set_of, library_set, modified_set}
use Rattle.datum_reader.specs.Views.{datum_of}
use Rattle.datum_reader.specs.Forms.{place}
use Rattle.datum_reader.specs.Looks.{tree_at, trees_at}
use Rattle.unit_sources.specs.SetsRead.{modifier_as, IsSetText}
use Rattle.datum_reader.proofs.LookLaws.{list_seen}
use Rattle.known_libraries.proofs.WeightLaws.{parts_lighter}
use Rattle.unit_sources.proofs.sets.+sets.Goals as goal

pub set_of-set_of_list-requires : goal.set_of-set_of_list-requires
set_of-set_of_list-requires t c = (omega (arith, parts_lighter c.in-List.parts.now c.in-List.dotted (datum_of c.args.datum.now) c.in-List.ensures), c.in-List.ensures)

pub set_of_list-returns-in-None : goal.set_of_list-returns-in-None
set_of_list-returns-in-None t c =
    let at = place c.args.home in
    let d = c.args.datum.now in
    let l = list_seen at c.args.parts.now c.args.dotted (datum_of d) c.requires in
    let o = Some (at (place_of (datum_of d)).first) in
    subst (λ (s : model.ImportSet). IfOk c.library_set.result (λ set. IsSetText set s)) (ap library_set l.whole ∙ sym (c.in-None.ensures at l.end o) ∙ sym (ap set_of l.whole)) (c.library_set.ensures at)

pub set_of_list-returns-in_ok-inner-in-Some : goal.set_of_list-returns-in_ok-inner-in-Some
set_of_list-returns-in_ok-inner-in-Some t c =
    let at = place c.args.home in
    let d = c.args.datum.now in
    let l = list_seen at c.args.parts.now c.args.dotted (datum_of d) c.requires in
    let o = Some (at (place_of (datum_of d)).first) in
    let f = c.in-Some.found in
    let made = modified_set (modifier_as f.modifier) (set_of (tree_at at f.inner.now)) (trees_at at f.rest.now) l.end in
    subst (λ (s : model.ImportSet). IfOk c.or_bad.result (λ set. IsSetText set s)) (sym (c.in-Some.ensures.2 at l.end o) ∙ sym (ap set_of l.whole))
    (c.or_bad.ensures made (c.modified_set.ensures (set_of (tree_at at f.inner.now)) l.end c.in_ok-inner-in-Some.ensures l.dotted))
