use Rattle.std.proofs.Common.{◌∙◌, ap, sym, Vec}
use Rattle.std.specs.declared.alloc.Global.{Global}
use Rattle.datum_reader.specs.declared.datum.Datum as code
use Rattle.std.specs.Str.{bytes_eq}
use Rattle.carried_forms.specs.Alike.{same_trees}
use Rattle.form_pairs.specs.Trees.{parts_as}
use Rattle.form_pairs.proofs.SameTrees.{lengths_differ, vectors_same, lists_same}
use Rattle.form_pairs.proofs.same.+same.Goals as goal

pub are_same-returns-then-a-b : goal.are_same-returns-then-a-b
are_same-returns-then-a-b n c = sym (lengths_differ c.args.first c.args.other c.args.a.now c.args.b.now c.if-a-b.true)

pub is_same-returns-in_ok-are_same-in-Vector-Vector : goal.is_same-returns-in_ok-are_same-in-Vector-Vector
is_same-returns-in_ok-are_same-in-Vector-Vector n c =
    let at = c.in-Vector-Vector in
    vectors_same c.args.first c.args.other c.args.a.now c.args.b.now at.x at.y at.is-0 at.is-1 c.in_ok-are_same-in-Vector-Vector.field-0 c.is_same_place-starts.result
    (c.in_ok-are_same-in-Vector-Vector.ensures
    ∙ (λ j. same_trees bytes_eq (parts_as c.args.first ((c.as_slice.ensures.value ∙ ap (λ (v : Vec code.Datum Global). v.items) c.deref-in-Vector-Vector.ensures) j)) (parts_as c.args.other ((c.as_slice-in-Vector-Vector.ensures.value ∙ ap (λ (v : Vec code.Datum Global). v.items) c.deref-in-Vector-Vector-2.ensures) j))))
    c.is_same_place-starts.ensures

pub is_same-returns-in_ok-ends-in-List-List : goal.is_same-returns-in_ok-ends-in-List-List
is_same-returns-in_ok-ends-in-List-List n c =
    let at = c.in-List-List in
    lists_same c.args.first c.args.other c.args.a.now c.args.b.now at.x at.y at.end at.tail at.is-0 at.is-1 c.in_ok-parts-in-List-List.parts c.in_ok-ends-in-List-List.ends c.is_same_place-starts.result
    (c.in_ok-parts-in-List-List.ensures ∙ (λ j. same_trees bytes_eq (parts_as c.args.first ((c.as_slice-in-List-List.ensures.value ∙ ap (λ (v : Vec code.Datum Global). v.items) c.deref-in-List-List.ensures) j)) (parts_as c.args.other ((c.as_slice-in-List-List-2.ensures.value ∙ ap (λ (v : Vec code.Datum Global). v.items) c.deref-in-List-List-2.ensures) j))))
    c.in_ok-ends-in-List-List.ensures c.is_same_place-starts.ensures
