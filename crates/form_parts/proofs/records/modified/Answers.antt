use Rattle.std.proofs.Common.{None, true, false, sym, ap, ◌∙◌}
use Rattle.std.specs.Prelude.{Vec}
use Rattle.std.specs.declared.alloc.Global.{Global}
use Rattle.core_forms.specs.declared.shape.NamePart.{NamePart}
use Rattle.core_forms.specs.declared.shape.FieldShape.{FieldShape}
use Rattle.form_parts.proofs.SeenLaws.{field_there, fields_past, modified_more, modified_all}
use Rattle.std.proofs.Common.{ℕ}
use Rattle.form_parts.proofs.records.modified.Goals as goal
use Rattle.form_parts.proofs.records.modified.Goals.{then-is_some+in_ok-push, else-is_some}

pub loop-k-preserved : goal.loop-k-preserved
loop-k-preserved c = λ work fs h.
    let n : NamePart = record { ident = 0; occ = None } in
    let d : FieldShape = record { name = n; accessor = n; modifier = None } in
    let k = c.loop-k.k in
    let p = field_there work k c.args.fields.now fs d h c.loop-k-test.true in
    elim c.if-is_some.branch [
      | then-is_some+in_ok-push w ↦
          modified_more work fs k _ p true c.loop-k.places.items c.if-is_some.places.items (sym w.if-is_some.true ∙ c.is_some.ensures) (c.loop-k.invariant work fs h)
          (ap (λ (v : Vec ℕ Global). v.items) w.places-is ∙ w.in_ok-push.ensures.items)
      | else-is_some w ↦
          modified_more work fs k _ p false c.loop-k.places.items c.if-is_some.places.items (sym w.if-is_some.false ∙ c.is_some.ensures) (c.loop-k.invariant work fs h)
          (ap (λ (v : Vec ℕ Global). v.items) w.places-is)
    ]

pub returns : goal.returns
returns c = λ work fs h. modified_all fs c.loop-k.k c.loop-k.places.items (c.loop-k.invariant work fs h) (fields_past work c.loop-k.k c.args.fields.now fs h c.loop-k-test.false)
