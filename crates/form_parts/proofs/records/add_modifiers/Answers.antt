use Rattle.std.proofs.Common.{None, Some, sym, ap, ◌∙◌, append-nil}
use Rattle.std.specs.Prelude.{Vec}
use Rattle.std.specs.declared.alloc.Global.{Global}
use Rattle.core_forms.specs.declared.shape.NamePart.{NamePart}
use Rattle.core_forms.specs.declared.shape.FieldShape.{FieldShape}
use Rattle.form_parts.proofs.SeenLaws.{modifier_more, none_of}
use Rattle.form_parts.proofs.records.add_modifiers.Goals as goal
use Rattle.form_parts.proofs.records.add_modifiers.Goals.{in-Some+in_ok-push, in_default}

pub loop-field-preserved : goal.loop-field-preserved
loop-field-preserved c =
    let n : NamePart = record { ident = 0; occ = None } in
    let d : FieldShape = record { name = n; accessor = n; modifier = None } in
    let k = c.loop-field.field-index in
    let fs = c.args.fields.now in
    elim c.match-field.branch [
      | in-Some+in_ok-push w ↦
          modifier_more fs k d (Some w.in-Some.modifier) c.args.names.now.items c.loop-field.names.items c.match-field.names.items c.loop-field-test.true w.in-Some.is c.loop-field.invariant
          (ap (λ (v : Vec NamePart Global). v.items) w.names-is ∙ w.in_ok-push.ensures.items)
      | in_default w ↦
          modifier_more fs k d None c.args.names.now.items c.loop-field.names.items c.match-field.names.items c.loop-field-test.true (none_of _ w.in_default.not-Some) c.loop-field.invariant
          (ap (λ (v : Vec NamePart Global). v.items) w.names-is ∙ sym (append-nil c.loop-field.names.items))
    ]
