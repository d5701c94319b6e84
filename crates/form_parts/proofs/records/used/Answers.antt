use Rattle.std.proofs.Common.{ℕ, None, Option, List, get_or, length, ap, ◌∙◌, subst}
use Rattle.std.specs.Prelude.{unwrap_or}
use Rattle.scheme_model.specs.ExpansionFaults.{Named}
use Rattle.scheme_model.specs.Ident.{Ident as Identifier}
use Rattle.core_forms.specs.Parts.{AllMatch}
use Rattle.core_forms.specs.declared.shape.NamePart.{NamePart}
use Rattle.core_tree.specs.Names.{IsField as IsUse}
use Rattle.form_parts.specs.FormsSeen.{used_fields}
use Rattle.form_parts.proofs.SeenLaws.{name_at_place, names_all, used_more}
use Rattle.form_parts.proofs.records.used.Goals as goal

pub loop-name-preserved : goal.loop-name-preserved
loop-name-preserved c = λ work ns fs apart names fields.
    let d : NamePart = record { ident = 0; occ = None } in
    let k = c.loop-name.name-index in
    let x = get_or c.args.names.now k d in
    let p = name_at_place work k c.args.names.now ns d names c.loop-name-test.true in
    used_more work apart c.args.fields.now fs fields ns k x p c.loop-name.uses.items c.push.new.self.items c.place_in-field.result (c.loop-name.invariant work ns fs apart names fields)
    (c.place_in-field.ensures ∙ ap (λ (o : Option ℕ). unwrap_or o (length c.args.fields.now)) (c.in_ok-places.ensures x.ident)) c.in_ok-push.ensures.items

pub returns : goal.returns
returns c = λ work ns fs apart names fields.
    subst (λ (l : List (Named Identifier)). AllMatch IsUse c.loop-name.uses.items (used_fields fs l)) (names_all work c.loop-name.name-index c.args.names.now ns names c.loop-name-test.false) (c.loop-name.invariant work ns fs apart names fields)
