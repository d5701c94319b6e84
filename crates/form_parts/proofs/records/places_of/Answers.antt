use Rattle.std.proofs.Common.{◌≡◌, ℕ, None, get_or, take, refl, sym, ap, ◌∙◌}
use Rattle.std.specs.Prelude.{is_some, position, nat_eq}
use Rattle.std.specs.BTreeMap.{BTreeMap, get}
use Rattle.std.specs.Ordering.{nat_cmp, is_eq}
use Rattle.core_forms.specs.declared.shape.NamePart.{NamePart}
use Rattle.core_forms.specs.declared.shape.FieldShape.{FieldShape}
use Rattle.core_forms.proofs.Marking.{eq_cmp}
use Rattle.form_parts.proofs.SeenLaws.{known_field, new_field}
use Rattle.form_parts.proofs.records.places_of.Goals as goal
use Rattle.form_parts.proofs.records.places_of.Goals.{then-not-contains_key+in_ok-insert, else-not-contains_key}

pub loop-k-preserved : goal.loop-k-preserved
loop-k-preserved c = λ n.
    let m : NamePart = record { ident = 0; occ = None } in
    let d : FieldShape = record { name = m; accessor = m; modifier = None } in
    let k = c.loop-k.k in
    let cs = c.args.fields.now in
    let x = get_or cs k d in
    let there : c.contains_key.result ≡ is_some (position (λ f. nat_eq x.name.ident f.name.ident) (take k cs)) = c.contains_key.ensures ∙ ap is_some (c.loop-k.invariant x.name.ident) in
    elim c.if-not-contains_key.branch [
      | then-not-contains_key+in_ok-insert w ↦
          ap (λ (t : BTreeMap ℕ ℕ). get nat_cmp t n) w.places-is
          ∙ new_field cs k x d n (get nat_cmp c.loop-k.places n) (get nat_cmp w.insert.new.self n) (is_eq (nat_cmp x.name.ident n)) c.loop-k-test.true refl (c.loop-k.invariant n) (sym there ∙ w.if-not-contains_key.true) (eq_cmp x.name.ident n) (w.in_ok-insert.ensures.updates.0 n)
      | else-not-contains_key w ↦
          ap (λ (t : BTreeMap ℕ ℕ). get nat_cmp t n) w.places-is ∙ c.loop-k.invariant n ∙ known_field cs k x d n c.loop-k-test.true refl (sym there ∙ w.if-not-contains_key.false)
    ]
