use Rattle.std.proofs.Common.{List, Option, Some, refl, sym, subst}
use Rattle.core_tree.specs.Names.{AllMatch}
use Rattle.form_parts.specs.declared.items.Item.{Item}
use Rattle.form_parts.specs.declared.items.Left.{Left}
use Rattle.form_cache.specs.Shifted.{ItemShifts, LeftShifts}
use Rattle.form_cache.proofs.shift.left.Goals as goal

pub returns-in-Some : goal.returns-in-Some
returns-in-Some c =
    let s = c.args.shift in
    let l = c.in-Some.left in
    let all : AllMatch (ItemShifts s) c.take-all.result.items c.all_kept.new.all.items = c.all_kept.ensures in
    let from : AllMatch (ItemShifts s) l.items c.all_kept.new.all.items = subst (λ (xs : List Item). AllMatch (ItemShifts s) xs c.all_kept.new.all.items) c.take-all.ensures all in
    let to : AllMatch (ItemShifts s) l.items c.from_vec.result = subst (λ (ys : List Item). AllMatch (ItemShifts s) l.items ys) (sym c.from_vec.ensures) from in
    subst (λ (o : Option Left). LeftShifts s o (Some (record { uses = l.uses; items = c.from_vec.result }))) (sym c.in-Some.is) (record { uses = l.uses; items = c.from_vec.result }, refl, refl, to)
