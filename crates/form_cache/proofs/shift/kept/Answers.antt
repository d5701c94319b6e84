use Rattle.std.proofs.Common.{refl, sym, subst}
use Rattle.form_parts.specs.declared.items.Kept.{Kept}
use Rattle.form_parts.specs.declared.items.Kept.TheVariants as kept
use Rattle.form_cache.specs.Shifted.{KeptShifts}
use Rattle.form_cache.proofs.shift.kept.Goals as goal

pub returns-in-Values : goal.returns-in-Values
returns-in-Values c =
    let q = c.in-Values in
    subst (λ (k : Kept). KeptShifts c.args.shift k (kept.Values c.binders.new.all q.dotted q.form)) (sym q.is) (c.binders.new.all, refl, c.binders.ensures)

pub returns-in-Record : goal.returns-in-Record
returns-in-Record c =
    let q = c.in-Record in
    subst (λ (k : Kept). KeptShifts c.args.shift k (kept.Record c.binders-in-Record.new.all q.fields q.modified q.used)) (sym q.is) (c.binders-in-Record.new.all, refl, c.binders-in-Record.ensures)
