use Rattle.form_cache.proofs.ShiftedEntries.{entry_shifted}
use Rattle.form_cache.proofs.shift.shift_entry.Goals as goal

pub returns-clause-stands : goal.returns-clause-stands
returns-clause-stands c = λ work region e unit n k w u h.
    entry_shifted work region e unit n c.args.entry.now c.args.form.now k w u h c.args.to c.left.new.it c.parts.new.items c.definitions.new.items c.requires c.left.ensures c.parts.ensures c.definitions.ensures.shifted
