use Rattle.std.proofs.Common.{List, map, ap, ◌∙◌}
use Rattle.core_tree.specs.declared.cores.Binder.{Binder}
use Rattle.form_cache.specs.Shifted.{binder_shifted}
use Rattle.form_cache.proofs.ShiftedEntries.{definitions_stand}
use Rattle.form_cache.proofs.shift.definitions.Goals as goal

pub returns-clause-stand : goal.returns-clause-stand
returns-clause-stand c = λ names form made few h.
    let s = c.args.shift in
    definitions_stand s names form c.args.items.now c.from_vec.result made (c.from_vec.ensures ∙ c.binders.ensures ∙ ap (λ (l : List Binder). map (binder_shifted s) l) c.take-all.ensures) few h
