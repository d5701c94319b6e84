use Rattle.std.proofs.Common.{◌∷◌, ◌++◌, [], List, map, take, sym, ap, ◌∙◌}
use Rattle.std.proofs.lemmas.List.{map_more, map_push}
use Rattle.core_tree.specs.declared.cores.Target.{Target}
use Rattle.form_cache.specs.Copied.{use_told}
use Rattle.form_cache.proofs.entries.copy_of_uses.Goals as goal

-- a copy more tells what the next use does
pub loop-met-preserved : goal.loop-met-preserved
loop-met-preserved c =
    let l = c.loop-met in let x = c.in_ok-copy_of_use.field-0 in let us = c.args.uses.now in let next = c.met-item.result in
    ap (map use_told) c.in_ok-push.ensures.ok
    ∙ (map_push use_told l.copy x
    ∙ (ap (λ (ts : List (Target × List Target)). ts ++ use_told x ∷ []) l.invariant
    ∙ (ap (λ (t : Target × List Target). map use_told (take l.met-index us) ++ t ∷ []) (c.in_ok-copy_of_use.ensures ∙ ap use_told c.met-item.is)
    ∙ sym (map_more use_told us l.met-index next c.loop-met-test.true))))
