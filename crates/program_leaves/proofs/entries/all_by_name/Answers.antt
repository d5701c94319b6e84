use Rattle.std.proofs.Common.{◌≡◌, ◌+◌, List, [], ◌∷◌, ◌++◌, take, sym, ap, ◌∙◌, subst, arith}
use Rattle.std.proofs.lemmas.List.{take_more}
use Rattle.syntax_tree.specs.declared.units.Entry.{Entry}
use Rattle.core_tree.specs.Names.{AllMatch}
use Rattle.core_tree.specs.declared.units.Unit.{Unit as CodeUnit}
use Rattle.program_leaves.proofs.AddLaws.{both_match}
use Rattle.program_leaves.specs.Entries.{ByName, entry_named, HasEntries}
use Rattle.program_leaves.proofs.entries.all_by_name.Goals as goal

pub loop-unit-preserved : goal.loop-unit-preserved
loop-unit-preserved c =
    let ms = c.loop-unit.found.items in
    let us = c.args.units.now in
    let i = c.loop-unit.unit-index in
    let u = c.unit-item.result in
    let m = c.in_ok-entries.entries in
    let one : HasEntries m u = λ s. c.in_ok-entries.ensures s ∙ ap (λ (es : List Entry). entry_named es s) c.as_slice.ensures in
    let both = both_match HasEntries ms (m ∷ []) (take i us) (u ∷ []) c.loop-unit.invariant (one, tt) in
    let more : take (i + 1) us ≡ take i us ++ u ∷ [] = take_more us i u (omega arith) ∙ ap (λ (x : CodeUnit). take i us ++ x ∷ []) (sym c.unit-item.is) in
    subst (λ (xs : List ByName). AllMatch HasEntries xs (take (i + 1) us)) (sym c.in_ok-push.ensures.items) (subst (AllMatch HasEntries (ms ++ m ∷ [])) (sym more) both)
