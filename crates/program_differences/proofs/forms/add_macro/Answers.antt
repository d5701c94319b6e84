use Rattle.std.proofs.Common.{List, sym, subst}
use Rattle.rename_model.specs.Walks.{slots_of}
use Rattle.core_tree.specs.Names.{AllMatch, IsLeaf}
use Rattle.core_tree.specs.declared.cores.RuleLeaf.{RuleLeaf}
use Rattle.alpha_equal.specs.declared.slots.Slot.{Slot}
use Rattle.alpha_equal.specs.Slots.{IsSlot}
use Rattle.program_differences.proofs.forms.add_macro.Goals as goal

pub slots_of-requires : goal.slots_of-requires
slots_of-requires c = let m = c.requires.3 in (c.requires.2.rules, m.rules)

pub fill-requires : goal.fill-requires
fill-requires c =
    let h = c.requires in
    (h.0, h.1, h.2.leaves, subst (λ (xs : List RuleLeaf). AllMatch (IsLeaf c.args.work.now.symbols h.0 h.1) xs h.2.leaves) (sym c.as_slice-2.ensures.value) h.3.leaves)

pub returns : goal.returns
returns c = λ table unit form m knows is.
    let names = c.args.work.now.symbols in
    let slots = subst (λ (xs : List Slot). AllMatch (IsSlot names unit form) xs (slots_of m.rules)) (sym c.as_slice.ensures.value) (c.in_ok-slots.ensures unit form m.rules is.rules) in
    let leaves = subst (λ (xs : List RuleLeaf). AllMatch (IsLeaf names unit form) xs m.leaves) (sym c.as_slice-2.ensures.value) is.leaves in
    c.in_ok-fill.ensures table unit form (slots_of m.rules) m.leaves knows slots leaves
