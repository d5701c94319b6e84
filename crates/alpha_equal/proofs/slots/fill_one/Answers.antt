use Rattle.std.proofs.Common.{ℕ, suc, [], ◌∷◌, ◌++◌, sym, ap, ◌∙◌, subst, arith, drop, add-one}
use Rattle.rename_model.specs.Walks.{Slot, leaf_points, filled}
use Rattle.core_tree.specs.Names.{IsLeaf}
use Rattle.program_leaves.proofs.AddLaws.{adds_none, adds_one}
use Rattle.std.specs.Prelude.{None, false}
use Rattle.syntax_tree.specs.declared.meaning.Meaning.TheVariants as meanings
use Rattle.core_tree.specs.declared.cores.RuleLeaf.{RuleLeaf as Leaf}
use Rattle.alpha_equal.specs.declared.slots.Slot as code
use Rattle.alpha_equal.specs.Points.{node_as, IsPoint}
use Rattle.alpha_equal.specs.Slots.{IsSlot}
use Rattle.alpha_equal.proofs.CompareLaws.{match_at, match_past}
use Rattle.alpha_equal.proofs.MeaningLaws.{no_leaf, a_leaf}
use Rattle.alpha_equal.proofs.slots.fill_one.Goals as goal

pub returns-in_ok-push-in-Fixed : goal.returns-in_ok-push-in-Fixed
returns-in_ok-push-in-Fixed c = λ table unit form s ls knows is match.
    let names = c.args.work.now.symbols in
    let at = subst (λ (x : code.Slot). IsSlot names unit form x s) c.in-Fixed.is is in
    record {
      here = at.0 ∷ [];
      adds = adds_one (IsPoint names unit form) c.args.points.now.items c.push.new.self.items _ at.0 c.in_ok-push-in-Fixed.ensures.items at.2;
      more = λ rest. ap (λ (x : Slot). filled table (x ∷ rest) (drop c.args.next ls)) at.1;
    }

pub returns-then-next-leaves : goal.returns-then-next-leaves
returns-then-next-leaves c = λ table unit form s ls knows is match.
    let names = c.args.work.now.symbols in
    let at = subst (λ (x : code.Slot). IsSlot names unit form x s) c.in-Leaf.is is in
    let past = match_past (IsLeaf names unit form) c.args.leaves.now ls c.args.next match (omega arith) in
    record {
      here = [];
      adds = adds_none (IsPoint names unit form) c.args.points.now.items;
      more = λ rest. ap (λ (x : Slot). filled table (x ∷ rest) (drop c.args.next ls)) at ∙ no_leaf table (node_as c.in-Leaf.kind) rest (drop c.args.next ls) past;
    }

-- what stands past the end of the leaves
abbrev no_target : Leaf
no_target = record { target = record { meaning = meanings.Local 0; ident = 0; occ = None }; literal = false }

pub add_leaf-requires : goal.add_leaf-requires
add_leaf-requires c =
    let h = c.requires in
    let l = match_at (IsLeaf c.args.work.now.symbols h.0 h.1) c.args.leaves.now h.2 c.args.next no_target h.3 (omega arith) in
    (h.0, h.1, l.it, l.holds)

pub returns-in_ok-add_leaf-in-Leaf : goal.returns-in_ok-add_leaf-in-Leaf
returns-in_ok-add_leaf-in-Leaf c = λ table unit form s ls knows is match.
    let names = c.args.work.now.symbols in
    let n = node_as c.in-Leaf.kind in
    let at = subst (λ (x : code.Slot). IsSlot names unit form x s) c.in-Leaf.is is in
    let l = match_at (IsLeaf names unit form) c.args.leaves.now ls c.args.next no_target match (omega arith) in
    record {
      here = leaf_points table n l.it;
      adds = c.in_ok-add_leaf-in-Leaf.ensures table unit form l.it knows l.holds;
      more = λ rest. ap (λ (x : Slot). filled table (x ∷ rest) (drop c.args.next ls)) at
          ∙ a_leaf table n rest (drop c.args.next ls) (drop (suc c.args.next) ls) l.it l.is
          ∙ ap (λ (m : ℕ). leaf_points table n l.it ++ filled table rest (drop m ls)) (sym (add-one c.args.next));
    }
