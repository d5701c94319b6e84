use Rattle.std.proofs.Common.{List, refl, sym, subst}
use Rattle.core_tree.specs.Names.{AllMatch}
use Rattle.form_parts.specs.declared.items.Item.{Item}
use Rattle.moves.specs.Numbers.{numbers_of}
use Rattle.moved_entries.specs.Left.{KeptMoves}
use Rattle.moved_entries.proofs.LeftLaws.{left_on}
use Rattle.moved_entries.proofs.left.left.Goals as goal

pub returns : goal.returns
returns c =
    let r = numbers_of c.args.moves.now in
    left_on r (λ u n. refl) c.args.it.now (record { uses = c.uses.new.all; items = c.from_vec.result }) c.uses.ensures
    (subst (λ (ys : List Item). AllMatch (λ x y. KeptMoves r x.kept y.kept) c.args.it.now.items ys) (sym c.from_vec.ensures)
    (subst (λ (xs : List Item). AllMatch (λ x y. KeptMoves r x.kept y.kept) xs c.items.new.all.items) c.take-aside.ensures c.items.ensures))
