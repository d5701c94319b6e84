use Rattle.std.proofs.Common.{◌≡◌, false, length, sym, ap, ◌∙◌, arith}
use Rattle.std.specs.Prelude.{nat_lt}
use Rattle.std.proofs.lemmas.Bool.Decides.{nat_tests}
use Rattle.scheme_model.specs.RulesShape.{dots_of, starts_dots}
use Rattle.syntax_tree.specs.Macros.{identifiers}
use Rattle.syntax_tree.proofs.Looking.{part_there, part_standing, behind_past}
use Rattle.syntax_tree.proofs.rules.Roles.dots_at.Goals as goal

pub is_dots-requires : goal.is_dots-requires
is_dots-requires c = part_standing c.args.work.now c.args.k c.args.items.now _ c.requires c.if-k-items.true

pub returns-then-k-items : goal.returns-then-k-items
returns-then-k-items c = λ r ts tells stands.
    let p = part_there c.args.work.now c.args.k c.args.items.now ts (record { number = 0 }) stands c.if-k-items.true in
    c.is_dots.ensures r p.part tells p.stands ∙ ap (starts_dots (dots_of identifiers r)) (sym p.split)

pub returns-else-k-items : goal.returns-else-k-items
returns-else-k-items c = λ r ts tells stands.
    let past : nat_lt c.args.k (length c.args.items.now) ≡ false = grind (arith, nat_tests) in
    past ∙ ap (starts_dots (dots_of identifiers r)) (sym (behind_past c.args.work.now c.args.k c.args.items.now ts stands c.if-k-items.false))
