use Rattle.std.proofs.Common.{◌+◌, true, false, sym, ap, ◌∙◌, arith}
use Rattle.scheme_model.specs.Trees.{Trees}
use Rattle.scheme_model.specs.Matching.{behind}
use Rattle.scheme_model.specs.RulesShape.{dots_of, dots_count}
use Rattle.scheme_model.specs.Ident.{Ident as Identifier}
use Rattle.syntax_tree.specs.Macros.{identifiers}
use Rattle.syntax_tree.proofs.Looking.{part_there, part_standing, split_one, behind_past, dots_more}
use Rattle.syntax_tree.proofs.rules.Roles.count_dots.Goals as goal
use Rattle.syntax_tree.proofs.rules.Roles.count_dots.Goals.{then-is_dots, else-is_dots}

pub is_dots-requires : goal.is_dots-requires
is_dots-requires c = part_standing c.args.work.now c.loop-k.k c.args.items.now _ c.requires c.loop-k-test.true

pub loop-k-preserved : goal.loop-k-preserved
loop-k-preserved c = (
  elim c.if-is_dots.branch [ then-is_dots w ↦ omega arith | else-is_dots w ↦ omega arith ],
  elim c.if-is_dots.branch [ then-is_dots w ↦ omega arith | else-is_dots w ↦ omega arith ],
  λ r ts tells stands.
      let p = part_there c.args.work.now c.loop-k.k c.args.items.now ts (record { number = 0 }) stands c.loop-k-test.true in
      let s = split_one c.args.work.now c.loop-k.k ts _ p in
      let e = c.is_dots.ensures r p.part tells p.stands in
      let before = c.loop-k.invariant.2 r ts tells stands in
      elim c.if-is_dots.branch [
        | then-is_dots w ↦
            dots_more (dots_of identifiers r) (behind c.loop-k.k ts) p.part (behind (c.loop-k.k + 1) ts) c.loop-k.count c.if-is_dots.count true s (sym w.if-is_dots.true ∙ e) w.count-is ∙ before
        | else-is_dots w ↦
            dots_more (dots_of identifiers r) (behind c.loop-k.k ts) p.part (behind (c.loop-k.k + 1) ts) c.loop-k.count c.if-is_dots.count false s (sym w.if-is_dots.false ∙ e) w.count-is ∙ before
      ],
)

pub returns-clause-bound : goal.returns-clause-bound
returns-clause-bound c = c.loop-k.invariant.1

pub returns-clause-value : goal.returns-clause-value
returns-clause-value c = λ r ts tells stands.
    let gone = behind_past c.args.work.now c.loop-k.k c.args.items.now ts stands c.loop-k-test.false in
    let whole = c.loop-k.invariant.2 r ts tells stands in
    omega (arith, whole, ap (λ (us : Trees Identifier). dots_count (dots_of identifiers r) us) gone)
