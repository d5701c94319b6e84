use Rattle.std.proofs.Common.{◌≡◌, ◌+◌, sym, ap, ◌∙◌, arith}
use Rattle.std.specs.Prelude.{true}
use Rattle.scheme_model.specs.RulesShape.{is_dots, starts_dots}
use Rattle.scheme_model.specs.Matching.{behind}
use Rattle.syntax_tree.proofs.Looking.{part_there, split_one, behind_past}
use Rattle.rules_build.specs.Builds.{dots_where}
use Rattle.rules_build.proofs.Tails.{leading_more, leading_none, not_leading}
use Rattle.rules_build.proofs.walk.Walk.leading.Goals as goal

pub loop-k-init : goal.loop-k-init
loop-k-init c = (omega arith, λ r ts tells stands e. (e, omega arith))

pub returns-then-not-dots : goal.returns-then-not-dots
returns-then-not-dots c = λ r ts tells stands e.
    let dots = dots_where c.args.escaped r in
    let so_far = c.loop-k.invariant.1 r ts tells stands e in
    let stop = not_leading dots (behind c.loop-k.k ts) (sym so_far.0 ∙ c.if-not-dots.true) in
    let all = so_far.1 in
    omega (arith, stop, all)

pub loop-k-preserved : goal.loop-k-preserved
loop-k-preserved c = (
  omega arith,
  λ r ts tells stands e.
      let w = c.args.self.now.work.now in
      let k = c.loop-k.k in
      let dots = dots_where c.args.escaped r in
      let so_far = c.loop-k.invariant.1 r ts tells stands e in
      let p = part_there w k c.args.items.now ts (record { number = 0 }) stands (omega arith) in
      let split = split_one w k ts _ p in
      let own : is_dots dots p.part ≡ true = sym (so_far.0 ∙ ap (starts_dots dots) split) ∙ c.if-not-dots.false in
      let more = leading_more dots (behind k ts) p.part (behind (k + 1) ts) split own in
      let all = so_far.1 in
      (c.dots_at-dots.ensures r ts tells stands, omega (arith, more, all)),
)

pub returns : goal.returns
returns c = λ r ts tells stands e.
    let w = c.args.self.now.work.now in
    let k = c.loop-k.k in
    let dots = dots_where c.args.escaped r in
    let none = leading_none dots (behind k ts) (behind_past w k c.args.items.now ts stands (omega arith)) in
    let so_far = c.loop-k.invariant.1 r ts tells stands e in
    let all = so_far.1 in
    omega (arith, none, all)
