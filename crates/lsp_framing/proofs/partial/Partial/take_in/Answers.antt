use Rattle.std.proofs.Common.{List, ℕ, ◌++◌, subst, sym, take, drop}
use Rattle.std.proofs.Math.Seq.{take-add}
use Rattle.lsp_framing.specs.Taken.{Goes, contents}
use Rattle.lsp_framing.proofs.Going.{goes_on, added}
use Rattle.lsp_framing.proofs.partial.Partial.take_in.Goals as goal

pub loop-at-preserved : goal.loop-at-preserved
loop-at-preserved c =
    let a = c.in_ok-at.ensures in
    let g = c.in_ok-give.ensures in
    let i = c.loop-at.invariant in
    let few = take c.in_ok-at.field-0 (drop c.loop-at.at c.args.piece.now) in (
      a.1,
      i.1 ++ g.0,
      subst (λ (q : List ℕ). Goes c.args.self.now q (i.1 ++ g.0) c.give.new.self) (sym (take-add c.loop-at.at c.in_ok-at.field-0 c.args.piece.now))
          (goes_on c.args.self.now c.loop-at.self c.advance.new.self c.give.new.self (take c.loop-at.at c.args.piece.now) few i.1 g.0 i.2 a.3 g.1),
      added (contents c.args.done.now) (contents c.loop-at.done) (contents c.give.new.done) i.1 g.0 i.3 g.2,
    )
