use Rattle.std.proofs.Common.{List, ℕ, Bor, ◌∙◌, sym}
use Rattle.text_arrows.proofs.AloneLaws.{are_lines, is_drawn, is_stop_line}
use Rattle.text_arrows.proofs.alone.told_alone.Goals as goal

pub returns-then-is_some : goal.returns-then-is_some
returns-then-is_some c = λ text holds. is_stop_line text c.args.workspace.now c.args.lists.now holds (λ (uri : Bor (List ℕ)). uri.now) c.unreadable.result c.unreadable.ensures _ c.in_ok-lines.ensures (sym c.is_some.ensures ∙ c.if-is_some.true)

pub arrow_lines-requires : goal.arrow_lines-requires
arrow_lines-requires c = is_drawn c.requires.0 c.args.workspace.now c.args.lists.now c.requires.1 c.in_ok-answer.answer _ c.in_ok-answer.ensures

pub returns : goal.returns
returns c = λ text holds.
    are_lines text c.args.workspace.now c.args.lists.now holds (λ (uri : Bor (List ℕ)). uri.now) c.unreadable.result c.unreadable.ensures c.in_ok-answer.answer _ c.in_ok-answer.ensures _ c.in_ok-lines-2.ensures
    (sym c.is_some.ensures ∙ c.if-is_some.false)
