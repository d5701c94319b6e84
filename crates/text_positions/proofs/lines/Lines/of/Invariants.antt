use Rattle.std.proofs.Common.{◌≡◌, ◌++◌, ◌-◌, ◌≤◌, length, drop}
use denote.Text.{Utf8}
use denote.Shadow.{shadow}
use Rattle.std.specs.List.{All}
use Rattle.std.specs.Str.{chars}
use Rattle.ls_base.specs.Positions.{lines_of}
use Rattle.text_positions.specs.Lines.{line_starts}
use Rattle.text_positions.specs.Marks.{IsMark}
use Rattle.text_positions.proofs.LineStarts.{later_starts}
use Rattle.text_positions.proofs.MarkOrder.{Ordered}
use Rattle.text_positions.proofs.MarkWalks.{Here}
use Rattle.text_positions.proofs.MarksNear.{Near}
use Rattle.text_positions.proofs.lines.Lines.of.Given as goal

-- the starts so far, and those of what is left, are those of the text; the marks so far are marks of it, in its
-- order and near each other
abbrev pub invariant-loop-c : goal.invariant-loop-c
invariant-loop-c l = record {
  text : shadow (Utf8 l.rest);
  within : length l.rest ≤ length l.text;
  rest : l.rest ≡ drop (length l.text - length l.rest) l.text;
  so_far : l.starts.items ++ later_starts (length l.text - length l.rest) (lines_of (chars l.rest)) ≡ line_starts l.text;
  here : Here l.text l.rest l.here;
  marks : All (IsMark l.text) l.marks.items;
  begun : l.here.start ≤ length l.text - length l.rest;
  order : Ordered l.marks.items l.here;
  near : Near l.text l.rest l.starts.items l.marks.items l.here;
}

abbrev pub decreases-loop-c : goal.decreases-loop-c
decreases-loop-c l = length l.rest
