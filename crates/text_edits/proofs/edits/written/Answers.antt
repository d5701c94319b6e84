use Rattle.std.proofs.Common.{subst}
use Rattle.std.specs.Str.{IsUtf8}
use Rattle.text_edits.proofs.SpellLaws.{written_is}
use Rattle.text_edits.proofs.edits.written.Goals as goal

pub returns : goal.returns
returns c = written_is c.in_ok-text.text c.args.name.now c.args.bars (subst IsUtf8 c.as_str-shown.ensures c.as_str-shown.utf8) c.in_ok-text.ensures
