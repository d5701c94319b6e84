use Rattle.std.proofs.Common.{◌∙◌}
use Rattle.known_libraries.proofs.NameTexts.{symbol_written}
use Rattle.known_libraries.proofs.library_names.symbol_text.Goals as goal

pub returns : goal.returns
returns c = c.in_ok-of.ensures ∙ symbol_written c.args.symbol.now c.in_ok-written.written c.as_str.result.now c.as_str.ensures c.as_str.utf8 c.in_ok-written.ensures
