use Rattle.std.proofs.Common.{ap}
use Rattle.command_words.specs.ClapWords.{seen}
use Rattle.command_words.proofs.PositionalLaws.{all_added, all_taken, empty_refused, option_refused}
use Rattle.command_words.proofs.positionals.positional_words.Goals as goal

pub returns-then-has_option : goal.returns-then-has_option
returns-then-has_option c = option_refused c.args.words.now c.parts.result.0.now c.has_option.result c.parts.ensures.front c.has_option.ensures c.if-has_option.true

pub returns-then-has_empty : goal.returns-then-has_empty
returns-then-has_empty c = empty_refused c.args.words.now c.has_empty.result c.has_empty.ensures c.if-has_empty.true

pub returns : goal.returns
returns c = (
  all_taken c.args.words.now c.parts.result.0.now c.has_option.result c.has_empty.result c.parts.ensures.front c.has_option.ensures c.if-has_option.false c.has_empty.ensures c.if-has_empty.false,
  all_added c.args.words.now c.parts.result.0.now c.parts.result.1.now (seen c.new-all.result.items) (seen c.push_words.new.all.items) (seen c.push_words-2.new.all.items) (ap seen c.new-all.ensures.items)
      c.parts.ensures.front c.parts.ensures.back c.in_ok-push_words.ensures c.in_ok-push_words-2.ensures,
)
