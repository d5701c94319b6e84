use Rattle.std.proofs.Common.{◌≡◌, ◌∙◌, ap, ap₂}
use Rattle.clap.specs.Words.{app_of, is_simple_and_free, with_rule}
use Rattle.command_words.specs.ClapWords.{seen, with_one_word}
use Rattle.command_words.proofs.ClapLaws.{word_is, word_there}
use Rattle.command_words.proofs.ClapRuns.{one_simple}
use Rattle.command_words.proofs.clap_words.one_word.Goals as goal

pub found-requires : goal.found-requires
found-requires c =
    let app_is : app_of c.in_ok-command.command ≡ with_one_word c.args.first.now = c.in_ok-command.ensures.shape c.argument.ensures.0 ∙ ap₂ with_rule c.new.ensures.app c.argument.ensures.1 in
    ap is_simple_and_free app_is ∙ one_simple c.args.first.now

pub word_found-requires : goal.word_found-requires
word_found-requires c =
    let app_is : app_of c.in_ok-command.command ≡ with_one_word c.args.first.now = c.in_ok-command.ensures.shape c.argument.ensures.0 ∙ ap₂ with_rule c.new.ensures.app c.argument.ensures.1 in
    word_there c.args.first.now (seen c.args.words.now) (seen c.as_slice.result.now) (app_of c.in_ok-command.command) c.in_ok-found.found app_is (ap seen c.as_slice.ensures.value ∙ c.in_ok-given.ensures) c.in_ok-found.ensures

pub returns : goal.returns
returns c =
    let app_is : app_of c.in_ok-command.command ≡ with_one_word c.args.first.now = c.in_ok-command.ensures.shape c.argument.ensures.0 ∙ ap₂ with_rule c.new.ensures.app c.argument.ensures.1 in
    word_is c.args.first.now (seen c.args.words.now) (seen c.as_slice.result.now) (app_of c.in_ok-command.command) c.in_ok-found.found c.in_ok-word.word app_is (ap seen c.as_slice.ensures.value ∙ c.in_ok-given.ensures) c.in_ok-found.ensures c.in_ok-word.ensures
