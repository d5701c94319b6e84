use Rattle.std.proofs.Common.{◌∙◌, sym, ap}
use Rattle.clap.specs.Words.{app_of, is_simple_and_free}
use Rattle.command_words.specs.ClapWords.{seen}
use Rattle.command_words.proofs.ClapLaws.{alone}
use Rattle.command_words.proofs.ClapRuns.{none_simple}
use Rattle.command_words.proofs.clap_words.is_alone.Goals as goal

pub found-requires : goal.found-requires
found-requires c = ap is_simple_and_free c.new.ensures.app ∙ none_simple c.args.first.now

pub returns : goal.returns
returns c =
    let h = alone c.args.first.now (seen c.args.words.now) (seen c.as_slice.result.now) (app_of c.new.result) c.in_ok-found.found c.new.ensures.app (ap seen c.as_slice.ensures.value ∙ c.in_ok-given.ensures) c.in_ok-found.ensures in
    (λ t. h.0 (sym c.is_some.ensures ∙ t), λ none. c.is_some.ensures ∙ h.1 none)
