use Rattle.std.proofs.Common.{◌≡◌, ◌∙◌, ap, ap₂, codes, false, arith}
use Rattle.clap.specs.Words.{app_of, is_simple_and_free, with_rule}
use Rattle.command_words.specs.ClapWords.{seen, with_some_words}
use Rattle.command_words.proofs.ClapLaws.{all_are, all_there, few_words, ranged, stays_local}
use Rattle.command_words.proofs.ClapRuns.{some_simple}
use Rattle.command_words.proofs.clap_words.some_words.Goals as goal

pub found-requires : goal.found-requires
found-requires c =
    let old = c.argument.result in
    let new = c.num_args-argument.result in
    let local : new.global ≡ false = stays_local old new c.num_args-argument.ensures.0 c.argument.ensures.0 in
    let app_is : app_of c.in_ok-command.command ≡ with_some_words c.args.first.now = c.in_ok-command.ensures.shape local ∙ ap₂ with_rule c.new.ensures.app (ranged old new (codes "words") c.argument.ensures.1 c.num_args-argument.ensures.0 c.num_args-argument.ensures.1) in
    ap is_simple_and_free app_is ∙ some_simple c.args.first.now

pub all_found-requires : goal.all_found-requires
all_found-requires c =
    let old = c.argument.result in
    let new = c.num_args-argument.result in
    let local : new.global ≡ false = stays_local old new c.num_args-argument.ensures.0 c.argument.ensures.0 in
    let app_is : app_of c.in_ok-command.command ≡ with_some_words c.args.first.now = c.in_ok-command.ensures.shape local ∙ ap₂ with_rule c.new.ensures.app (ranged old new (codes "words") c.argument.ensures.1 c.num_args-argument.ensures.0 c.num_args-argument.ensures.1) in
    all_there c.args.first.now (seen c.args.words.now) (seen c.as_slice.result.now) (app_of c.in_ok-command.command) c.in_ok-found.found app_is (ap seen c.as_slice.ensures.value ∙ c.in_ok-given.ensures) c.in_ok-found.ensures

pub returns : goal.returns
returns c =
    let old = c.argument.result in
    let new = c.num_args-argument.result in
    let local : new.global ≡ false = stays_local old new c.num_args-argument.ensures.0 c.argument.ensures.0 in
    let app_is : app_of c.in_ok-command.command ≡ with_some_words c.args.first.now = c.in_ok-command.ensures.shape local ∙ ap₂ with_rule c.new.ensures.app (ranged old new (codes "words") c.argument.ensures.1 c.num_args-argument.ensures.0 c.num_args-argument.ensures.1) in
    all_are c.args.first.now (seen c.args.words.now) (seen c.as_slice.result.now) (app_of c.in_ok-command.command) c.in_ok-found.found c.in_ok-all.all
    (let ok = c.in_ok-given.given.ok in few_words c.args.first.now (seen c.args.words.now) c.in_ok-given.given.items c.in_ok-given.given.cap c.in_ok-given.ensures (omega arith) c.in_ok-given.given.small) app_is (ap seen c.as_slice.ensures.value ∙ c.in_ok-given.ensures) c.in_ok-found.ensures c.in_ok-all.ensures
