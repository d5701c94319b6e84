use Rattle.std.proofs.Common.{◌≡◌, ◌∙◌, ap, ap₂, codes}
use Rattle.clap.specs.Words.{app_of, is_simple_and_free, new_app, with_rule}
use Rattle.command_words.specs.ClapWords.{one_word, seen, with_four_words}
use Rattle.command_words.proofs.ClapLaws.{each_there, four_are}
use Rattle.command_words.proofs.ClapRuns.{four_simple}
use Rattle.command_words.proofs.clap_words.four_words.Goals as goal

pub found-requires : goal.found-requires
found-requires c =
    let one : app_of c.in_ok-arg.field-0 ≡ with_rule (new_app c.args.first.now) (one_word (codes "file")) = c.in_ok-arg.ensures.shape c.argument.ensures.0 ∙ ap₂ with_rule c.new.ensures.app c.argument.ensures.1 in
    let two : app_of c.in_ok-arg-2.field-0 ≡ with_rule (with_rule (new_app c.args.first.now) (one_word (codes "file"))) (one_word (codes "line")) = c.in_ok-arg-2.ensures.shape c.argument-2.ensures.0 ∙ ap₂ with_rule one c.argument-2.ensures.1 in
    let three : app_of c.in_ok-arg-3.field-0 ≡ with_rule (with_rule (with_rule (new_app c.args.first.now) (one_word (codes "file"))) (one_word (codes "line"))) (one_word (codes "column")) = c.in_ok-arg-3.ensures.shape c.argument-3.ensures.0 ∙ ap₂ with_rule two c.argument-3.ensures.1 in
    let app_is : app_of c.in_ok-command.command ≡ with_four_words c.args.first.now = c.in_ok-command.ensures.shape c.argument-4.ensures.0 ∙ ap₂ with_rule three c.argument-4.ensures.1 in
    ap is_simple_and_free app_is ∙ four_simple c.args.first.now

pub four_found-requires : goal.four_found-requires
four_found-requires c =
    let one : app_of c.in_ok-arg.field-0 ≡ with_rule (new_app c.args.first.now) (one_word (codes "file")) = c.in_ok-arg.ensures.shape c.argument.ensures.0 ∙ ap₂ with_rule c.new.ensures.app c.argument.ensures.1 in
    let two : app_of c.in_ok-arg-2.field-0 ≡ with_rule (with_rule (new_app c.args.first.now) (one_word (codes "file"))) (one_word (codes "line")) = c.in_ok-arg-2.ensures.shape c.argument-2.ensures.0 ∙ ap₂ with_rule one c.argument-2.ensures.1 in
    let three : app_of c.in_ok-arg-3.field-0 ≡ with_rule (with_rule (with_rule (new_app c.args.first.now) (one_word (codes "file"))) (one_word (codes "line"))) (one_word (codes "column")) = c.in_ok-arg-3.ensures.shape c.argument-3.ensures.0 ∙ ap₂ with_rule two c.argument-3.ensures.1 in
    let app_is : app_of c.in_ok-command.command ≡ with_four_words c.args.first.now = c.in_ok-command.ensures.shape c.argument-4.ensures.0 ∙ ap₂ with_rule three c.argument-4.ensures.1 in
    each_there c.args.first.now (seen c.args.words.now) (seen c.as_slice.result.now) (app_of c.in_ok-command.command) c.in_ok-found.found app_is (ap seen c.as_slice.ensures.value ∙ c.in_ok-given.ensures) c.in_ok-found.ensures

pub returns : goal.returns
returns c =
    let one : app_of c.in_ok-arg.field-0 ≡ with_rule (new_app c.args.first.now) (one_word (codes "file")) = c.in_ok-arg.ensures.shape c.argument.ensures.0 ∙ ap₂ with_rule c.new.ensures.app c.argument.ensures.1 in
    let two : app_of c.in_ok-arg-2.field-0 ≡ with_rule (with_rule (new_app c.args.first.now) (one_word (codes "file"))) (one_word (codes "line")) = c.in_ok-arg-2.ensures.shape c.argument-2.ensures.0 ∙ ap₂ with_rule one c.argument-2.ensures.1 in
    let three : app_of c.in_ok-arg-3.field-0 ≡ with_rule (with_rule (with_rule (new_app c.args.first.now) (one_word (codes "file"))) (one_word (codes "line"))) (one_word (codes "column")) = c.in_ok-arg-3.ensures.shape c.argument-3.ensures.0 ∙ ap₂ with_rule two c.argument-3.ensures.1 in
    let app_is : app_of c.in_ok-command.command ≡ with_four_words c.args.first.now = c.in_ok-command.ensures.shape c.argument-4.ensures.0 ∙ ap₂ with_rule three c.argument-4.ensures.1 in
    four_are c.args.first.now (seen c.args.words.now) (seen c.as_slice.result.now) (app_of c.in_ok-command.command) c.in_ok-found.found c.in_ok-four.four app_is (ap seen c.as_slice.ensures.value ∙ c.in_ok-given.ensures) c.in_ok-found.ensures c.in_ok-four.ensures
