use Rattle.std.proofs.Common.{◌∙◌, sym, codes}
use Rattle.command_words.specs.ClapWords.{seen}
use Rattle.command_words.proofs.Naming.{named_by, no_name, unlike}
use Rattle.command_words.proofs.reading.command_by.Goals as goal

pub returns-in_ok-arrows : goal.returns-in_ok-arrows
returns-in_ok-arrows c = named_by c.args.first.now (codes "arrows") (seen c.args.words.now) _ (sym c.eq.ensures ∙ c.if-eq.true) c.in_ok-arrows.ensures

pub returns-in_ok-serve : goal.returns-in_ok-serve
returns-in_ok-serve c = named_by c.args.first.now (codes "serve") (seen c.args.words.now) _ (sym c.eq-else-eq.ensures ∙ c.if-eq-2.true) c.in_ok-serve.ensures

pub returns-in_ok-replay : goal.returns-in_ok-replay
returns-in_ok-replay c = named_by c.args.first.now (codes "replay") (seen c.args.words.now) _ (sym c.eq-else-eq-2.ensures ∙ c.if-eq-3.true) c.in_ok-replay.ensures

pub returns-in_ok-check : goal.returns-in_ok-check
returns-in_ok-check c = named_by c.args.first.now (codes "check") (seen c.args.words.now) _ (sym c.eq-else-eq-3.ensures ∙ c.if-eq-4.true) c.in_ok-check.ensures

pub returns-in_ok-rename : goal.returns-in_ok-rename
returns-in_ok-rename c = named_by c.args.first.now (codes "rename") (seen c.args.words.now) _ (sym c.eq-else-eq-4.ensures ∙ c.if-eq-5.true) c.in_ok-rename.ensures

pub returns-in_ok-selfrun : goal.returns-in_ok-selfrun
returns-in_ok-selfrun c = named_by c.args.first.now (codes "selfrun") (seen c.args.words.now) _ (sym c.eq-else-eq-5.ensures ∙ c.if-eq-6.true) c.in_ok-selfrun.ensures

pub returns-else-eq-6 : goal.returns-else-eq-6
returns-else-eq-6 c =
    no_name c.args.first.now (seen c.args.words.now) (unlike c.args.first.now (codes "arrows") (sym c.eq.ensures ∙ c.if-eq.false)) (unlike c.args.first.now (codes "serve") (sym c.eq-else-eq.ensures ∙ c.if-eq-2.false)) (unlike c.args.first.now (codes "replay") (sym c.eq-else-eq-2.ensures ∙ c.if-eq-3.false)) (unlike c.args.first.now (codes "check") (sym c.eq-else-eq-3.ensures ∙ c.if-eq-4.false)) (unlike c.args.first.now (codes "rename") (sym c.eq-else-eq-4.ensures ∙ c.if-eq-5.false)) (unlike c.args.first.now (codes "selfrun") (sym c.eq-else-eq-5.ensures ∙ c.if-eq-6.false))
