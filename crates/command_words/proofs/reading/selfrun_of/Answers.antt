use Rattle.std.proofs.Common.{◌∙◌, refl, sym}
use Rattle.std.proofs.lemmas.Bool.{false≢true}
use Rattle.command_words.proofs.Naming.{no_count, out_of_range}
use Rattle.command_words.proofs.reading.selfrun_of.Goals as goal

pub returns-then-is_in_range : goal.returns-then-is_in_range
returns-then-is_in_range c =
    let within = c.is_in_range.ensures.0 c.if-is_in_range.true in
    (refl, record { count = c.args.count.now; words_are = refl; count_is = c.in-Some.ensures; some = within.0; most = within.1 })

pub returns-else-is_in_range : goal.returns-else-is_in_range
returns-else-is_in_range c =
    out_of_range c.args.count.now c.in-Some.libraries c.in-Some.ensures (λ one most. false≢true (sym c.if-is_in_range.false ∙ c.is_in_range.ensures.1 (one, most)))

pub returns-in-None : goal.returns-in-None
returns-in-None c = no_count c.args.count.now c.in-None.ensures
