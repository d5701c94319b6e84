-- One string more.
use Rattle.std.proofs.Common.{◌+◌, [], ◌∷◌, arith, take}
use Rattle.datum_reader.specs.Views.{data_of, datum_of}
use Rattle.included_strings.specs.Strings.{strings_among, texts_now, texts_of}
use Rattle.included_strings.proofs.WalkLaws.{added, string_more}
use Rattle.included_strings.proofs.walk.add_all.Goals as goal

pub loop-datum-preserved : goal.loop-datum-preserved
loop-datum-preserved c =
    let i = c.loop-datum.datum-index in
    let d = c.datum-item.result in
    added (texts_now c.args.strings.now.items) (texts_now c.loop-datum.strings.items) (texts_now c.add_one.new.strings.items) (texts_of (strings_among (data_of (take i c.args.data.now))))
    (texts_of (strings_among (datum_of d ∷ []))) (texts_of (strings_among (data_of (take (i + 1) c.args.data.now)))) c.loop-datum.invariant c.in_ok-add_one.ensures (string_more c.args.data.now i d (omega arith) c.datum-item.is)
