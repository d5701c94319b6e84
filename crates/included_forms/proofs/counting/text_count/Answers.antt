use Rattle.std.proofs.Common.{◌≡◌, ◌≤◌, ◌<◌, Some, slice_get, length, refl, sym, ap, ◌∙◌, arith}
use Rattle.std.proofs.lemmas.Bool.Decides.{nat_tests}
use Rattle.std.proofs.lemmas.Option.{slice_get_read}
use Rattle.included_forms.specs.declared.given.Written.{Written}
use Rattle.included_forms.specs.Counted.{tally_as, tally_of}
use Rattle.included_forms.proofs.TableLaws.{text_far, written_there}
use Rattle.included_forms.proofs.counting.text_count.Goals as goal

pub returns-in-None : goal.returns-in-None
returns-in-None c = λ limit gs h.
    let far : length c.args.parts.now ≤ c.args.place = grind (arith, nat_tests) in
    let as_many = h.as_many in
    ap tally_of (sym (text_far gs c.args.place c.args.way (omega arith)))

pub returns-in-Some : goal.returns-in-Some
returns-in-Some c = λ limit gs h.
    let low : c.args.place < length c.args.parts.now = grind (arith, nat_tests) in
    let there : slice_get c.args.parts.now c.args.place ≡ Some c.in-Some.part.now = slice_get_read c.args.parts.now (length c.args.parts.now) c.args.place c.in-Some.part.now refl low c.in-Some.ensures.lookup.1 in
    ap (λ (w : Written). tally_as w.count) c.written.ensures ∙ (written_there limit gs c.args.parts.now c.args.place c.in-Some.part.now c.args.way h there).count
