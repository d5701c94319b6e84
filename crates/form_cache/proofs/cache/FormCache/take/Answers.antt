use Rattle.std.proofs.Common.{◌≡◌, ◌<◌, slice_get, Some, None, arith, rules}
use Rattle.std.proofs.lemmas.Option.{slice_get_read}
use Rattle.form_cache.proofs.Places.{entry_set, place_set}
use Rattle.form_cache.proofs.cache.FormCache.take.Goals as goal

pub returns-in-Some-get_mut-clause-others : goal.returns-in-Some-get_mut-clause-others
returns-in-Some-get_mut-clause-others c = λ u f.
    let us = c.args.self.now.units in
    let v = c.in-Some.forms.now in
    let low : c.args.unit < us.len = search rules in
    let here : c.args.form < v.len = search rules in
    let there : slice_get us.items c.args.unit ≡ Some v = slice_get_read us.items us.len c.args.unit v us.ok.0 low c.in-Some.ensures.value in
    rw c.take.ensures.after (entry_set us.items c.args.unit c.args.form v there (omega (arith, us.ok.0)) None (omega (arith, v.ok.0)) u f)

pub returns-in-Some-get_mut-clause-places : goal.returns-in-Some-get_mut-clause-places
returns-in-Some-get_mut-clause-places c = λ u f h.
    let us = c.args.self.now.units in
    let v = c.in-Some.forms.now in
    let low : c.args.unit < us.len = search rules in
    let here : c.args.form < v.len = search rules in
    let there : slice_get us.items c.args.unit ≡ Some v = slice_get_read us.items us.len c.args.unit v us.ok.0 low c.in-Some.ensures.value in
    place_set us.items c.args.unit c.args.form v there (omega (arith, us.ok.0)) c.take.new.self (omega (arith, v.ok.0)) u f h
