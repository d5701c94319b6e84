use Rattle.std.proofs.Common.{◌≡◌, ◌<◌, length, slice_get, Some, arith}
use Rattle.std.proofs.lemmas.Option.{slice_get_read}
use Rattle.form_cache.proofs.Places.{entry_set, place_set, place_within, here_in}
use Rattle.form_cache.proofs.cache.FormCache.put.Goals as goal

pub returns-clause-entries : goal.returns-clause-entries
returns-clause-entries c = λ u f.
    let us = c.args.self.now.units in
    let v = c.index_mut.result.now in
    let low : c.args.unit < length us.items = place_within us.items c.args.unit c.args.form c.requires.place in
    let there : slice_get us.items c.args.unit ≡ Some v = slice_get_read us.items us.len c.args.unit v us.ok.0 (omega (arith, low, us.ok.0)) c.index_mut.ensures.value in
    entry_set us.items c.args.unit c.args.form v there low (Some c.args.entry) (here_in us.items c.args.unit c.args.form v there c.requires.place) u f

pub returns-clause-places : goal.returns-clause-places
returns-clause-places c = λ u f h.
    let us = c.args.self.now.units in
    let v = c.index_mut.result.now in
    let low : c.args.unit < length us.items = place_within us.items c.args.unit c.args.form c.requires.place in
    let there : slice_get us.items c.args.unit ≡ Some v = slice_get_read us.items us.len c.args.unit v us.ok.0 (omega (arith, low, us.ok.0)) c.index_mut.ensures.value in
    place_set us.items c.args.unit c.args.form v there low (Some c.args.entry) (here_in us.items c.args.unit c.args.form v there c.requires.place) u f h
