use Rattle.std.proofs.Common.{◌≡◌, ◌++◌, length, slice_set, refl, sym, ap, ◌∙◌}
use Rattle.std.proofs.lemmas.Option.{slice_get_read, same_Some}
use Rattle.import_sets.specs.declared.gather.Group.{Group}
use Rattle.import_sets.proofs.PlaceLaws.{place_set}
use Rattle.import_sets.proofs.gather.Gathering.with_origins.Goals as goal

pub invariant_of-result : goal.invariant_of-result
invariant_of-result c =
    let gs = c.args.self.groups.items in
    let g = c.index_mut.result.now in
    let at = slice_get_read gs (length gs) c.args.place g refl c.requires c.index_mut.ensures.value in
    record { placed = λ s. c.args.self.placed s ∙ sym (place_set gs c.args.place g (record { entry = g.entry; more = c.add_origins.new.all }) s at refl) }

pub returns-clause-groups : goal.returns-clause-groups
returns-clause-groups c g at =
    let gs = c.args.self.groups.items in
    let read = slice_get_read gs (length gs) c.args.place c.index_mut.result.now refl c.requires c.index_mut.ensures.value in
    let same : c.index_mut.result.now ≡ g = same_Some c.index_mut.result.now g (sym read ∙ at) in
    let more : c.add_origins.new.all ≡ g.more ++ c.args.origins = c.in_ok-add_origins.ensures ∙ ap (λ (h : Group). h.more ++ c.args.origins) same in
    λ j. slice_set gs c.args.place (record { entry = (same j).entry; more = more j })
