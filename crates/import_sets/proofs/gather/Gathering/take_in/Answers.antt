use Rattle.std.proofs.Common.{◌≡◌, Bool, None, Some, length, cond, slice_set, refl, sym, ap, ◌∙◌, arith, rules}
use Rattle.std.proofs.lemmas.Option.{slice_get_read}
use Rattle.import_sets.specs.GatheringSeen.{seen}
use Rattle.import_sets.specs.Given.{place_of, taken, with_more}
use Rattle.import_sets.proofs.PlaceLaws.{join_new, join_at, place_within}
use Rattle.import_sets.proofs.gather.Gathering.take_in.Goals as goal

pub returns-in_default : goal.returns-in_default
returns-in_default c =
    let gs = c.args.self.groups.items in
    let none : place_of gs c.args.entry.name ≡ None = search rules in
    (λ j. record { groups = c.in_ok-with_new.ensures.groups j; clashes = c.in_ok-with_new.ensures.clashes j })
    ∙ sym (ap (taken (seen c.args.self) c.args.entry) (join_new gs c.args.entry none))

pub index-requires : goal.index-requires
index-requires c =
    let gs = c.args.self.groups.items in
    let at : place_of gs c.args.entry.name ≡ Some c.in-Some.place = sym (c.in-Some.ensures ∙ ap (place_of gs) c.as_str.ensures) in
    omega (arith, place_within gs c.args.entry.name c.in-Some.place at, c.args.self.groups.ok.0)

pub with_origins-requires : goal.with_origins-requires
with_origins-requires c =
    let gs = c.args.self.groups.items in
    place_within gs c.args.entry.name c.in-Some.place (sym (c.in-Some.ensures ∙ ap (place_of gs) c.as_str.ensures))

pub returns-then-same_meaning : goal.returns-then-same_meaning
returns-then-same_meaning c =
    let gs = c.args.self.groups.items in
    let e = c.args.entry in
    let i = c.in-Some.place in
    let g = c.index.result.now in
    let at : place_of gs e.name ≡ Some i = sym (c.in-Some.ensures ∙ ap (place_of gs) c.as_str.ensures) in
    let get = slice_get_read gs (length gs) i g refl (place_within gs e.name i at) c.index.ensures in
    (λ j. record { groups = c.in_ok-with_origins.ensures.groups g get j; clashes = c.in_ok-with_origins.ensures.clashes j })
    ∙ sym (ap (taken (seen c.args.self) e) (join_at gs e i g at get ∙ ap (λ (b : Bool). cond b (Some (slice_set gs i (with_more g e))) None) (sym c.if-same_meaning.ensures)))

pub returns : goal.returns
returns c =
    let gs = c.args.self.groups.items in
    let e = c.args.entry in
    let i = c.in-Some.place in
    let g = c.index.result.now in
    let at : place_of gs e.name ≡ Some i = sym (c.in-Some.ensures ∙ ap (place_of gs) c.as_str.ensures) in
    let get = slice_get_read gs (length gs) i g refl (place_within gs e.name i at) c.index.ensures in
    (λ j. record { groups = c.in_ok-with_clash.ensures.groups j; clashes = c.in_ok-with_clash.ensures.clashes j })
    ∙ sym (ap (taken (seen c.args.self) e) (join_at gs e i g at get ∙ ap (λ (b : Bool). cond b (Some (slice_set gs i (with_more g e))) None) (sym c.if-same_meaning.ensures)))
