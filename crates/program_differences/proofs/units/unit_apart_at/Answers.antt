use Rattle.std.proofs.Common.{◌<◌, ◌≤◌, length, get_or, List, sym, ap, ◌∙◌, subst, arith}
use Rattle.std.specs.Prelude.{None}
use Rattle.rename_model.specs.SameProgram.{unit_stretches}
use Rattle.rename_model.specs.Difference.{first_among}
use Rattle.core_tree.specs.declared.units.Unit.{Unit as CodeUnit}
use Rattle.program_differences.specs.Apart.{AreFound}
use Rattle.program_differences.specs.Exported.{changes_as}
use Rattle.program_differences.proofs.UnitLaws.{units_from, none_behind}
use Rattle.program_differences.proofs.BothLaws.{unit_of, is_unit, same_count, nothing_there}
use Rattle.program_differences.proofs.units.unit_apart_at.Goals as goal

pub unit_apart-requires : goal.unit_apart-requires
unit_apart-requires c =
    let programs = c.args.programs.now in
    let n = c.args.place in
    let lt : n < length programs.old.now.units = let size = ap length c.as_slice-old.ensures in omega (arith, size) in
    let more : n < length programs.new.now.units = let e = c.requires.alike.count in let size = ap length c.as_slice-old.ensures in omega (arith, e, size) in
    record {
      old = is_unit programs.work.now programs.old.now n c.index-old-place.result c.requires.stand.old lt (c.index-old-place.is ∙ ap (λ (us : List CodeUnit). get_or us c.args.place c.index-old-place.result) c.as_slice-old.ensures);
      new = is_unit programs.work.now programs.new.now n c.index-new-place.result c.requires.stand.new more (c.index-new-place.is ∙ ap (λ (us : List CodeUnit). get_or us c.args.place c.index-new-place.result) c.as_slice-new.ensures);
      count = same_count programs.old.now.units programs.new.now.units n c.index-old-place.result c.index-new-place.result c.requires.alike lt more (c.index-old-place.is ∙ ap (λ (us : List CodeUnit). get_or us c.args.place c.index-old-place.result) c.as_slice-old.ensures) (c.index-new-place.is ∙ ap (λ (us : List CodeUnit). get_or us c.args.place c.index-new-place.result) c.as_slice-new.ensures);
    }

pub returns-then-place-old : goal.returns-then-place-old
returns-then-place-old c = λ text uris before after p q is_live stand numbered given others tells.
    let programs = c.args.programs.now in
    let n = c.args.place in
    let past : length programs.old.now.units ≤ n = let size = ap length c.as_slice-old.ensures in omega (arith, size) in
    let other : length programs.new.now.units ≤ n = let e = c.requires.alike.count in let size = ap length c.as_slice-old.ensures in omega (arith, e, size) in
    let one = none_behind programs.work.now text uris before p programs.old.now.units (units_from programs.work.now text uris before p programs.old.now.units stand.old) n past in
    let two = none_behind programs.work.now text uris after q programs.new.now.units (units_from programs.work.now text uris after q programs.new.now.units stand.new) n other in
    subst (AreFound programs.work.now.symbols None) (sym (nothing_there is_live p q (changes_as c.args.changes.now) n one two)) tt

pub returns : goal.returns
returns c = λ text uris before after p q is_live stand numbered given others tells.
    let programs = c.args.programs.now in
    let work = programs.work.now in
    let n = c.args.place in
    let lt : n < length programs.old.now.units = let size = ap length c.as_slice-old.ensures in omega (arith, size) in
    let more : n < length programs.new.now.units = let e = c.requires.alike.count in let size = ap length c.as_slice-old.ensures in omega (arith, e, size) in
    let one = unit_of work text uris before p programs.old.now.units n c.index-old-place.result stand.old lt (c.index-old-place.is ∙ ap (λ (us : List CodeUnit). get_or us c.args.place c.index-old-place.result) c.as_slice-old.ensures) in
    let two = unit_of work text uris after q programs.new.now.units n c.index-new-place.result stand.new more (c.index-new-place.is ∙ ap (λ (us : List CodeUnit). get_or us c.args.place c.index-new-place.result) c.as_slice-new.ensures) in
    let count = same_count programs.old.now.units programs.new.now.units n c.index-old-place.result c.index-new-place.result c.requires.alike lt more (c.index-old-place.is ∙ ap (λ (us : List CodeUnit). get_or us c.args.place c.index-old-place.result) c.as_slice-old.ensures) (c.index-new-place.is ∙ ap (λ (us : List CodeUnit). get_or us c.args.place c.index-new-place.result) c.as_slice-new.ensures) in
    let here = c.in_ok-unit_apart.ensures text uris before after p q one.it two.it is_live (record { old = one.stands; new = two.stands; count = count }) numbered (given n one.it one.there) (others n two.it two.there) tells in
    subst (AreFound work.symbols _) (λ j. first_among is_live (unit_stretches p q (changes_as c.args.changes.now) n (sym one.there j) (sym two.there j))) here
