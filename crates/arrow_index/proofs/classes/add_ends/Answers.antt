use Rattle.arrow_index.proofs.ClassWalks.{gains_one, gains_place, gains_standard}
use Rattle.arrow_index.proofs.classes.add_ends.Goals as goal

pub returns-in_ok-insert-2 : goal.returns-in_ok-insert-2
returns-in_ok-insert-2 c =
    let s = c.args.ends.now in
    let t = c.insert.new.self in
    let u = c.insert-in-Place.new.self in
    let l = c.args.link.now in
    gains_place s t u l.origin l.target c.in-Place.place l.prefix c.in-Place.is (gains_one s t l.target c.in_ok-insert.ensures.updates.0) (gains_one t u c.in-Place.place c.in_ok-insert-2.ensures.updates.0)

pub returns-in_default : goal.returns-in_default
returns-in_default c =
    let s = c.args.ends.now in
    let t = c.insert.new.self in
    let l = c.args.link.now in
    gains_standard s t l.origin l.target c.in_default.field-0 l.prefix c.in_default.is (gains_one s t l.target c.in_ok-insert.ensures.updates.0)
