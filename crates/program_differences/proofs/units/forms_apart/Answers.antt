use Rattle.std.proofs.Common.{◌≡◌, ◌+◌, ◌-◌, ◌<◌, ℕ, None, length, List, sym, ap, ◌∙◌, subst, arith}
use Rattle.std.specs.Prelude.{Some, max}
use Rattle.std.specs.Option.{is_some}
use Rattle.scheme_model.specs.ProgramArrows.{program_table}
use Rattle.rename_model.specs.SameProgram.{Stretch, stretch, items_at, form_points_at, form_stretches}
use Rattle.rename_model.specs.Difference.{first_among}
use Rattle.core_tree.specs.Units.{FormsStand}
use Rattle.core_tree.specs.declared.units.UnitForm.{UnitForm}
use Rattle.program_differences.specs.Apart.{at_form, AreFound}
use Rattle.program_differences.proofs.ApartLaws.{pair_here, pair_past, next_form, no_form}
use Rattle.program_differences.proofs.UnitLaws.{max_itself, form_at}
use Rattle.program_differences.proofs.units.forms_apart.Goals as goal

pub form_apart-requires : goal.form_apart-requires
form_apart-requires c =
    let work = c.args.programs.now.work.now in
    let place = c.args.both.place in
    let k = c.loop-form.form in
    let b = c.requires in
    record {
      old = record {
        unit = place;
        form = k;
        ps = items_at b.old.r.forms k;
        stand = form_at work place c.as_slice-old.result.now b.old.r.forms (subst (λ (cs : List UnitForm). FormsStand work place 0 cs b.old.r.forms) (sym c.as_slice-old.ensures) b.old.stand.forms) k c.index-old-form.result c.unbroken.result.now (omega arith) c.index-old-form.is c.unbroken.ensures;
      };
      new = record {
        unit = place;
        form = k;
        ps = items_at b.new.r.forms k;
        stand = form_at work place c.as_slice-new.result.now b.new.r.forms (subst (λ (cs : List UnitForm). FormsStand work place 0 cs b.new.r.forms) (sym c.as_slice-new.ensures) b.new.stand.forms) k c.index-new-form.result c.unbroken-in-loop-form.result.now (let size = ap length c.as_slice-old.ensures in let other = ap length c.as_slice-new.ensures in let same = b.count in omega (arith, size, other, same)) c.index-new-form.is c.unbroken-in-loop-form.ensures;
      };
    }

pub returns-then-is_some : goal.returns-then-is_some
returns-then-is_some c = λ text uris before after p q r s is_live stand numbered tells.
    let work = c.args.programs.now.work.now in
    let names = work.symbols in
    let place = c.args.both.place in
    let t = program_table p in
    let u = program_table q in
    let k = c.loop-form.form in
    let count = length r.unit.forms in
    let o = form_at work place c.as_slice-old.result.now r.forms (subst (λ (cs : List UnitForm). FormsStand work place 0 cs r.forms) (sym c.as_slice-old.ensures) stand.old.forms) k c.index-old-form.result c.unbroken.result.now (omega arith) c.index-old-form.is c.unbroken.ensures in
    let n = form_at work place c.as_slice-new.result.now s.forms (subst (λ (cs : List UnitForm). FormsStand work place 0 cs s.forms) (sym c.as_slice-new.ensures) stand.new.forms) k c.index-new-form.result c.unbroken-in-loop-form.result.now (let size = ap length c.as_slice-old.ensures in let other = ap length c.as_slice-new.ensures in let same = stand.count in omega (arith, size, other, same)) c.index-new-form.is c.unbroken-in-loop-form.ensures in
    let pair = c.in_ok-pair.ensures p q place k is_live (items_at r.forms k) (items_at s.forms k) numbered tells o n in
    let lt : k < count = let e = stand.old.count in let size = ap length c.as_slice-old.ensures in omega (arith, e, size) in
    let this : Stretch = stretch place k (form_points_at t (Some r) k) (form_points_at u (Some s) k) in
    let first = pair_here names is_live this (form_stretches t u place (Some r) (Some s) (k + 1) (count - (k + 1))) _ (sym c.is_some.ensures ∙ c.if-is_some.true) pair in
    let alike : length s.unit.forms ≡ count = let e = stand.old.count in let f = stand.new.count in let g = stand.count in omega (arith, e, f, g) in
    let many : max count (length s.unit.forms) ≡ count = ap (max count) alike ∙ max_itself count in
    let whole = sym (next_form is_live t u place (Some r) (Some s) k count lt) ∙ c.loop-form.invariant text uris before after p q r s is_live stand numbered tells ∙ ap (λ (m : ℕ). first_among is_live (form_stretches t u place (Some r) (Some s) 0 m)) (sym many) in
    subst (λ x. AreFound names x (first_among is_live (form_stretches t u place (Some r) (Some s) 0 (max count (length s.unit.forms))))) (sym c.placed.ensures) (subst (AreFound names (at_form place k _)) whole first)

pub loop-form-preserved : goal.loop-form-preserved
loop-form-preserved c = λ text uris before after p q r s is_live stand numbered tells.
    let work = c.args.programs.now.work.now in
    let names = work.symbols in
    let place = c.args.both.place in
    let t = program_table p in
    let u = program_table q in
    let k = c.loop-form.form in
    let count = length r.unit.forms in
    let o = form_at work place c.as_slice-old.result.now r.forms (subst (λ (cs : List UnitForm). FormsStand work place 0 cs r.forms) (sym c.as_slice-old.ensures) stand.old.forms) k c.index-old-form.result c.unbroken.result.now (omega arith) c.index-old-form.is c.unbroken.ensures in
    let n = form_at work place c.as_slice-new.result.now s.forms (subst (λ (cs : List UnitForm). FormsStand work place 0 cs s.forms) (sym c.as_slice-new.ensures) stand.new.forms) k c.index-new-form.result c.unbroken-in-loop-form.result.now (let size = ap length c.as_slice-old.ensures in let other = ap length c.as_slice-new.ensures in let same = stand.count in omega (arith, size, other, same)) c.index-new-form.is c.unbroken-in-loop-form.ensures in
    let pair = c.in_ok-pair.ensures p q place k is_live (items_at r.forms k) (items_at s.forms k) numbered tells o n in
    let lt : k < count = let e = stand.old.count in let size = ap length c.as_slice-old.ensures in omega (arith, e, size) in
    let this : Stretch = stretch place k (form_points_at t (Some r) k) (form_points_at u (Some s) k) in
    let past = pair_past names is_live this (form_stretches t u place (Some r) (Some s) (k + 1) (count - (k + 1))) _ (sym c.is_some.ensures ∙ c.if-is_some.false) pair in
    sym (next_form is_live t u place (Some r) (Some s) k count lt ∙ past) ∙ c.loop-form.invariant text uris before after p q r s is_live stand numbered tells

pub returns : goal.returns
returns c = λ text uris before after p q r s is_live stand numbered tells.
    let names = c.args.programs.now.work.now.symbols in
    let place = c.args.both.place in
    let t = program_table p in
    let u = program_table q in
    let count = length r.unit.forms in
    let alike : length s.unit.forms ≡ count = let e = stand.old.count in let f = stand.new.count in let g = stand.count in omega (arith, e, f, g) in
    let many : max count (length s.unit.forms) ≡ count = ap (max count) alike ∙ max_itself count in
    let whole = sym (no_form is_live t u place (Some r) (Some s) c.loop-form.form count (let e = stand.old.count in let size = ap length c.as_slice-old.ensures in omega (arith, e, size))) ∙ c.loop-form.invariant text uris before after p q r s is_live stand numbered tells
    ∙ ap (λ (m : ℕ). first_among is_live (form_stretches t u place (Some r) (Some s) 0 m)) (sym many) in
    subst (AreFound names None) whole tt
