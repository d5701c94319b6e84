use Rattle.std.proofs.Common.{◌≡◌, ◌+◌, ◌*◌, ◌^◌, ◌≤◌, refl, ap, ◌∙◌, arith}
use Rattle.scheme_model.specs.Expression.{whole, expand}
use Rattle.form_parts.specs.FormsSeen.{head_name_of}
use Rattle.unit_scopes.specs.declared.scope.UnitScope.{UnitScope}
use Rattle.expander.specs.Ready.{use_met, head_asked}
use Rattle.expander.proofs.AfterLaws.{all_known, enough_there, stays_after}
use Rattle.expander.proofs.LoopLaws.{after_itself, after_on}
use Rattle.expander.proofs.ReadLaws.{head_noted, head_within, notes_back}
use Rattle.expander.proofs.SettleLaws.{so_far_begins, so_far_noted, so_far_nameless, use_at, use_head, core_head, so_far_uses, so_far_fails, so_far_settles}
use Rattle.expander.proofs.expressions.settle.Goals as goal
use Rattle.noted_steps.specs.Noting.{state_of, noting}
use Rattle.noted_steps.proofs.NoteLaws.{plainly, plain_look, plain_noted}

pub uses-init : goal.uses-init
uses-init c = record {
  opened = c.requires.opened;
  after = after_itself c.args.work.now c.args.region.now c.args.units.now c.args.at.scope c.requires.look;
  form = c.requires.form;
  locals = refl;
  so_far = λ known turns ls s fs t knows e at works enough.
      so_far_begins known c.args.at.depth turns c.args.work.now c.args.region.now c.args.units.now ls s fs c.args.form c.args.at.here c.here_at-here.result t e works enough (c.here_at-here.ensures t works.0);
}

pub look_at_head-requires-clause-look : goal.look_at_head-requires-clause-look
look_at_head-requires-clause-look c = plain_look c.uses.work c.uses.units c.args.at.scope c.uses.invariant.after.look

pub look_at_head-requires-clause-form : goal.look_at_head-requires-clause-form
look_at_head-requires-clause-form c = (c.uses.invariant.form.0.0, c.uses.invariant.form.0.1)

-- ---- a use at the head

pub note-requires : goal.note-requires
note-requires c =
    let l = c.requires.look in
    let k = all_known c.args.units.now.libraries in
    let f = c.requires.form in
    let depth = c.args.at.depth in
    let so = c.uses.invariant.so_far k.0 ((depth + 1) * 2 ^ 40) l.layout l.state l.frames f.0.0 k.1 l.stands l.at (f.0.1, f.1) (enough_there depth c.args.units.now.form.budget.uses) in
    let is = c.in-Macro.ensures k.0 l.layout (state_of so.state) l.frames so.tree (plainly c.uses.work c.uses.units l.layout so.state so.stays.stands) l.at so.works.0 in
    head_within c.uses.work (state_of so.state) l.frames (head_name_of so.tree) c.in-Macro.keyword (use_head k.0 c.uses.work so.state l.frames so.tree c.in-Macro.keyword is)

pub make_use-requires-clause-usable : goal.make_use-requires-clause-usable
make_use-requires-clause-usable c =
    let l = c.requires.look in
    let k = all_known c.args.units.now.libraries in
    let f = c.requires.form in
    let depth = c.args.at.depth in
    let mid = c.uses.work in
    let so = c.uses.invariant.so_far k.0 ((depth + 1) * 2 ^ 40) l.layout l.state l.frames f.0.0 k.1 l.stands l.at (f.0.1, f.1) (enough_there depth c.args.units.now.form.budget.uses) in
    let is = c.in-Macro.ensures k.0 l.layout (state_of so.state) l.frames so.tree (plainly mid c.uses.units l.layout so.state so.stays.stands) l.at so.works.0 in
    let head = use_at k.0 mid so.state l.frames so.tree c.in-Macro.keyword is in
    record {
      layout = l.layout;
      state = head_asked k.0 l.frames (head_name_of so.tree) so.state;
      frames = l.frames;
      stands = head_noted k.0 mid c.note.new.units l.layout so.state l.frames (head_name_of so.tree) c.in-Macro.keyword (use_head k.0 mid so.state l.frames so.tree c.in-Macro.keyword is)
          (λ n for. c.note.ensures.noted k.0 l.layout so.state l.frames n so.stays.stands for);
      there = l.at;
      keyword = head.keyword;
      transformer = head.macro;
      parts = head.parts;
      tail = head.tail;
      used = head.used c.args.at.scope c.uses.here c.uses.form so.works.0;
    }

pub returns-in_err-form-in-Macro-clause-settled : goal.returns-in_err-form-in-Macro-clause-settled
returns-in_err-form-in-Macro-clause-settled c = λ known turns ls s fs t knows e at works enough.
    let depth = c.args.at.depth in
    let mid = c.uses.work in
    let x = c.note.new.units in
    let so = c.uses.invariant.so_far known turns ls s fs t knows e at works enough in
    let is = c.in-Macro.ensures known ls (state_of so.state) fs so.tree (plainly mid c.uses.units ls so.state so.stays.stands) at so.works.0 in
    let head = use_at known mid so.state fs so.tree c.in-Macro.keyword is in
    let p = expand (noting known) turns depth c.args.at.here fs (whole t) s in
    let noted = so_far_noted known depth c.args.work.now mid c.args.region.now c.args.units.now c.uses.units ls fs c.uses.form c.uses.here p so x c.note.ensures.rest
    (head_noted known mid x ls so.state fs (head_name_of so.tree) c.in-Macro.keyword (use_head known mid so.state fs so.tree c.in-Macro.keyword is) (λ n for. c.note.ensures.noted known ls so.state fs n so.stays.stands for)) in
    so_far_fails known depth c.args.work.now mid c.make_use.new.work c.args.region.now c.args.units.now c.uses.units x c.make_use.new.units ls fs c.uses.form c.uses.here c.in-Macro.keyword p so head noted
    turns c.from_residual.result c.in_err-form-in-Macro.field-0.0 c.from_residual.ensures.1
    (c.in_err-form-in-Macro.ensures.used known ls (head_asked known fs (head_name_of so.tree) so.state) fs head.keyword head.macro head.parts head.tail noted.stands at (head.used c.args.at.scope c.uses.here c.uses.form so.works.0))

pub here_at-here-requires-in-Macro : goal.here_at-here-requires-in-Macro
here_at-here-requires-in-Macro c =
    let l = c.requires.look in
    let k = all_known c.args.units.now.libraries in
    let f = c.requires.form in
    let depth = c.args.at.depth in
    let mid = c.uses.work in
    let x = c.note.new.units in
    let so = c.uses.invariant.so_far k.0 ((depth + 1) * 2 ^ 40) l.layout l.state l.frames f.0.0 k.1 l.stands l.at (f.0.1, f.1) (enough_there depth c.args.units.now.form.budget.uses) in
    let is = c.in-Macro.ensures k.0 l.layout (state_of so.state) l.frames so.tree (plainly mid c.uses.units l.layout so.state so.stays.stands) l.at so.works.0 in
    let head = use_at k.0 mid so.state l.frames so.tree c.in-Macro.keyword is in
    let stands = head_noted k.0 mid x l.layout so.state l.frames (head_name_of so.tree) c.in-Macro.keyword (use_head k.0 mid so.state l.frames so.tree c.in-Macro.keyword is) (λ n for. c.note.ensures.noted k.0 l.layout so.state l.frames n so.stays.stands for) in
    let made = c.in_ok-form-in-Macro.ensures.used k.0 l.layout (head_asked k.0 l.frames (head_name_of so.tree) so.state) l.frames head.keyword head.macro head.parts head.tail stands l.at (head.used c.args.at.scope c.uses.here c.uses.form so.works.0) in
    (made.0, made.3.0)

pub uses-smaller : goal.uses-smaller
uses-smaller c =
    let l = c.requires.look in
    let k = all_known c.args.units.now.libraries in
    let f = c.requires.form in
    let depth = c.args.at.depth in
    let mid = c.uses.work in
    let x = c.note.new.units in
    let so = c.uses.invariant.so_far k.0 ((depth + 1) * 2 ^ 40) l.layout l.state l.frames f.0.0 k.1 l.stands l.at (f.0.1, f.1) (enough_there depth c.args.units.now.form.budget.uses) in
    let is = c.in-Macro.ensures k.0 l.layout (state_of so.state) l.frames so.tree (plainly mid c.uses.units l.layout so.state so.stays.stands) l.at so.works.0 in
    let head = use_at k.0 mid so.state l.frames so.tree c.in-Macro.keyword is in
    let stands = head_noted k.0 mid x l.layout so.state l.frames (head_name_of so.tree) c.in-Macro.keyword (use_head k.0 mid so.state l.frames so.tree c.in-Macro.keyword is) (λ n for. c.note.ensures.noted k.0 l.layout so.state l.frames n so.stays.stands for) in
    let made = c.in_ok-form-in-Macro.ensures.used k.0 l.layout (head_asked k.0 l.frames (head_name_of so.tree) so.state) l.frames head.keyword head.macro head.parts head.tail stands l.at (head.used c.args.at.scope c.uses.here c.uses.form so.works.0) in
    let few : c.make_use.new.units.form.budget.uses ≤ 10000 = made.1.stands.form.few_uses in
    let same : x.form.budget.uses ≡ c.uses.units.form.budget.uses = ap (λ (y : UnitScope). y.form.budget.uses) c.note.ensures.rest in
    let one : c.make_use.new.units.form.budget.uses ≡ x.form.budget.uses + 1 = c.in_ok-form-in-Macro.ensures.counted in
    omega (arith, few, same, one)

pub uses-preserved : goal.uses-preserved
uses-preserved c =
    let l = c.requires.look in
    let k = all_known c.args.units.now.libraries in
    let f = c.requires.form in
    let depth = c.args.at.depth in
    let w = c.args.work.now in
    let mid = c.uses.work in
    let new = c.make_use.new.work in
    let region = c.args.region.now in
    let u = c.args.units.now in
    let cu = c.uses.units in
    let x = c.note.new.units in
    let nu = c.make_use.new.units in
    let so = c.uses.invariant.so_far k.0 ((depth + 1) * 2 ^ 40) l.layout l.state l.frames f.0.0 k.1 l.stands l.at (f.0.1, f.1) (enough_there depth u.form.budget.uses) in
    let is = c.in-Macro.ensures k.0 l.layout (state_of so.state) l.frames so.tree (plainly mid cu l.layout so.state so.stays.stands) l.at so.works.0 in
    let head = use_at k.0 mid so.state l.frames so.tree c.in-Macro.keyword is in
    let asked = head_asked k.0 l.frames (head_name_of so.tree) so.state in
    let noted = so_far_noted k.0 depth w mid region u cu l.layout l.frames c.uses.form c.uses.here (expand (noting k.0) ((depth + 1) * 2 ^ 40) depth c.args.at.here l.frames (whole f.0.0) l.state) so x c.note.ensures.rest
    (head_noted k.0 mid x l.layout so.state l.frames (head_name_of so.tree) c.in-Macro.keyword (use_head k.0 mid so.state l.frames so.tree c.in-Macro.keyword is) (λ n for. c.note.ensures.noted k.0 l.layout so.state l.frames n so.stays.stands for)) in
    let made = c.in_ok-form-in-Macro.ensures.used k.0 l.layout asked l.frames head.keyword head.macro head.parts head.tail noted.stands l.at (head.used c.args.at.scope c.uses.here c.uses.form so.works.0) in
    let state = (use_met k.0 c.uses.here l.frames head.keyword head.macro head.parts head.tail asked).1 in
    record {
      opened = made.1.work.trees.regions region c.uses.invariant.opened;
      after = after_on w mid new region u x nu c.args.at.scope c.args.at.scope (stays_after w mid region u x c.args.at.scope l.layout l.frames asked l.at noted) (stays_after mid new region x nu c.args.at.scope l.layout l.frames state l.at made.1);
      form = ((made.0, made.3.0), made.3.1);
      locals = c.in_ok-form-in-Macro.ensures.locals ∙ (ap (λ (y : UnitScope). y.form.budget.locals) c.note.ensures.rest ∙ c.uses.invariant.locals);
      so_far = λ known turns ls s fs t knows e at works enough.
          let so2 = c.uses.invariant.so_far known turns ls s fs t knows e at works enough in
          let is2 = c.in-Macro.ensures known ls (state_of so2.state) fs so2.tree (plainly mid cu ls so2.state so2.stays.stands) at so2.works.0 in
          let head2 = use_at known mid so2.state fs so2.tree c.in-Macro.keyword is2 in
          let p = expand (noting known) turns depth c.args.at.here fs (whole t) s in
          let noted2 = so_far_noted known depth w mid region u cu ls fs c.uses.form c.uses.here p so2 x c.note.ensures.rest
          (head_noted known mid x ls so2.state fs (head_name_of so2.tree) c.in-Macro.keyword (use_head known mid so2.state fs so2.tree c.in-Macro.keyword is2) (λ n for. c.note.ensures.noted known ls so2.state fs n so2.stays.stands for)) in
          so_far_uses known depth w mid new region u cu x nu ls fs c.uses.form c.uses.here c.in-Macro.keyword p so2 head2 noted2 c.in_ok-form-in-Macro.form c.here_at-here-in-Macro.result
          (ap (λ (y : UnitScope). y.form.budget.uses) c.note.ensures.rest) c.in_ok-form-in-Macro.ensures.counted c.here_at-here-in-Macro.ensures
          (c.in_ok-form-in-Macro.ensures.used known ls (head_asked known fs (head_name_of so2.tree) so2.state) fs head2.keyword head2.macro head2.parts head2.tail noted2.stands at (head2.used c.args.at.scope c.uses.here c.uses.form so2.works.0));
    }

-- ---- no use at the head

pub note-requires-in-Core : goal.note-requires-in-Core
note-requires-in-Core c =
    let l = c.requires.look in
    let k = all_known c.args.units.now.libraries in
    let f = c.requires.form in
    let depth = c.args.at.depth in
    let so = c.uses.invariant.so_far k.0 ((depth + 1) * 2 ^ 40) l.layout l.state l.frames f.0.0 k.1 l.stands l.at (f.0.1, f.1) (enough_there depth c.args.units.now.form.budget.uses) in
    let is = c.in-Core.ensures k.0 l.layout (state_of so.state) l.frames so.tree (plainly c.uses.work c.uses.units l.layout so.state so.stays.stands) l.at so.works.0 in
    head_within c.uses.work (state_of so.state) l.frames (head_name_of so.tree) c.in-Core.keyword (core_head k.0 c.uses.work so.state l.frames so.tree c.in-Core.core c.in-Core.keyword is.1)

pub returns-in-Core-clause-settled : goal.returns-in-Core-clause-settled
returns-in-Core-clause-settled c = λ known turns ls s fs t knows e at works enough.
    let depth = c.args.at.depth in
    let mid = c.uses.work in
    let x = c.note-in-Core.new.units in
    let so = c.uses.invariant.so_far known turns ls s fs t knows e at works enough in
    let is = c.in-Core.ensures known ls (state_of so.state) fs so.tree (plainly mid c.uses.units ls so.state so.stays.stands) at so.works.0 in
    let p = expand (noting known) turns depth c.args.at.here fs (whole t) s in
    let noted = so_far_noted known depth c.args.work.now mid c.args.region.now c.args.units.now c.uses.units ls fs c.uses.form c.uses.here p so x c.note-in-Core.ensures.rest
    (head_noted known mid x ls so.state fs (head_name_of so.tree) c.in-Core.keyword (core_head known mid so.state fs so.tree c.in-Core.core c.in-Core.keyword is.1) (λ n for. c.note-in-Core.ensures.noted known ls so.state fs n so.stays.stands for)) in
    so_far_settles known depth turns c.args.work.now mid c.args.region.now c.args.units.now c.uses.units x ls fs c.uses.form c.uses.here p so noted (ap (λ (y : UnitScope). y.form.budget.uses) c.note-in-Core.ensures.rest) is.0

pub returns-in-Core-clause-head : goal.returns-in-Core-clause-head
returns-in-Core-clause-head c = λ known ls s fs t e at works.
    let cu = c.uses.units in
    let x = c.note-in-Core.new.units in
    (c.in-Core.ensures known ls s fs t (plain_noted c.uses.work x cu ls s (notes_back cu x c.note-in-Core.ensures.rest) e) at works).1

pub returns-in-Core-clause-locals : goal.returns-in-Core-clause-locals
returns-in-Core-clause-locals c = ap (λ (y : UnitScope). y.form.budget.locals) c.note-in-Core.ensures.rest ∙ c.uses.invariant.locals

pub note-requires-in-Plain : goal.note-requires-in-Plain
note-requires-in-Plain c =
    let l = c.requires.look in
    let k = all_known c.args.units.now.libraries in
    let f = c.requires.form in
    let depth = c.args.at.depth in
    let so = c.uses.invariant.so_far k.0 ((depth + 1) * 2 ^ 40) l.layout l.state l.frames f.0.0 k.1 l.stands l.at (f.0.1, f.1) (enough_there depth c.args.units.now.form.budget.uses) in
    let is = c.in-Plain.ensures k.0 l.layout (state_of so.state) l.frames so.tree (plainly c.uses.work c.uses.units l.layout so.state so.stays.stands) l.at so.works.0 in
    head_within c.uses.work (state_of so.state) l.frames (head_name_of so.tree) c.in-Plain.name is.2

pub returns-in-Plain-clause-settled : goal.returns-in-Plain-clause-settled
returns-in-Plain-clause-settled c = λ known turns ls s fs t knows e at works enough.
    let depth = c.args.at.depth in
    let mid = c.uses.work in
    let x = c.note-in-Plain.new.units in
    let so = c.uses.invariant.so_far known turns ls s fs t knows e at works enough in
    let is = c.in-Plain.ensures known ls (state_of so.state) fs so.tree (plainly mid c.uses.units ls so.state so.stays.stands) at so.works.0 in
    let p = expand (noting known) turns depth c.args.at.here fs (whole t) s in
    let noted = so_far_noted known depth c.args.work.now mid c.args.region.now c.args.units.now c.uses.units ls fs c.uses.form c.uses.here p so x c.note-in-Plain.ensures.rest
    (head_noted known mid x ls so.state fs (head_name_of so.tree) c.in-Plain.name is.2 (λ n for. c.note-in-Plain.ensures.noted known ls so.state fs n so.stays.stands for)) in
    so_far_settles known depth turns c.args.work.now mid c.args.region.now c.args.units.now c.uses.units x ls fs c.uses.form c.uses.here p so noted (ap (λ (y : UnitScope). y.form.budget.uses) c.note-in-Plain.ensures.rest) is.0

pub returns-in-Plain-clause-head : goal.returns-in-Plain-clause-head
returns-in-Plain-clause-head c = λ known ls s fs t e at works.
    let cu = c.uses.units in
    let x = c.note-in-Plain.new.units in
    (c.in-Plain.ensures known ls s fs t (plain_noted c.uses.work x cu ls s (notes_back cu x c.note-in-Plain.ensures.rest) e) at works).1

pub returns-in-Plain-clause-locals : goal.returns-in-Plain-clause-locals
returns-in-Plain-clause-locals c = ap (λ (y : UnitScope). y.form.budget.locals) c.note-in-Plain.ensures.rest ∙ c.uses.invariant.locals

pub returns-in-Nameless-clause-settled : goal.returns-in-Nameless-clause-settled
returns-in-Nameless-clause-settled c = λ known turns ls s fs t knows e at works enough.
    let depth = c.args.at.depth in
    let mid = c.uses.work in
    let cu = c.uses.units in
    let so = c.uses.invariant.so_far known turns ls s fs t knows e at works enough in
    let is = c.in-Nameless.ensures known ls (state_of so.state) fs so.tree (plainly mid cu ls so.state so.stays.stands) at so.works.0 in
    let p = expand (noting known) turns depth c.args.at.here fs (whole t) s in
    so_far_settles known depth turns c.args.work.now mid c.args.region.now c.args.units.now cu cu ls fs c.uses.form c.uses.here p so
    (so_far_nameless known depth c.args.work.now mid c.args.region.now c.args.units.now cu ls fs c.uses.form c.uses.here p so is.2) refl is.0

pub returns-in-Nameless-clause-head : goal.returns-in-Nameless-clause-head
returns-in-Nameless-clause-head c = λ known ls s fs t e at works. (c.in-Nameless.ensures known ls s fs t e at works).1
