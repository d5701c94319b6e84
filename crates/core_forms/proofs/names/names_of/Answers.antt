use Rattle.std.proofs.Common.{List, subst, sym, suc, ◌∙◌, add-one, arith}
use Rattle.scheme_model.specs.Shapes.{name_of, names_of}
use Rattle.syntax_tree.proofs.Looking.{part_standing, part_there, behind_past}
use Rattle.core_forms.specs.declared.shape.NamePart.{NamePart}
use Rattle.core_forms.specs.Parts.{IsName, AreNames}
use Rattle.core_forms.specs.Ends.{Refuses}
use Rattle.core_forms.proofs.Reading.{UpTo, up_more, up_all, up_err, ends_err, names_each}
use Rattle.core_forms.proofs.names.names_of.Goals as goal

pub name_of-requires : goal.name_of-requires
name_of-requires c = part_standing c.args.work.now c.loop-item.item-index c.args.items.now _ c.requires (omega arith)

pub returns-in_err-read : goal.returns-in_err-read
returns-in_err-read c = λ ts stands.
    let w = c.args.work.now in
    let k = c.loop-item.item-index in
    let p = part_there w k c.args.items.now ts (record { number = 0 }) stands (omega arith) in
    let e = c.in_err-read.field-0.0 in
    ends_err w (AreNames w) (names_of ts) c.from_residual.result e c.from_residual.ensures.1
    (subst (Refuses w e) (sym (names_each ts)) (up_err w (IsName w) name_of ts k c.loop-item.names.items p.part e (c.loop-item.invariant ts stands) p.split (c.in_err-read.ensures p.part p.stands)))

pub loop-item-preserved : goal.loop-item-preserved
loop-item-preserved c = λ ts stands.
    let w = c.args.work.now in
    let k = c.loop-item.item-index in
    let p = part_there w k c.args.items.now ts (record { number = 0 }) stands (omega arith) in
    let r = c.in_ok-read.ensures p.part p.stands in
    let more = up_more (IsName w) name_of ts k c.loop-item.names.items p.part c.in_ok-read.read r.0 (c.loop-item.invariant ts stands) p.split r.1 r.2 in
    rw add-one (subst (λ (ns : List NamePart). UpTo (IsName w) name_of ts (suc k) ns) (sym c.in_ok-push.ensures.items) more)

pub returns : goal.returns
returns c = λ ts stands.
    let w = c.args.work.now in
    let k = c.loop-item.item-index in
    let a = up_all (IsName w) name_of ts k c.loop-item.names.items (c.loop-item.invariant ts stands) (behind_past w k c.args.items.now ts stands (omega arith)) in
    (a.0, names_each ts ∙ a.1, a.2)
