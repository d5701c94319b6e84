use Rattle.std.proofs.Common.{refl}
use Rattle.scheme_model.specs.Order.{head_of}
use Rattle.scheme_model.specs.CountedExpansion.{means_here}
use Rattle.unit_scopes.specs.Searched.{searched}
use Rattle.form_parts.specs.FormsSeen.{head_name_of}
use Rattle.form_parts.specs.declared.heads.Head.TheVariants as heads
use Rattle.expander.proofs.ReadLaws.{head_named, head_is_macro, head_no_macro, named_settled, nameless_settled, named_target, nameless_target}
use Rattle.expander.proofs.ListLaws.{head_is_core, head_no_core, named_plain, nameless_plain}
use Rattle.expander.proofs.expressions.look_at_head.Goals as goal

pub returns-in-Macro : goal.returns-in-Macro
returns-in-Macro c = λ known ls s fs t e at is.
    let h = head_named c.args.work.now t c.in-Some.name (c.in-Some.ensures t is) in
    let target = c.target-keyword.ensures ls s fs (record { name = h.ident; occ = h.place }) e at h.named in
    let m = head_is_macro known s fs h.ident (c.in-Macro.ensures ls s (means_here s fs h.ident) e target.meaning) in
    (h.ident, h.place, h.parts, h.tail, h.around, m.0, h.is, target, m.1, m.2)

pub returns-in-Core : goal.returns-in-Core
returns-in-Core c = λ known ls s fs t e at is.
    let h = head_named c.args.work.now t c.in-Some.name (c.in-Some.ensures t is) in
    let d = head_of (searched known) fs s h.ident in
    let target = c.target-keyword.ensures ls s fs (record { name = h.ident; occ = h.place }) e at h.named in
    let here = c.in-Core.ensures ls s (means_here s fs h.ident) e target.meaning in
    let k = head_is_core c.in-Core.core d here in (
      named_settled known c.args.work.now s fs t c.in-Some.name h (head_no_macro (heads.Core c.in-Core.core) d refl here),
      (h.ident, h.place, h.parts, h.tail, h.around, k.0, h.is, k.1, k.2, target),
    )

pub returns-in-Auxiliary : goal.returns-in-Auxiliary
returns-in-Auxiliary c = λ known ls s fs t e at is.
    let h = head_named c.args.work.now t c.in-Some.name (c.in-Some.ensures t is) in
    let d = head_of (searched known) fs s h.ident in
    let target = c.target-keyword.ensures ls s fs (record { name = h.ident; occ = h.place }) e at h.named in
    let here = c.in-Auxiliary.ensures ls s (means_here s fs h.ident) e target.meaning in
    let x = heads.Auxiliary c.in-Auxiliary.field-0 in
    (named_settled known c.args.work.now s fs t c.in-Some.name h (head_no_macro x d refl here), named_plain known c.args.work.now s fs t c.in-Some.name h (head_no_core x d refl here), named_target c.args.work.now s fs t c.in-Some.name h c.target-keyword.result target)

pub returns-in-Other : goal.returns-in-Other
returns-in-Other c = λ known ls s fs t e at is.
    let h = head_named c.args.work.now t c.in-Some.name (c.in-Some.ensures t is) in
    let d = head_of (searched known) fs s h.ident in
    let target = c.target-keyword.ensures ls s fs (record { name = h.ident; occ = h.place }) e at h.named in
    let here = c.in-Other.ensures ls s (means_here s fs h.ident) e target.meaning in
    (named_settled known c.args.work.now s fs t c.in-Some.name h (head_no_macro heads.Other d refl here), named_plain known c.args.work.now s fs t c.in-Some.name h (head_no_core heads.Other d refl here), named_target c.args.work.now s fs t c.in-Some.name h c.target-keyword.result target)

pub head_by-requires : goal.head_by-requires
head_by-requires c =
    let l = c.requires.look in
    let f = c.requires.form in
    let h = head_named c.args.work.now f.0 c.in-Some.name (c.in-Some.ensures f.0 f.1) in
    (l.layout, (l.state, l.stands, (means_here l.state l.frames h.ident, (c.target-keyword.ensures l.layout l.state l.frames (record { name = h.ident; occ = h.place }) l.stands l.at h.named).meaning)))

pub returns-in_default : goal.returns-in_default
returns-in_default c = λ known ls s fs t e at is.
    (nameless_settled known c.args.work.now s fs t (c.in_default.ensures t is), nameless_plain known c.args.work.now s fs t (c.in_default.ensures t is), nameless_target c.args.work.now s fs (head_name_of t) (c.in_default.ensures t is))
