use Rattle.std.proofs.Common.{List, subst, sym, suc, add-one, arith}
use Rattle.core_forms.specs.Steps.{binding_of, bindings_in}
use Rattle.syntax_tree.proofs.Looking.{part_standing, part_there, behind_past, part_named}
use Rattle.core_forms.specs.declared.shape.LocalMacro.{LocalMacro}
use Rattle.core_forms.specs.Parts.{IsMacro, AreBindings}
use Rattle.core_forms.proofs.Reading.{UpTo, up_more, up_all, up_err, ends_err}
use Rattle.std.specs.List.{AllByRecursion}
use Rattle.core_forms.specs.Named.{MacroNamed}
use Rattle.core_forms.proofs.Naming.{all_more}
use Rattle.core_forms.proofs.local_macros.bindings_in.Goals as goal

pub binding_of-requires : goal.binding_of-requires
binding_of-requires c = part_standing c.args.work.now c.loop-item.item-index c.args.items.now _ c.requires (omega arith)

pub returns-in_err-read-clause-read : goal.returns-in_err-read-clause-read
returns-in_err-read-clause-read c = λ ts stands.
    let w = c.args.work.now in
    let k = c.loop-item.item-index in
    let p = part_there w k c.args.items.now ts (record { number = 0 }) stands (omega arith) in
    let e = c.in_err-read.field-0.0 in
    ends_err w (AreBindings w) (bindings_in ts) c.from_residual.result e c.from_residual.ensures.1
    ((up_err w (IsMacro w) binding_of ts k c.loop-item.macros.items p.part e (c.loop-item.invariant.0 ts stands) p.split (c.in_err-read.ensures.read p.part p.stands)))

pub loop-item-preserved : goal.loop-item-preserved
loop-item-preserved c =
    let w = c.args.work.now in
    let k = c.loop-item.item-index in (
      λ ts stands.
          let p = part_there w k c.args.items.now ts (record { number = 0 }) stands (omega arith) in
          let r = c.in_ok-read.ensures.read p.part p.stands in
          let more = up_more (IsMacro w) binding_of ts k c.loop-item.macros.items p.part c.in_ok-read.read r.0 (c.loop-item.invariant.0 ts stands) p.split r.1 r.2 in
          rw add-one (subst (λ (ns : List LocalMacro). UpTo (IsMacro w) binding_of ts (suc k) ns) (sym c.in_ok-push.ensures.items) more),
      λ region named.
          let n = part_named w region k c.args.items.now (record { number = 0 }) named (omega arith) in
          subst (λ (xs : List LocalMacro). AllByRecursion (MacroNamed w region) xs) (sym c.in_ok-push.ensures.items)
          (all_more (MacroNamed w region) c.loop-item.macros.items c.in_ok-read.read (c.loop-item.invariant.1 region named) (c.in_ok-read.ensures.named region n)),
    )

pub returns-clause-read : goal.returns-clause-read
returns-clause-read c = λ ts stands.
    let w = c.args.work.now in
    let k = c.loop-item.item-index in
    let a = up_all (IsMacro w) binding_of ts k c.loop-item.macros.items (c.loop-item.invariant.0 ts stands) (behind_past w k c.args.items.now ts stands (omega arith)) in
    a

pub returns-clause-named : goal.returns-clause-named
returns-clause-named c = λ region named. c.loop-item.invariant.1 region named
