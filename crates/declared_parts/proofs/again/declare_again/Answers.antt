use Rattle.std.proofs.Common.{List, reverse, true, false, Bool, Ok, refl, sym, subst}
use Rattle.core_tree.specs.Names.{AllMatch}
use Rattle.declared_parts.specs.Again.{own_notes, CanDeclare}
use Rattle.declared_parts.specs.Going.{HasGone}
use Rattle.declared_parts.specs.Parts.{OwnNoteFor}
use Rattle.declared_parts.specs.declared.parts.OwnNote.{OwnNote}
use Rattle.declared_parts.proofs.DoneLaws.{declared_so, refused_so}
use Rattle.declared_parts.proofs.StartGoing.{begins}
use Rattle.declared_parts.proofs.again.declare_again.Goals as goal

pub go_on-requires : goal.go_on-requires
go_on-requires c =
    let can = c.requires in
    (c.args.units.now, c.args.number, can, begins c.args.work.now c.args.units.now c.args.number c.args.part.now can c.sound.ensures c.begin.new.units c.nothing_made-going.result c.begin.ensures.rest c.begin.ensures.form c.nothing_made-going.ensures, c.nothing_made-going.ensures.macros)

pub own_in-requires : goal.own_in-requires
own_in-requires c =
    let can = c.requires in
    (can.layout, reverse (own_notes can.again), subst (λ (l : List OwnNote). AllMatch (OwnNoteFor c.args.work.now.symbols) l (reverse (own_notes can.again))) (sym c.as_slice.ensures) can.kept.part.asked)

pub take_back-requires : goal.take_back-requires
take_back-requires c =
    let can = c.requires in let work = c.args.work.now in let old = c.args.units.now in let n = c.args.number in let part = c.args.part.now in let none = c.nothing_made-going.ensures in
    let u = c.go_on.new.units in let g = c.go_on.new.going in
    let goes = begins work old n part can c.sound.ensures c.begin.new.units c.nothing_made-going.result c.begin.ensures.rest c.begin.ensures.form none in
    let gone = subst (λ (b : Bool). HasGone work old n part can u g (Ok b)) c.if-branch.false (c.in_ok-go_on.ensures old n can goes none.macros) in
    (old, gone.1.1.back)

pub returns-then-branch : goal.returns-then-branch
returns-then-branch c =
    let work = c.args.work.now in let old = c.args.units.now in let n = c.args.number in let part = c.args.part.now in let none = c.nothing_made-going.ensures in
    let u = c.go_on.new.units in let g = c.go_on.new.going in
    let gone : (can : CanDeclare work old n part) → HasGone work old n part can u g (Ok true) =
    λ can. subst (λ (b : Bool). HasGone work old n part can u g (Ok b)) c.if-branch.true
    (c.in_ok-go_on.ensures old n can (begins work old n part can c.sound.ensures c.begin.new.units c.nothing_made-going.result c.begin.ensures.rest c.begin.ensures.form none) none.macros) in
    record {
      good = λ can. (λ t. (gone can).0, λ s. refl);
      declared = λ can is.
          let h = (gone can).1 in
          let asked = subst (λ (l : List OwnNote). AllMatch (OwnNoteFor work.symbols) l (reverse (own_notes can.again))) (sym c.as_slice.ensures) can.kept.part.asked in
          declared_so work old n part can u g h c.own_in.new.asked (λ ns notes. c.in_ok-own_in.ensures can.layout (reverse (own_notes can.again)) ns h.stands.root asked notes);
      editions = λ is. (gone c.requires).2;
      refused = λ can is. absurd cc;
    }

pub returns : goal.returns
returns c =
    let work = c.args.work.now in let old = c.args.units.now in let n = c.args.number in let part = c.args.part.now in let none = c.nothing_made-going.ensures in
    let u = c.go_on.new.units in let g = c.go_on.new.going in
    let gone : (can : CanDeclare work old n part) → HasGone work old n part can u g (Ok false) =
    λ can. subst (λ (b : Bool). HasGone work old n part can u g (Ok b)) c.if-branch.false
    (c.in_ok-go_on.ensures old n can (begins work old n part can c.sound.ensures c.begin.new.units c.nothing_made-going.result c.begin.ensures.rest c.begin.ensures.form none) none.macros) in
    record {
      good = λ can. (λ t. absurd cc, λ s. absurd ((gone can).0 s));
      declared = λ can is. absurd cc;
      editions = λ is. absurd cc;
      refused = λ can is. refused_so work old n part can c.take_back.new.units (c.take_back.ensures old (gone can).1.1.back);
    }
