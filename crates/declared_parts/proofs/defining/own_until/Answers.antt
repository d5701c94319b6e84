use Rattle.std.proofs.Common.{◌-◌, List, reverse, take, drop, sym, subst}
use Rattle.core_tree.specs.Names.{AllMatch}
use Rattle.unit_scopes.specs.Kept.{NotesFor}
use Rattle.declared_parts.specs.Parts.{OwnNoteFor}
use Rattle.declared_parts.specs.declared.parts.OwnNote.{OwnNote}
use Rattle.declared_parts.proofs.OwnLaws.{matched_take, matched_drop, first_on}
use Rattle.declared_parts.proofs.defining.own_until.Goals as goal

pub own_in-requires : goal.own_in-requires
own_in-requires c =
    let own = c.requires.can.1 in let a = c.go_back.new.going.asked in let n = c.args.asked in
    let can = c.requires.can.2 in
    let P = OwnNoteFor c.args.work.now.symbols in (
      c.requires.can.0,
      take (n - a) (drop a (reverse own)),
      subst (λ (l : List OwnNote). AllMatch P (take (n - a) (drop a l)) (take (n - a) (drop a (reverse own)))) (sym c.as_slice.ensures)
          (matched_take P (drop a c.args.part.now.asked) (drop a (reverse own)) (n - a) (matched_drop P c.args.part.now.asked (reverse own) a can.kept)),
    )

pub returns : goal.returns
returns c = record {
  rest = λ j. record (c.go_back.ensures.rest j) { own = c.own_in.new.asked; asked = c.args.asked };
  own = λ ls own can.
      let work = c.args.work.now in let a = c.go_back.new.going.asked in let n = c.args.asked in
      let P = OwnNoteFor work.symbols in
      let before = c.go_back.ensures.own work ls own can.now in
      let more = subst (λ (l : List OwnNote). AllMatch P (take (n - a) (drop a l)) (take (n - a) (drop a (reverse own)))) (sym c.as_slice.ensures)
      (matched_take P (drop a c.args.part.now.asked) (drop a (reverse own)) (n - a) (matched_drop P c.args.part.now.asked (reverse own) a can.kept)) in
      let after = c.in_ok-own_in.ensures ls (take (n - a) (drop a (reverse own))) _ can.root more before.notes in
      record { few = can.few; notes = subst (NotesFor work ls c.own_in.new.asked) (first_on own a n c.go_back.ensures.few) after };
}
