use Rattle.std.proofs.Common.{Some, sym, ap, ◌∙◌, arith}
use Rattle.node_pool.proofs.EntryLaws.{next_within, full_at_end, live_below, read_next, next_is_vacant, linked_push, linked_fill, filled_push, filled_set}
use Rattle.node_pool.proofs.slots.Slots.insert.Goals as goal

pub invariant_of-self-then-number-len : goal.invariant_of-self-then-number-len
invariant_of-self-then-number-len g c = record {
  linked = rw (c.push_reserved.ensures.items, c.in_ok-reserve.ensures.items) (linked_push _ _ _ c.args.value c.self.invariant.linked (omega arith));
  room = omega (arith, c.self.invariant.room, full_at_end _ _ _ c.self.invariant.linked (omega arith), c.in_ok-reserve.ensures, c.push_reserved.ensures, c.saturating_sub-self-inside.ensures);
}

pub returns-then-number-len-clause-filled : goal.returns-then-number-len-clause-filled
returns-then-number-len-clause-filled g c = rw (← c.self.view_is, c.push_reserved.ensures.items, c.in_ok-reserve.ensures.items) (filled_push _ _ _ c.args.value c.self.invariant.linked (omega arith))

pub index_mut-requires : goal.index_mut-requires
index_mut-requires g c = omega (arith, next_within _ _ _ c.self.invariant.linked (λ e. omega arith))

pub invariant_of-self-in-Vacant : goal.invariant_of-self-in-Vacant
invariant_of-self-in-Vacant g c =
    let found = read_next _ _ _ _ c.self.invariant.linked (λ e. omega arith) c.index_mut.ensures.value in
    record {
      linked = rw c.replace.ensures.after (linked_fill _ _ _ _ c.args.value c.self.invariant.linked (found ∙ ap Some (sym c.replace.ensures.value ∙ c.in-Vacant.is)));
      room = omega (arith, c.self.invariant.room, live_below _ _ _ c.self.invariant.linked (λ e. omega arith), c.saturating_sub-self-inside-2.ensures);
    }

pub unreachable-requires : goal.unreachable-requires
unreachable-requires g c = next_is_vacant _ _ _ _ c.in-Occupied.field-0 c.self.invariant.linked (λ e. omega arith) c.index_mut.ensures.value (sym c.replace.ensures.value ∙ c.in-Occupied.is)

pub returns-clause-filled : goal.returns-clause-filled
returns-clause-filled g c =
    let found = read_next _ _ _ _ c.self.invariant.linked (λ e. omega arith) c.index_mut.ensures.value in
    rw (← c.self.view_is, c.replace.ensures.after) (filled_set _ _ _ _ c.args.value c.self.invariant.linked (found ∙ ap Some (sym c.replace.ensures.value ∙ c.in-Vacant.is)))
