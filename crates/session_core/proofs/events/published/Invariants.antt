use Rattle.std.proofs.Common.{◌≡◌, ◌+◌, ◌≤◌, ◌++◌, map, length, vec_len, vec_capacity}
use Rattle.std.specs.Vec.Iter.{into_iter_items}
use Rattle.session_replies.specs.ToWire.{sent_list}
use Rattle.session_core.proofs.events.published.Given as goal

-- there is room for the lists to come, and they come behind the messages
abbrev pub invariant-loop-list : goal.invariant-loop-list
invariant-loop-list l = record {
  room : vec_len l.messages + length (into_iter_items l.list-iterator) ≤ vec_capacity l.messages;
  goes : l.messages.items ++ map sent_list (into_iter_items l.list-iterator) ≡ l.fn.messages.items ++ map sent_list l.fn.lists;
}
