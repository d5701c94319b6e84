use Rattle.std.proofs.Common.{◌+◌, Result, Ok, Err, OnOk, is_some, ap, ◌∙◌}
use Rattle.std.specs.Prelude.{if◌then◌else◌}
use Rattle.std.specs.BTreeMap.{btree_map_len}
use Rattle.unit_scopes.proofs.scope.UnitScope.define_own.Goals as goal

on_ok : {X E P Q : Type 0} (r : Result X E) → OnOk r P → (P → Q) → OnOk r Q
on_ok (Ok x) p f = f p
on_ok (Err e) p f = tt

pub returns-clause-added : goal.returns-clause-added
returns-clause-added c = on_ok c.keep.result c.keep.ensures.kept (λ keeps. record {
  defined = c.insert.new.self;
  macros = c.keep.new.self;
  after = λ j. record c.args.self.now { env = c.in_ok-bind.ensures.bound j; macros = c.keep.new.self; defined = c.insert.new.self };
  put = c.in_ok-insert.ensures.updates.0;
  more = c.in_ok-insert.ensures.len ∙ ap (λ o. btree_map_len c.args.self.now.defined + (if is_some o then 0 else 1)) (c.in_ok-insert.ensures.old ∙ c.requires.new);
  keeps = keeps;
})
