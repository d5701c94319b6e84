use Rattle.std.proofs.Common.{◌≡◌, ◌≤◌, length, drop}
use Rattle.ls_base.specs.Limits.{max_text}
use Rattle.document_store.specs.Texts.{edits}
use Rattle.document_store.proofs.edit.edits.Given as goal

-- the changes that are left give of the text now what all of them give of the text at the start
abbrev pub invariant-loop-change : goal.invariant-loop-change
invariant-loop-change l = record {
  short : length l.now ≤ max_text;
  so_far : edits l.encoding (drop l.change-index l.changes) l.now ≡ edits l.encoding l.changes l.text;
}
