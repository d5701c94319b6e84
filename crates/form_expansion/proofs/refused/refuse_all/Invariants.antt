use Rattle.std.proofs.Common.{◌≡◌, take}
use Rattle.form_expansion.specs.Refused.{refused_forms}
use Rattle.form_expansion.proofs.refused.refuse_all.Given as goal

-- the forms so far are refused that are to be
abbrev pub invariant-loop-place : goal.invariant-loop-place
invariant-loop-place l = l.forms.items ≡ refused_forms l.unit 0 (take l.place l.sources) l.initial.forms.items
